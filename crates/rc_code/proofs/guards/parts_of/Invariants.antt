use Rattle.std.proofs.Common.{◌≡◌, ◌++◌, All, drop, map}
use Rattle.arrayvec.specs.ArrayVec.{array_vec_len}
use Rattle.rc_ast.specs.Expressions.{test_seen, tests_seen}
use Rattle.rc_code.specs.Guards.{part_meant, IsFixedPart}
use Rattle.rc_code.specs.GuardParts.{are_parts}
use Rattle.rc_code.proofs.guards.parts_of.Given as goal

-- the parts, and the tests that are left, stand for all of them, and no test but these may be none of a part
abbrev pub invariant-loop-test : goal.invariant-loop-test
invariant-loop-test l = record {
  all : map part_meant l.parts.items ++ map test_seen (drop l.test-index l.test-items) ≡ map test_seen l.test-items;
  found : are_parts (tests_seen l.test-items) ≡ are_parts (tests_seen (drop l.test-index l.test-items));
  fixed : All IsFixedPart l.parts.items;
  many : array_vec_len l.parts ≡ l.test-index;
}
