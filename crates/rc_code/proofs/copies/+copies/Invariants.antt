use Rattle.std.proofs.Common.{◌≡◌, ◌++◌, drop, map}
use Rattle.rc_ast.specs.Expressions.{coll_seen, test_seen}
use Rattle.rc_code.proofs.copies.+copies.Given as goal

-- the copies, and what is left to copy, are all of them
abbrev pub invariant-copy_colls-loop-cards : goal.invariant-copy_colls-loop-cards
invariant-copy_colls-loop-cards l =
    map coll_seen l.copies.items ++ map coll_seen (drop l.cards-index l.cards-items) ≡ map coll_seen l.cards-items

abbrev pub invariant-copy_tests-loop-test : goal.invariant-copy_tests-loop-test
invariant-copy_tests-loop-test l =
    map test_seen l.copies.items ++ map test_seen (drop l.test-index l.test-items) ≡ map test_seen l.test-items
