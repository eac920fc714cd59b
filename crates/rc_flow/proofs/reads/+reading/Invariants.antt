use Rattle.std.proofs.Common.{◌≡◌, drop}
use Rattle.rc_ast.specs.Expressions.{colls_seen, tests_seen}
use Rattle.rc_flow.specs.Reads.{reads_colls, reads_tests}
use Rattle.rc_flow.proofs.reads.+reading.Given as goal

abbrev pub invariant-some_part_reads-loop-part : goal.invariant-some_part_reads-loop-part
invariant-some_part_reads-loop-part l =
    reads_colls l.place (colls_seen (drop l.part-index l.part-items)) ≡ reads_colls l.place (colls_seen l.part-items)

abbrev pub invariant-some_test_reads-loop-test : goal.invariant-some_test_reads-loop-test
invariant-some_test_reads-loop-test l =
    reads_tests l.place (tests_seen (drop l.test-index l.test-items)) ≡ reads_tests l.place (tests_seen l.test-items)
