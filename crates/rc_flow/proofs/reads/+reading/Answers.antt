use Rattle.std.proofs.Common.{ap, sym, ◌∙◌}
use Rattle.rc_ast.specs.Expressions.{coll_seen, test_seen}
use Rattle.rc_ast.proofs.ViewLemmas.{union_seen, and_seen, or_seen}
use Rattle.rc_flow.specs.Reads.{reads_coll, reads_test}
use Rattle.rc_flow.proofs.reads.+reading.Goals as goal

pub gathered_read-returns-in-Union : goal.gathered_read-returns-in-Union
gathered_read-returns-in-Union t c =
    c.some_part_reads.ensures ∙ ap (reads_coll c.args.place) (sym (ap coll_seen c.in-Union.is ∙ union_seen c.in-Union.parts))

pub test_reads-returns-in-And : goal.test_reads-returns-in-And
test_reads-returns-in-And t c =
    c.some_test_reads.ensures ∙ ap (reads_test c.args.place) (sym (ap test_seen c.in-And.is ∙ and_seen c.in-And.tests))

pub test_reads-returns-in-Or : goal.test_reads-returns-in-Or
test_reads-returns-in-Or t c =
    c.some_test_reads-in-Or.ensures ∙ ap (reads_test c.args.place) (sym (ap test_seen c.in-Or.is ∙ or_seen c.in-Or.tests))
