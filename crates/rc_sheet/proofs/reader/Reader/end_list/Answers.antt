use Rattle.rc_ast.specs.Expressions.{test_seen}
use Rattle.rc_sheet.proofs.Lists.{gives_same}
use Rattle.rc_sheet.proofs.PlainLemmas.{end_read}
use Rattle.rc_sheet.proofs.reader.Reader.end_list.Goals as goal

pub returns-in-End : goal.returns-in-End
returns-in-End c =
    gives_same test_seen c.closed_test.result _ _
    (end_read c.args.self.now c.args.parts.now c.args.rule c.index-parts-1.result c.requires c.in-End.is c.index-parts-1.is)
    c.closed_test.ensures
