use Rattle.rc_ast.specs.Items.{alt_seen}
use Rattle.rc_sheet.proofs.Lists.{gives_same}
use Rattle.rc_sheet.proofs.PlainLemmas.{do_alt_read, if_alt_read}
use Rattle.rc_sheet.proofs.reader.Reader.plain_alternative.Goals as goal

pub returns-in-Do : goal.returns-in-Do
returns-in-Do c =
    gives_same alt_seen c.do_alternative.result _ _
    (do_alt_read c.args.self.now c.args.scope.now c.args.parts.now c.args.rule c.requires c.in-Do.is) c.do_alternative.ensures

pub returns-in-If : goal.returns-in-If
returns-in-If c =
    gives_same alt_seen c.if_alternative.result _ _
    (if_alt_read c.args.self.now c.args.scope.now c.args.parts.now c.args.rule c.index-parts-1.result c.requires c.in-If.is
    c.index-parts-1.is) c.if_alternative.ensures
