use Rattle.rc_ast.proofs.ViewLemmas.{stage_seen}
use Rattle.rc_ast.proofs.items.SheetItem.stage_of.Goals as goal

pub returns : goal.returns
returns c = stage_seen c.args.number c.args.class c.args.end c.args.body
