use Rattle.std.proofs.Common.{ap, ◌∙◌, map}
use Rattle.rc_ast.specs.Items.{item_seen}
use Rattle.rc_plain.proofs.StageLemmas.{body_is}
use Rattle.rc_plain.proofs.path.stage_body.Goals as goal

pub returns-in-Stage : goal.returns-in-Stage
returns-in-Stage c = ap (map item_seen) c.deref.ensures.value ∙ body_is c.args.item.now _ _ _ c.in-Stage.body c.in-Stage.is
