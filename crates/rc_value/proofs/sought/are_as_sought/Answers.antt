use Rattle.std.proofs.Common.{ap, sym, ◌∙◌}
use Rattle.rc_value.specs.Over.{over}
use Rattle.rc_value.specs.Scene.{scene_seen}
use Rattle.rc_value.specs.Sought.{sought_value}
use Rattle.rc_value.proofs.RowLemmas.{over_met}
use Rattle.rc_value.proofs.sought.are_as_sought.Goals as goal

pub returns-in-Some-values : goal.returns-in-Some-values
returns-in-Some-values c =
    c.are_met_in.ensures
    ∙ over_met c.args.any c.args.scene.now c.in-Value.wanted c.in-Some-values.row.now c.in-Some.ids.now c.args.cards.now c.in-Some-values.ensures c.in-Some.ensures.ids
    ∙ ap (λ sought. over c.args.any (sought_value (scene_seen c.args.scene.now) sought) c.args.cards.now) (sym c.in-Value.is)
