use Rattle.std.proofs.Common.{length, ap, sym, ◌∙◌}
use Rattle.std.specs.List.{filter}
use Rattle.rc_value.specs.Scene.{scene_seen}
use Rattle.rc_value.specs.Sought.{sought_value}
use Rattle.rc_value.proofs.RowLemmas.{count_met}
use Rattle.rc_value.proofs.sought.count_as_sought.Goals as goal

pub returns-in-Some-values-clause-count : goal.returns-in-Some-values-clause-count
returns-in-Some-values-clause-count c =
    c.count_met_in.ensures.count
    ∙ count_met c.args.scene.now c.in-Value.wanted c.in-Some-values.row.now c.in-Some.ids.now c.args.cards.now c.in-Some-values.ensures c.in-Some.ensures.ids
    ∙ ap (λ sought. length (filter (sought_value (scene_seen c.args.scene.now) sought) c.args.cards.now)) (sym c.in-Value.is)
