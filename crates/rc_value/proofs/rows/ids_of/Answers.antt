use Rattle.std.proofs.Common.{map, slice_get, sym, ap, ◌∙◌}
use Rattle.rc_play_spec.specs.Scene.{id_of, value_in}
use Rattle.rc_play_spec.specs.Shape.{holds_references}
use Rattle.rc_play_spec.specs.Value.{cards_there, cut}
use Rattle.rc_value.specs.Scene.{scene_seen}
use Rattle.rc_value.proofs.RowLemmas.{ids_are}
use Rattle.rc_value.proofs.rows.ids_of.Goals as goal

pub returns-in-Some-clause-ids : goal.returns-in-Some-clause-ids
unfolding scene_seen
returns-in-Some-clause-ids c =
    let holds = holds_references (slice_get c.args.scene.now.table.now.shape.places c.in-Some.at) in
    ids_are holds c.in-Some.at c.list.result.now c.list.ensures.few
    ∙ ap (λ ids. map id_of (cut (map (value_in holds c.in-Some.at) ids))) c.list.ensures.list
    ∙ ap (λ p. map id_of (cut (cards_there (scene_seen c.args.scene.now) p))) (sym c.in-Some.is ∙ c.loc_at.ensures)
