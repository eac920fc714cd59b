use Rattle.std.proofs.Common.{map, slice_get, option_map, sym, ap, ◌∙◌}
use Rattle.rc_play_spec.specs.Ends.{last_of}
use Rattle.rc_play_spec.specs.Scene.{value_in}
use Rattle.rc_play_spec.specs.Shape.{holds_references}
use Rattle.rc_play_spec.specs.Value.{cards_there, cut}
use Rattle.rc_play_spec.proofs.Parts.{last_map}
use Rattle.rc_value.specs.Scene.{scene_seen}
use Rattle.rc_value.proofs.RowLemmas.{all_count}
use Rattle.rc_value.proofs.rows.top_card.Goals as goal

pub returns-in-Some : goal.returns-in-Some
unfolding scene_seen
returns-in-Some c =
    let at = c.in-Some.at in
    let seen = value_in (holds_references (slice_get c.args.scene.now.table.now.shape.places at)) at in
    c.card_in.ensures
    ∙ ap (option_map (value_in (holds_references (slice_get c.shape.result.now.places at)) at)) c.last.ensures
    ∙ ap (λ shape. option_map (value_in (holds_references (slice_get shape.places at)) at) (last_of c.list.result.now)) c.shape.ensures.shape
    ∙ sym (last_map seen c.list.result.now) ∙ ap last_of (all_count _ at c.list.result.now c.list.ensures.few)
    ∙ ap (λ ids. last_of (cut (map seen ids))) c.list.ensures.list
    ∙ ap (λ p. last_of (cut (cards_there (scene_seen c.args.scene.now) p))) (sym c.in-Some.is ∙ c.loc_at.ensures)
