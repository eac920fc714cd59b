use Rattle.std.proofs.Common.{length, map, slice_get, sym, ap, ◌∙◌}
use Rattle.std.proofs.lemmas.List.{length-map}
use Rattle.rc_play_spec.specs.Scene.{value_in}
use Rattle.rc_play_spec.specs.Shape.{holds_references}
use Rattle.rc_play_spec.specs.Value.{cut}
use Rattle.rc_value.specs.Scene.{scene_seen}
use Rattle.rc_value.proofs.RowLemmas.{all_count}
use Rattle.rc_value.proofs.comparing.size_at.Goals as goal

pub returns-clause-count : goal.returns-clause-count
unfolding scene_seen
returns-clause-count c =
    let holds = holds_references (slice_get c.args.scene.now.table.now.shape.places c.args.at) in
    sym (length-map c.list.result.now (value_in holds c.args.at))
    ∙ ap length (all_count holds c.args.at c.list.result.now c.list.ensures.few)
    ∙ ap (λ ids. length (cut (map (value_in holds c.args.at) ids))) c.list.ensures.list
