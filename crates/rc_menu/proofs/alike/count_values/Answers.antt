use Rattle.std.proofs.Common.{ap, sym, ◌∙◌, length}
use Rattle.std.specs.Prelude.{Some}
use Rattle.std.specs.List.{filter, filter_map}
use Rattle.std.proofs.lemmas.List.{length-map}
use Rattle.rc_play_spec.specs.Value.{attr_of, both, nat_same, firsts}
use Rattle.rc_value.specs.Scene.{scene_seen}
use Rattle.rc_menu.proofs.alike.count_values.Goals as goal

pub returns-clause-count : goal.returns-clause-count
returns-clause-count c =
    c.len.ensures.value ∙ ap length c.note_values.ensures
    ∙ sym (length-map (firsts (filter_map (attr_of (scene_seen c.args.scene.now) c.args.name) c.args.cards.now))
    (λ value. filter (λ x. both nat_same (attr_of (scene_seen c.args.scene.now) c.args.name x) (Some value)) c.args.cards.now))
