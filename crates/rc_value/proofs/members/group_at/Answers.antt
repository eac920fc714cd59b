use Rattle.std.proofs.Common.{map, get_or, ap, ap₂, ◌∙◌, arith}
use Rattle.rc_play_spec.specs.Value.{player_bound, group_bound, groups_by}
use Rattle.rc_value.specs.Cards.{values_seen}
use Rattle.rc_value.specs.Scene.{scene_seen}
use Rattle.rc_value.proofs.MemberLemmas.{group_there}
use Rattle.rc_value.proofs.members.group_at.Goals as goal

pub returns-then-spot-len : goal.returns-then-spot-len
returns-then-spot-len c =
    let cards = c.of_cards-all.ensures ∙ ap values_seen c.as_slice.ensures.value ∙ c.cards_now.ensures.cards in
    group_there (scene_seen c.scene_now-scene.result) c.args.attr c.of_cards-all.result c.note_values.new.values.items c.args.spot c.value_at-value.result
    (values_seen c.regroup.new.group.items) c.note_values.ensures (omega (arith, c.if-spot-len.true, c.len.ensures.value)) c.value_at-value.ensures
    c.regroup.ensures
    ∙ ap₂ (λ scene cards. get_or (map (λ g. group_bound g) (groups_by scene c.args.attr cards)) c.args.spot (player_bound 0)) c.scene_now-scene.ensures cards
