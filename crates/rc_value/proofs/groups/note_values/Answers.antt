use Rattle.std.proofs.Common.{arith, ap, ◌∙◌}
use Rattle.rc_play_spec.specs.Value.{attr_of as attr_value}
use Rattle.rc_value.specs.Cards.{value_seen}
use Rattle.rc_value.specs.Scene.{scene_seen}
use Rattle.rc_value.specs.Groups.{noted_in}
use Rattle.rc_value.proofs.Firsts.{firsts_step, firsts_end}
use Rattle.rc_value.proofs.groups.note_values.Goals as goal

pub loop-place-preserved : goal.loop-place-preserved
loop-place-preserved c =
    record {
      few = omega (arith, c.note.ensures.few);
      told =
          firsts_step (attr_value (scene_seen c.args.scene.now) c.args.name) c.loop-place.values.items c.note.new.values.items c.args.cards.now c.loop-place.place (value_seen c.at.result)
          (omega (arith, c.len-place-end.ensures.count)) c.at.ensures (c.note.ensures.values ∙ ap (noted_in c.loop-place.values.items) c.attr_of.ensures) c.loop-place.invariant.told;
    }

pub returns : goal.returns
returns c =
    firsts_end (attr_value (scene_seen c.args.scene.now) c.args.name) c.loop-place.values.items c.args.cards.now c.loop-place.place
    (omega (arith, c.len-place-end.ensures.count)) c.loop-place.invariant.told
