use Rattle.std.proofs.Common.{arith, ap, sym}
use Rattle.std.specs.List.{filter}
use Rattle.std.proofs.lemmas.List.{drop_all, length-map}
use Rattle.rc_value.specs.Cards.{value_seen, values_seen}
use Rattle.rc_value.specs.Scene.{scene_seen}
use Rattle.rc_value.specs.Sought.{sought_value}
use Rattle.rc_value.proofs.Steps.{passing_on, passing_here, more_end}
use Rattle.rc_value.proofs.sought.add_each.Goals as goal

pub loop-place-preserved : goal.loop-place-preserved
loop-place-preserved c =
    let n = length-map c.loop-place.out.items value_seen in
    record {
      few = c.push_if.ensures.few;
      told =
          passing_on (values_seen c.loop-place.out.items) (values_seen c.push_if.new.cards.items) _ _ _
          (value_seen c.at-card.result) c.is_as_sought.result
          (passing_here (sought_value (scene_seen c.args.scene.now) c.args.sought) c.args.cards.now c.loop-place.place
          (value_seen c.at-card.result) c.is_as_sought.result
          (omega (arith, c.len-place-end.ensures.count)) c.at-card.ensures (sym c.is_as_sought.ensures))
          c.push_if.ensures.cards c.loop-place.invariant.told;
    }

pub returns-clause-cards : goal.returns-clause-cards
returns-clause-cards c =
    let n = length-map c.loop-place.out.items value_seen in
    more_end (values_seen c.loop-place.out.items) _ _ (omega arith)
    (ap (filter (sought_value (scene_seen c.args.scene.now) c.args.sought))
    (drop_all c.loop-place.place c.args.cards.now (omega (arith, c.len-place-end.ensures.count))))
    c.loop-place.invariant.told
