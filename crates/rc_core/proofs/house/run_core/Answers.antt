use Rattle.std.proofs.Common.{rules, ◌+◌, map, drop, inr, sym, ap, ◌∙◌, subst}
use Rattle.rc_core.specs.Events.{event_seen, after_events}
use Rattle.rc_core.specs.Short.{StopsShort, NoneFindsSpent}
use Rattle.rc_core.proofs.ListLemmas.{dropped}
use Rattle.rc_core.proofs.house.run_core.Goals as goal

pub loop-event-preserved : goal.loop-event-preserved
loop-event-preserved c =
    let old = c.loop-event.house in
    let events = c.args.events.now in
    let behind = map event_seen (drop (c.loop-event.event-index + 1) events) in
    let first = dropped event_seen events c.loop-event.event-index c.event-item.result c.loop-event-test.true c.event-item.is in
    let is = c.in-Ok.ensures.after in
    record {
      plan = search rules;
      spent = λ m lane there gone. c.change.ensures.spent m lane (c.loop-event.invariant.spent m lane there gone) gone;
      leaves = ap (λ h. after_events h behind) is ∙ sym (ap (after_events old) first) ∙ c.loop-event.invariant.leaves;
      named = λ none. c.loop-event.invariant.named
          (subst (NoneFindsSpent old) (sym first) (c.in-Ok.ensures.open, subst (λ h. NoneFindsSpent h behind) is none));
      short = λ h short. c.loop-event.invariant.short h
          (subst (λ es. StopsShort old es h) (sym first) (inr (subst (λ h'. StopsShort h' behind h) is short)));
    }
