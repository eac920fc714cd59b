use Rattle.std.proofs.Common.{◌≡◌, map, length, All}
use Rattle.rc_redraw.specs.Choosing.{AsksAll}
use Rattle.rc_rules.specs.Plan.{plan_seen}
use Rattle.rc_series.specs.Series.{IsNotedAs, looks_below, played_seen, records_below}
use Rattle.rc_series.proofs.records.records_of.Given as goal

abbrev pub invariant-loop-number : goal.invariant-loop-number
invariant-loop-number g l = record {
  are : map played_seen l.records.items ≡ records_below l.about.value (plan_seen l.plan.value) l.number;
  count : length l.records.items ≡ l.number;
  each : All (λ p. length p.record.scores.items ≡ l.about.value.sheet.players) l.records.items;
  noted : All (IsNotedAs l.noted l.about.value (plan_seen l.plan.value)) l.records.items;
  served : g.C.Chooser.serves l.chooser l.about.value;
  asked : AsksAll (looks_below l.about.value (plan_seen l.plan.value) l.number)
      (g.C.Chooser.counts l.initial.chooser) (g.C.Chooser.counts l.chooser) l.initial.steps l.steps;
}
