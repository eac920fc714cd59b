use Rattle.std.proofs.Common.{◌≡◌, ◌<◌, ◌-◌, length, map, All}
use Rattle.std.specs.List.{AllByRecursion}
use Rattle.rc_rules.specs.Plan.{plan_seen}
use Rattle.rc_series.specs.Turns.{IsRecordIn, number_of, asked_by_all, Rise}
use Rattle.rc_series.proofs.turn.work.Given as goal

abbrev pub invariant-loop-number : goal.invariant-loop-number
invariant-loop-number g l =
    record {
      own : l.pass.table ≡ l.claims.table;
      holders : l.pass.holders ≡ l.fn.pass.holders;
      counted : All (λ n. n < l.claims.count) l.pass.numbers;
      numbers : l.pass.numbers ≡ map number_of l.records.items;
      are : AllByRecursion (IsRecordIn l.noted l.about.value (plan_seen l.plan.value)) l.records.items;
      served : g.C.Chooser.serves l.chooser l.about.value;
      named : g.C.Chooser.name l.chooser ≡ g.C.Chooser.name l.fn.chooser;
      rise : Rise (asked_by_all l.about.value (plan_seen l.plan.value) (map number_of l.records.items)) (g.C.Chooser.counts l.fn.chooser) (g.C.Chooser.counts l.chooser);
    }

abbrev pub decreases-loop-number : goal.decreases-loop-number
decreases-loop-number g l = l.claims.count - length l.pass.numbers
