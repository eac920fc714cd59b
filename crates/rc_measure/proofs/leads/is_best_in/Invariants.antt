use Rattle.std.proofs.Common.{◌≡◌, ℕ, true}
use Rattle.rc_rules.specs.Record.{record_seen}
use Rattle.rc_rules.specs.Plan.{plan_seen}
use Rattle.std.specs.Prelude.{nat_le}
use Rattle.std.specs.List.{list_all}
use Rattle.rc_base.specs.Numbers.{below}
use Rattle.rc_play_spec.specs.House.{points_in}
use Rattle.rc_measure.proofs.leads.is_best_in.Given as goal

abbrev pub invariant-loop-other : goal.invariant-loop-other
invariant-loop-other l =
    let points = λ (k : ℕ). points_in (plan_seen l.plan) k (record_seen l.played) in
    list_all (λ k. nat_le (points k) (points l.strategy)) (below l.other) ≡ true
