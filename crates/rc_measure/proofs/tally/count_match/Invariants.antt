use Rattle.std.proofs.Common.{◌≡◌, ℕ, ◌+◌, All, drop}
use Rattle.rc_rules.specs.Plan.{plan_seen}
use Rattle.rc_measure.specs.Groups.{counted, HasAtMost}
use Rattle.rc_measure.proofs.tally.count_match.Given as goal

abbrev pub invariant-loop-pick : goal.invariant-loop-pick
invariant-loop-pick l =
    record {
      is : counted (plan_seen l.plan) l.by l.played.number (drop l.pick-index l.played.picks.items) l.tallies
          ≡ counted (plan_seen l.plan) l.by l.played.number l.played.picks.items l.initial.tallies;
      small : (n : ℕ) → All (HasAtMost n) l.initial.tallies → All (HasAtMost (n + l.pick-index)) l.tallies;
    }
