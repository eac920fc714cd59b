use Rattle.std.proofs.Common.{◌≡◌, ◌*◌, All, drop, replicate}
use Rattle.rc_rules.specs.Plan.{plan_seen}
use Rattle.rc_measure.specs.Groups.{counted_in_all, no_choice, HasAtMost}
use Rattle.rc_measure.proofs.tally.tallies_by.Given as goal

abbrev pub invariant-loop-played : goal.invariant-loop-played
invariant-loop-played l =
    record {
      is : counted_in_all (plan_seen l.plan) l.by (drop l.played-index l.matches) l.tallies
          ≡ counted_in_all (plan_seen l.plan) l.by l.matches (replicate 64 no_choice);
      small : All (HasAtMost (33554432 * l.played-index)) l.tallies;
    }
