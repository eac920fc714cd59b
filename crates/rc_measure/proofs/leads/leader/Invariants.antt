use Rattle.std.proofs.Common.{◌≡◌, ◌<◌, ◌==◌, ℕ, false, get_or}
use Rattle.rc_play_spec.specs.House.{ahead}
use Rattle.rc_measure.proofs.leads.leader.Given as goal

abbrev pub invariant-loop-k : goal.invariant-loop-k
invariant-loop-k l = (j : ℕ) → j < l.k → (ahead l.points (get_or l.points j 0) == 0) ≡ false
