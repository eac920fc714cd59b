use Rattle.std.proofs.Common.{◌≡◌, ◌+◌, ◌≤◌, drop}
use Rattle.rc_play_spec.specs.Redraw.{unknown}
use Rattle.rc_redraw.proofs.places.count_unknown.Given as goal

abbrev pub invariant-loop-at : goal.invariant-loop-at
invariant-loop-at l = (l.count + unknown (drop l.at l.numbers) ≡ unknown l.numbers) × (l.count ≤ l.at)
