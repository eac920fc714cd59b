use Rattle.std.proofs.Common.{◌≡◌, ◌≤◌, length}
use Rattle.rc_play_spec.specs.Redraw.{others}
use Rattle.rc_redraw.proofs.hidden.list_left.Given as goal

abbrev pub invariant-loop-id : goal.invariant-loop-id
invariant-loop-id l = (l.ids.items ≡ others l.id l.taken.ids.items) × (length l.ids.items ≤ l.id)
