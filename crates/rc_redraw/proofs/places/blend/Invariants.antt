use Rattle.std.proofs.Common.{◌≡◌, ◌+◌, ◌++◌, ◌≤◌, length, take, drop}
use Rattle.rc_redraw.specs.Hiding.{blended, blanks}
use Rattle.rc_redraw.proofs.places.blend.Given as goal

abbrev pub invariant-loop-at : goal.invariant-loop-at
invariant-loop-at l =
    (length l.content ≡ length l.pattern)
    × (take l.at l.content ++ blended (drop l.at l.pattern) (drop l.other l.hidden) ≡ blended l.pattern l.hidden)
    × (l.other + blanks (drop l.at l.pattern) ≤ length l.hidden)
