use Rattle.std.proofs.Common.{◌≡◌, ◌≤◌, [], take, ◌-◌}
use Rattle.std.specs.Prelude.{slice_index}
use Rattle.rc_play_spec.specs.Redraw.{seen_ids}
use Rattle.rc_play_spec.specs.Smallest.{IsSmallestUnused}
use Rattle.rc_redraw.specs.Taken.{Marks}
use Rattle.rc_redraw.proofs.seen.take_ids.Given as goal

abbrev pub invariant-loop-face : goal.invariant-loop-face
invariant-loop-face l =
    (l.ids.items ≡ take l.face-index (seen_ids l.shape [] l.faces)) × Marks l.shape l.ids.items l.marks.items

-- the smallest id that is left isn't passed
abbrev pub invariant-loop-face-2 : goal.invariant-loop-face-2
invariant-loop-face-2 l =
    let smallest = slice_index (seen_ids l.shape [] l.faces) l.face-index in
    (l.id ≤ smallest) × IsSmallestUnused l.shape l.ids.items (slice_index l.faces l.face-index) smallest

abbrev pub decreases-loop-face-2 : goal.decreases-loop-face-2
decreases-loop-face-2 l = slice_index (seen_ids l.shape [] l.faces) l.face-index - l.id
