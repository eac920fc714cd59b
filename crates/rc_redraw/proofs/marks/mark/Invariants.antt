use Rattle.std.proofs.Common.{◌≡◌, length, drop}
use Rattle.rc_redraw.specs.Marked.{marked_by}
use Rattle.rc_redraw.proofs.marks.mark.Given as goal

abbrev pub invariant-loop-id : goal.invariant-loop-id
invariant-loop-id l =
    (length l.marks ≡ length l.initial.marks)
    × (marked_by l.seats (drop l.id-index l.ids) l.marks ≡ marked_by l.seats l.ids l.initial.marks)
