use Rattle.std.proofs.Common.{◌≡◌, ◌<◌, ℕ, false, get_or, []}
use Rattle.rc_play_spec.specs.Shape.{face_eq}
use Rattle.rc_table.proofs.faces.first_like.Given as goal

abbrev pub invariant-loop-place : goal.invariant-loop-place
invariant-loop-place l = (k : ℕ) → k < l.place → face_eq l.face (get_or l.faces k []) ≡ false
