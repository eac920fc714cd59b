use Rattle.std.proofs.Common.{◌≡◌, map, take}
use Rattle.std.specs.List.{position_or_len}
use Rattle.rc_play_spec.specs.Shape.{face_eq}
use Rattle.rc_table.proofs.faces.face_numbers_of.Given as goal

abbrev pub invariant-loop-face : goal.invariant-loop-face
invariant-loop-face l = l.numbers.items ≡ map (λ face. position_or_len (face_eq face) l.faces) (take l.face-index l.faces)
