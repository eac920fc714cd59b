use Rattle.std.proofs.Common.{◌≡◌, map, take}
use Rattle.rc_play_spec.specs.Shape.{face_number as face_number_of}
use Rattle.rc_view.proofs.sight.face_numbers.Given as goal

abbrev pub invariant-loop-id : goal.invariant-loop-id
invariant-loop-id l = l.numbers.items ≡ map (face_number_of l.shape) (take l.id-index l.ids)
