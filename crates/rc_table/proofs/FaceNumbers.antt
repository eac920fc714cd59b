-- A card's face has a number that isn't above the card's id.
use Rattle.std.proofs.Common.{ℕ, ◌+◌, ◌≤◌, [], true≢false, sym, ◌∙◌, arith}
use Rattle.std.proofs.Math.Nat.{lt_of_not-le}
use Rattle.std.proofs.lemmas.List.Sums.{fails_before_first}
use Rattle.rc_play_spec.specs.Shape.{Shape, face_at, face_eq, face_number}
use Rattle.rc_play_spec.proofs.Faces.{face_eq_self}

pub number_le : (shape : Shape) (id : ℕ) → face_number shape id ≤ id
number_le shape id =
    let face = face_at shape id in
    let less = lt_of_not-le {n = id + 1} {m = face_number shape id} (λ later.
    true≢false (sym (face_eq_self face) ∙ fails_before_first (face_eq face) shape.faces id [] (omega (arith, later)))) in
    omega (arith, less)
