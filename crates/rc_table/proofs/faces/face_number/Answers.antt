use Rattle.std.proofs.Common.{[], get_or, ap, ◌∙◌, arith}
use Rattle.std.specs.List.{position_or_len}
use Rattle.std.proofs.lemmas.List.{get_or-map}
use Rattle.rc_play_spec.specs.Shape.{face_eq}
use Rattle.rc_table.proofs.FaceNumbers.{number_le}
use Rattle.rc_table.proofs.faces.face_number.Goals as goal

pub returns-clause-number : goal.returns-clause-number
returns-clause-number c =
    let faces = c.args.shape.now.faces in
    ap (λ numbers. get_or numbers c.args.id 0) c.face_numbers.ensures
    ∙ get_or-map (λ face. position_or_len (face_eq face) faces) faces c.args.id [] 0 c.requires

pub returns-clause-below : goal.returns-clause-below
returns-clause-below c = let is = returns-clause-number c in let le = number_le c.args.shape.now c.args.id in omega (arith, is, le)
