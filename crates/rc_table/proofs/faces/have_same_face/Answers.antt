use Rattle.std.proofs.Common.{◌≡◌, sym, ap, ◌∙◌}
use Rattle.std.proofs.lemmas.Bool.{eq-eqb}
use Rattle.rc_play_spec.specs.Shape.{face_at, face_eq}
use Rattle.rc_play_spec.proofs.Faces.{face_eq_self}
use Rattle.rc_table.proofs.faces.have_same_face.Goals as goal

-- a card's face equals itself
pub returns-then-left-right : goal.returns-then-left-right
returns-then-left-right c =
    let face = face_at c.args.shape.now c.args.left in
    let same : c.args.left ≡ c.args.right = c.if-left-right.true in
    eq-eqb _ _ same ∙ sym (face_eq_self face) ∙ ap (λ id. face_eq face (face_at c.args.shape.now id)) same
