use Rattle.std.proofs.Common.{◌≡◌, ◌==◌, ◌++◌, ℕ, map, flat_map, true, false, ap, sym, ◌∙◌, arith}
use Rattle.std.proofs.lemmas.Grind.{common_steps}
use Rattle.rc_base.specs.Transcript.{line}
use Rattle.rc_play_spec.specs.Shape.{face_number}
use Rattle.rc_ast.specs.Sheet.{sheet_seen}
use Rattle.rc_play_spec.specs.Naming.{face_line}
use Rattle.rc_text.proofs.Below.{gains_text, left_out}
use Rattle.rc_text.proofs.faces.legend.Goals as goal
use Rattle.rc_text.proofs.faces.legend.Goals.{then-face_number-id+in_ok-add_face, else-face_number-id}

pub loop-id-preserved : goal.loop-id-preserved
loop-id-preserved c =
    let shape = c.args.shape.now in
    let id = c.loop-id.id in
    let keeps = λ (id : ℕ). face_number shape id == id in
    let text = face_line (sheet_seen c.args.sheet.now) shape in
    elim c.if-face_number-id.branch [
      | then-face_number-id+in_ok-add_face w ↦
          let is : keeps id ≡ true = grind (arith, common_steps) in
          ap (λ out. out.items) w.out-is ∙ w.in_ok-add_face.ensures ∙ ap (λ front. front ++ line (text id)) c.loop-id.invariant ∙ sym (gains_text keeps text line id is)
      | else-face_number-id w ↦
          let is : keeps id ≡ false = grind (arith, common_steps) in
          ap (λ out. out.items) w.out-is ∙ c.loop-id.invariant ∙ sym (ap (λ ids. flat_map line (map text ids)) (left_out keeps id is))
    ]
