use Rattle.std.proofs.Common.{◌≡◌, ◌==◌, ◌+◌, ℕ, true, false, ap, sym, ◌∙◌, arith}
use Rattle.std.proofs.lemmas.Grind.{common_steps}
use Rattle.rc_play_spec.specs.Shape.{face_number}
use Rattle.rc_judge.proofs.Fits.{count_more}
use Rattle.rc_judge.proofs.legend.face_count.Goals as goal
use Rattle.rc_judge.proofs.legend.face_count.Goals.{then-face_number-id, else-face_number-id}

pub loop-id-preserved : goal.loop-id-preserved
loop-id-preserved c =
    let shape = c.args.shape.now in
    let id = c.loop-id.id in
    let keeps = λ (id : ℕ). face_number shape id == id in
    elim c.if-face_number-id.branch [
      | then-face_number-id w ↦
          let is : keeps id ≡ true = grind (arith, common_steps) in
          let more = count_more keeps id true is in
          record { count = w.count-is ∙ ap (λ n. n + 1) c.loop-id.invariant.count ∙ sym more; few = let few = c.loop-id.invariant.few in let same = w.count-is in omega (arith, few, same) }
      | else-face_number-id w ↦
          let is : keeps id ≡ false = grind (arith, common_steps) in
          let more = count_more keeps id false is in
          record { count = w.count-is ∙ c.loop-id.invariant.count ∙ sym (more ∙ plus_zero _); few = let few = c.loop-id.invariant.few in let same = w.count-is in omega (arith, few, same) }
    ]
  where
    plus_zero : (n : ℕ) → n + 0 ≡ n
    plus_zero n = omega arith
