-- Loops that read part by part.
use Rattle.std.proofs.Common.{◌≡◌, ℕ, ◌≤◌, List, [], length, drop, sym, subst}
use Rattle.std.proofs.lemmas.List.{append-nil, at_drop_all}
use Rattle.rc_base.specs.Tree.{Tree}
use Rattle.rc_form.specs.Form.{trees_of, packed}
use Rattle.rc_form.specs.declared.form.Form.{Form}
use Rattle.rc_play_spec.specs.Faults.{Place, each}
use Rattle.rc_play_spec.specs.PlanStands.{InTurn}
use Rattle.rc_plan.specs.Reads.{IsReadSoFar}

module _ {A : Type 0} (Stands : A → Tree → Type 0) (place : Place) where
  -- all parts are read
  pub read_all : (done : List A) (forms : List Form) (i : ℕ) → length forms ≤ i
      → IsReadSoFar Stands place done (packed (trees_of (drop i forms))) (packed (trees_of forms))
      → InTurn Stands done (packed (trees_of forms)) × (each place (packed (trees_of forms)) ≡ [])
  read_all done forms i past so_far =
      let all = packed (trees_of forms) in
      let here = subst (λ left. IsReadSoFar Stands place done left all) (at_drop_all (λ fs. packed (trees_of fs)) forms i past) so_far in
      (subst (λ list. InTurn Stands list all) (append-nil done) (here.stands [] tt), sym here.faults)
