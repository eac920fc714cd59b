-- Lists with another number of parts than places.
use Rattle.std.proofs.Common.{◌≡◌, ℕ, ◌≢◌, Bool, true, false, cond, List, [], ◌∷◌, length, eqb, refl, ◌∙◌, sym, arith}
use Rattle.std.proofs.lemmas.Bool.{eqb-true}
use Rattle.std.specs.Prelude.{nat_le}
use Rattle.rc_base.specs.Tree.{count}
use Rattle.rc_form.specs.Form.{trees_of, packed}
use Rattle.rc_form.specs.declared.form.Form.{Form}
use Rattle.rc_form.proofs.FormLemmas.{count_packed}
use Rattle.rc_play_spec.specs.Faults.{Place, row, in_turn, each, some, fault}
use Rattle.rc_play_spec.specs.declared.plan_fault.PlanKind.TheVariants.{Shape}

pub other_length : (places : List Place) (from : ℕ) (forms : List Form) → length forms ≢ length places
    → row places from (packed (trees_of forms)) ≡ fault Shape from
other_length places from forms other = by_test (eqb (count (packed (trees_of forms))) (length places)) refl where
  by_test : (b : Bool) → eqb (count (packed (trees_of forms))) (length places) ≡ b
      → cond b (in_turn places (packed (trees_of forms))) (fault Shape from) ≡ fault Shape from
  by_test true is = absurd (other (sym (count_packed forms) ∙ eqb-true _ _ is))
  by_test false is = refl

-- one part at least
pub some_parts : (place : Place) (from : ℕ) (forms : List Form) → length forms ≢ 0
    → some place from (packed (trees_of forms)) ≡ each place (packed (trees_of forms))
some_parts place from [] many = absurd (many refl)
some_parts place from (form ∷ forms) many = refl

pub some_counted : (forms : List Form) → length forms ≢ 0 → nat_le 1 (count (packed (trees_of forms))) ≡ true
some_counted [] many = absurd (many refl)
some_counted (form ∷ forms) many = grind arith
