-- The faults of matches.
use Rattle.std.proofs.Common.{◌≡◌, ℕ, ◌≤◌, ◌<◌, ◌≢◌, length, Bool, true, false, cond, List, [], ◌∷◌, refl, ap, ◌∙◌}
use Rattle.std.specs.Prelude.{codes}
use Rattle.std.proofs.lemmas.Bool.{le-leb, lt-leb}
use Rattle.rc_form.specs.Form.{trees_of, packed}
use Rattle.rc_form.specs.declared.form.Form.{Form}
use Rattle.rc_base.specs.Tree.{list, Trees, nil, cons}
use Rattle.rc_play_spec.specs.Faults.{match, match_list, is_word, row, some, any_number, fault, each, lists_among}
use Rattle.rc_play_spec.specs.declared.plan_fault.PlanKind.TheVariants.{Shape}
use Rattle.rc_plan.specs.Reads.{IsNotHeaded}
use Rattle.rc_plan.proofs.Headed.{is_behind}
use Rattle.rc_plan.proofs.Lengths.{some_parts}

-- a list that begins with something else than `from`
pub match_deal : (alone : Bool) (parts : Trees) (from to : ℕ) → IsNotHeaded (codes "from") (list parts from to)
    → match alone (list parts from to) ≡ row (any_number ∷ any_number ∷ []) from parts
match_deal alone nil from to not = refl
match_deal alone (cons head parts) from to not = by_test (is_word (codes "from") head) refl where
  by_test : (b : Bool) → is_word (codes "from") head ≡ b
      → cond b (cond alone (row (any_number ∷ any_number ∷ any_number ∷ []) from parts) (fault Shape from)) (row (any_number ∷ any_number ∷ []) from (cons head parts))
      ≡ row (any_number ∷ any_number ∷ []) from (cons head parts)
  by_test true is = absurd (not parts (is_behind (codes "from") head parts (list (cons head parts) from to) from to refl is))
  by_test false is = refl

-- several parts, of which at most one is a list, and others
pub listed_alone : (from : ℕ) (forms : List Form) → length forms ≢ 0 → lists_among (packed (trees_of forms)) ≤ 1
    → match_list from (packed (trees_of forms)) ≡ each (match true) (packed (trees_of forms))
listed_alone from forms many few =
    ap (λ alone. some (match alone) from (packed (trees_of forms))) (le-leb _ _ few) ∙ some_parts (match true) from forms many

pub listed_apart : (from : ℕ) (forms : List Form) → length forms ≢ 0 → 1 < lists_among (packed (trees_of forms))
    → match_list from (packed (trees_of forms)) ≡ each (match false) (packed (trees_of forms))
listed_apart from forms many lists =
    ap (λ alone. some (match alone) from (packed (trees_of forms))) (lt-leb _ _ lists) ∙ some_parts (match false) from forms many

-- where there is a part, it doesn't matter where their list begins
pub listed_anywhere : (from to : ℕ) (forms : List Form) → length forms ≢ 0
    → match_list from (packed (trees_of forms)) ≡ match_list to (packed (trees_of forms))
listed_anywhere from to [] many = absurd (many refl)
listed_anywhere from to (form ∷ forms) many = refl
