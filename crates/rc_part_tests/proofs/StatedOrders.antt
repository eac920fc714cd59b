-- The orders of the dealer of tests: each permutes, and lists of other lengths stay.
use Rattle.std.proofs.Common.{◌≡◌, ℕ, zero, suc, ◌==◌, Bool, true, false, if◌then◌else◌, List, [], ◌∷◌, length, refl, sym, ap, subst, ◌∙◌, arith, IsPermutation, eqb-true}
use Rattle.std.proofs.lemmas.List.Sorted.{IsPermutation-refl}
use Rattle.rc_base.specs.Numbers.{below}
use Rattle.rc_play_spec.specs.Table.{taken}
use Rattle.rc_play_spec.proofs.SoundLemmas.{by_places}
use Rattle.rc_part_tests.specs.Stated.{order_of_four, stated}

pub stays : (list order : List ℕ) → (length list == 4) ≡ false → list ≡ taken (if length list == 4 then order else below (length list)) list
stays list order other = by_places list ∙ ap (λ b. taken (if b then order else below (length list)) list) (sym other)

four_permutes : (k : ℕ) → IsPermutation (below 4) (order_of_four k)
four_permutes zero =
    record {
      moves = (2, 3) ∷ (1, 2) ∷ (0, 2) ∷ [];
      below = (omega arith, omega arith, (omega arith, omega arith, (omega arith, omega arith, tt)));
      is = refl;
    }
four_permutes (suc k) =
    record {
      moves = (1, 2) ∷ (0, 1) ∷ [];
      below = (omega arith, omega arith, (omega arith, omega arith, tt));
      is = refl;
    }

permutes_by : (k size : ℕ) (four : Bool) → (size == 4) ≡ four → IsPermutation (below size) (if four then order_of_four k else below size)
permutes_by k size true is = subst (λ n. IsPermutation (below n) (order_of_four k)) (sym (eqb-true size 4 is)) (four_permutes k)
permutes_by k size false is = IsPermutation-refl (below size)

pub permutes : (k size : ℕ) → IsPermutation (below size) (stated.order k size)
permutes k size = permutes_by k size (size == 4) refl
