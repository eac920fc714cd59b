-- Tests that have no flat form.
use Rattle.std.proofs.Common.{◌≡◌, List, [], ◌∷◌, length, false, refl}
use Rattle.rc_ast.specs.declared.expressions.Test.{Test}
use Rattle.rc_ast.specs.Expressions.{tests_seen}
use Rattle.rc_code.specs.Flatness.{are_two_comparisons}

-- more or fewer than two
pub not_two : (tests : List Test) → (length tests ≡ 2 → ⊥) → false ≡ are_two_comparisons (tests_seen tests)
not_two [] other = refl
not_two (a ∷ []) other = refl
not_two (a ∷ b ∷ []) other = absurd (other refl)
not_two (a ∷ b ∷ c ∷ tests) other = refl
