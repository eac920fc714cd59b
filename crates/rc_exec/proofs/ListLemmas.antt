-- Parts of code as the definitions have it.
use Rattle.std.proofs.Common.{◌≡◌, ℕ, zero, suc, min, List, [], ◌∷◌, length, take, drop, refl, ap, ◌∙◌}
use Rattle.std.proofs.lemmas.List.{take_min, drop_min}
use Rattle.rc_code.specs.declared.code.Instruction.{Instruction}
use Rattle.rc_code.specs.Seen.{instruction_seen, list_seen}
use Rattle.rc_code.specs.Implements.{AreSimple}

front_seen : (code : List Instruction) (count : ℕ) → list_seen (take count code) ≡ take count (list_seen code)
front_seen code zero = refl
front_seen [] (suc count) = refl
front_seen (i ∷ code) (suc count) = ap (λ rest. instruction_seen i ∷ rest) (front_seen code count)

past_seen : (code : List Instruction) (count : ℕ) → list_seen (drop count code) ≡ drop count (list_seen code)
past_seen code zero = refl
past_seen [] (suc count) = refl
past_seen (i ∷ code) (suc count) = past_seen code count

-- so many of them, or all where there are fewer
pub first_seen : (code : List Instruction) (count : ℕ) → list_seen (take (min count (length code)) code) ≡ take count (list_seen code)
first_seen code count = ap list_seen (take_min count code) ∙ front_seen code count

pub rest_seen : (code : List Instruction) (count : ℕ) → list_seen (drop (min count (length code)) code) ≡ drop count (list_seen code)
rest_seen code count = ap list_seen (drop_min count code) ∙ past_seen code count

-- parts of code whose effects hold no others
pub front_simple : (code : List Instruction) (count : ℕ) → AreSimple (list_seen code) → AreSimple (list_seen (take count code))
front_simple code zero are = tt
front_simple [] (suc count) are = tt
front_simple (i ∷ code) (suc count) are = (are.0, front_simple code count are.1)

pub past_simple : (code : List Instruction) (count : ℕ) → AreSimple (list_seen code) → AreSimple (list_seen (drop count code))
past_simple code zero are = are
past_simple [] (suc count) are = tt
past_simple (i ∷ code) (suc count) are = past_simple code count are.1
