-- The digits of a literal.
use Rattle.std.proofs.Common.{◌≡◌, ℕ, ◌+◌, ◌*◌, ◌^◌, ◌<◌, ◌≤◌, true, List, length, get_or, sym, ◌∙◌, lit<, arith, inl, inr}
use Rattle.std.specs.List.{list_all}
use Rattle.std.proofs.Math.Nat.{pow-le-pow_right}
use Rattle.std.proofs.lemmas.Grind.{pow_more}
use Rattle.std.proofs.lemmas.Bool.{cases_Bool, and_parts, leb-true, false≢true}
use Rattle.std.proofs.lemmas.List.Folds.{list_all_at}
use Rattle.rc_base.specs.Literal.{is_digit}

-- each byte of digits is a digit
pub digit_at : (bytes : List ℕ) (i : ℕ) → list_all is_digit bytes ≡ true → i < length bytes → (48 ≤ get_or bytes i 0) × (get_or bytes i 0 ≤ 57)
digit_at bytes i all lt =
    elim (cases_Bool (is_digit (get_or bytes i 0))) [
      | inl digit ↦ let parts = and_parts _ _ digit in (leb-true _ _ parts.0, leb-true _ _ parts.1)
      | inr other ↦ absurd (false≢true (sym (list_all_at is_digit bytes i 0 lt other) ∙ all))
    ]

-- one more digit keeps the number below the next power of ten
pub more_fits : (value count digit : ℕ) → value < 10 ^ count → count < 18 → digit ≤ 9 → value * 10 + digit < 10 ^ 18
more_fits value count digit small few low =
    let most : 10 ^ (count + 1) ≤ 10 ^ 18 = pow-le-pow_right (lit< tt) {j = 18} (omega arith) in
    let next : 10 ^ (count + 1) ≡ 10 ^ count * 10 = pow_more 10 count in
    omega arith

-- so many digits spell a number below this power of ten
pub all_fit : (value count : ℕ) → value < 10 ^ count → count ≤ 18 → value < 10 ^ 18
all_fit value count small few =
    let most : 10 ^ count ≤ 10 ^ 18 = pow-le-pow_right (lit< tt) {j = 18} (omega arith) in
    omega arith
