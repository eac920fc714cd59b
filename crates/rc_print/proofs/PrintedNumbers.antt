-- A number as it is printed is an atom and a literal of the number, where the number has a literal.
use Rattle.std.proofs.Common.{◌≡◌, ℕ, zero, suc, ◌+◌, ◌*◌, ◌-◌, ◌^◌, ◌<◌, ◌≤◌, ◌==◌, nat_le, Bool, true, false, not, ◌&&◌, cond, List, [], ◌∷◌, length, fold, ℤ, pos, negsuc, neg_ℤ, Option, Some, None, IfSome, option_map, lit<, refl, subst, ap, ◌∙◌, arith, decimal, le-leb, leb-true, ne_eqb}
use Rattle.std.specs.List.{list_all}
use Rattle.std.specs.Fmt.{signed_decimal}
use Rattle.std.proofs.Math.Nat.{pow-le-pow_right}
use Rattle.std.proofs.lemmas.Bool.{and_parts, and_from, or_from, cond-true}
use Rattle.std.proofs.lemmas.Fmt.{digits_decimal, digits_value-decimal, length-decimal-le, decimal_nonempty}
use Rattle.std.proofs.lemmas.Int.Digits.{digits_value-lt}
use Rattle.std.proofs.lemmas.Str.Parse.{IsDigitsTest, FoldsDigits, IsNumeralModel, numerals_by_fold}
use Rattle.rc_base.specs.Token.{is_part}
use Rattle.rc_base.specs.Literal.{is_digit, value_of, natural, integer}
use Rattle.rc_sheet_spec.specs.WellFormed.{is_atom}

abbrev AreDigits : List ℕ → Type 0
AreDigits bytes = list_all is_digit bytes ≡ true

digits_told : IsDigitsTest AreDigits
digits_told = record {
  empty = refl;
  parts = λ c cs are. let both = and_parts (is_digit c) (list_all is_digit cs) are in let ends = and_parts _ _ both.0 in
      ((leb-true 48 c ends.0, leb-true c 57 ends.1), both.1);
  more = λ c cs within are. and_from _ _ (and_from _ _ (le-leb 48 c within.0) (le-leb c 57 within.1)) are;
}

digits_folded : FoldsDigits (fold (λ value digit. value * 10 + (digit - 48)))
digits_folded = record { empty = λ n. refl; more = λ n c cs within. refl }

numerals : IsNumeralModel AreDigits value_of
numerals = numerals_by_fold AreDigits digits_told (fold (λ value digit. value * 10 + (digit - 48))) digits_folded

-- more digits spell no less room
digits_fit : (bytes : List ℕ) → AreDigits bytes → length bytes ≤ 18 → value_of bytes < 10 ^ 18
digits_fit bytes are short =
    let digits = numerals.to bytes are in
    let below = digits_value-lt 10 bytes digits in
    let same = numerals.same bytes digits in
    let most : 10 ^ length bytes ≤ 10 ^ 18 = pow-le-pow_right (lit< tt) {j = 18} (omega arith) in
    omega arith

-- what is read as a literal is below this power of ten
natural_fits : (bytes : List ℕ) → IfSome (natural bytes) (λ n. n < 10 ^ 18)
natural_fits bytes =
    either (nat_le 1 (length bytes) && nat_le (length bytes) 18 && list_all is_digit bytes)
    (λ is. let parts = and_parts _ _ is in digits_fit bytes parts.1 (leb-true _ _ (and_parts _ _ parts.0).1))
  where
    either : (b : Bool) → (b ≡ true → value_of bytes < 10 ^ 18) → IfSome (cond b (Some (value_of bytes)) None) (λ n. n < 10 ^ 18)
    either true below = below refl
    either false below = tt

abbrev IsSmall : ℤ → Type 0
IsSmall (pos n) = n < 10 ^ 18
IsSmall (negsuc n) = suc n < 10 ^ 18

negative_small : (n : ℕ) → n < 10 ^ 18 → IsSmall (neg_ℤ (pos n))
negative_small zero below = below
negative_small (suc n) below = below

integer_fits : (bytes : List ℕ) → IfSome (integer bytes) IsSmall
integer_fits [] = tt
integer_fits (b ∷ bytes) = either (b == 45) (natural bytes) (natural (b ∷ bytes)) (natural_fits bytes) (natural_fits (b ∷ bytes))
  where
    either : (c : Bool) (x y : Option ℕ) → IfSome x (λ n. n < 10 ^ 18) → IfSome y (λ n. n < 10 ^ 18)
        → IfSome (cond c (option_map (λ size. neg_ℤ (pos size)) x) (option_map pos y)) IsSmall
    either true None y below above = tt
    either true (Some n) y below above = negative_small n below
    either false x None below above = tt
    either false x (Some n) below above = above

-- digits are a literal of their number
natural_decimal : (n : ℕ) → n < 10 ^ 18 → natural (decimal n) ≡ Some n
natural_decimal n small =
    let some = decimal_nonempty n (omega arith) in
    let short = length-decimal-le 18 n (omega arith) small (omega arith) in
    let least : nat_le 1 (length (decimal n)) ≡ true = le-leb 1 (length (decimal n)) (omega arith) in
    let most : nat_le (length (decimal n)) 18 ≡ true = le-leb (length (decimal n)) 18 short in
    cond-true _ _ _ (and_from _ _ (and_from _ _ least most) (digits_decimal numerals n (omega arith)))
    ∙ ap Some (digits_value-decimal numerals n (omega arith))

-- digits have no sign
integer_digits : (bytes : List ℕ) → AreDigits bytes → 0 < length bytes → integer bytes ≡ option_map pos (natural bytes)
integer_digits [] are some = absurd (omega arith)
integer_digits (b ∷ bytes) are some =
    let within = digits_told.parts b bytes are in
    ap (λ c. cond c (option_map (λ size. neg_ℤ (pos size)) (natural bytes)) (option_map pos (natural (b ∷ bytes))))
    (ne_eqb b 45 (λ same. omega arith))

pub integer_printed : (value : ℤ) → IsSmall value → integer (signed_decimal value) ≡ Some value
integer_printed (pos n) small =
    integer_digits (decimal n) (digits_decimal numerals n (omega arith)) (decimal_nonempty n (omega arith))
    ∙ ap (option_map pos) (natural_decimal n small)
integer_printed (negsuc n) small = ap (option_map (λ size. neg_ℤ (pos size))) (natural_decimal (suc n) small)

-- digits may stand in an atom
digit_part : (b : ℕ) → 48 ≤ b → b ≤ 57 → is_part b ≡ true
digit_part b least most =
    and_from _ _ (and_from _ _ (le-leb 33 b (omega arith)) (le-leb b 126 (omega arith)))
    (ap not (or_from _ _ (or_from _ _ (or_from _ _ (ne_eqb b 40 (λ same. omega arith)) (ne_eqb b 41 (λ same. omega arith)))
    (ne_eqb b 59 (λ same. omega arith))) (ne_eqb b 44 (λ same. omega arith))))

digits_parts : (bytes : List ℕ) → AreDigits bytes → list_all is_part bytes ≡ true
digits_parts [] are = refl
digits_parts (b ∷ bytes) are =
    let within = digits_told.parts b bytes are in
    and_from _ _ (digit_part b within.0.0 within.0.1) (digits_parts bytes within.1)

-- bytes are an atom
parts_atom : (bytes : List ℕ) → 1 ≤ length bytes → length bytes ≤ 64 → list_all is_part bytes ≡ true → is_atom bytes ≡ true
parts_atom bytes some short are = and_from _ _ (and_from _ _ (le-leb 1 (length bytes) some) (le-leb (length bytes) 64 short)) are

pub printed_atom : (value : ℤ) → IsSmall value → is_atom (signed_decimal value) ≡ true
printed_atom (pos n) small =
    let some = decimal_nonempty n (omega arith) in
    let short = length-decimal-le 18 n (omega arith) small (omega arith) in
    parts_atom (decimal n) (omega arith) (omega arith) (digits_parts (decimal n) (digits_decimal numerals n (omega arith)))
printed_atom (negsuc n) small =
    let short = length-decimal-le 18 (suc n) (omega arith) small (omega arith) in
    parts_atom (45 ∷ decimal (suc n)) (omega arith) (omega arith) (digits_parts (decimal (suc n))
    (digits_decimal numerals (suc n) (omega arith)))

-- where a number has a literal, its printed bytes are one, and an atom
pub printed_literal : (value : ℤ) (bytes : List ℕ) → integer bytes ≡ Some value
    → (integer (signed_decimal value) ≡ Some value) × (is_atom (signed_decimal value) ≡ true)
printed_literal value bytes is =
    let small : IsSmall value = subst (λ o. IfSome o IsSmall) is (integer_fits bytes) in
    (integer_printed value small, printed_atom value small)
