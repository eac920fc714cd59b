-- What a field reads is what it writes.
use Rattle.std.proofs.Common.{◌≡◌, ◌≢◌, ℕ, zero, suc, ◌+◌, ◌-◌, ◌*◌, ◌/◌, ◌%◌, ◌^◌, ◌<◌, ◌≤◌, nat_le, ◌==◌, Bool, true, false, if◌then◌else◌, List, [], ◌∷◌, ◌++◌, Option, Some, None, Result, Ok, ℤ, pos, negsuc, neg_ℤ, decimal, refl, sym, ap, ◌∙◌, subst, append_assoc, append-nil, arith, eqb-true, eq-eqb, ne_eqb, le-leb, leb-true, le→leb, leb→le, ◌⊎◌, inl, inr}
use Rattle.std.specs.Fmt.{signed_decimal}
use Rattle.std.proofs.lemmas.Bool.{eqb-false}
use Rattle.std.proofs.lemmas.Fmt.{decimal_step, decimal_digit, decimal_by_steps}
use Rattle.rc_base.specs.Literal.{is_digit}
use Rattle.rc_base.specs.Clamp.{IsWithinClamp, largest_number}
use Rattle.rc_play_spec.proofs.Faces.{both_true}
use Rattle.rc_play_spec.specs.Fields.{◌>>=◌, behind, digits_to, number_to, at_least_one, as_positive, as_negative, integer_to, number, counted, integer, last, ◌or_else◌}

-- the value of a step that found something
pub bind_some : {A B : Type 0} (o : Option A) (f : A → Option B) (y : B) → (o >>= f) ≡ Some y → (x : A) × (o ≡ Some x) × (f x ≡ Some y)
bind_some None f y e = absurd cc
bind_some (Some x) f y e = (x, refl, e)

pub bind_is : {A B : Type 0} (o : Option A) (f : A → Option B) (x : A) (y : Option B) → o ≡ Some x → f x ≡ y → (o >>= f) ≡ y
bind_is o f x y e e' = ap (λ o. o >>= f) e ∙ e'

abbrev some : {A : Type 0} → A → Option A
some x = Some x

pub some_is : {A : Type 0} (x y : A) → some x ≡ some y → x ≡ y
some_is x y e = cc

abbrev ok : {A E : Type 0} → A → Result A E
ok x = Ok x

pub ok_is : {A E : Type 0} (x y : A) → ok {A = A} {E = E} x ≡ ok y → x ≡ y
ok_is x y e = cc

pub if_some : {A : Type 0} (b : Bool) (o : Option A) (y : A) → (if b then o else None) ≡ Some y → (b ≡ true) × (o ≡ Some y)
if_some true o y e = (refl, e)
if_some false o y e = absurd cc

pub if_true : {A : Type 0} (b : Bool) (x y : A) → b ≡ true → (if b then x else y) ≡ x
if_true true x y e = refl
if_true false x y e = absurd cc

if_false : {A : Type 0} (b : Bool) (x y : A) → b ≡ false → (if b then x else y) ≡ y
if_false true x y e = absurd cc
if_false false x y e = refl

-- ---- words

pub behind_only : (word bytes rest : List ℕ) → behind word bytes ≡ Some rest → bytes ≡ word ++ rest
behind_only [] bytes rest e = some_is bytes rest e
behind_only (w ∷ word) [] rest e = absurd cc
behind_only (w ∷ word) (b ∷ bytes) rest e =
    let i = if_some (b == w) (behind word bytes) rest e in
    let same : b ≡ w = eqb-true b w i.0 in
    let more = behind_only word bytes rest i.1 in
    cc

pub behind_again : (word rest : List ℕ) → behind word (word ++ rest) ≡ Some rest
behind_again [] rest = refl
behind_again (w ∷ word) rest = rw (eq-eqb w w refl) (behind_again word rest)

-- ---- digits

is_digit-true : (b : ℕ) → 48 ≤ b → b ≤ 57 → is_digit b ≡ true
is_digit-true b low high = rw (le-leb 48 b low, le-leb b 57 high) refl

digit_range : (b : ℕ) → is_digit b ≡ true → (48 ≤ b) × (b ≤ 57)
digit_range b e = let a = both_true (nat_le 48 b) (nat_le b 57) e in (leb-true 48 b a.0, leb-true b 57 a.1)

one_digit : (n b : ℕ) → 0 < n → 48 ≤ b → b ≤ 57 → n * 10 + (b - 48) < 2 ^ 64 → decimal (n * 10 + (b - 48)) ≡ decimal n ++ b ∷ []
one_digit n b some low high lt =
    let m : ℕ = n * 10 + (b - 48) in
    let front : m / 10 ≡ n = omega arith in
    let end : 48 + m % 10 ≡ b = omega arith in
    decimal_step m (omega arith) lt ∙ (λ i. decimal (front i) ++ (end i ∷ []))

abbrev Found : (most n : ℕ) → List ℕ → ℕ × List ℕ → Type 0
Found most n bytes x = (digits : List ℕ) × (bytes ≡ digits ++ x.1) × (decimal x.0 ≡ decimal n ++ digits) × (x.0 ≤ most)

found_cases : (d fits : Bool) (most n b : ℕ) (bytes : List ℕ) (x : ℕ × List ℕ) → is_digit b ≡ d → nat_le (n * 10 + (b - 48)) most ≡ fits →
    (if d then if fits then digits_to most (n * 10 + (b - 48)) bytes else None else Some (n, b ∷ bytes)) ≡ Some x →
    0 < n → n ≤ most → most < 2 ^ 63 →
    (n * 10 + (b - 48) ≤ most → digits_to most (n * 10 + (b - 48)) bytes ≡ Some x → Found most (n * 10 + (b - 48)) bytes x) →
    Found most n (b ∷ bytes) x
found_cases true true most n b bytes x is-digit fits e some-n le lt more =
    let range = digit_range b is-digit in
    let within : n * 10 + (b - 48) ≤ most = leb-true _ _ fits in
    let r = more within e in (
      b ∷ r.0,
      ap (λ (t : List ℕ). b ∷ t) r.1,
      r.2 ∙ ap (λ t. t ++ r.0) (one_digit n b some-n range.0 range.1 (omega arith)) ∙ append_assoc (decimal n) (b ∷ []) r.0,
      r.3,
    )
found_cases true false most n b bytes x is-digit fits e some-n le lt more = absurd cc
found_cases false fits most n b bytes x is-digit fit e some-n le lt more =
    subst (Found most n (b ∷ bytes)) (some_is (n, b ∷ bytes) x e) ([], refl, sym (append-nil (decimal n)), le)

digits_only : (most n : ℕ) (bytes : List ℕ) (x : ℕ × List ℕ) → 0 < n → n ≤ most → most < 2 ^ 63 → digits_to most n bytes ≡ Some x → Found most n bytes x
digits_only most n [] x some-n le lt e = subst (Found most n []) (some_is (n, []) x e) ([], refl, sym (append-nil (decimal n)), le)
digits_only most n (b ∷ bytes) x some-n le lt e =
    found_cases (is_digit b) (nat_le (n * 10 + (b - 48)) most) most n b bytes x refl refl e some-n le lt
    (λ within e'. digits_only most (n * 10 + (b - 48)) bytes x (omega arith) within lt e')

abbrev IsNumber : (most : ℕ) → List ℕ → ℕ × List ℕ → Type 0
IsNumber most bytes x = (x.0 ≤ most) × (bytes ≡ decimal x.0 ++ x.1)

number_cases : (zero-first d : Bool) (most b : ℕ) (bytes : List ℕ) (x : ℕ × List ℕ) → (b == 48) ≡ zero-first → is_digit b ≡ d →
    (if zero-first then Some (0, bytes) else if d then digits_to most 0 (b ∷ bytes) else None) ≡ Some x → most < 2 ^ 63 → IsNumber most (b ∷ bytes) x
number_cases true d most b bytes x is-zero is-digit e lt =
    subst (IsNumber most (b ∷ bytes)) (some_is (0, bytes) x e)
    (omega arith, ap (λ c. c ∷ bytes) (eqb-true b 48 is-zero) ∙ ap (λ t. t ++ bytes) (sym (decimal_digit 0 (omega arith))))
number_cases false true most b bytes x is-zero is-digit e lt =
    let range = digit_range b is-digit in
    let next : Option (ℕ × List ℕ) = if nat_le (0 * 10 + (b - 48)) most then digits_to most (0 * 10 + (b - 48)) bytes else None in
    let j = if_some (nat_le (0 * 10 + (b - 48)) most) (digits_to most (0 * 10 + (b - 48)) bytes) x
    (sym (if_true (is_digit b) next (Some (0, b ∷ bytes)) is-digit) ∙ e) in
    let ne : b ≢ 48 = eqb-false b 48 is-zero in
    let f = digits_only most (0 * 10 + (b - 48)) bytes x (omega (arith, ne, range.0)) (leb-true _ _ j.0) lt j.1 in
    let one : decimal (0 * 10 + (b - 48)) ≡ b ∷ [] =
    decimal_digit (0 * 10 + (b - 48)) (omega (arith, range.1)) ∙ ap (λ c. c ∷ []) (omega (arith, range.0)) in
    (f.3, ap (λ (t : List ℕ). b ∷ t) f.1 ∙ ap (λ t. t ++ x.1) (sym (f.2 ∙ ap (λ t. t ++ f.0) one)))
number_cases false false most b bytes x is-zero is-digit e lt = absurd cc

pub number_to-only : (most : ℕ) (bytes : List ℕ) (x : ℕ × List ℕ) → number_to most bytes ≡ Some x → most < 2 ^ 63 → IsNumber most bytes x
number_to-only most [] x e lt = absurd cc
number_to-only most (b ∷ bytes) x e lt = number_cases (b == 48) (is_digit b) most b bytes x refl refl e lt

-- no digit comes next
abbrev pub IsStop : List ℕ → Type 0
IsStop [] = Unit {0}
IsStop (b ∷ bytes) = is_digit b ≡ false

digits_end : (most n : ℕ) (rest : List ℕ) → IsStop rest → digits_to most n rest ≡ Some (n, rest)
digits_end most n [] is = refl
digits_end most n (b ∷ bytes) is = rw is refl

digits_take : (most n b m : ℕ) (rest : List ℕ) → 48 ≤ b → b ≤ 57 → n * 10 + (b - 48) ≡ m → m ≤ most → digits_to most n (b ∷ rest) ≡ digits_to most m rest
digits_take most n b m rest low high is le = rw (is_digit-true b low high, is, le-leb m most le) refl

number_starts : (most n : ℕ) (rest : List ℕ) → 0 < n → n < 10 → n ≤ most → number_to most ((48 + n) ∷ rest) ≡ digits_to most n rest
number_starts most n rest some-n lt le =
    let digits : Option (ℕ × List ℕ) = digits_to most 0 ((48 + n) ∷ rest) in
    if_false ((48 + n) == 48) (Some (0, rest)) (if is_digit (48 + n) then digits else None) (ne_eqb (48 + n) 48 (omega arith))
    ∙ if_true (is_digit (48 + n)) digits None (is_digit-true (48 + n) (omega arith) (omega arith))
    ∙ digits_take most 0 (48 + n) n rest (omega arith) (omega arith) (omega arith) le

number_goes : (most n : ℕ) → n < 2 ^ 64 → 0 < n → n ≤ most → (rest : List ℕ) → number_to most (decimal n ++ rest) ≡ digits_to most n rest
number_goes most = decimal_by_steps (λ n digits. 0 < n → n ≤ most → (rest : List ℕ) → number_to most (digits ++ rest) ≡ digits_to most n rest)
    (λ n lt some-n le rest. number_starts most n rest some-n lt le)
    (λ n digits ten goes some-n le rest.
    ap (number_to most) (append_assoc digits ((48 + n % 10) ∷ []) rest) ∙ goes (omega arith) (omega arith) ((48 + n % 10) ∷ rest)
    ∙ digits_take most (n / 10) (48 + n % 10) n rest (omega arith) (omega arith) (omega arith) le)

pub number_to-again : (most n : ℕ) (rest : List ℕ) → n ≤ most → most < 2 ^ 63 → IsStop rest → number_to most (decimal n ++ rest) ≡ Some (n, rest)
number_to-again most zero rest le lt is = ap (λ t. number_to most (t ++ rest)) (decimal_digit 0 (omega arith))
number_to-again most (suc n) rest le lt is = number_goes most (suc n) (omega arith) (omega arith) le rest ∙ digits_end most (suc n) rest is

-- ---- numbers behind words

pub number-only : (word : List ℕ) (most : ℕ) (bytes : List ℕ) (x : ℕ × List ℕ) → number word most bytes ≡ Some x → most < 2 ^ 63 →
    (x.0 ≤ most) × (bytes ≡ word ++ (decimal x.0 ++ x.1))
number-only word most bytes x e lt =
    let b = bind_some (behind word bytes) (number_to most) x e in
    let n = number_to-only most b.0 x b.2 lt in
    (n.0, behind_only word bytes b.0 b.1 ∙ ap (λ t. word ++ t) n.1)

pub counted-only : (word : List ℕ) (most : ℕ) (bytes : List ℕ) (x : ℕ × List ℕ) → counted word most bytes ≡ Some x → most < 2 ^ 63 →
    (1 ≤ x.0) × (x.0 ≤ most) × (bytes ≡ word ++ (decimal x.0 ++ x.1))
counted-only word most bytes x e lt =
    let b = bind_some (number word most bytes) at_least_one x e in
    let i = if_some (nat_le 1 b.0.0) (Some b.0) x b.2 in
    let n = number-only word most bytes b.0 b.1 lt in
    subst (λ (y : ℕ × List ℕ). (1 ≤ y.0) × (y.0 ≤ most) × (bytes ≡ word ++ (decimal y.0 ++ y.1))) (some_is b.0 x i.1)
    (leb-true 1 b.0.0 i.0, n.0, n.1)

pub number-again : (word : List ℕ) (most n : ℕ) (rest : List ℕ) → n ≤ most → most < 2 ^ 63 → IsStop rest →
    number word most (word ++ (decimal n ++ rest)) ≡ Some (n, rest)
number-again word most n rest le lt is =
    bind_is (behind word (word ++ (decimal n ++ rest))) (number_to most) (decimal n ++ rest) (Some (n, rest)) (behind_again word (decimal n ++ rest)) (number_to-again most n rest le lt is)

pub counted-again : (word : List ℕ) (most n : ℕ) (rest : List ℕ) → 1 ≤ n → n ≤ most → most < 2 ^ 63 → IsStop rest →
    counted word most (word ++ (decimal n ++ rest)) ≡ Some (n, rest)
counted-again word most n rest some-n le lt is =
    bind_is (number word most (word ++ (decimal n ++ rest))) at_least_one (n, rest) (Some (n, rest)) (number-again word most n rest le lt is)
    (rw (le-leb 1 n some-n) refl)

-- ---- integers

abbrev IsInteger : List ℕ → ℤ × List ℕ → Type 0
IsInteger bytes x = IsWithinClamp x.0 × (bytes ≡ signed_decimal x.0 ++ x.1)

negative_is : (n : ℕ) (bytes rest : List ℕ) → 1 ≤ n → n ≤ largest_number → bytes ≡ decimal n ++ rest → IsInteger (45 ∷ bytes) (neg_ℤ (pos n), rest)
negative_is zero bytes rest some-n le e = absurd (omega arith)
negative_is (suc n) bytes rest some-n le e = ((record { le = le→leb n 999999999 (omega arith) }, record { le = tt }), ap (λ (t : List ℕ). 45 ∷ t) e)

integer_cases : (minus : Bool) (b : ℕ) (bytes : List ℕ) (x : ℤ × List ℕ) → (b == 45) ≡ minus →
    (if minus then number_to largest_number bytes >>= as_negative else number_to largest_number (b ∷ bytes) >>= as_positive) ≡ Some x → IsInteger (b ∷ bytes) x
integer_cases true b bytes x is e =
    let y = bind_some (number_to largest_number bytes) as_negative x e in
    let i = if_some (nat_le 1 y.0.0) (Some (neg_ℤ (pos y.0.0), y.0.1)) x y.2 in
    let n = number_to-only largest_number bytes y.0 y.1 (omega arith) in
    subst (IsInteger (b ∷ bytes)) (some_is (neg_ℤ (pos y.0.0), y.0.1) x i.1)
    (subst (λ c. IsInteger (c ∷ bytes) (neg_ℤ (pos y.0.0), y.0.1)) (sym (eqb-true b 45 is)) (negative_is y.0.0 bytes y.0.1 (leb-true 1 y.0.0 i.0) n.0 n.1))
integer_cases false b bytes x is e =
    let y = bind_some (number_to largest_number (b ∷ bytes)) as_positive x e in
    let n = number_to-only largest_number (b ∷ bytes) y.0 y.1 (omega arith) in
    subst (IsInteger (b ∷ bytes)) (some_is (pos y.0.0, y.0.1) x y.2) ((record { le = tt }, record { le = le→leb _ _ n.0 }), n.1)

integer_to-only : (bytes : List ℕ) (x : ℤ × List ℕ) → integer_to largest_number bytes ≡ Some x → IsInteger bytes x
integer_to-only [] x e = absurd cc
integer_to-only (b ∷ bytes) x e = integer_cases (b == 45) b bytes x refl e

pub integer-only : (word bytes : List ℕ) (x : ℤ × List ℕ) → integer word largest_number bytes ≡ Some x →
    IsWithinClamp x.0 × (bytes ≡ word ++ (signed_decimal x.0 ++ x.1))
integer-only word bytes x e =
    let b = bind_some (behind word bytes) (integer_to largest_number) x e in
    let n = integer_to-only b.0 x b.2 in
    (n.0, behind_only word bytes b.0 b.1 ∙ ap (λ t. word ++ t) n.1)

-- where a number is read, no `-` comes first
plain_cases : (minus : Bool) (most b : ℕ) (bytes : List ℕ) (x : ℕ × List ℕ) → (b == 45) ≡ minus → number_to most (b ∷ bytes) ≡ Some x →
    (if minus then number_to most bytes >>= as_negative else number_to most (b ∷ bytes) >>= as_positive) ≡ Some (pos x.0, x.1)
plain_cases true most b bytes x is e =
    let none : number_to most (b ∷ bytes) ≡ None = ap (λ c. number_to most (c ∷ bytes)) (eqb-true b 45 is) in
    absurd cc
plain_cases false most b bytes x is e = ap (λ o. o >>= as_positive) e

plain : (most : ℕ) (bytes : List ℕ) (x : ℕ × List ℕ) → number_to most bytes ≡ Some x → integer_to most bytes ≡ Some (pos x.0, x.1)
plain most [] x e = absurd cc
plain most (b ∷ bytes) x e = plain_cases (b == 45) most b bytes x refl e

integer_to-again : (z : ℤ) (rest : List ℕ) → IsWithinClamp z → IsStop rest → integer_to largest_number (signed_decimal z ++ rest) ≡ Some (z, rest)
integer_to-again (pos n) rest is stop =
    plain largest_number (decimal n ++ rest) (n, rest) (number_to-again largest_number n rest (leb→le n largest_number is.1.le) (omega arith) stop)
integer_to-again (negsuc n) rest is stop =
    bind_is (number_to largest_number (decimal (suc n) ++ rest)) as_negative (suc n, rest) (Some (negsuc n, rest))
    (number_to-again largest_number (suc n) rest (omega (arith, leb→le n 999999999 is.0.le)) (omega arith) stop)
    (if_true (nat_le 1 (suc n)) (Some (negsuc n, rest)) None (le-leb 1 (suc n) (omega arith)))

pub integer-again : (word : List ℕ) (z : ℤ) (rest : List ℕ) → IsWithinClamp z → IsStop rest →
    integer word largest_number (word ++ (signed_decimal z ++ rest)) ≡ Some (z, rest)
integer-again word z rest is stop =
    bind_is (behind word (word ++ (signed_decimal z ++ rest))) (integer_to largest_number) (signed_decimal z ++ rest) (Some (z, rest))
    (behind_again word (signed_decimal z ++ rest)) (integer_to-again z rest is stop)

pub last-only : {A : Type 0} (x : A) (bytes : List ℕ) (y : A) → last x bytes ≡ Some y → (x ≡ y) × (bytes ≡ [])
last-only x [] y e = (some_is x y e, refl)
last-only x (b ∷ bytes) y e = absurd cc

pub either : {A : Type 0} (a b : Option A) (y : A) → (a or_else b) ≡ Some y → (a ≡ Some y) ⊎ (b ≡ Some y)
either None b y e = inr e
either (Some x) b y e = inl e
