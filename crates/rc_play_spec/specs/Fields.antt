-- The parts of a line: words that stand for themselves, and numbers in their one spelling.
use Rattle.std.specs.Prelude.{ℕ, ◌+◌, ◌*◌, ◌-◌, ◌==◌, nat_le, if◌then◌else◌, List, [], ◌∷◌, ℤ, pos, neg_ℤ, Option, Some, None}
use Rattle.rc_base.specs.Literal.{is_digit}

-- what follows a step that found something
infixl 10 ◌>>=◌
abbrev pub ◌>>=◌ : {A B : Type 0} → Option A → (A → Option B) → Option B
None >>= f = None
(Some x) >>= f = f x

-- the bytes behind a word
abbrev pub behind : List ℕ → List ℕ → Option (List ℕ)
behind [] bytes = Some bytes
behind (w ∷ word) [] = None
behind (w ∷ word) (b ∷ bytes) = if b == w then behind word bytes else None

-- The number of the digits that come next, as they follow those of n, and the bytes behind them; nothing where it passes `most`.
abbrev pub digits_to : (most n : ℕ) → List ℕ → Option (ℕ × List ℕ)
digits_to most n [] = Some (n, [])
digits_to most n (b ∷ bytes) =
    if is_digit b then if nat_le (n * 10 + (b - 48)) most then digits_to most (n * 10 + (b - 48)) bytes else None
    else Some (n, b ∷ bytes)

-- A number of at most `most` in its one spelling: behind a `0` no further digit belongs to it.
abbrev pub number_to : (most : ℕ) → List ℕ → Option (ℕ × List ℕ)
number_to most [] = None
number_to most (b ∷ bytes) =
    if b == 48 then Some (0, bytes) else if is_digit b then digits_to most 0 (b ∷ bytes) else None

-- a number of at least 1
abbrev pub at_least_one : ℕ × List ℕ → Option (ℕ × List ℕ)
at_least_one x = if nat_le 1 x.0 then Some x else None

abbrev pub as_positive : ℕ × List ℕ → Option (ℤ × List ℕ)
as_positive x = Some (pos x.0, x.1)

abbrev pub as_negative : ℕ × List ℕ → Option (ℤ × List ℕ)
as_negative x = if nat_le 1 x.0 then Some (neg_ℤ (pos x.0), x.1) else None

-- a number with `-` before it where it is below 0
abbrev pub integer_to : (most : ℕ) → List ℕ → Option (ℤ × List ℕ)
integer_to most [] = None
integer_to most (b ∷ bytes) =
    if b == 45 then number_to most bytes >>= as_negative else number_to most (b ∷ bytes) >>= as_positive

-- the same behind a word
abbrev pub number : List ℕ → (most : ℕ) → List ℕ → Option (ℕ × List ℕ)
number word most bytes = behind word bytes >>= number_to most

abbrev pub counted : List ℕ → (most : ℕ) → List ℕ → Option (ℕ × List ℕ)
counted word most bytes = number word most bytes >>= at_least_one

abbrev pub integer : List ℕ → (most : ℕ) → List ℕ → Option (ℤ × List ℕ)
integer word most bytes = behind word bytes >>= integer_to most

-- where nothing follows
abbrev pub last : {A : Type 0} → A → List ℕ → Option A
last x [] = Some x
last x (b ∷ bytes) = None

-- the first of two that is something
infixl 9 ◌or_else◌
abbrev pub ◌or_else◌ : {A : Type 0} → Option A → Option A → Option A
None or_else y = y
(Some x) or_else y = Some x
