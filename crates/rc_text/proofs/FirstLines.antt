-- What is read of some bytes, with no LF on the way, is read of their first line.
use Rattle.std.proofs.Common.{◌≡◌, ℕ, ◌+◌, ◌*◌, ◌-◌, ◌<◌, ◌≤◌, nat_le, ◌==◌, Bool, true, false, if◌then◌else◌, List, []}
use Rattle.std.proofs.Common.{◌∷◌, ◌++◌, flat_map, length, codes, Option, Some, None, refl, sym, ap, ◌∙◌, subst}
use Rattle.std.proofs.Common.{append_assoc, length-append, arith, rules, ne_eqb, eqb-true, leb-true}
use Rattle.rc_base.specs.Limits.{most_items}
use Rattle.rc_base.specs.Literal.{is_digit}
use Rattle.rc_base.specs.Transcript.{Pick}
use Rattle.rc_play_spec.specs.Fields.{◌>>=◌, behind, digits_to, number_to, at_least_one, number, counted}
use Rattle.rc_play_spec.specs.HouseText.{IsOneLine}
use Rattle.rc_play_spec.specs.ItemBounds.{Bound}
use Rattle.rc_play_spec.specs.Lines.{Marked, chosen, chosen_in, told_in}
use Rattle.rc_play_spec.specs.Reading.{onto_line, lines_in}
use Rattle.rc_play_spec.proofs.Faces.{both_true}
use Rattle.rc_play_spec.proofs.FieldLemmas.{bind_some, bind_is, some_is, if_some, if_true, behind_only, behind_again}
use Rattle.rc_play_spec.proofs.LineCuts.{with_end_byte, joined}
use Rattle.rc_text.specs.Choices.{pick_in, IsFirstChoice}

abbrev Lines : Type 0
Lines = List (List ℕ)

abbrev Reader : Type 0 → Type 0
Reader A = List ℕ → Option (A × List ℕ)

-- What the reader reads, it reads of the first line too, and leaves of that what is the first line of what it left.
abbrev Along : {A : Type 0} → Reader A → Type 0
Along {A} f = (bytes : List ℕ) (x : A × List ℕ) (tail : List ℕ) (lines : Lines) (end : List ℕ) →
    f bytes ≡ Some x → lines_in x.1 ≡ (tail ∷ lines, end) →
    (line : List ℕ) × (lines_in bytes ≡ (line ∷ lines, end)) × (f line ≡ Some (x.0, tail))

along_bind : {A B : Type 0} (f : Reader A) (g : A → Reader B) → Along f → ((a : A) → Along (g a)) →
    Along (λ bytes. f bytes >>= λ x. g x.0 x.1)
along_bind f g first second bytes x tail lines end e cut =
    let steps = bind_some (f bytes) (λ y. g y.0 y.1) x e in
    let behind = second steps.0.0 steps.0.1 x tail lines end steps.2 cut in
    let before = first bytes steps.0 behind.0 lines end steps.1 behind.1 in (
      before.0,
      before.1,
      bind_is (f before.0) (λ y. g y.0 y.1) (steps.0.0, behind.0)
          (Some (x.0, tail)) before.2 behind.2,
    )

-- ---- words

word_cut : (word rest tail : List ℕ) (lines : Lines) (end : List ℕ) → IsOneLine word →
    lines_in rest ≡ (tail ∷ lines, end) →
    lines_in (word ++ rest) ≡ ((word ++ tail) ∷ lines, end)
word_cut [] rest tail lines end one cut = cut
word_cut (b ∷ word) rest tail lines end one cut =
    rw one.0 (ap (onto_line b) (word_cut word rest tail lines end one.1 cut))

-- ---- digits

-- the first line behind a byte that isn't LF
byte_cut : (b : ℕ) (bytes tail : List ℕ) (lines : Lines) (end : List ℕ) → (b == 10) ≡ false →
    lines_in bytes ≡ (tail ∷ lines, end) →
    lines_in (b ∷ bytes) ≡ ((b ∷ tail) ∷ lines, end)
byte_cut b bytes tail lines end other cut = word_cut (b ∷ []) bytes tail lines end (other, tt) cut

digit_other : (b : ℕ) → is_digit b ≡ true → (b == 10) ≡ false
digit_other b is =
    let low : 48 ≤ b = leb-true 48 b (both_true (nat_le 48 b) (nat_le b 57) is).0 in ne_eqb b 10 (omega (arith, low))

onto_stop : (most n b : ℕ) (cut : Lines × List ℕ) (tail : List ℕ) (lines : Lines) (end : List ℕ) → is_digit b ≡ false →
    onto_line b cut ≡ (tail ∷ lines, end) → digits_to most n tail ≡ Some (n, tail)
onto_stop most n b ([], rest) tail lines end is e =
    let none : [] ≡ tail ∷ lines = ap (λ (c : Lines × List ℕ). c.0) e in absurd cc
onto_stop most n b (line ∷ others, rest) tail lines end is e =
    let all : (b ∷ line) ∷ others ≡ tail ∷ lines = ap (λ (c : Lines × List ℕ). c.0) e in
    let same : b ∷ line ≡ tail = cc in
    subst (λ tail. digits_to most n tail ≡ Some (n, tail)) same (rw is refl)

-- behind the last digit none comes on the first line
stop_cases : (ends : Bool) (most n b : ℕ) (bytes tail : List ℕ) (lines : Lines) (end : List ℕ) → is_digit b ≡ false →
    (if ends then ([] ∷ (lines_in bytes).0, (lines_in bytes).1) else onto_line b (lines_in bytes))
    ≡ (tail ∷ lines, end) →
    digits_to most n tail ≡ Some (n, tail)
stop_cases true most n b bytes tail lines end is e =
    let all : [] ∷ (lines_in bytes).0 ≡ tail ∷ lines = ap (λ (c : Lines × List ℕ). c.0) e in
    let same : [] ≡ tail = cc in
    subst (λ tail. digits_to most n tail ≡ Some (n, tail)) same refl
stop_cases false most n b bytes tail lines end is e = onto_stop most n b (lines_in bytes) tail lines end is e

abbrev DigitsAlong : (most n : ℕ) (bytes : List ℕ) (x : ℕ × List ℕ) (tail : List ℕ) (lines : Lines) (end : List ℕ) →
    Type 0
DigitsAlong most n bytes x tail lines end =
    (line : List ℕ) × (lines_in bytes ≡ (line ∷ lines, end)) × (digits_to most n line ≡ Some (x.0, tail))

digits_cases : (d fits : Bool) (most n b : ℕ) (bytes : List ℕ) (x : ℕ × List ℕ) (tail : List ℕ) (lines : Lines)
    (end : List ℕ) →
    is_digit b ≡ d → nat_le (n * 10 + (b - 48)) most ≡ fits →
    (if d then if fits then digits_to most (n * 10 + (b - 48)) bytes else None else Some (n, b ∷ bytes)) ≡ Some x →
    lines_in x.1 ≡ (tail ∷ lines, end) →
    (digits_to most (n * 10 + (b - 48)) bytes ≡ Some x → DigitsAlong most (n * 10 + (b - 48)) bytes x tail lines end) →
    DigitsAlong most n (b ∷ bytes) x tail lines end
digits_cases true true most n b bytes x tail lines end is fits e cut more =
    let r = more e in (b ∷ r.0, byte_cut b bytes r.0 lines end (digit_other b is) r.1, rw (is, fits) r.2)
digits_cases true false most n b bytes x tail lines end is fits e cut more = absurd cc
digits_cases false fits most n b bytes x tail lines end is fit e cut more =
    let same : (n, b ∷ bytes) ≡ x = some_is (n, b ∷ bytes) x e in
    let here : lines_in (b ∷ bytes) ≡ (tail ∷ lines, end) = ap (λ (y : ℕ × List ℕ). lines_in y.1) same ∙ cut in (
      tail,
      here,
      stop_cases (b == 10) most n b bytes tail lines end is here
          ∙ ap (λ (y : ℕ × List ℕ). Some (y.0, tail)) same,
    )

digits_along : (most n : ℕ) → Along (digits_to most n)
digits_along most n [] x tail lines end e cut =
    let none : lines_in [] ≡ (tail ∷ lines, end) = ap (λ (y : ℕ × List ℕ). lines_in y.1) (some_is (n, []) x e) ∙ cut in
    let not : [] ≡ tail ∷ lines = ap (λ (c : Lines × List ℕ). c.0) none in absurd cc
digits_along most n (b ∷ bytes) x tail lines end e cut =
    digits_cases (is_digit b) (nat_le (n * 10 + (b - 48)) most) most n b bytes x tail lines end refl refl e cut
    (λ e'. digits_along most (n * 10 + (b - 48)) bytes x tail lines end e' cut)

-- ---- numbers

other_byte : (b : ℕ) (bytes : List ℕ) → (b == 10) ≡ false → lines_in (b ∷ bytes) ≡ onto_line b (lines_in bytes)
other_byte b bytes other = rw other refl

onto_head : (b : ℕ) (cut : Lines × List ℕ) (line : List ℕ) (lines : Lines) (end : List ℕ) →
    onto_line b cut ≡ (line ∷ lines, end) →
    (more : List ℕ) × (line ≡ b ∷ more)
onto_head b ([], rest) line lines end e = let none : [] ≡ line ∷ lines = ap (λ (c : Lines × List ℕ). c.0) e in absurd cc
onto_head b (first ∷ others, rest) line lines end e =
    let all : (b ∷ first) ∷ others ≡ line ∷ lines = ap (λ (c : Lines × List ℕ). c.0) e in
    let same : line ≡ b ∷ first = cc in (first, same)

abbrev NumberAlong : (most : ℕ) (bytes : List ℕ) (x : ℕ × List ℕ) (tail : List ℕ) (lines : Lines) (end : List ℕ) →
    Type 0
NumberAlong most bytes x tail lines end =
    (line : List ℕ) × (lines_in bytes ≡ (line ∷ lines, end)) × (number_to most line ≡ Some (x.0, tail))

-- the digits of a number that isn't 0
digits_read : (most b : ℕ) (bytes : List ℕ) (x : ℕ × List ℕ) (tail : List ℕ) (lines : Lines) (end : List ℕ) →
    (b == 48) ≡ false → is_digit b ≡ true →
    DigitsAlong most 0 (b ∷ bytes) x tail lines end → NumberAlong most (b ∷ bytes) x tail lines end
digits_read most b bytes x tail lines end other is r =
    let cut : onto_line b (lines_in bytes) ≡ (r.0 ∷ lines, end) = sym (other_byte b bytes (digit_other b is)) ∙ r.1 in
    let head = onto_head b (lines_in bytes) r.0 lines end cut in
    let reads : digits_to most 0 (b ∷ head.0) ≡ Some (x.0, tail) = ap (digits_to most 0) (sym head.1) ∙ r.2 in
    let number : number_to most (b ∷ head.0) ≡ digits_to most 0 (b ∷ head.0) = rw (other, is) refl in
    (r.0, r.1, ap (number_to most) head.1 ∙ number ∙ reads)

number_cases : (zero-first d : Bool) (most b : ℕ) (bytes : List ℕ) (x : ℕ × List ℕ) (tail : List ℕ) (lines : Lines)
    (end : List ℕ) →
    (b == 48) ≡ zero-first → is_digit b ≡ d →
    (if zero-first then Some (0, bytes) else if d then digits_to most 0 (b ∷ bytes) else None) ≡ Some x →
    lines_in x.1 ≡ (tail ∷ lines, end) → NumberAlong most (b ∷ bytes) x tail lines end
number_cases true d most b bytes x tail lines end is-zero is e cut =
    let same : (0, bytes) ≡ x = some_is (0, bytes) x e in
    let here : lines_in bytes ≡ (tail ∷ lines, end) = ap (λ (y : ℕ × List ℕ). lines_in y.1) same ∙ cut in
    let zero-byte : b ≡ 48 = eqb-true b 48 is-zero in (
      b ∷ tail,
      byte_cut b bytes tail lines end (ne_eqb b 10 (omega (arith, zero-byte))) here,
      if_true (b == 48) (Some (0, tail)) (if is_digit b then digits_to most 0 (b ∷ tail) else None) is-zero
          ∙ ap (λ (y : ℕ × List ℕ). Some (y.0, tail)) same,
    )
number_cases false true most b bytes x tail lines end other is e cut =
    digits_read most b bytes x tail lines end other is (digits_along most 0 (b ∷ bytes) x tail lines end e cut)
number_cases false false most b bytes x tail lines end other is e cut = absurd cc

number_to_along : (most : ℕ) → Along (number_to most)
number_to_along most [] x tail lines end e cut = absurd cc
number_to_along most (b ∷ bytes) x tail lines end e cut =
    number_cases (b == 48) (is_digit b) most b bytes x tail lines end refl refl e cut

number_along : (word : List ℕ) (most : ℕ) → IsOneLine word → Along (number word most)
number_along word most one bytes x tail lines end e cut =
    let steps = bind_some (behind word bytes) (number_to most) x e in
    let read = number_to_along most steps.0 x tail lines end steps.2 cut in (
      word ++ read.0,
      ap lines_in (behind_only word bytes steps.0 steps.1) ∙ word_cut word steps.0 read.0 lines end one read.1,
      bind_is (behind word (word ++ read.0)) (number_to most) read.0 (Some (x.0, tail))
          (behind_again word read.0) read.2,
    )

least_along : (n : ℕ) → Along (λ bytes. at_least_one (n, bytes))
least_along n bytes x tail lines end e cut =
    let some = if_some (nat_le 1 n) (Some (n, bytes)) x e in
    let same : (n, bytes) ≡ x = some_is (n, bytes) x some.1 in (
      tail,
      ap (λ (y : ℕ × List ℕ). lines_in y.1) same ∙ cut,
      if_true (nat_le 1 n) (Some (n, tail)) None some.0 ∙ ap (λ (y : ℕ × List ℕ). Some (y.0, tail)) same,
    )

counted_along : (word : List ℕ) (most : ℕ) → IsOneLine word → Along (counted word most)
counted_along word most one = along_bind (number word most) (λ n bytes. at_least_one (n, bytes))
    (number_along word most one) least_along

-- ---- choices

value_along : {A : Type 0} (a : A) → Along (λ bytes. Some (a, bytes))
value_along {A} a bytes x tail lines end e cut =
    let same : (a, bytes) ≡ x = some_is (a, bytes) x e in
    (tail, ap (λ (y : A × List ℕ). lines_in y.1) same ∙ cut, ap (λ (y : A × List ℕ). Some (y.0, tail)) same)

abbrev sized_by : (seat site item size : ℕ) → Pick
sized_by seat site item size = record { seat = seat; site = site; item = item; size = size }

abbrev sized : (seat site item : ℕ) → Reader Pick
sized seat site item bytes =
    counted (codes " ") most_items bytes >>= λ size. Some (sized_by seat site item size.0, size.1)

abbrev itemed : (seat site : ℕ) → Reader Pick
itemed seat site bytes = number (codes " ") 255 bytes >>= λ item. sized seat site item.0 item.1

abbrev sited : (seat : ℕ) → Reader Pick
sited seat bytes = number (codes " ") 63 bytes >>= λ site. itemed seat site.0 site.1

sized_along : (seat site item : ℕ) → Along (sized seat site item)
sized_along seat site item =
    along_bind (counted (codes " ") most_items) (λ size bytes. Some (sized_by seat site item size, bytes))
    (counted_along (codes " ") most_items (search rules)) (λ size. value_along (sized_by seat site item size))

pick_along : Along pick_in
pick_along =
    along_bind (number (codes "choose ") 7) sited (number_along (codes "choose ") 7 (search rules))
    (λ seat. along_bind (number (codes " ") 63) (itemed seat) (number_along (codes " ") 63 (search rules))
    (λ site. along_bind (number (codes " ") 255) (sized seat site) (number_along (codes " ") 255 (search rules))
    (sized_along seat site)))

bind_bind : {A B C : Type 0} (o : Option A) (f : A → Option B) (g : B → Option C) →
    ((o >>= f) >>= g) ≡ (o >>= λ x. f x >>= g)
bind_bind None f g = refl
bind_bind (Some x) f g = refl

-- what follows the numbers of a choice
abbrev pub with_told : (named : Bool) → Pick × List ℕ → Option Marked
with_told named x = told_in named x.1 >>= λ marks. Some (chosen x.0, marks)

pub chosen_by_parts : (named : Bool) (bytes : List ℕ) → chosen_in named bytes ≡ (pick_in bytes >>= with_told named)
chosen_by_parts named bytes =
    sym (bind_bind (number (codes "choose ") 7 bytes) (λ seat. sited seat.0 seat.1) (with_told named)
    ∙ (λ i. number (codes "choose ") 7 bytes >>= λ seat.
    (bind_bind (number (codes " ") 63 seat.1) (λ site. itemed seat.0 site.0 site.1) (with_told named)
    ∙ (λ i. number (codes " ") 63 seat.1 >>= λ site.
    (bind_bind (number (codes " ") 255 site.1) (λ item. sized seat.0 site.0 item.0 item.1) (with_told named)
    ∙ (λ i. number (codes " ") 255 site.1 >>= λ item.
    bind_bind (counted (codes " ") most_items item.1)
    (λ size. Some (record { seat = seat.0; site = site.0; item = item.0; size = size.0 }, size.1))
    (with_told named) i)) i)) i))

-- a choice whose numbers and marks are read is the first line's
pub choice_first : (named : Bool) (bytes rest tail later : List ℕ) (p : Pick) (marks : Option (List Bound)) →
    pick_in bytes ≡ Some (p, rest) →
    lines_in rest ≡ (tail ∷ (lines_in later).0, (lines_in later).1) → told_in named tail ≡ Some marks →
    IsFirstChoice named bytes (chosen p, marks) later
choice_first named bytes rest tail later p marks e cut told =
    let read = pick_along bytes (p, rest) tail (lines_in later).0 (lines_in later).1 e cut in (
      read.0,
      read.1,
      chosen_by_parts named read.0 ∙ bind_is (pick_in read.0) (with_told named) (p, tail)
          (Some (chosen p, marks)) read.2
          (bind_is (told_in named tail) (λ marks. Some (chosen p, marks)) marks (Some (chosen p, marks)) told refl),
    )

-- the bytes behind the first line are fewer
pub first_shorter : (bytes line later : List ℕ) → lines_in bytes ≡ (line ∷ (lines_in later).0, (lines_in later).1) →
    length later < length bytes
first_shorter bytes line later cut =
    let all : bytes ≡ with_end_byte line ++ later =
    sym (joined bytes) ∙ ap (λ (c : Lines × List ℕ). flat_map with_end_byte c.0 ++ c.1) cut
    ∙ append_assoc (with_end_byte line) (flat_map with_end_byte (lines_in later).0) (lines_in later).1
    ∙ ap (λ t. with_end_byte line ++ t) (joined later) in
    let long : length bytes ≡ length line + 1 + length later =
    ap length all ∙ length-append (with_end_byte line) later ∙ ap (λ n. n + length later)
    (length-append line (10 ∷ [])) in
    omega (arith, long)
