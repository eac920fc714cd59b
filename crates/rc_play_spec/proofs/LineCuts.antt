-- Lines cut at each LF, and texts joined of lines.
use Rattle.std.proofs.Common.{◌≡◌, ℕ, suc, Some, None, ◌+◌, ◌%◌, ◌^◌, ◌<◌, ◌==◌, Bool, true, false, if◌then◌else◌, List, [], ◌∷◌, ◌++◌, map, flat_map, ℤ, pos, negsuc, codes, decimal, refl, sym, ap, ◌∙◌, append_assoc, append-nil, arith, rules, ne_eqb, eqb-true, leb→le}
use Rattle.std.specs.Fmt.{signed_decimal}
use Rattle.std.specs.List.{AllByRecursion}
use Rattle.std.proofs.lemmas.Fmt.{decimal_by_steps}
use Rattle.rc_base.specs.Clamp.{IsWithinClamp, largest_number}
use Rattle.rc_base.specs.Transcript.{done, limit}
use Rattle.rc_play_spec.specs.ItemBounds.{Bound, player, card, group}
use Rattle.rc_play_spec.specs.Bounds.{mark_text, IsMark}
use Rattle.rc_play_spec.specs.Lines.{Line, opening, chosen, shuffled, ending, scored, ranked, line_text, IsInRange, Marked, marked_text, HasMarks, IsMarkedInRange}
use Rattle.rc_play_spec.specs.HouseText.{IsOneLine, ended_text}
use Rattle.rc_play_spec.specs.LineGrammar.{onto_line, lines_in}

abbrev pub with_end_byte : List ℕ → List ℕ
with_end_byte line = line ++ 10 ∷ []

pub cut_line : (line rest : List ℕ) → IsOneLine line → lines_in (line ++ 10 ∷ rest) ≡ (line ∷ (lines_in rest).0, (lines_in rest).1)
cut_line [] rest is = refl
cut_line (b ∷ line) rest is = rw is.0 (ap (onto_line b) (cut_line line rest is.1))

joined_onto : (b : ℕ) (cut : List (List ℕ) × List ℕ) →
    flat_map with_end_byte (onto_line b cut).0 ++ (onto_line b cut).1 ≡ b ∷ (flat_map with_end_byte cut.0 ++ cut.1)
joined_onto b ([], rest) = refl
joined_onto b (line ∷ lines, rest) = refl

joined_case : (ends : Bool) (b : ℕ) (bytes : List ℕ) → (b == 10) ≡ ends → flat_map with_end_byte (lines_in bytes).0 ++ (lines_in bytes).1 ≡ bytes →
    let cut = if ends then ([] ∷ (lines_in bytes).0, (lines_in bytes).1) else onto_line b (lines_in bytes) in
    flat_map with_end_byte cut.0 ++ cut.1 ≡ b ∷ bytes
joined_case true b bytes is e = ap (λ (t : List ℕ). 10 ∷ t) e ∙ ap (λ c. c ∷ bytes) (sym (eqb-true b 10 is))
joined_case false b bytes is e = joined_onto b (lines_in bytes) ∙ ap (λ (t : List ℕ). b ∷ t) e

pub joined : (bytes : List ℕ) → flat_map with_end_byte (lines_in bytes).0 ++ (lines_in bytes).1 ≡ bytes
joined [] = refl
joined (b ∷ bytes) = joined_case (b == 10) b bytes refl (joined bytes)

-- ---- what is cut, and what is joined, of lines without LF

onto_one : (b : ℕ) (cut : List (List ℕ) × List ℕ) → (b == 10) ≡ false → AllByRecursion IsOneLine cut.0 → AllByRecursion IsOneLine (onto_line b cut).0
onto_one b ([], rest) ne all = tt
onto_one b (line ∷ lines, rest) ne all = ((ne, all.0), all.1)

one_case : (ends : Bool) (b : ℕ) (bytes : List ℕ) → (b == 10) ≡ ends → AllByRecursion IsOneLine (lines_in bytes).0 →
    AllByRecursion IsOneLine (if ends then ([] ∷ (lines_in bytes).0, (lines_in bytes).1) else onto_line b (lines_in bytes)).0
one_case true b bytes is all = (tt, all)
one_case false b bytes is all = onto_one b (lines_in bytes) is all

pub lines_one : (bytes : List ℕ) → AllByRecursion IsOneLine (lines_in bytes).0
lines_one [] = tt
lines_one (b ∷ bytes) = one_case (b == 10) b bytes refl (lines_one bytes)

pub joined_cut : (lines : List (List ℕ)) (rest : List ℕ) → AllByRecursion IsOneLine lines →
    lines_in (flat_map with_end_byte lines ++ rest) ≡ (lines ++ (lines_in rest).0, (lines_in rest).1)
joined_cut [] rest all = refl
joined_cut (line ∷ lines) rest all =
    ap lines_in (append_assoc (with_end_byte line) (flat_map with_end_byte lines) rest ∙ append_assoc line (10 ∷ []) (flat_map with_end_byte lines ++ rest))
    ∙ cut_line line (flat_map with_end_byte lines ++ rest) all.0
    ∙ ap (λ (cut : List (List ℕ) × List ℕ). (line ∷ cut.0, cut.1)) (joined_cut lines rest all.1)

pub cut_lines : (lines : List (List ℕ)) → AllByRecursion IsOneLine lines → lines_in (flat_map with_end_byte lines) ≡ (lines, [])
cut_lines lines all =
    ap lines_in (sym (append-nil (flat_map with_end_byte lines))) ∙ joined_cut lines [] all ∙ ap (λ lines. (lines, [])) (append-nil lines)

-- ---- the text of a line has none

pub IsOneLine-append : (a b : List ℕ) → IsOneLine a → IsOneLine b → IsOneLine (a ++ b)
IsOneLine-append [] b is is' = is'
IsOneLine-append (x ∷ a) b is is' = (is.0, IsOneLine-append a b is.1 is')

pub digits_one : (n : ℕ) → n < 2 ^ 64 → IsOneLine (decimal n)
digits_one = decimal_by_steps (λ n digits. IsOneLine digits) (λ n lt. (ne_eqb (48 + n) 10 (omega arith), tt))
    (λ n digits ten is. IsOneLine-append digits ((48 + n % 10) ∷ []) is (ne_eqb (48 + n % 10) 10 (omega arith), tt))

pub signed_one : (z : ℤ) → IsWithinClamp z → IsOneLine (signed_decimal z)
signed_one (pos n) is = digits_one n (omega (arith, leb→le n largest_number is.1.le))
signed_one (negsuc n) is = (refl, digits_one (suc n) (omega (arith, leb→le n 999999999 is.0.le)))

-- a number behind a word, and more behind both
pub part : (word : List ℕ) (n : ℕ) → IsOneLine word → n < 2 ^ 64 → IsOneLine (word ++ decimal n)
part word n is lt = IsOneLine-append word (decimal n) is (digits_one n lt)

pub more : (word : List ℕ) (n : ℕ) (rest : List ℕ) → IsOneLine word → n < 2 ^ 64 → IsOneLine rest → IsOneLine (word ++ (decimal n ++ rest))
more word n rest is lt is' = IsOneLine-append word (decimal n ++ rest) is (IsOneLine-append (decimal n) rest (digits_one n lt) is')

text_one : (l : Line) → IsInRange l → IsOneLine (line_text l)
text_one (opening n deal seats) is =
    more (codes "match ") n _ (search rules) (omega (arith, is.0)) (more (codes " deal ") deal _ (search rules) (omega (arith, is.1))
    (part (codes " seats ") seats (search rules) (omega (arith, is.2))))
text_one (chosen p) is =
    more (codes "choose ") p.seat _ (search rules) (omega (arith, is.0)) (more (codes " ") p.site _ (search rules) (omega (arith, is.1))
    (more (codes " ") p.item _ (search rules) (omega (arith, is.2)) (part (codes " ") p.size (search rules) (omega (arith, is.4)))))
text_one (shuffled n) is = part (codes "shuffles ") n (search rules) (omega (arith, is.1))
text_one (ending done n) is = part (codes "end done ") n (search rules) (omega (arith, is))
text_one (ending limit n) is = part (codes "end limit ") n (search rules) (omega (arith, is))
text_one (scored s) is =
    more (codes "score ") s.player _ (search rules) (omega (arith, is.0))
    (IsOneLine-append (codes " ") _ (search rules) (IsOneLine-append (signed_decimal s.score) _ (signed_one s.score is.1)
    (part (codes " ") s.points (search rules) (omega (arith, is.2)))))
text_one (ranked s) is =
    more (codes "standing ") s.place _ (search rules) (omega (arith, is.1)) (more (codes " strategy ") s.strategy _ (search rules) (omega (arith, is.2))
    (part (codes " points ") s.points (search rules) (omega (arith, is.3))))

mark_one : (m : Bound) → IsMark m → IsOneLine (mark_text m)
mark_one (player n) is = part (codes " p") n (search rules) (omega (arith, is))
mark_one (card f) is = part (codes " c") f (search rules) (omega (arith, is))
mark_one (group f) is = part (codes " g") f (search rules) (omega (arith, is))

marks_one : (marks : List Bound) → AllByRecursion IsMark marks → IsOneLine (flat_map mark_text marks)
marks_one [] all = tt
marks_one (m ∷ marks) all = IsOneLine-append (mark_text m) (flat_map mark_text marks) (mark_one m all.0) (marks_one marks all.1)

some_marks : (named : Bool) (l : Line) (marks : List Bound) → HasMarks named l (Some marks) → AllByRecursion IsMark marks
some_marks false (chosen p) marks is = absurd is
some_marks true (chosen p) marks is = is.1
some_marks named (opening n deal seats) marks is = absurd is
some_marks named (shuffled n) marks is = absurd is
some_marks named (ending e turn) marks is = absurd is
some_marks named (scored s) marks is = absurd is
some_marks named (ranked s) marks is = absurd is

marked_one : (named : Bool) (m : Marked) → IsMarkedInRange named m → IsOneLine (marked_text m)
marked_one named (l, None) is = text_one l is.0
marked_one named (l, Some marks) is =
    IsOneLine-append (line_text l) (flat_map mark_text marks) (text_one l is.0) (marks_one marks (some_marks named l marks is.1))

pub texts_one : (named : Bool) (ms : List Marked) → AllByRecursion (IsMarkedInRange named) ms → AllByRecursion IsOneLine (map marked_text ms)
texts_one named [] all = tt
texts_one named (m ∷ ms) all = (marked_one named m all.0, texts_one named ms all.1)

pub joined_texts : (ms : List Marked) → flat_map with_end_byte (map marked_text ms) ≡ flat_map ended_text ms
joined_texts [] = refl
joined_texts (m ∷ ms) = ap (λ t. with_end_byte (marked_text m) ++ t) (joined_texts ms)
