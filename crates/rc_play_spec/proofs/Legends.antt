-- The lines of a legend have no LF.
use Rattle.std.proofs.Common.{◌≡◌, ℕ, zero, suc, ◌+◌, ◌<◌, ◌≤◌, ◌==◌, Bool, true, false, List, [], ◌∷◌, map, flat_map, filter, length, codes, decimal, refl, sym, ap, ◌∙◌, subst, arith, rules, eqb-true}
use Rattle.std.specs.List.{AllByRecursion, list_all, range_with_len}
use Rattle.rc_base.specs.Token.{is_part}
use Rattle.rc_base.specs.Transcript.{line}
use Rattle.rc_sheet_spec.specs.Sheet.{Sheet}
use Rattle.rc_sheet_spec.specs.WellFormed.{is_atom, is_plain_word, HasWords}
use Rattle.rc_play_spec.specs.Shape.{Shape, face_at, face_number}
use Rattle.std.proofs.lemmas.Bool.{cond-true, cond-false}
use Rattle.rc_base.specs.Numbers.{below}
use Rattle.rc_play_spec.proofs.CardLemmas.{get_each}
use Rattle.rc_play_spec.proofs.Faces.{both_true}
use Rattle.rc_play_spec.specs.HouseText.{IsOneLine}
use Rattle.rc_play_spec.specs.Naming.{word_at, pair_text, face_line, face_numbers, legend_of}
use Rattle.rc_play_spec.specs.LineGrammar.{lines_in}
use Rattle.rc_play_spec.proofs.LineCuts.{IsOneLine-append, digits_one, cut_lines}

part_case : (ends : Bool) (b : ℕ) → (b == 10) ≡ ends → is_part b ≡ true → (b == 10) ≡ false
part_case false b is part = is
part_case true b is part = let no : is_part 10 ≡ true = ap is_part (sym (eqb-true b 10 is)) ∙ part in absurd cc

word_one : (w : List ℕ) → list_all is_part w ≡ true → IsOneLine w
word_one [] e = tt
word_one (b ∷ w) e = let parts = both_true (is_part b) (list_all is_part w) e in (part_case (b == 10) b refl parts.0, word_one w parts.1)

words_one : (ws : List (List ℕ)) → list_all is_plain_word ws ≡ true → AllByRecursion IsOneLine ws
words_one [] e = tt
words_one (w ∷ ws) e =
    let parts = both_true (is_plain_word w) (list_all is_plain_word ws) e in
    let word = both_true (is_atom w) _ parts.0 in
    let atom = both_true _ (list_all is_part w) word.0 in
    (word_one w atom.1, words_one ws parts.1)

module _ (sheet : Sheet) (words : HasWords sheet) where
  word_at_one : (ws : List (List ℕ)) (n : ℕ) → list_all is_plain_word ws ≡ true → IsOneLine (word_at ws n)
  word_at_one ws n e = get_each IsOneLine [] tt ws n (words_one ws e)

  pairs_one : (face : List (ℕ × ℕ)) → IsOneLine (flat_map (pair_text sheet) face)
  pairs_one [] = tt
  pairs_one (pair ∷ face) =
      IsOneLine-append (pair_text sheet pair) (flat_map (pair_text sheet) face)
      (IsOneLine-append (codes " ") _ (search rules) (IsOneLine-append (word_at sheet.names.attrs pair.0) _ (word_at_one sheet.names.attrs pair.0 words.attrs)
      (IsOneLine-append (codes " ") _ (search rules) (word_at_one sheet.names.values pair.1 words.values))))
      (pairs_one face)

  face_one : (shape : Shape) (n : ℕ) → n < 512 → IsOneLine (face_line sheet shape n)
  face_one shape n lt =
      IsOneLine-append (codes "face ") _ (search rules) (IsOneLine-append (decimal n) _ (digits_one n (omega (arith, lt))) (pairs_one (face_at shape n)))

  faces_one : (shape : Shape) (ns : List ℕ) → AllByRecursion (λ n. n < 512) ns → AllByRecursion IsOneLine (map (face_line sheet shape) ns)
  faces_one shape [] all = tt
  faces_one shape (n ∷ ns) all = (face_one shape n all.0, faces_one shape ns all.1)

kept_one : (keeps : ℕ → Bool) (n : ℕ) (ns : List ℕ) (b : Bool) → keeps n ≡ b → n < 512 → AllByRecursion (λ n. n < 512) (filter keeps ns) →
    AllByRecursion (λ n. n < 512) (filter keeps (n ∷ ns))
kept_one keeps n ns true e lt all = subst (AllByRecursion (λ n. n < 512)) (sym (cond-true (keeps n) (n ∷ filter keeps ns) (filter keeps ns) e)) (lt, all)
kept_one keeps n ns false e lt all = subst (AllByRecursion (λ n. n < 512)) (sym (cond-false (keeps n) (n ∷ filter keeps ns) (filter keeps ns) e)) all

kept_below : (keeps : ℕ → Bool) (ns : List ℕ) → AllByRecursion (λ n. n < 512) ns → AllByRecursion (λ n. n < 512) (filter keeps ns)
kept_below keeps [] all = tt
kept_below keeps (n ∷ ns) all = kept_one keeps n ns (keeps n) refl all.0 (kept_below keeps ns all.1)

numbers_few : (a n : ℕ) → a + n ≤ 512 → AllByRecursion (λ n. n < 512) (range_with_len a n)
numbers_few a zero le = tt
numbers_few a (suc n) le = (omega (arith, le), numbers_few (a + 1) n (omega (arith, le)))

pub legend_one : (sheet : Sheet) (shape : Shape) → HasWords sheet → length shape.faces ≤ 512 → AllByRecursion IsOneLine (legend_of sheet shape)
legend_one sheet shape words few =
    faces_one sheet words shape (face_numbers shape)
    (kept_below (λ id. face_number shape id == id) (below (length shape.faces)) (numbers_few 0 (length shape.faces) (omega (arith, few))))

pub legend_cut : (sheet : Sheet) (shape : Shape) → HasWords sheet → length shape.faces ≤ 512 → lines_in (flat_map line (legend_of sheet shape)) ≡ (legend_of sheet shape, [])
legend_cut sheet shape words few = cut_lines (legend_of sheet shape) (legend_one sheet shape words few)
