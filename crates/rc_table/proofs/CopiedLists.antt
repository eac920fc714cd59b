-- Lists that are copied one after another.
use Rattle.std.proofs.Common.{◌≡◌, ℕ, ◌+◌, ◌<◌, ◌≤◌, List, [], length, get_or, set, map, inl, inr, sym, ap, ◌∙◌, arith, length-set}
use Rattle.std.proofs.lemmas.Bool.{cases_eq, cases_lt}
use Rattle.std.proofs.lemmas.List.{get_or-set_same, get_or-set_other, get_or_past, length-map, ext_get_or}
use Rattle.rc_table.specs.RowsSeen.{list_in, AreRows}
use Rattle.rc_table.specs.declared.rows.Row.{Row}
use Rattle.rc_table.proofs.RowLemmas.{row_within, list_of_row, list_long}

-- the same rows show lists that are as long, whatever ids they show
pub as_long : (rows : List Row) (ids ids' : List ℕ) → AreRows rows 0 (length ids) → AreRows rows 0 (length ids') → (at : ℕ) →
    length (get_or (map (list_in ids) rows) at []) ≡ length (get_or (map (list_in ids') rows) at [])
as_long rows ids ids' are are' at = elim (cases_lt at (length rows)) [
  | inl within ↦
      let none : Row = record { from = 0; count = 0; room = 0 } in
      let row = get_or rows at none in
      ap length (list_of_row rows ids at none within) ∙ list_long ids row 0 (row_within rows 0 (length ids) are at none within)
      ∙ sym (ap length (list_of_row rows ids' at none within) ∙ list_long ids' row 0 (row_within rows 0 (length ids') are' at none within))
  | inr past ↦
      let long = length-map rows (list_in ids) in
      let long' = length-map rows (list_in ids') in
      ap length (get_or_past (map (list_in ids) rows) at [] (omega (arith, past, long)))
      ∙ sym (ap length (get_or_past (map (list_in ids') rows) at [] (omega (arith, past, long'))))
]

-- lists are as long as others, and up to a place the same
pub record AreCopied (at : ℕ) (lists others : List (List ℕ)) : Type 0 where
  pub each : length lists ≡ length others
  pub lengths : (k : ℕ) → length (get_or lists k []) ≡ length (get_or others k [])
  pub same : (k : ℕ) → k < at → get_or lists k [] ≡ get_or others k []

-- after one more
pub one_copied : (at : ℕ) (lists others lists' : List (List ℕ)) → at < length others → lists' ≡ set lists at (get_or others at []) →
    AreCopied at lists others → AreCopied (at + 1) lists' others
one_copied at lists others lists' within is copied =
    let list = get_or others at [] in
    let each = copied.each in
    let here : get_or lists' at [] ≡ list = ap (λ lists. get_or lists at []) is ∙ get_or-set_same lists at list [] (omega (arith, within, each)) in
    let there : (k : ℕ) → (k ≡ at → ⊥) → get_or lists' k [] ≡ get_or lists k [] =
    λ k other. ap (λ lists. get_or lists k []) is ∙ get_or-set_other lists at k list [] other in
    record {
      each = ap length is ∙ length-set lists at list ∙ each;
      lengths = λ k. elim (cases_eq k at) [
        | inl same ↦ ap (λ k. length (get_or lists' k [])) same ∙ ap length here ∙ ap (λ k. length (get_or others k [])) (sym same)
        | inr other ↦ ap length (there k other) ∙ copied.lengths k
      ];
      same = λ k less. elim (cases_eq k at) [
        | inl same ↦ ap (λ k. get_or lists' k []) same ∙ here ∙ ap (λ k. get_or others k []) (sym same)
        | inr other ↦ there k other ∙ copied.same k (omega (arith, less, other))
      ];
    }

-- and after all
pub all_copied : (at : ℕ) (lists others : List (List ℕ)) → length others ≤ at → AreCopied at lists others → lists ≡ others
all_copied at lists others all copied =
    let each = copied.each in
    ext_get_or [] lists others each (λ k less. copied.same k (omega (arith, less, each, all)))
