-- Other lists in two locations.
use Rattle.std.proofs.Common.{◌≡◌, ℕ, ◌<◌, ◌≤◌, List, [], length, get_or, set, refl, sym, ap, ◌∙◌, subst, arith, length-set}
use Rattle.std.proofs.lemmas.List.{get_or-set_same, get_or-set_other}
use Rattle.rc_play_spec.specs.Shape.{Shape}
use Rattle.rc_play_spec.specs.Table.{Table, IsSound, with_list}
use Rattle.rc_table.specs.Shape.{IsShape}
use Rattle.rc_table.specs.Laid.{rooms}
use Rattle.rc_table.specs.Whereabouts.{whereabouts, noted_in}
use Rattle.rc_table.proofs.Held.{list_fits}
use Rattle.rc_table.proofs.WhereaboutEdits.{Stays, other_stays, noted_twice}

-- where two locations get other lists, each of them is noted whole
pub both_noted : (shape : Shape) (table : Table) → IsSound shape table → (from : ℕ) (list : List ℕ) (to : ℕ) (other : List ℕ) (table' : Table) →
    IsSound shape table' → table'.lists ≡ set (set table.lists from list) to other → (lists : List (List ℕ)) (stand stand' : List (ℕ × ℕ)) →
    lists ≡ table'.lists → stand ≡ whereabouts shape table → stand' ≡ noted_in shape lists to 0 (noted_in shape lists from 0 stand) →
    stand' ≡ whereabouts shape table'
both_noted shape table sound from list to other table' after new lists stand stand' lists_are stand_is is =
    is ∙ ap (λ stand. noted_in shape lists to 0 (noted_in shape lists from 0 stand)) stand_is
    ∙ ap (λ lists. noted_in shape lists to 0 (noted_in shape lists from 0 (whereabouts shape table))) lists_are
    ∙ noted_twice shape table table' sound after from 0 to 0
    (λ l p cards before before' less.
    let never : l ≡ to → ⊥ = λ e. let none = before' e in omega (arith, none) in
    let never' : l ≡ from → ⊥ = λ e. let none = before e in omega (arith, none) in
    subst (λ lists. Stays table.lists lists l p) (sym new)
    (let second = other_stays (set table.lists from list) to other l p never (subst (λ lists. p < length (get_or lists l [])) new less) in
    let first = other_stays table.lists from list l p never' second.0 in
    (first.0, first.1 ∙ second.1)))

module _ (shape : Shape) (table : Table) (limits : IsShape shape) (sound : IsSound shape table) (from : ℕ) (list : List ℕ) (to : ℕ) (other : List ℕ)
    (within : from < length shape.places) (within' : to < length shape.places) (apart : from ≡ to → ⊥)
    (after : IsSound shape (with_list (with_list table from list) to other)) where
  abbrev both : Table
  both = with_list (with_list table from list) to other

  pub first_there : from < length table.lists
  first_there = let count = sound.locations in omega (arith, within, count)

  pub second_there : to < length (set table.lists from list)
  second_there = let count = sound.locations in let long = length-set table.lists from list in omega (arith, within', count, long)

  pub first_fits : length list ≤ get_or (rooms shape) from 0
  first_fits =
      let most = list_fits shape both after limits from within in
      let here = ap length (get_or-set_other (set table.lists from list) to from other [] apart ∙ get_or-set_same table.lists from list [] first_there) in
      omega (arith, most, here)

  pub second_fits : length other ≤ get_or (rooms shape) to 0
  second_fits =
      let most = list_fits shape both after limits to within' in
      let here = ap length (get_or-set_same (set table.lists from list) to other [] second_there) in
      omega (arith, most, here)

  pub two_noted : (lists : List (List ℕ)) (stand stand' : List (ℕ × ℕ)) → lists ≡ both.lists → stand ≡ whereabouts shape table →
      stand' ≡ noted_in shape lists to 0 (noted_in shape lists from 0 stand) → stand' ≡ whereabouts shape both
  two_noted = both_noted shape table sound from list to other both after refl
