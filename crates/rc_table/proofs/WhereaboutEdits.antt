-- What is noted of where each card stands, after an edit.
use Rattle.std.proofs.Common.{◌≡◌, ℕ, ◌+◌, ◌<◌, ◌≤◌, ◌==◌, min, List, [], ◌++◌, length, get_or, set, remove, take, drop, ◌⊎◌, inl, inr, sym, ap, ◌∙◌, subst, arith, length-set, append-nil}
use Rattle.std.specs.Prelude.{All}
use Rattle.std.specs.List.{insert}
use Rattle.std.proofs.lemmas.Bool.{cases_eq, cases_lt, cond-true}
use Rattle.std.proofs.lemmas.Bool.Decides.{Decides-eqb}
use Rattle.std.proofs.lemmas.List.{get_or-set_same, get_or-set_other, get_or_past, take_all, drop_all}
use Rattle.std.proofs.lemmas.List.Edits.{get_or-insert_below, get_or-remove_below}
use Rattle.std.proofs.lemmas.Option.{slice_get_within}
use Rattle.rc_play_spec.specs.Shape.{Shape}
use Rattle.rc_play_spec.specs.Table.{Table, IsSound, list_at, place_of, with_list}
use Rattle.rc_play_spec.specs.Bound.{HoldsCards, HoldsReferences}
use Rattle.rc_table.specs.Shape.{IsShape}
use Rattle.rc_table.specs.Restored.{put_at, taken_at, moved_between, relisted}
use Rattle.rc_table.specs.Rows.{Lists}
use Rattle.rc_table.specs.Whereabouts.{whereabouts, noted_in}
use Rattle.rc_table.proofs.Held.{few_in_list}
use Rattle.rc_table.proofs.PutBack.{insert_min}
use Rattle.rc_table.proofs.WhereaboutLemmas.{nowhere, other_kind, stands, stands_there, all_cards, noted_of, noted_all, all_noted, IsBehind, noted_right, length-noted_in}

-- what stands at a place stood there before
abbrev pub Stays : List (List ℕ) → List (List ℕ) → ℕ → ℕ → Type 0
Stays lists lists' l p = (p < length (get_or lists l [])) × (get_or (get_or lists l []) p 0 ≡ get_or (get_or lists' l []) p 0)

-- another list in one location
pub other_stays : (lists : List (List ℕ)) (loc : ℕ) (new : List ℕ) (l p : ℕ) → (l ≡ loc → ⊥) → p < length (get_or (set lists loc new) l []) → Stays lists (set lists loc new) l p
other_stays lists loc new l p other less =
    let same = get_or-set_other lists loc l new [] other in (subst (λ xs. p < length xs) same less, sym (ap (λ xs. get_or xs p 0) same))

-- another list in a location, which is the same below a place
set_stays : (lists : List (List ℕ)) (loc : ℕ) (new : List ℕ) (cut : ℕ) → loc < length lists →
    ((p : ℕ) → p < cut → (p < length (get_or lists loc [])) × (get_or (get_or lists loc []) p 0 ≡ get_or new p 0)) →
    (l p : ℕ) → (l ≡ loc → p < cut) → p < length (get_or (set lists loc new) l []) → Stays lists (set lists loc new) l p
set_stays lists loc new cut within below l p before less = elim (cases_eq l loc) [
  | inl same ↦
      let is = ap (λ n. get_or (set lists loc new) n []) same ∙ get_or-set_same lists loc new [] within in
      let h = below p (before same) in (
        subst (λ n. p < length (get_or lists n [])) (sym same) h.0,
        ap (λ n. get_or (get_or lists n []) p 0) same ∙ h.1 ∙ ap (λ xs. get_or xs p 0) (sym is),
      )
  | inr other ↦ other_stays lists loc new l p other less
]

-- what is taken out at a place and put in at another
pub moved_stays : (lists : List (List ℕ)) (from at to place id : ℕ) → from < length lists → to < length lists → at < length (get_or lists from []) →
    let taken = set lists from (remove (get_or lists from []) at) in
    place ≤ length (get_or taken to []) →
    (l p : ℕ) → (l ≡ from → p < at) → (l ≡ to → p < place) →
    p < length (get_or (set taken to (insert (get_or taken to []) place id)) l []) → Stays lists (set taken to (insert (get_or taken to []) place id)) l p
moved_stays lists from at to place id within within' there top l p before before' less =
    let old = get_or lists from [] in
    let taken = set lists from (remove old at) in
    let long = length-set lists from (remove old at) in
    let second = set_stays taken to (insert (get_or taken to []) place id) place (omega (arith, within', long))
    (λ p less. (omega (arith, less, top), sym (get_or-insert_below (get_or taken to []) place id 0 p less top))) l p before' less in
    let first = set_stays lists from (remove old at) at within
    (λ p less. (omega (arith, less, there), sym (get_or-remove_below old at 0 p less there))) l p before second.0 in
    (first.0, first.1 ∙ second.1)

either_behind : (loc from : ℕ) (at : ℕ × ℕ) → IsBehind loc from at ⊎ (at.0 ≡ loc → at.1 < from)
either_behind loc from at = elim (cases_eq at.0 loc) [
  | inl same ↦ elim (cases_lt at.1 from) [
    | inl before ↦ inr (λ same. before)
    | inr behind ↦ inl (same, behind)
  ]
  | inr other ↦ inr (λ same. absurd (other same))
]

module _ (shape : Shape) (table table' : Table) (sound : IsSound shape table) (sound' : IsSound shape table') where
  abbrev StaysAt : ℕ → ℕ → Type 0
  StaysAt l p = Stays table.lists table'.lists l p

  same_place : (id : ℕ) → id < length shape.faces → (let at = place_of shape table' id in StaysAt at.0 at.1) → place_of shape table id ≡ place_of shape table' id
  same_place id card stay =
      let at = place_of shape table' id in
      let s = stands shape table' sound' id card in
      ap (place_of shape table) (sym (stay.1 ∙ s.2)) ∙ stands_there shape table sound at.0 at.1 s.0 stay.0

  -- where two locations are noted, each from a place on
  pub noted_twice : (from at to place : ℕ) →
      ((l p : ℕ) → HoldsCards shape l → (l ≡ from → p < at) → (l ≡ to → p < place) → p < length (list_at table' l) → StaysAt l p) →
      noted_in shape table'.lists to place (noted_in shape table'.lists from at (whereabouts shape table)) ≡ whereabouts shape table'
  noted_twice from at to place stay =
      let first = noted_in shape table'.lists from at (whereabouts shape table) in
      let long = noted_all shape table in
      let long-first = length-noted_in shape table'.lists from at (whereabouts shape table) ∙ long in
      all_noted shape table' (noted_in shape table'.lists to place first) (length-noted_in shape table'.lists to place first ∙ long-first)
      (λ id card.
      let here = place_of shape table' id in
      let s = stands shape table' sound' id card in
      noted_right shape table' sound' to place first id card long-first
      (elim (either_behind to place here) [
        | inl behind ↦ inr behind
        | inr before' ↦ inl (noted_right shape table' sound' from at (whereabouts shape table) id card long
            (elim (either_behind from at here) [
              | inl behind ↦ inr behind
              | inr before ↦ inl (noted_of shape table id card ∙ same_place id card (stay here.0 here.1 s.0 before before' s.1))
            ]))
      ]))

  -- where one is noted whole
  pub noted_once : (loc : ℕ) → ((l p : ℕ) → HoldsCards shape l → (l ≡ loc → ⊥) → p < length (list_at table' l) → StaysAt l p) →
      noted_in shape table'.lists loc 0 (whereabouts shape table) ≡ whereabouts shape table'
  noted_once loc stay =
      let long = noted_all shape table in
      all_noted shape table' (noted_in shape table'.lists loc 0 (whereabouts shape table)) (length-noted_in shape table'.lists loc 0 (whereabouts shape table) ∙ long)
      (λ id card.
      let here = place_of shape table' id in
      let s = stands shape table' sound' id card in
      noted_right shape table' sound' loc 0 (whereabouts shape table) id card long
      (elim (either_behind loc 0 here) [
        | inl behind ↦ inr behind
        | inr before ↦ inl (noted_of shape table id card ∙ same_place id card (stay here.0 here.1 s.0 (λ same. let none = before same in absurd (omega (arith, none))) s.1))
      ]))

  -- where none need be noted
  pub noted_never : ((l p : ℕ) → HoldsCards shape l → p < length (list_at table' l) → StaysAt l p) → whereabouts shape table ≡ whereabouts shape table'
  noted_never stay =
      all_noted shape table' (whereabouts shape table) (noted_all shape table)
      (λ id card.
      let here = place_of shape table' id in
      let s = stands shape table' sound' id card in
      noted_of shape table id card ∙ same_place id card (stay here.0 here.1 s.0 s.1))

-- other references
pub references_stay : (shape : Shape) (lists : List (List ℕ)) (loc : ℕ) (new : List ℕ) → HoldsReferences shape loc →
    (l p : ℕ) → HoldsCards shape l → p < length (get_or (set lists loc new) l []) → Stays lists (set lists loc new) l p
references_stay shape lists loc new mem l p cards = other_stays lists loc new l p (other_kind shape l loc cards mem)

-- where a row more is noted
pub row_noted : (shape : Shape) (table : Table) → IsSound shape table → (stand stand' : List (ℕ × ℕ)) (loc : ℕ) → length stand ≡ length shape.faces →
    stand' ≡ noted_in shape table.lists loc 0 stand →
    ((id : ℕ) → id < length shape.faces → (place_of shape table id).0 < loc → get_or stand id nowhere ≡ place_of shape table id) →
    (length stand' ≡ length shape.faces)
    × ((id : ℕ) → id < length shape.faces → (place_of shape table id).0 < loc + 1 → get_or stand' id nowhere ≡ place_of shape table id)
row_noted shape table sound stand stand' loc long is right = (
  ap length is ∙ length-noted_in shape table.lists loc 0 stand ∙ long,
  λ id card less.
      let here = place_of shape table id in
      ap (λ stand. get_or stand id nowhere) is
      ∙ noted_right shape table sound loc 0 stand id card long
      (elim (cases_lt here.0 loc) [
        | inl before ↦ inl (right id card before)
        | inr past ↦ inr (let same : here.0 ≡ loc = omega (arith, past, less) in same, omega arith)
      ]),
)

-- every row is noted
pub rows_noted : (shape : Shape) (table : Table) → IsSound shape table → (stand : List (ℕ × ℕ)) (count : ℕ) → length shape.places ≤ count →
    length stand ≡ length shape.faces →
    ((id : ℕ) → id < length shape.faces → (place_of shape table id).0 < count → get_or stand id nowhere ≡ place_of shape table id) →
    stand ≡ whereabouts shape table
rows_noted shape table sound stand count all long right =
    all_noted shape table stand long (λ id card.
    let cards = (stands shape table sound id card).0 in
    let within = slice_get_within shape.places (place_of shape table id).0 cards.0 cards.1 in
    right id card (omega (arith, within, all)))

-- what a Vec has after a whole list of its length was written over it
pub refilled : {X : Type 0} (len : ℕ) (xs ws : List X) → len ≡ length xs → length ws ≡ length xs → take len (ws ++ drop (length ws) xs) ≡ ws
refilled len xs ws is same =
    ap (λ ys. take len (ws ++ ys)) (drop_all (length ws) xs (omega (arith, same))) ∙ ap (take len) (append-nil ws) ∙ take_all len ws (omega (arith, is, same))

-- what a note asks for
pub can_note : (shape : Shape) (table : Table) → IsSound shape table → IsShape shape → (lists : List (List ℕ)) (stand : List (ℕ × ℕ)) (loc : ℕ) →
    lists ≡ table.lists → length stand ≡ length shape.faces →
    All (λ id. id < length stand) (get_or lists loc []) × (length (get_or lists loc []) ≤ 512)
can_note shape table sound limits lists stand loc is long =
    let few = few_in_list shape table sound limits loc in
    let same = ap (λ lists. length (get_or lists loc [])) is in (
      subst (λ n. All (λ id. id < n) (get_or lists loc [])) (sym long)
          (subst (λ lists. All (λ id. id < length shape.faces) (get_or lists loc [])) (sym is) (all_cards shape table sound loc)),
      omega (arith, few, same),
    )

-- the lists when what is at a place went to another, at most on top
pub moved_lists : (table : Table) (from at to place top : ℕ) (room : List ℕ) (taken put : Lists) (list other : List ℕ) → list ≡ list_at table from →
    taken ≡ record { all = set table.lists from (remove (list_at table from) at); room = room } → other ≡ get_or taken.all to [] →
    top ≡ min place (length other) → put ≡ record { all = set taken.all to (insert (get_or taken.all to []) top (get_or list at 0)); room = taken.room } →
    put.all ≡ (moved_between from at to place table).lists
moved_lists table from at to place top room taken put list other list_is taken_is other_is top_is put_is =
    ap (λ (lists : Lists). lists.all) put_is
    ∙ ap (λ n. set taken.all to (insert (get_or taken.all to []) n (get_or list at 0))) (top_is ∙ ap (λ xs. min place (length xs)) other_is)
    ∙ ap (set taken.all to) (insert_min (get_or taken.all to []) place (get_or list at 0))
    ∙ ap (λ (lists : Lists). set lists.all to (insert (get_or lists.all to []) place (get_or list at 0))) taken_is
    ∙ ap (λ xs. (put_at (get_or xs at 0) to place (taken_at from at table)).lists) list_is

pub moved_top : (table : Table) (from at to place top : ℕ) (room : List ℕ) (taken : Lists) (other : List ℕ) →
    taken ≡ record { all = set table.lists from (remove (list_at table from) at); room = room } → other ≡ get_or taken.all to [] →
    top ≡ min place (length other) → top ≡ min place (length (list_at (taken_at from at table) to))
moved_top table from at to place top room taken other taken_is other_is top_is =
    top_is ∙ ap (λ xs. min place (length xs)) (other_is ∙ ap (λ (lists : Lists). get_or lists.all to []) taken_is)

-- after what is at a place went to another
pub moved_noted : (shape : Shape) (table : Table) → IsSound shape table → (from at to place top : ℕ) (lists : List (List ℕ)) (stand stand' : List (ℕ × ℕ)) →
    IsSound shape (moved_between from at to place table) → at < length (list_at table from) → to < length shape.places →
    top ≡ min place (length (list_at (taken_at from at table) to)) → lists ≡ (moved_between from at to place table).lists →
    stand ≡ whereabouts shape table → stand' ≡ noted_in shape lists to top (noted_in shape lists from at stand) →
    stand' ≡ whereabouts shape (moved_between from at to place table)
moved_noted shape table sound from at to place top lists stand stand' sound' there within top_is lists_are stand_is is =
    let old = list_at table from in
    let id = get_or old at 0 in
    let taken = set table.lists from (remove old at) in
    let list = get_or taken to [] in
    let count = sound.locations in
    let some : from < length table.lists = elim (cases_lt from (length table.lists)) [
      | inl less ↦ less
      | inr past ↦ let none = ap length (get_or_past table.lists from [] past) in absurd (omega (arith, none, there))
    ] in
    let same : set taken to (insert list top id) ≡ set taken to (insert list place id) =
    ap (λ n. set taken to (insert list n id)) top_is ∙ ap (set taken to) (insert_min list place id) in
    is ∙ ap (λ stand. noted_in shape lists to top (noted_in shape lists from at stand)) stand_is
    ∙ ap (λ lists. noted_in shape lists to top (noted_in shape lists from at (whereabouts shape table))) lists_are
    ∙ noted_twice shape table (moved_between from at to place table) sound sound' from at to top
    (λ l p cards before before' less.
    subst (λ lists. Stays table.lists lists l p) same
    (moved_stays table.lists from at to top id some (omega (arith, within, count)) there (omega (arith, top_is)) l p before before'
    (subst (λ lists. p < length (get_or lists l [])) (sym same) less)))

-- after a location got another list
pub listed_noted : (shape : Shape) (table : Table) → IsSound shape table → (loc : ℕ) (list : List ℕ) (lists : List (List ℕ)) (stand stand' : List (ℕ × ℕ)) →
    IsSound shape (with_list table loc list) → lists ≡ set table.lists loc list → stand ≡ whereabouts shape table →
    stand' ≡ noted_in shape lists loc 0 stand → stand' ≡ whereabouts shape (with_list table loc list)
listed_noted shape table sound loc list lists stand stand' sound' lists_are stand_is is =
    is ∙ ap (noted_in shape lists loc 0) stand_is ∙ ap (λ lists. noted_in shape lists loc 0 (whereabouts shape table)) lists_are
    ∙ noted_once shape table (with_list table loc list) sound sound' loc (λ l p cards other less. other_stays table.lists loc list l p other less)

-- and other references
pub references_noted : (shape : Shape) (table : Table) → IsSound shape table → (loc : ℕ) (list : List ℕ) → HoldsReferences shape loc →
    IsSound shape (with_list table loc list) → whereabouts shape table ≡ whereabouts shape (with_list table loc list)
references_noted shape table sound loc list mem sound' =
    noted_never shape table (with_list table loc list) sound sound' (references_stay shape table.lists loc list mem)

-- where a list is put in place of one as long, in a sound table
pub relisted_sound : (shape : Shape) (table : Table) (loc : ℕ) (list : List ℕ) → length list ≡ length (list_at table loc) →
    IsSound shape (relisted loc list table) → IsSound shape (with_list table loc list)
relisted_sound shape table loc list same =
    subst (IsSound shape)
    (cond-true (length list == length (list_at table loc)) (with_list table loc list) table ((Decides-eqb (length list) (length (list_at table loc))).1 same))
