-- Edits that are taken back leave the table that was there.
use Rattle.std.proofs.Common.{◌≡◌, ◌≢◌, ℕ, zero, suc, ◌-◌, ◌<◌, ◌≤◌, ◌==◌, nat_lt, Bool, true, false, if◌then◌else◌, List, [], ◌∷◌, ◌++◌, length, map, reverse, inl, inr, refl, sym, ap, ◌∙◌, subst, arith}
use Rattle.std.specs.Prelude.{slice_index, remove, All, ℤ}
use Rattle.std.specs.List.{insert}
use Rattle.std.proofs.lemmas.Bool.{cond-true, lt-ltb, eq-eqb, cases_lt}
use Rattle.std.proofs.lemmas.Bool.Decides.{Decides-eqb}
use Rattle.std.proofs.lemmas.List.Edits.{length-remove}
use Rattle.std.proofs.lemmas.List.{set-set, set-get_or, get_or-set_same, get_or-set_other, get_or_past, length-set, length-map, map-append, reverse-append}
use Rattle.rc_play_spec.specs.Shape.{Shape}
use Rattle.rc_play_spec.specs.Bound.{HoldsCards, HoldsReferences}
use Rattle.rc_play_spec.proofs.FoundLemmas.{found, index_found}
use Rattle.std.proofs.lemmas.Option.{slice_get_within}
use Rattle.rc_play_spec.specs.Table.{Table, loc_of, list_at, with_list, number_at, set_number, place_of, put_top, put_bottom, onto, under, without, has_room, remember_top, remember_bottom, taken, reorder, marks_of, set_marks, cleared}
use Rattle.rc_play_spec.specs.Sees.{sees}
use Rattle.rc_play_spec.proofs.SoundLemmas.{cleared_sound}
use Rattle.rc_play_spec.proofs.ShownLemmas.{marked-unseen}
use Rattle.rc_table.specs.Marks.{seats_in}
use Rattle.rc_table.specs.Restored.{put_at, taken_at, moved_between, relisted}
use Rattle.rc_play_spec.specs.Table.{IsSound}
use Rattle.rc_undo.specs.Undo.{Edit, moved, changed, marked, noted, forgotten, marked_as, marked_again, undone, before_of, IsEditOf, MayMark, LeadsThrough, CanUndo}
use Rattle.rc_undo.specs.Entry.{entry_seen, log_seen}
use Rattle.rc_undo.specs.declared.entry.LogEntry.{LogEntry}

-- LISTS

insert_back : (xs : List ℕ) (i y : ℕ) → i < length xs → slice_index xs i ≡ y → insert (remove xs i) i y ≡ xs
insert_back [] i y lt is = absurd (omega (arith, lt))
insert_back (x ∷ xs) zero y lt is = ap (λ z. z ∷ xs) (sym is)
insert_back (x ∷ xs) (suc i) y lt is = ap (λ rest. x ∷ rest) (insert_back xs i y (omega (arith, lt)) is)

remove_last : (xs : List ℕ) (y : ℕ) → remove (xs ++ y ∷ []) (length xs) ≡ xs
remove_last [] y = refl
remove_last (x ∷ xs) y = ap (λ rest. x ∷ rest) (remove_last xs y)

last_is : (xs : List ℕ) (y : ℕ) → slice_index (xs ++ y ∷ []) (length xs) ≡ y
last_is [] y = refl
last_is (x ∷ xs) y = last_is xs y

longer : (xs : List ℕ) (y : ℕ) → length xs < length (xs ++ y ∷ [])
longer [] y = omega arith
longer (x ∷ xs) y = let more = longer xs y in omega (arith, more)

-- TABLES

with_with : (t : Table) (l : ℕ) (xs ys : List ℕ) → with_list (with_list t l xs) l ys ≡ with_list t l ys
with_with t l xs ys = ap (λ lists. record { lists = lists; numbers = t.numbers; marks = t.marks }) (set-set t.lists l xs ys)

with_same : (t : Table) (l : ℕ) → with_list t l (list_at t l) ≡ t
with_same t l = ap (λ lists. record { lists = lists; numbers = t.numbers; marks = t.marks }) (set-get_or t.lists l [])

list_with : (t : Table) (l : ℕ) (xs : List ℕ) → l < length t.lists → list_at (with_list t l xs) l ≡ xs
list_with t l xs lt = get_or-set_same t.lists l xs [] lt

-- a card put back into its place
back_in_place : (t : Table) (id from place : ℕ) → from < length t.lists → place < length (list_at t from) → slice_index (list_at t from) place ≡ id →
    put_at id from place (taken_at from place t) ≡ t
back_in_place t id from place lt within is =
    let list = list_at t from in
    ap (λ xs. with_list (taken_at from place t) from (insert xs place id)) (list_with t from (remove list place) lt)
    ∙ ap (with_list (taken_at from place t) from) (insert_back list place id within is)
    ∙ with_with t from (remove list place) list
    ∙ with_same t from

-- MARKS

-- a card whose marks were taken gets them back
again_back : (t : Table) (id byte : ℕ) → seats_in byte ≡ marks_of t.marks id → marked_again id byte (set_marks id [] t) ≡ t
again_back t id byte is = at (byte == 0) refl where
  same : set_marks id (marks_of t.marks id) t ≡ t
  same = ap (λ marks. record { lists = t.lists; numbers = t.numbers; marks = marks }) (set-get_or t.marks id [])

  at : (b : Bool) → (byte == 0) ≡ b → (if b then set_marks id [] t else marked_as id byte (set_marks id [] t)) ≡ t
  at true zero_is =
      let none : byte ≡ 0 = (Decides-eqb byte 0).0 zero_is in
      let no_seats : [] ≡ seats_in 0 = refl in
      ap (λ seats. set_marks id seats t) (no_seats ∙ ap seats_in (sym none) ∙ is) ∙ same
  at false other =
      ap (λ marks. record { lists = t.lists; numbers = t.numbers; marks = marks }) (set-set t.marks id [] (seats_in byte))
      ∙ ap (λ seats. set_marks id seats t) is ∙ same

-- and other marks go, too
pub marks_back : (t : Table) (id byte : ℕ) (seats : List ℕ) → seats_in byte ≡ marks_of t.marks id → undone (marked id byte) (set_marks id seats t) ≡ t
marks_back t id byte seats is =
    ap (λ marks. record { lists = t.lists; numbers = t.numbers; marks = marks }) (set-set t.marks id seats (seats_in byte))
    ∙ ap (λ seats. set_marks id seats t) is
    ∙ ap (λ marks. record { lists = t.lists; numbers = t.numbers; marks = marks }) (set-get_or t.marks id [])

-- what a card is marked for it may be marked for
pub may_mark : (shape : Shape) (t : Table) (id byte : ℕ) → IsSound shape t → id < length shape.faces → seats_in byte ≡ marks_of t.marks id → MayMark shape t id byte
may_mark shape t id byte sound card is =
    let unseen = marked-unseen shape t id sound card in (
      card,
      subst (All (λ seat. seat < shape.players)) (sym is) unseen.0.within,
      subst (All (λ seat. sees shape seat (loc_of shape t id) ≡ false)) (sym is) unseen.1,
    )

module _ (t : Table) (id from place to : ℕ) where
  abbrev out : Table
  out = taken_at from place t

  abbrev left : List ℕ
  left = list_at out to

  -- the card stands there, and comes back from there
  abbrev Comes : (loc at : ℕ) → Table → Type 0
  Comes loc at there =
      (nat_lt at (length (list_at there loc)) ≡ true) × (slice_index (list_at there loc) at ≡ id) × (moved_between loc at from place there ≡ t)

  -- where it was put on top of a location
  pub from_top : from < length t.lists → to < length t.lists → place < length (list_at t from) → slice_index (list_at t from) place ≡ id →
      Comes to (length left) (with_list out to (left ++ id ∷ []))
  from_top lt lt' within is =
      let there = with_list out to (left ++ id ∷ []) in
      let longs = length-set t.lists from (remove (list_at t from) place) in
      let here = list_with out to (left ++ id ∷ []) (omega (arith, lt', longs)) in
      let less = subst (λ xs. length left < length xs) (sym here) (longer left id) in
      let back : taken_at to (length left) there ≡ out = ap (λ xs. with_list there to (remove xs (length left))) here
      ∙ ap (with_list there to) (remove_last left id) ∙ with_with out to (left ++ id ∷ []) left ∙ with_same out to in
      let who : slice_index (list_at there to) (length left) ≡ id = ap (λ xs. slice_index xs (length left)) here ∙ last_is left id in (
        lt-ltb _ _ less,
        who,
        ap (put_at (slice_index (list_at there to) (length left)) from place) back
            ∙ ap (λ i. put_at i from place out) who
            ∙ back_in_place t id from place lt within is,
      )

  -- and at its bottom
  pub from_bottom : from < length t.lists → to < length t.lists → place < length (list_at t from) → slice_index (list_at t from) place ≡ id →
      Comes to 0 (with_list out to (id ∷ left))
  from_bottom lt lt' within is =
      let there = with_list out to (id ∷ left) in
      let longs = length-set t.lists from (remove (list_at t from) place) in
      let here = list_with out to (id ∷ left) (omega (arith, lt', longs)) in
      let some : 0 < length (id ∷ left) = omega arith in
      let less = subst (λ xs. 0 < length xs) (sym here) some in
      let back : taken_at to 0 there ≡ out = ap (λ xs. with_list there to (remove xs 0)) here
      ∙ with_with out to (id ∷ left) left ∙ with_same out to in
      let who : slice_index (list_at there to) 0 ≡ id = ap (λ xs. slice_index xs 0) here in (
        lt-ltb _ _ less,
        who,
        ap (put_at (slice_index (list_at there to) 0) from place) back
            ∙ ap (λ i. put_at i from place out) who
            ∙ back_in_place t id from place lt within is,
      )

-- a number that gets its value back
pub number_back : (t : Table) (num : ℕ) (value : ℤ) → undone (changed num (number_at t num)) (set_number num value t) ≡ t
number_back t num value =
    ap (λ numbers. record { lists = t.lists; numbers = numbers; marks = t.marks }) (set-set t.numbers num value (number_at t num) ∙ set-get_or t.numbers num _)

-- where an edit was noted that takes the table back
pub noted_can : (shape : Shape) (before after : List Edit) (e : Edit) (t t' : Table) → after ≡ e ∷ before → undone e t' ≡ t → IsEditOf shape e × LeadsThrough shape e t' →
    IsSound shape t → CanUndo shape before t → CanUndo shape after t'
noted_can shape before after e t t' more back is sound can =
    subst (λ edits. CanUndo shape edits t') (sym more)
    (is, subst (IsSound shape) (sym back) sound, subst (CanUndo shape before) (sym back) can)

-- where a card is, by what is known of a sound table
pub where_it_is : (shape : Shape) (t : Table) (id : ℕ) → IsSound shape t → id < length shape.faces →
    let at = place_of shape t id in
    (at.0 < length t.lists) × (at.0 < length shape.places) × (at.1 < length (list_at t at.0)) × (slice_index (list_at t at.0) at.1 ≡ id)
where_it_is shape t id sound card =
    let one = sound.once id card in
    let f = found id shape.places t.lists (omega (arith, one)) in
    let i = index_found id (list_at t (loc_of shape t id)) f.5 in
    (f.2, f.1, i.0, i.1)

-- a card that was put somewhere else comes back with its marks
abbrev pub ComesBack : Shape → Edit → (now old : Table) → Type 0
ComesBack shape e now old = (undone e now ≡ old) × LeadsThrough shape e now

comes_back : (shape : Shape) (t there : Table) (id from place to at byte : ℕ) → IsSound shape t → id < length shape.faces → seats_in byte ≡ marks_of t.marks id →
    Comes t id from place to to at there → ComesBack shape (moved from place to at byte) (set_marks id [] there) t
comes_back shape t there id from place to at byte sound card is comes =
    let now = set_marks id [] there in
    let bare : moved_between to at from place now ≡ set_marks id [] t = ap (set_marks id []) comes.2 in
    let who : slice_index (list_at now to) at ≡ id = comes.1 in
    let free : IsSound shape (set_marks id [] t) = cleared_sound shape t (id ∷ []) sound in
    let may : MayMark shape (set_marks id [] t) id byte = may_mark shape t id byte sound card is in (
      cond-true (nat_lt at (length (list_at now to))) _ _ comes.0
          ∙ ap (λ i. marked_again i byte (moved_between to at from place now)) who
          ∙ ap (marked_again id byte) bare
          ∙ again_back t id byte is,
      λ on. (
        subst (IsSound shape) (sym bare) free,
        subst (λ i. MayMark shape (moved_between to at from place now) i byte) (sym who) (subst (λ (u : Table). MayMark shape u id byte) (sym bare) may),
      ),
    )

pub top_back : (shape : Shape) (t : Table) (id loc byte : ℕ) → IsSound shape t → id < length shape.faces → HoldsCards shape loc → seats_in byte ≡ marks_of t.marks id →
    (at : ℕ × ℕ) (n : ℕ) → at ≡ place_of shape t id → n ≡ length (list_at (taken_at at.0 at.1 t) loc) →
    ComesBack shape (moved at.0 at.1 loc n byte) (put_top shape id loc t) t
top_back shape t id loc byte sound card holds marks at n is long =
    let w = where_it_is shape t id sound card in
    let within = slice_get_within shape.places loc holds.0 holds.1 in
    let same = sound.locations in
    let now = put_top shape id loc t in
    let p = place_of shape t id in
    subst (λ n. ComesBack shape (moved at.0 at.1 loc n byte) now t) (sym long)
    (subst (λ (at : ℕ × ℕ). ComesBack shape (moved at.0 at.1 loc (length (list_at (taken_at at.0 at.1 t) loc)) byte) now t) (sym is)
    (comes_back shape t (onto id loc (without shape id t)) id p.0 p.1 loc (length (list_at (taken_at p.0 p.1 t) loc)) byte sound card marks
    (from_top t id p.0 p.1 loc w.0 (omega (arith, within, same)) w.2 w.3)))

pub bottom_back : (shape : Shape) (t : Table) (id loc byte : ℕ) → IsSound shape t → id < length shape.faces → HoldsCards shape loc → seats_in byte ≡ marks_of t.marks id →
    (at : ℕ × ℕ) → at ≡ place_of shape t id → ComesBack shape (moved at.0 at.1 loc 0 byte) (put_bottom shape id loc t) t
bottom_back shape t id loc byte sound card holds marks at is =
    let w = where_it_is shape t id sound card in
    let within = slice_get_within shape.places loc holds.0 holds.1 in
    let same = sound.locations in
    let now = put_bottom shape id loc t in
    let p = place_of shape t id in
    subst (λ (at : ℕ × ℕ). ComesBack shape (moved at.0 at.1 loc 0 byte) now t) (sym is)
    (comes_back shape t (under id loc (without shape id t)) id p.0 p.1 loc 0 byte sound card marks
    (from_bottom t id p.0 p.1 loc w.0 (omega (arith, within, same)) w.2 w.3))

pub from_there : (shape : Shape) (t : Table) (id : ℕ) (at : ℕ × ℕ) → IsSound shape t → id < length shape.faces → at ≡ place_of shape t id →
    at.0 < length shape.places
from_there shape t id at sound card is =
    subst (λ (at : ℕ × ℕ). at.0 < length shape.places) (sym is) (where_it_is shape t id sound card).1

-- how long a location is without what is at a place
pub one_shorter : (t : Table) (from place loc : ℕ) → place < length (list_at t from) → from ≡ loc →
    length (list_at t loc) - 1 ≡ length (list_at (taken_at from place t) loc)
one_shorter t from place loc there same = elim (cases_lt from (length t.lists)) [
  | inl within ↦
      let list = list_at t from in
      let one = length-remove list place there in
      let left = ap length (list_with t from (remove list place) within) in
      let here = ap (λ l. length (list_at t l)) (sym same) in
      let there' = ap (λ l. length (list_at (taken_at from place t) l)) (sym same) in
      omega (arith, one, left, here, there')
  | inr past ↦ let none = ap length (get_or_past t.lists from [] past) in absurd (omega (arith, none, there))
]

pub as_long : (t : Table) (from place loc : ℕ) → from ≢ loc → length (list_at t loc) ≡ length (list_at (taken_at from place t) loc)
as_long t from place loc other = sym (ap length (get_or-set_other t.lists from loc (remove (list_at t from) place) [] (λ same. other (sym same))))

pub some_there : (t : Table) (from place loc : ℕ) → place < length (list_at t from) → from ≡ loc → 1 ≤ length (list_at t loc)
some_there t from place loc there same = let here = ap (λ l. length (list_at t l)) same in omega (arith, there, here)

-- one entry more, which is the last edit
pub log_more : (log : List LogEntry) (entry : LogEntry) → log_seen (log ++ entry ∷ []) ≡ entry_seen entry ∷ log_seen log
log_more log entry = ap reverse (map-append entry_seen log (entry ∷ [])) ∙ reverse-append (map entry_seen log) (entry_seen entry ∷ [])

-- as many tables before it as there are entries
pub so_many : (edits : List Edit) (t : Table) → length (before_of edits t) ≡ length edits
so_many [] t = refl
so_many (e ∷ edits) t = let rest = so_many edits (undone e t) in omega (arith, rest)

-- a list that comes back
pub list_back : (t : Table) (loc : ℕ) (order : List ℕ) → loc < length t.lists → length order ≡ length (list_at t loc) →
    relisted loc (list_at t loc) (reorder loc order t) ≡ record { lists = t.lists; numbers = t.numbers; marks = cleared (list_at t loc) t.marks }
list_back t loc order lt same =
    let list = list_at t loc in
    let free : Table = record { lists = t.lists; numbers = t.numbers; marks = cleared list t.marks } in
    let here = list_with t loc (taken order list) lt in
    let long : length list ≡ length (list_at (reorder loc order t) loc) = sym same ∙ sym (length-map order _) ∙ ap length (sym here) in
    cond-true (length list == length (list_at (reorder loc order t) loc)) _ _ (eq-eqb _ _ long)
    ∙ with_with free loc (taken order list) list
    ∙ with_same free loc

-- REFERENCES

-- a location of references is one of the table's
mem_there : (shape : Shape) (t : Table) (loc : ℕ) → IsSound shape t → HoldsReferences shape loc → loc < length t.lists
mem_there shape t loc sound holds =
    let within = slice_get_within shape.places loc holds.0 holds.1 in
    let same = sound.locations in
    omega (arith, within, same)

-- one that was put on top goes, and one that was put at the bottom
onto_back : (t : Table) (id loc : ℕ) → loc < length t.lists → undone (noted loc (length (list_at t loc))) (onto id loc t) ≡ t
onto_back t id loc lt =
    let list = list_at t loc in
    let there = onto id loc t in
    let here = list_with t loc (list ++ id ∷ []) lt in
    let less = subst (λ xs. length list < length xs) (sym here) (longer list id) in
    cond-true (nat_lt (length list) (length (list_at there loc))) _ _ (lt-ltb _ _ less)
    ∙ ap (λ xs. with_list there loc (remove xs (length list))) here
    ∙ ap (with_list there loc) (remove_last list id)
    ∙ with_with t loc (list ++ id ∷ []) list
    ∙ with_same t loc

under_back : (t : Table) (id loc : ℕ) → loc < length t.lists → undone (noted loc 0) (under id loc t) ≡ t
under_back t id loc lt =
    let list = list_at t loc in
    let there = under id loc t in
    let here = list_with t loc (id ∷ list) lt in
    let some : 0 < length (id ∷ list) = omega arith in
    let less = subst (λ xs. 0 < length xs) (sym here) some in
    cond-true (nat_lt 0 (length (list_at there loc))) _ _ (lt-ltb _ _ less)
    ∙ ap (λ xs. with_list there loc (remove xs 0)) here
    ∙ with_with t loc (id ∷ list) list
    ∙ with_same t loc

pub remembered_top_back : (shape : Shape) (t : Table) (id loc n : ℕ) → IsSound shape t → HoldsReferences shape loc → has_room shape loc t ≡ true →
    n ≡ length (list_at t loc) → undone (noted loc n) (remember_top shape id loc t) ≡ t
remembered_top_back shape t id loc n sound holds room long =
    ap (λ n. undone (noted loc n) (remember_top shape id loc t)) long
    ∙ ap (undone (noted loc (length (list_at t loc)))) (cond-true (has_room shape loc t) (onto id loc t) t room)
    ∙ onto_back t id loc (mem_there shape t loc sound holds)

pub remembered_bottom_back : (shape : Shape) (t : Table) (id loc : ℕ) → IsSound shape t → HoldsReferences shape loc → has_room shape loc t ≡ true →
    undone (noted loc 0) (remember_bottom shape id loc t) ≡ t
remembered_bottom_back shape t id loc sound holds room =
    ap (undone (noted loc 0)) (cond-true (has_room shape loc t) (under id loc t) t room)
    ∙ under_back t id loc (mem_there shape t loc sound holds)

-- one that was taken away comes back
pub forgotten_back : (shape : Shape) (t : Table) (id loc place : ℕ) → IsSound shape t → HoldsReferences shape loc → place < length (list_at t loc) →
    id ≡ slice_index (list_at t loc) place → undone (forgotten id loc place) (taken_at loc place t) ≡ t
forgotten_back shape t id loc place sound holds there is =
    back_in_place t id loc place (mem_there shape t loc sound holds) there (sym is)
