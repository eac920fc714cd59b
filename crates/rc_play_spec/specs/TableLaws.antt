-- Statements of laws of tables: where a card is put somewhere else, and that each edit keeps a table sound.
use Rattle.std.specs.Prelude.{◌≡◌, ℕ, ◌<◌, ◌+◌, Bool, true, false, All, List, [], ◌∷◌, ◌++◌, length, slice_index_or, slice_set, remove, sum_by, ℤ}
use Rattle.std.specs.List.{zip}
use Rattle.std.specs.List.Sorted.{IsPermutation}
use Rattle.rc_base.specs.Numbers.{below}
use Rattle.rc_base.specs.Clamp.{IsWithinClamp}
use Rattle.rc_sheet_spec.specs.WellFormed.{is_mem}
use Rattle.rc_play_spec.specs.Shape.{Place, Shape}
use Rattle.rc_play_spec.specs.Sees.{sees}
use Rattle.rc_play_spec.specs.Bound.{HoldsCards, HoldsReferences}
use Rattle.rc_play_spec.specs.Table.{Table, IsSound, AreSeats, list_at, loc_of, marks_of, set_marks, cleared, taken, reorder, times_in, put_top, put_bottom, remember_top, remember_bottom, forget_in, set_number}

-- a sum over locations, with another list in one of them
abbrev pub SumWithList : Type 0
SumWithList =
    (f : Place × List ℕ → ℕ) (places : List Place) (lists : List (List ℕ)) (i : ℕ) (p : Place) (old new : List ℕ) →
    i < length places → i < length lists → p ≡ slice_index_or places i p → old ≡ slice_index_or lists i old →
    sum_by f (zip places (slice_set lists i new)) + f (p, old) ≡ sum_by f (zip places lists) + f (p, new)

-- where a card goes out of its place and on top of a location, each card stands as often as before
abbrev pub PutKeepsCards : Type 0
PutKeepsCards =
    (id other : ℕ) (places : List Place) (lists : List (List ℕ)) (from at loc : ℕ) (p q : Place) →
    from < length places → from < length lists → p ≡ slice_index_or places from p → is_mem p.kind ≡ false →
    at < length (slice_index_or lists from []) → slice_index_or (slice_index_or lists from []) at 0 ≡ id →
    loc < length places → loc < length lists → q ≡ slice_index_or places loc q → is_mem q.kind ≡ false →
    sum_by (times_in other) (zip places (slice_set (slice_set lists from (remove (slice_index_or lists from []) at)) loc
    (slice_index_or (slice_set lists from (remove (slice_index_or lists from []) at)) loc [] ++ id ∷ [])))
    ≡ sum_by (times_in other) (zip places lists)

-- a card put somewhere else
abbrev pub PutKeepsSound : Type 0
PutKeepsSound =
    (shape : Shape) (table : Table) (id loc : ℕ) → IsSound shape table → id < length shape.faces →
    HoldsCards shape loc →
    IsSound shape (put_top shape id loc table) × IsSound shape (put_bottom shape id loc table)

-- one more reference, where there is room
abbrev pub RememberKeepsSound : Type 0
RememberKeepsSound =
    (shape : Shape) (table : Table) (id loc : ℕ) → IsSound shape table → id < length shape.faces →
    HoldsReferences shape loc →
    IsSound shape (remember_top shape id loc table) × IsSound shape (remember_bottom shape id loc table)

-- one reference less, if there is one with this face
abbrev pub ForgetKeepsSound : Type 0
ForgetKeepsSound =
    (shape : Shape) (table : Table) (id loc : ℕ) → IsSound shape table → HoldsReferences shape loc →
    IsSound shape (forget_in shape id loc table)

-- another value of a number
abbrev pub NumberKeepsSound : Type 0
NumberKeepsSound =
    (shape : Shape) (table : Table) (num : ℕ) (value : ℤ) → IsSound shape table → IsWithinClamp value →
    IsSound shape (set_number num value table)

-- other marks of a card: seats that don't see its location
abbrev pub MarksKeepSound : Type 0
MarksKeepSound =
    (shape : Shape) (table : Table) (id : ℕ) (seats : List ℕ) → IsSound shape table → id < length shape.faces →
    AreSeats shape.players seats →
    All (λ seat. sees shape seat (loc_of shape table id) ≡ false) seats → IsSound shape (set_marks id seats table)

-- no marks of these cards
abbrev pub ClearedKeepsSound : Type 0
ClearedKeepsSound =
    (shape : Shape) (table : Table) (ids : List ℕ) → IsSound shape table →
    IsSound shape (record { lists = table.lists; numbers = table.numbers; marks = cleared ids table.marks })

-- no seat for which a card is marked sees its location
abbrev pub MarkedAreUnseen : Type 0
MarkedAreUnseen =
    (shape : Shape) (table : Table) (id : ℕ) → IsSound shape table → id < length shape.faces →
    AreSeats shape.players (marks_of table.marks id)
    × All (λ seat. sees shape seat (loc_of shape table id) ≡ false) (marks_of table.marks id)

-- a list permuted
abbrev pub ReorderKeepsSound : Type 0
ReorderKeepsSound =
    (shape : Shape) (table : Table) (loc : ℕ) (order : List ℕ) → IsSound shape table → loc < length shape.places →
    IsPermutation (below (length (list_at table loc))) order → IsSound shape (reorder loc order table)

-- a list in an order of its places is a permutation of it
abbrev pub OrdersPermuteLists : Type 0
OrdersPermuteLists =
    (list order : List ℕ) → IsPermutation (below (length list)) order → IsPermutation list (taken order list)
