-- Tables: which cards and references each location has, what each number is, for which seats each card is marked, which tables are
-- sound, and each edit.
use Rattle.std.specs.Prelude.{◌≡◌, ℕ, ◌≤◌, ◌<◌, nat_lt, ◌==◌, Bool, ◌&&◌, not, if◌then◌else◌, List, [], ◌∷◌, ◌++◌, length, map, filter, slice_index, slice_index_or, slice_set, remove, reverse, replicate, sum_by, count_by, All, AllPairs, false, ℤ, pos, Some}
use Rattle.std.specs.List.{list_any, zip, position_or_len}
use Rattle.rc_base.specs.Numbers.{below}
use Rattle.rc_base.specs.Clamp.{IsWithinClamp}
use Rattle.rc_base.specs.Limits.{most_in_mem, most_references}
use Rattle.rc_sheet_spec.specs.WellFormed.{is_mem}
use Rattle.rc_play_spec.specs.Shape.{Place, Shape, face_eq, face_at}
use Rattle.rc_play_spec.specs.Sees.{sees_place}

-- the ids in each location from bottom to top, the numbers, and each card's marks: the seats for which it is marked, in ascending order
pub record Table : Type 0 where
  pub lists : List (List ℕ)
  pub numbers : List ℤ
  pub marks : List (List ℕ)

-- what a location holds
abbrev pub list_at : Table → ℕ → List ℕ
list_at table loc = slice_index_or table.lists loc []

abbrev pub number_at : Table → ℕ → ℤ
number_at table num = slice_index_or table.numbers num (pos 0)

-- a card's marks
abbrev pub marks_of : List (List ℕ) → ℕ → List ℕ
marks_of marks id = slice_index_or marks id []

-- whether a card is marked for a seat
abbrev pub is_marked : List (List ℕ) → ℕ → ℕ → Bool
is_marked marks seat id = list_any (λ other. other == seat) (marks_of marks id)

-- the cards whose home is this location, in ascending order
abbrev pub at_home : Shape → ℕ → List ℕ
at_home shape loc = filter (λ id. slice_index shape.home id == loc) (below (length shape.home))

-- The table of the start: each card in its home, no reference, all numbers 0, and no mark. A home is no `mem`.
abbrev pub opening : Shape → Table
opening shape =
    record {
      lists = map (at_home shape) (below (length shape.places));
      numbers = replicate shape.numbers (pos 0);
      marks = replicate (length shape.faces) [];
    }

-- how often a card stands in a location, other than as a reference
abbrev pub times_in : ℕ → Place × List ℕ → ℕ
times_in id at = if is_mem at.0.kind then 0 else count_by (λ other. other == id) at.1

-- how many references a location holds
abbrev pub references_in : Place × List ℕ → ℕ
references_in at = if is_mem at.0.kind then length at.1 else 0

abbrev pub references : Shape → Table → ℕ
references shape table = sum_by references_in (zip shape.places table.lists)

-- different seats, in ascending order
pub record AreSeats (players : ℕ) (seats : List ℕ) : Type 0 where
  pub ascending : AllPairs (λ a b. a < b) seats
  pub within : All (λ seat. seat < players) seats

-- no card that stands in this location is marked for a seat that sees the location
abbrev pub HidesMarked : Shape → List (List ℕ) → Place × List ℕ → Type 0
HidesMarked shape marks at =
    is_mem at.0.kind ≡ false →
    All (λ id. All (λ seat. sees_place shape seat (Some at.0) ≡ false) (marks_of marks id)) at.1

-- A table has a list for each location, a value for each number and marks for each card, and every id in it is a card's. Each card
-- stands once in the lists that hold cards. References are within their limits, and numbers within the clamp. Marks are seats, and
-- none of them sees its card's location.
pub record IsSound (shape : Shape) (table : Table) : Type 0 where
  pub locations : length table.lists ≡ length shape.places
  pub amounts : length table.numbers ≡ shape.numbers
  pub ids : All (All (λ id. id < length shape.faces)) table.lists
  pub once : (id : ℕ) → id < length shape.faces → sum_by (times_in id) (zip shape.places table.lists) ≡ 1
  pub mems : All (λ at. references_in at ≤ most_in_mem) (zip shape.places table.lists)
  pub together : references shape table ≤ most_references
  pub clamped : All IsWithinClamp table.numbers
  pub marked : length table.marks ≡ length shape.faces
  pub seats : All (AreSeats shape.players) table.marks
  pub hidden : All (HidesMarked shape table.marks) (zip shape.places table.lists)

-- the first place of a card in a list, or the list's length
abbrev pub index_in : ℕ → List ℕ → ℕ
index_in id list = position_or_len (λ other. other == id) list

-- whether a location holds the card, other than as a reference
abbrev pub holds_card : ℕ → Place × List ℕ → Bool
holds_card id at = not (is_mem at.0.kind) && list_any (λ other. other == id) at.1

-- the location that holds the card: the first one that does
abbrev pub loc_of : Shape → Table → ℕ → ℕ
loc_of shape table id = position_or_len (holds_card id) (zip shape.places table.lists)

-- a card's location, and its place there
abbrev pub place_of : Shape → Table → ℕ → ℕ × ℕ
place_of shape table id = let loc = loc_of shape table id in (loc, index_in id (list_at table loc))

-- a list in place of another
abbrev pub with_list : Table → ℕ → List ℕ → Table
with_list table loc list =
    record { lists = slice_set table.lists loc list; numbers = table.numbers; marks = table.marks }

-- these marks of a card, and nothing else changes
abbrev pub set_marks : ℕ → List ℕ → Table → Table
set_marks id seats table =
    record { lists = table.lists; numbers = table.numbers; marks = slice_set table.marks id seats }

-- marks that are none for these cards
abbrev pub cleared : List ℕ → List (List ℕ) → List (List ℕ)
cleared [] marks = marks
cleared (id ∷ ids) marks = cleared ids (slice_set marks id [])

-- a card out of its place
abbrev pub without : Shape → ℕ → Table → Table
without shape id table =
    let at = place_of shape table id in with_list table at.0 (remove (list_at table at.0) at.1)

-- one more on top of a location, or at its bottom
abbrev pub onto : ℕ → ℕ → Table → Table
onto id loc table = with_list table loc (list_at table loc ++ id ∷ [])

abbrev pub under : ℕ → ℕ → Table → Table
under id loc table = with_list table loc (id ∷ list_at table loc)

-- A card taken out of its place and put on top of a location, or at its bottom. It loses its marks, also where it comes back to its
-- place.
abbrev pub put_top : Shape → ℕ → ℕ → Table → Table
put_top shape id loc table = set_marks id [] (onto id loc (without shape id table))

abbrev pub put_bottom : Shape → ℕ → ℕ → Table → Table
put_bottom shape id loc table = set_marks id [] (under id loc (without shape id table))

-- whether there is room for one more reference in a location
abbrev pub has_room : Shape → ℕ → Table → Bool
has_room shape loc table =
    nat_lt (length (list_at table loc)) most_in_mem && nat_lt (references shape table) most_references

-- one more reference, where there is room
abbrev pub remember_top : Shape → ℕ → ℕ → Table → Table
remember_top shape id loc table = if has_room shape loc table then onto id loc table else table

abbrev pub remember_bottom : Shape → ℕ → ℕ → Table → Table
remember_bottom shape id loc table = if has_room shape loc table then under id loc table else table

-- the list without the first card of this face
abbrev pub without_face : Shape → ℕ → List ℕ → List ℕ
without_face shape id [] = []
without_face shape id (other ∷ list) =
    if face_eq (face_at shape other) (face_at shape id) then list else other ∷ without_face shape id list

-- the topmost reference with the card's face, out of a location
abbrev pub forget_in : Shape → ℕ → ℕ → Table → Table
forget_in shape id loc table = with_list table loc (reverse (without_face shape id (reverse (list_at table loc))))

abbrev pub set_number : ℕ → ℤ → Table → Table
set_number num value table =
    record { lists = table.lists; numbers = slice_set table.numbers num value; marks = table.marks }

-- The i-th item of what a permutation makes of a list is the old one at the permutation's i-th number.
abbrev pub taken : List ℕ → List ℕ → List ℕ
taken order list = map (λ i. slice_index list i) order

-- a location's cards in another order, in which none of them is marked
abbrev pub reorder : ℕ → List ℕ → Table → Table
reorder loc order table =
    record {
      lists = slice_set table.lists loc (taken order (list_at table loc));
      numbers = table.numbers;
      marks = cleared (list_at table loc) table.marks;
    }
