-- What a board keeps of what was before.
use Rattle.std.specs.Prelude.{◌≡◌, ℕ, ◌<◌, length, map, slice_index, Bool, true, false, List, [], ◌∷◌, Option, Some, None}
use Rattle.rc_play_spec.specs.Shape.{Shape}
use Rattle.rc_play_spec.specs.Table.{Table, marks_of}
use Rattle.rc_table.specs.Marks.{seats_in}
use Rattle.rc_table.specs.Laid.{Laid}
use Rattle.rc_undo.specs.Undo.{Edit, ordered, before_of, CanUndo, Kept}

-- nothing, edits that can be taken back, the last one first, or the table to which the board goes home
pub data Past : Type 0 where
  none_kept : Past
  edits_kept : (edits : List Edit) → Past
  home_kept : (base : Laid) → Past

-- after an edit more
abbrev pub noted_in : Edit → Past → Past
noted_in e none_kept = none_kept
noted_in e (edits_kept edits) = edits_kept (e ∷ edits)
noted_in e (home_kept base) = home_kept base

-- bytes of the marks of these cards: none where none of them is marked
abbrev pub AreMarks : List (List ℕ) → (ids bytes : List ℕ) → Type 0
AreMarks marks ids [] = (k : ℕ) → k < length ids → marks_of marks (slice_index ids k) ≡ []
AreMarks marks ids (byte ∷ bytes) = map seats_in (byte ∷ bytes) ≡ map (marks_of marks) ids

-- after an order more, of cards with these marks
abbrev pub OrderNoted : List (List ℕ) → (loc : ℕ) (list : List ℕ) → (old new : Past) → Type 0
OrderNoted marks loc list none_kept new = new ≡ none_kept
OrderNoted marks loc list (edits_kept edits) new =
    (bytes : List ℕ) × AreMarks marks list bytes × (new ≡ edits_kept (ordered loc list bytes ∷ edits))
OrderNoted marks loc list (home_kept base) new = new ≡ home_kept base

-- at another home
abbrev pub moved_to : Laid → Past → Past
moved_to laid none_kept = none_kept
moved_to laid (edits_kept edits) = edits_kept edits
moved_to laid (home_kept base) = home_kept laid

-- what there is to be taken back
abbrev pub edits_of : Past → List Edit
edits_of none_kept = []
edits_of (edits_kept edits) = edits
edits_of (home_kept base) = []

abbrev pub notes_of : Past → Bool
notes_of none_kept = false
notes_of (edits_kept edits) = true
notes_of (home_kept base) = false

abbrev pub home_of : Past → Option Table
home_of none_kept = None
home_of (edits_kept edits) = None
home_of (home_kept base) = Some base.table

-- the home's table, or else this one
abbrev pub home_table : Past → Table → Table
home_table none_kept table = table
home_table (edits_kept edits) table = table
home_table (home_kept base) table = base.table

-- the last edit was taken out of it
abbrev pub TookLast : Edit → Past → Past → Type 0
TookLast e old new = (edits : List Edit) × (old ≡ edits_kept (e ∷ edits)) × (new ≡ edits_kept edits)

-- the home's table has this shape, where there is one
abbrev pub HasShape : Shape → Past → Type 0
HasShape shape none_kept = Unit {0}
HasShape shape (edits_kept edits) = Unit {0}
HasShape shape (home_kept base) = base.shape ≡ shape

-- each edit can be taken back, and where there is a home it is a table of the same shape
abbrev pub IsPast : Laid → Past → Type 0
IsPast laid none_kept = Unit {0}
IsPast laid (edits_kept edits) = CanUndo laid.shape edits laid.table
IsPast laid (home_kept base) = base.shape ≡ laid.shape

-- a table with what is kept of those before it
abbrev pub kept_of : Past → Laid → Kept
kept_of past laid =
    record { laid = laid; before = before_of (edits_of past) laid.table; notes = notes_of past; home = home_of past }
