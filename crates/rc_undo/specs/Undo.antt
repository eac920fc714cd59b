-- Edits of a table that can be taken back.
use Rattle.std.specs.Prelude.{◌≡◌, ℕ, ◌<◌, ◌≤◌, nat_lt, ◌==◌, if◌then◌else◌, Bool, true, false, List, [], ◌∷◌, ◌++◌, length, slice_index, All, Option, Some, unwrap_or, ℤ}
use Rattle.rc_base.specs.Clamp.{IsWithinClamp}
use Rattle.rc_play_spec.specs.Shape.{Shape}
use Rattle.rc_play_spec.specs.Bound.{HoldsReferences}
use Rattle.rc_play_spec.specs.Sees.{sees}
use Rattle.rc_play_spec.specs.Table.{Table, IsSound, list_at, loc_of, with_list, set_marks, set_number}
use Rattle.rc_table.specs.Laid.{Laid, relaid}
use Rattle.rc_table.specs.Marks.{seats_in}
use Rattle.rc_table.specs.Restored.{put_at, taken_at, moved_between, relisted}

-- what was before an edit: a card that moved stood at this place, with these marks, and stands at that one now, a number had this
-- value, a location had this list, whose cards had these marks, if some had any, a card had these marks, a reference wasn't there, one
-- stood at this place, or two locations had these lists. Marks are bytes.
pub data Edit : Type 0 where
  moved : (from place to at byte : ℕ) → Edit
  changed : (num : ℕ) (value : ℤ) → Edit
  ordered : (loc : ℕ) (list bytes : List ℕ) → Edit
  marked : (id byte : ℕ) → Edit
  noted : (loc at : ℕ) → Edit
  forgotten : (id loc place : ℕ) → Edit
  gathered : (from : ℕ) (list : List ℕ) (to : ℕ) (other : List ℕ) → Edit

-- a card marked as this byte says
abbrev pub marked_as : ℕ → ℕ → Table → Table
marked_as id byte table = set_marks id (seats_in byte) table

-- the same where there is some mark
abbrev pub marked_again : ℕ → ℕ → Table → Table
marked_again id byte table = if byte == 0 then table else marked_as id byte table

-- cards marked as these bytes say
abbrev pub all_marked : (ids bytes : List ℕ) → Table → Table
all_marked [] bytes table = table
all_marked (id ∷ ids) [] table = table
all_marked (id ∷ ids) (byte ∷ bytes) table = all_marked ids bytes (marked_as id byte table)

-- the table before the edit
abbrev pub undone : Edit → Table → Table
undone (moved from place to at byte) table =
    if nat_lt at (length (list_at table to))
    then marked_again (slice_index (list_at table to) at) byte (moved_between to at from place table) else table
undone (changed num value) table = set_number num value table
undone (ordered loc list bytes) table = all_marked list bytes (relisted loc list table)
undone (marked id byte) table = marked_as id byte table
undone (noted loc at) table = if nat_lt at (length (list_at table loc)) then taken_at loc at table else table
undone (forgotten id loc place) table = put_at id loc place table
undone (gathered from list to other) table = with_list (with_list table from list) to other

-- the tables before edits, the last edit first
abbrev pub before_of : List Edit → Table → List Table
before_of [] table = []
before_of (e ∷ edits) table = undone e table ∷ before_of edits (undone e table)

-- locations that are there and hold what the edit is of, and numbers within the clamp
abbrev pub IsEditOf : Shape → Edit → Type 0
IsEditOf shape (moved from place to at byte) = from < length shape.places
IsEditOf shape (changed num value) = IsWithinClamp value
IsEditOf shape (ordered loc list bytes) = loc < length shape.places
IsEditOf shape (marked id byte) = Unit {0}
IsEditOf shape (noted loc at) = HoldsReferences shape loc
IsEditOf shape (forgotten id loc place) = HoldsReferences shape loc
IsEditOf shape (gathered from list to other) =
    (from < length shape.places) × (to < length shape.places) × (from ≡ to → ⊥)

-- a card may have the marks that this byte says, where it stands
abbrev pub MayMark : Shape → Table → ℕ → ℕ → Type 0
MayMark shape table id byte =
    (id < length shape.faces) × All (λ seat. seat < shape.players) (seats_in byte)
    × All (λ seat. sees shape seat (loc_of shape table id) ≡ false) (seats_in byte)

-- on the way back each table is sound, and each card may have its marks
abbrev pub LeadsThrough : Shape → Edit → Table → Type 0
LeadsThrough shape (moved from place to at byte) table =
    nat_lt at (length (list_at table to)) ≡ true → IsSound shape (moved_between to at from place table)
    × MayMark shape (moved_between to at from place table) (slice_index (list_at table to) at) byte
LeadsThrough shape (changed num value) table = Unit {0}
LeadsThrough shape (ordered loc list bytes) table =
    IsSound shape (relisted loc list table) × (length bytes ≤ length list)
    × ((k : ℕ) → k < length bytes → MayMark shape (relisted loc list table) (slice_index list k) (slice_index bytes k))
LeadsThrough shape (marked id byte) table = MayMark shape table id byte
LeadsThrough shape (noted loc at) table = Unit {0}
LeadsThrough shape (forgotten id loc place) table = Unit {0}
LeadsThrough shape (gathered from list to other) table = Unit {0}

-- each edit leads back to a sound table
abbrev pub CanUndo : Shape → List Edit → Table → Type 0
CanUndo shape [] table = Unit {0}
CanUndo shape (e ∷ edits) table =
    (IsEditOf shape e × LeadsThrough shape e table) × IsSound shape (undone e table)
    × CanUndo shape edits (undone e table)

-- one more in front of others, where it is noted
abbrev pub noting : {X : Type 0} → Bool → X → List X → List X
noting true x xs = x ∷ xs
noting false x xs = xs

-- a table with those before it, the last one first, whether edits are noted, and the table to which it goes home, if there is one
pub record Kept : Type 0 where
  pub laid : Laid
  pub before : List Table
  pub notes : Bool
  pub home : Option Table

abbrev pub tables : Kept → List Table
tables kept = kept.laid.table ∷ kept.before

-- after one more edit
abbrev pub edited : Kept → Table → Kept
edited kept table =
    record {
      laid = relaid kept.laid table;
      before = noting kept.notes kept.laid.table kept.before;
      notes = kept.notes;
      home = kept.home;
    }

-- back at home, where there is one
abbrev pub gone_home : Kept → Kept
gone_home kept =
    record {
      laid = relaid kept.laid (unwrap_or kept.home kept.laid.table);
      before = kept.before;
      notes = kept.notes;
      home = kept.home;
    }

-- at this table, with this home
abbrev pub away_at : Laid → Option Table → Kept
away_at laid home = record { laid = laid; before = []; notes = false; home = home }

-- at home with this table
abbrev pub home_at : Laid → Kept
home_at laid = record { laid = laid; before = []; notes = false; home = Some laid.table }

-- the home stays, and where edits are noted, all tables that were there are there, with others behind them
pub record Keeps (old new : Kept) : Type 0 where
  pub shape : new.laid.shape ≡ old.laid.shape
  pub notes : new.notes ≡ old.notes
  pub behind : old.notes ≡ true → (more : List Table) × (tables new ≡ more ++ tables old)
  pub home : new.home ≡ old.home

-- the last tables are gone, and those before them are there
pub record GoesBack (old new : Kept) (gone : List Table) : Type 0 where
  pub shape : new.laid.shape ≡ old.laid.shape
  pub notes : new.notes ≡ old.notes
  pub behind : tables old ≡ gone ++ tables new
  pub home : new.home ≡ old.home
