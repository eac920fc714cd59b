-- The scene of a table: what expressions are read in during a match.
use Rattle.std.specs.Prelude.{ℕ, Bool, true, false, List, map, filter, slice_get}
use Rattle.rc_sheet_spec.specs.Sheet.{Sheet}
use Rattle.rc_play_spec.specs.Control.{Frame}
use Rattle.rc_play_spec.specs.Owners.{mover}
use Rattle.rc_play_spec.specs.Shape.{Shape, face_at, holds_references}
use Rattle.rc_play_spec.specs.Sees.{sees}
use Rattle.rc_play_spec.specs.Table.{Table, list_at, is_marked}
use Rattle.rc_play_spec.specs.Value.{Scene, Bind}

-- a card, held wherever it is, or a reference read in a location
pub data CardValue : Type 0 where
  held : (id : ℕ) → CardValue
  noted : (loc id : ℕ) → CardValue

abbrev pub id_of : CardValue → ℕ
id_of (held id) = id
id_of (noted loc id) = id

-- what variables stand for, from outside to inside
abbrev pub Vars : Type 0
Vars = List (Bind CardValue)

-- what an id in a location stands for, which holds references or doesn't
abbrev pub value_in : Bool → ℕ → ℕ → CardValue
value_in true loc id = noted loc id
value_in false loc id = held id

-- the ids that a seat sees of a location: all where it sees the location, and otherwise those that are marked for it
abbrev pub seen_of : Bool → List (List ℕ) → ℕ → List ℕ → List ℕ
seen_of true marks seat ids = ids
seen_of false marks seat ids = filter (is_marked marks seat) ids

abbrev pub ids_seen : Shape → Table → ℕ → ℕ → List ℕ
ids_seen shape table seat n = seen_of (sees shape seat n) table.marks seat (list_at table n)

-- the sheet and its shape, the table and the open stages
abbrev pub scene_of : Sheet → Shape → Table → List Frame → Scene CardValue
scene_of sheet shape table frames =
    record {
      known = record { sheet = sheet; shape = shape; numbers = table.numbers; frames = frames };
      cards_at = λ n. map (value_in (holds_references (slice_get shape.places n)) n) (list_at table n);
      known_at =
          λ n. map (value_in (holds_references (slice_get shape.places n)) n)
          (ids_seen shape table (mover sheet frames) n);
      face = λ c. face_at shape (id_of c);
    }
