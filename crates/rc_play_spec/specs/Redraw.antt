-- The table that a view and a key give.
use Rattle.std.specs.Prelude.{ℕ, suc, ◌+◌, ◌==◌, Bool, true, false, not, if◌then◌else◌, List, [], ◌∷◌, ◌++◌, length, take, drop, map, filter, count_by, slice_index, Option, Some, None}
use Rattle.std.specs.List.{list_any}
use Rattle.rc_base.specs.Numbers.{below}
use Rattle.rc_sheet_spec.specs.WellFormed.{is_mem}
use Rattle.rc_play_spec.specs.Shape.{Place, Shape, face_number}
use Rattle.rc_play_spec.specs.Table.{Table}
use Rattle.rc_play_spec.specs.View.{Sight, with_faces, partly, View}
use Rattle.rc_play_spec.specs.Draws.{permuted}

-- the ids of a face, by its number, in ascending order
abbrev pub ids_of : Shape → ℕ → List ℕ
ids_of shape f = filter (λ id. face_number shape id == f) (below (length shape.faces))

-- The ids at known places with these faces. A place takes the k-th smallest id of its face, where k is how many places
-- before it have this face; `before` are the faces of the places before these.
abbrev pub seen_ids : Shape → List ℕ → List ℕ → List ℕ
seen_ids shape before [] = []
seen_ids shape before (f ∷ fs) =
    slice_index (ids_of shape f) (count_by (λ g. g == f) before) ∷ seen_ids shape (f ∷ before) fs

-- of so many ids those that aren't used, in ascending order
abbrev pub others : ℕ → List ℕ → List ℕ
others count used = filter (λ id. not (list_any (λ other. other == id) used)) (below count)

abbrev pub unused : Shape → List ℕ → List ℕ
unused shape used = others (length shape.faces) used

-- the faces that are known, and how many places aren't known
abbrev pub known_faces : List (Option ℕ) → List ℕ
known_faces [] = []
known_faces (Some f ∷ os) = f ∷ known_faces os
known_faces (None ∷ os) = known_faces os

abbrev pub unknown : List (Option ℕ) → ℕ
unknown [] = 0
unknown (Some f ∷ os) = unknown os
unknown (None ∷ os) = suc (unknown os)

-- the faces at the known places of a location; a place for references, as the first argument says, is none
abbrev pub faces_at : Bool → Sight → List ℕ
faces_at true sight = []
faces_at false (with_faces fs) = fs
faces_at false (partly os) = known_faces os

-- how many card places of a location aren't known
abbrev pub hidden_at : Bool → Sight → ℕ
hidden_at true sight = 0
hidden_at false (with_faces fs) = 0
hidden_at false (partly os) = unknown os

-- whether each location is for references
abbrev pub mems_of : List Place → List Bool
mems_of places = map (λ place. is_mem place.kind) places

-- the faces at the known places, in location order and from bottom to top
abbrev pub seen_faces : List Bool → List Sight → List ℕ
seen_faces mems [] = []
seen_faces [] (sight ∷ sights) = []
seen_faces (m ∷ mems) (sight ∷ sights) = faces_at m sight ++ seen_faces mems sights

-- how many card places aren't known
abbrev pub hidden_count : List Bool → List Sight → ℕ
hidden_count mems [] = 0
hidden_count [] (sight ∷ sights) = 0
hidden_count (m ∷ mems) (sight ∷ sights) = hidden_at m sight + hidden_count mems sights

-- known places hold the first of `seen`, and the others the first of `hidden`; where either runs out, nothing more
abbrev pub mixed : List (Option ℕ) → List ℕ → List ℕ → List ℕ
mixed [] seen hidden = []
mixed (Some f ∷ os) [] hidden = []
mixed (Some f ∷ os) (id ∷ seen) hidden = id ∷ mixed os seen hidden
mixed (None ∷ os) seen [] = []
mixed (None ∷ os) seen (id ∷ hidden) = id ∷ mixed os seen hidden

-- what a location holds: a reference is the smallest id of its face; known places hold the first of `seen`, the others the first of
-- `hidden`
abbrev pub ids_at : Bool → Sight → List ℕ → List ℕ → List ℕ
ids_at true (with_faces fs) seen hidden = fs
ids_at true (partly os) seen hidden = []
ids_at false (with_faces fs) seen hidden = take (length fs) seen
ids_at false (partly os) seen hidden = mixed os seen hidden

-- what the locations hold, with `seen` for the known places in order and `hidden` for the others in order
abbrev pub filled : List Bool → List Sight → List ℕ → List ℕ → List (List ℕ)
filled mems [] seen hidden = []
filled [] (sight ∷ sights) seen hidden = [] ∷ filled [] sights seen hidden
filled (m ∷ mems) (sight ∷ sights) seen hidden =
    ids_at m sight seen hidden
    ∷ filled mems sights (drop (length (faces_at m sight)) seen) (drop (hidden_at m sight) hidden)

-- the first of `seen` that stand at known places of a location that isn't seen
abbrev pub peeked_at : Bool → Sight → List ℕ → List ℕ
peeked_at true sight seen = []
peeked_at false (with_faces fs) seen = []
peeked_at false (partly os) seen = take (length (known_faces os)) seen

-- the same in all locations
abbrev pub peeked : List Bool → List Sight → List ℕ → List ℕ
peeked mems [] seen = []
peeked [] (sight ∷ sights) seen = []
peeked (m ∷ mems) (sight ∷ sights) seen =
    peeked_at m sight seen ++ peeked mems sights (drop (length (faces_at m sight)) seen)

-- Of so many cards those are marked for the seat, and for no other, and the others aren't marked.
abbrev pub marks_for : ℕ → ℕ → List ℕ → List (List ℕ)
marks_for count seat ids = map (λ id. if list_any (λ other. other == id) ids then seat ∷ [] else []) (below count)

-- the ids of all known places of a view
abbrev pub seen_of : Shape → View → List ℕ
seen_of shape view = seen_ids shape [] (seen_faces (mems_of shape.places) view.sights)

-- the marks of a view
abbrev pub marks_seen : Shape → View → List (List ℕ)
marks_seen shape view =
    marks_for (length shape.faces) view.seat (peeked (mems_of shape.places) view.sights (seen_of shape view))

-- the table where the card places that aren't known hold the other ids in this order
abbrev pub redrawn : Shape → View → List ℕ → Table
redrawn shape view hidden =
    record {
      lists = filled (mems_of shape.places) view.sights (seen_of shape view) hidden;
      numbers = view.numbers;
      marks = marks_seen shape view;
    }

-- and in that of a key
abbrev pub redraw : Shape → View → List ℕ → Table
redraw shape view key = redrawn shape view (permuted key (unused shape (seen_of shape view)))
