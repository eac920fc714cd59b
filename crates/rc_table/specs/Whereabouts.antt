-- Where each card of a table stands.
use Rattle.std.specs.Prelude.{ℕ, ℤ, ◌+◌, if◌then◌else◌, List, [], ◌∷◌, length, map, drop, slice_get, slice_index_or, slice_set}
use Rattle.rc_base.specs.Numbers.{below}
use Rattle.rc_play_spec.specs.Shape.{Shape, holds_references}
use Rattle.rc_play_spec.specs.Table.{Table, IsSound, place_of}

-- each card's location, and its place there
abbrev pub whereabouts : Shape → Table → List (ℕ × ℕ)
whereabouts shape table = map (place_of shape table) (below (length shape.faces))

-- where the ids of a list are noted to stand in a location, one behind the other
abbrev pub noted : ℕ → ℕ → List ℕ → List (ℕ × ℕ) → List (ℕ × ℕ)
noted loc at [] stand = stand
noted loc at (id ∷ ids) stand = noted loc (at + 1) ids (slice_set stand id (loc, at))

-- the same for what a location holds from a place on; references are not noted
abbrev pub noted_in : Shape → List (List ℕ) → ℕ → ℕ → List (ℕ × ℕ) → List (ℕ × ℕ)
noted_in shape lists loc from stand =
    if holds_references (slice_get shape.places loc) then stand
    else noted loc from (drop from (slice_index_or lists loc [])) stand

-- a table of these lists, whose numbers and marks don't matter
abbrev pub laid_out : List (List ℕ) → Table
laid_out lists = record { lists = lists; numbers = []; marks = [] }

-- the lists of a sound table
abbrev pub AreSound : Shape → List (List ℕ) → Type 0
AreSound shape lists = (numbers : List ℤ) × (marks : List (List ℕ))
    × IsSound shape (record { lists = lists; numbers = numbers; marks = marks })
