-- Locations that are filled anew, each with as many ids as it has.
use Rattle.std.specs.Prelude.{◌≡◌, ℕ, ◌<◌, ◌≤◌, List, [], ◌∷◌, length, take, drop, slice_index_or, slice_set, Contains}
use Rattle.rc_play_spec.specs.Table.{Table, list_at}

-- the lists where these, one after another, hold the next of the ids
abbrev pub lists_refilled : List ℕ → List ℕ → List (List ℕ) → List (List ℕ)
lists_refilled [] ids lists = lists
lists_refilled (loc ∷ locs) ids lists =
    let n = length (slice_index_or lists loc []) in lists_refilled locs (drop n ids) (slice_set lists loc (take n ids))

-- the locations are there, and the ids are enough for all of them
abbrev pub CanRefill : List ℕ → List ℕ → List (List ℕ) → Type 0
CanRefill [] ids lists = Unit {0}
CanRefill (loc ∷ locs) ids lists =
    let n = length (slice_index_or lists loc []) in
    (loc < length lists) × (n ≤ length ids) × CanRefill locs (drop n ids) (slice_set lists loc (take n ids))

abbrev pub refilled : List ℕ → List ℕ → Table → Table
refilled locs ids table =
    record { lists = lists_refilled locs ids table.lists; numbers = table.numbers; marks = table.marks }

-- each location that isn't one of these holds the same in both tables
abbrev pub DifferAtMostIn : List ℕ → Table → Table → Type 0
DifferAtMostIn locs table other = (loc : ℕ) → (Contains locs loc → ⊥) → list_at table loc ≡ list_at other loc
