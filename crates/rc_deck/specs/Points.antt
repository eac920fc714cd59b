-- Point maps as the model has them.
use Rattle.std.specs.Prelude.{if◌then◌else◌, List, map, ℤ, pos}
use Rattle.rc_base.specs.Deck.{Entry, Face, fits_entry}
use Rattle.rc_deck.specs.declared.scoring.PointMap.{PointMap}
use Rattle.rc_deck.specs.declared.scoring.PointEntry.{PointEntry}

-- an entry without the memory that holds it
abbrev pub entry_of : PointEntry → Entry
entry_of entry = record { attr = entry.attr; values = entry.values.items; points = entry.points }

-- the entries of a map, in order
abbrev pub entries_of : PointMap → List Entry
entries_of points = map entry_of points.entries.items

-- what an entry adds to the sum for a face
abbrev pub points_added : Face → Entry → ℤ
points_added face entry = if fits_entry entry face then entry.points else pos 0
