-- Rows as lists.
use Rattle.std.specs.Prelude.{◌≡◌, ℕ, ◌+◌, ◌≤◌, List, [], ◌∷◌, take, drop}
use Rattle.rc_table.specs.declared.rows.Row.{Row}

-- what a row holds of these ids
abbrev pub list_in : List ℕ → Row → List ℕ
list_in ids row = take row.count (drop row.from ids)

abbrev pub room_of : Row → ℕ
room_of row = row.room

-- one row behind the other, from a place up to an end; none holds more than it has room for, nor has room for more than its count can say
abbrev pub AreRows : List Row → ℕ → ℕ → Type 0
AreRows [] from end = from ≡ end
AreRows (row ∷ rows) from end =
    (row.from ≡ from) × (row.count ≤ row.room) × (row.room ≤ 65535) × AreRows rows (from + row.room) end
