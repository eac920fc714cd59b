-- The least offset among locations out of sight, as it is found going over them.
use Rattle.std.specs.Prelude.{ℕ, min, if◌then◌else◌, List, [], ◌∷◌, Option, Some, None}
use Rattle.rc_sheet_spec.specs.Sheet.{LocName, Loc}
use Rattle.rc_sheet_spec.specs.Sight.{is_in_sight}

-- the lesser of the offset that was found, if one was, and another
abbrev pub with_offset : Option ℕ → ℕ → ℕ
with_offset None at = at
with_offset (Some found) at = min found at

abbrev pub with_loc : List LocName → Option ℕ → Loc → Option ℕ
with_loc names found loc = if is_in_sight names loc then found else Some (with_offset found loc.at)

-- the least of the offset that was found and those of the locations out of sight
abbrev pub least_with : List LocName → Option ℕ → List Loc → Option ℕ
least_with names found [] = found
least_with names found (loc ∷ locs) = least_with names (with_loc names found loc) locs
