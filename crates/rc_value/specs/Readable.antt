-- What a well formed sheet keeps that values rest on.
use Rattle.std.specs.Prelude.{ℕ, ◌≤◌, sum_by, All}
use Rattle.rc_base.specs.Clamp.{IsWithinClamp}
use Rattle.rc_base.specs.Limits.{most_locations, most_numbers}
use Rattle.rc_sheet_spec.specs.Sheet.{Sheet}
use Rattle.rc_sheet_spec.specs.WellFormed.{owner_count}
use Rattle.rc_play_spec.specs.Menu.{alts_at}
use Rattle.rc_value.specs.Binding.{BindsFew}

-- locations, numbers and points are within their limits, and alternatives bind few variables
pub record IsReadable (sheet : Sheet) : Type 0 where
  pub locations : sum_by (λ loc. owner_count sheet loc.class) sheet.locs ≤ most_locations
  pub numbers : sum_by (λ num. owner_count sheet num.class) sheet.nums ≤ most_numbers
  pub clamped : All (All (λ entry. IsWithinClamp entry.points)) sheet.points
  pub choices : (site : ℕ) → All (BindsFew 0) (alts_at sheet site)
