-- The innermost of the frames that fit.
use Rattle.std.specs.Prelude.{◌≡◌, ℕ, suc, Bool, true, false, List, drop, slice_get, Some, option_map}
use Rattle.std.specs.List.{list_any}
use Rattle.rc_play_spec.specs.Control.{Frame}

-- it stands here, and none that fits stands inside it
abbrev pub IsInnermost : (Frame → Bool) → List Frame → ℕ → Type 0
IsInnermost fits frames at =
    (option_map fits (slice_get frames at) ≡ Some true) × (list_any fits (drop (suc at) frames) ≡ false)
