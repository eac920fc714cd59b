-- What stands behind a word.
use Rattle.std.proofs.Common.{◌≡◌, ℕ, ◌<◌, ◌==◌, Bool, true, false, List, [], ◌∷◌, length, Option, None, refl, arith}
use Rattle.std.specs.Prelude.{if◌then◌else◌}
use Rattle.rc_play_spec.specs.Fields.{behind}

none_either : (t : Bool) (o : Option (List ℕ)) → o ≡ None → (if t then o else None) ≡ None
none_either true o none = none
none_either false o none = refl

-- too few bytes have no word before others
pub too_short : (word bytes : List ℕ) → length bytes < length word → behind word bytes ≡ None
too_short [] bytes lt = absurd (omega (arith, lt))
too_short (w ∷ word) [] lt = refl
too_short (w ∷ word) (b ∷ bytes) lt = none_either (b == w) (behind word bytes) (too_short word bytes (omega (arith, lt)))
