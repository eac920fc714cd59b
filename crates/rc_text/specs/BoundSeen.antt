-- Marks as the definitions of house texts have them.
use Rattle.std.specs.Prelude.{◌≡◌, ℕ, zero, suc, Option, option_map, List, [], ◌∷◌, map, flat_map, length, Vec}
use Rattle.std.specs.Global.{Global}
use Rattle.arrayvec.specs.ArrayVec.{ArrayVec}
use Rattle.rc_rules.specs.declared.record.MatchRecord.{MatchRecord}
use Rattle.rc_play_spec.specs.ItemBounds.{Bound as PureBound}
use Rattle.rc_rules.specs.declared.bound.Bound.{Bound}
use Rattle.rc_rules.specs.Bounds.{bounds_seen, match_bounds}

abbrev pub option_seen : Option (ArrayVec Bound) → Option (List PureBound)
option_seen bounds = option_map bounds_seen bounds

-- of the choices of several matches
abbrev pub all_bounds : List (Vec (ArrayVec Bound) Global) → List (List PureBound)
all_bounds bounds = flat_map match_bounds bounds

-- there is one list for each match, with an entry for each of its choices
abbrev pub AreFor : List MatchRecord → List (Vec (ArrayVec Bound) Global) → Type 0
AreFor records bounds = map (λ b. length b.items) bounds ≡ map (λ r. length r.picks.items) records

-- the list of a match, or nothing where there is none
abbrev pub told_at : {B : Type 0} → List (Vec B Global) → ℕ → List B
told_at [] n = []
told_at (b ∷ bounds) zero = b.items
told_at (b ∷ bounds) (suc n) = told_at bounds n
