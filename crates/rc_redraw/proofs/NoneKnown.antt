-- A location of which no place is known.
use Rattle.std.proofs.Common.{Option, Some, None, ◌≡◌, ℕ, suc, ◌≤◌, List, [], ◌∷◌, length, take, refl, ap, arith}
use Rattle.rc_play_spec.specs.Redraw.{known_faces, unknown, mixed}

-- all of its places are unknown
pub all_unknown : (os : List (Option ℕ)) → 0 ≡ length (known_faces os) → unknown os ≡ length os
all_unknown [] none = refl
all_unknown (Some f ∷ os) none = absurd (omega (arith, none))
all_unknown (None ∷ os) none = ap suc (all_unknown os none)

-- and take the first ids
pub all_hidden : (os : List (Option ℕ)) (seen hidden : List ℕ) → 0 ≡ length (known_faces os) → unknown os ≤ length hidden →
    take (length os) hidden ≡ mixed os seen hidden
all_hidden [] seen hidden none enough = refl
all_hidden (Some f ∷ os) seen hidden none enough = absurd (omega (arith, none))
all_hidden (None ∷ os) seen [] none enough = absurd (omega (arith, enough))
all_hidden (None ∷ os) seen (id ∷ hidden) none enough = ap (λ ids. id ∷ ids) (all_hidden os seen hidden none (omega (arith, enough)))
