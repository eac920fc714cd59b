-- Which locations hide cards, and what is known of their places.
use Rattle.std.specs.Prelude.{◌≡◌, ◌⊎◌, ℕ, suc, ◌+◌, Bool, true, false, nat_lt, if◌then◌else◌, List, [], ◌∷◌, ◌++◌, length, drop, Option, Some, None}
use Rattle.rc_play_spec.specs.View.{Sight, with_faces, partly}
use Rattle.rc_play_spec.specs.Redraw.{hidden_at, faces_at, known_faces, unknown}

-- those with places that aren't known, of the locations from one on
abbrev pub hiding_from : ℕ → List Bool → List Sight → List ℕ
hiding_from loc mems [] = []
hiding_from loc [] (sight ∷ sights) = []
hiding_from loc (m ∷ mems) (sight ∷ sights) =
    (if nat_lt 0 (hidden_at m sight) then loc ∷ [] else []) ++ hiding_from (loc + 1) mems sights

-- the first of `seen` at the known places, and nothing at the others
abbrev pub pattern_at : List (Option ℕ) → List ℕ → List (Option ℕ)
pattern_at [] seen = []
pattern_at (Some f ∷ os) [] = []
pattern_at (Some f ∷ os) (id ∷ seen) = Some id ∷ pattern_at os seen
pattern_at (None ∷ os) seen = None ∷ pattern_at os seen

-- the same of a location that hides cards, and nothing of another one
abbrev pub pattern_of : Bool → Sight → List ℕ → List (Option ℕ)
pattern_of true sight seen = []
pattern_of false (with_faces fs) seen = []
pattern_of false (partly os) seen = if nat_lt 0 (unknown os) then pattern_at os seen else []

-- one location behind the other
abbrev pub patterns : List Bool → List Sight → List ℕ → List (Option ℕ)
patterns mems [] seen = []
patterns [] (sight ∷ sights) seen = []
patterns (m ∷ mems) (sight ∷ sights) seen =
    pattern_of m sight seen ++ patterns mems sights (drop (length (faces_at m sight)) seen)

-- a pattern with ids in its other places
abbrev pub blended : List (Option ℕ) → List ℕ → List ℕ
blended [] hidden = []
blended (Some id ∷ ps) hidden = id ∷ blended ps hidden
blended (None ∷ ps) [] = []
blended (None ∷ ps) (id ∷ hidden) = id ∷ blended ps hidden

-- The same of a pattern that is kept only where some place is known. Without one the ids fill all places.
abbrev pub spread : List (Option ℕ) → List ℕ → List ℕ
spread [] ids = ids
spread (p ∷ ps) ids = blended (p ∷ ps) ids

-- how many other places a pattern has
abbrev pub blanks : List (Option ℕ) → ℕ
blanks [] = 0
blanks (Some id ∷ ps) = blanks ps
blanks (None ∷ ps) = suc (blanks ps)

-- whether a place is known of a location that isn't seen
abbrev pub knows : Sight → Bool
knows (with_faces fs) = false
knows (partly os) = nat_lt 0 (length (known_faces os))

-- a pattern is kept, or nothing of one in which no place is known
abbrev pub IsKept : List (Option ℕ) → List (Option ℕ) → Type 0
IsKept kept pattern = (kept ≡ pattern) ⊎ ((kept ≡ []) × (blanks pattern ≡ length pattern))
