-- What calls leave of a list of keys that holds so many at most, the most recent key first. All keys here are of one about, where to be
-- the same is to be equal (law same_keys_are_equal).
use Rattle.std.specs.Prelude.{ℕ, Bool, true, false, not, ◌&&◌, ◌||◌, if◌then◌else◌, List, [], ◌∷◌, take}
use Rattle.rc_redraw.specs.Asking.{Key}
use Rattle.rc_redraw.specs.Counts.{Call, looked, kept}
use Rattle.rc_cache.specs.Same.{same_key}

-- whether the key is among these
abbrev pub is_among : Key → List Key → Bool
is_among key [] = false
is_among key (k ∷ keys) = same_key key k || is_among key keys

-- the key is taken out where it first stands
abbrev pub without : Key → List Key → List Key
without key [] = []
without key (k ∷ keys) = if same_key key k then keys else k ∷ without key keys

-- A look that hits brings its key to the front, and one that misses changes nothing. What is kept comes to the front, and where
-- the list is too long then, its last key goes.
abbrev pub after : ℕ → List Key → Call → List Key
after capacity keys (looked key hit) = if hit then key ∷ without key keys else keys
after capacity keys (kept key) = take capacity (key ∷ without key keys)

-- a look hits exactly where its key is there
abbrev pub is_met : List Key → Call → Bool
is_met keys (looked key hit) = if hit then is_among key keys else not (is_among key keys)
is_met keys (kept key) = true

abbrev pub replay_from : ℕ → List Key → List Call → List Key
replay_from capacity keys [] = keys
replay_from capacity keys (call ∷ calls) = replay_from capacity (after capacity keys call) calls

abbrev pub legal_from : ℕ → List Key → List Call → Bool
legal_from capacity keys [] = true
legal_from capacity keys (call ∷ calls) = is_met keys call && legal_from capacity (after capacity keys call) calls

-- what all calls leave
abbrev pub replay : ℕ → List Call → List Key
replay capacity calls = replay_from capacity [] calls

-- whether each look says what is so
abbrev pub is_legal : ℕ → List Call → Bool
is_legal capacity calls = legal_from capacity [] calls
