-- A sink over memory of a fixed size, as a caller sees it.
use Rattle.std.specs.Prelude.{◌≡◌, ℕ, ◌-◌, ◌⊎◌, List, ◌++◌, length, min}
use Rattle.rc_outside.specs.Calls.{Numbered, IsToFail, after_success, after_failure}

-- what was written, how much it may become, the most that a call takes, and the calls
pub record Store : Type 0 where
  pub written : List ℕ
  pub room : ℕ
  pub chunk : ℕ
  pub calls : Numbered

-- no byte more has room
abbrev pub IsFull : Store → Type 0
IsFull store = length store.written ≡ store.room

-- a call fails if its number says so or the store is full
abbrev pub Refuses : Store → Type 0
Refuses store = IsToFail store.calls ⊎ IsFull store

-- how many bytes of a piece of this length a call that goes well takes
abbrev pub taken_count : Store → ℕ → ℕ
taken_count store piece = min (min piece store.chunk) (store.room - length store.written)

-- after a call that took these bytes
abbrev pub store_after_write : Store → List ℕ → Store
store_after_write store bytes =
    record store { written = store.written ++ bytes; calls = after_success store.calls }

-- after a call that failed
abbrev pub store_after_failure : Store → Store
store_after_failure store = record store { calls = after_failure store.calls }
