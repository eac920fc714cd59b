-- Dealers: the states to which shuffles lead, and the dealer of a match.
use Rattle.std.specs.Prelude.{◌≡◌, ℕ, List, [], ◌∷◌}
use Rattle.rc_play_spec.specs.Effects.{Dealing}

-- the state behind shuffles of lists of these sizes, in order
abbrev pub state_behind : Dealing ℕ → ℕ → List ℕ → ℕ
state_behind dealing state [] = state
state_behind dealing state (size ∷ sizes) = state_behind dealing (dealing.next state size) sizes

-- some lists were shuffled between these two states
abbrev pub HasShuffled : Dealing ℕ → ℕ → ℕ → Type 0
HasShuffled dealing before after = (sizes : List ℕ) × (after ≡ state_behind dealing before sizes)

-- a dealer shuffled some lists, by what its trait has it deal and where it stands
abbrev pub ShuffledBy : {D : Type 0} → (D → Dealing ℕ) → (D → ℕ) → D → D → Type 0
ShuffledBy dealing state before after = HasShuffled (dealing before) (state before) (state after)

-- the seed of the shuffles of a match, and how many there were
pub record Dealt : Type 0 where
  pub deal : ℕ
  pub count : ℕ
