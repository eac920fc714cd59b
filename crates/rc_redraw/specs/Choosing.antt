-- What choosing asks of a memo, and how many playouts it takes.
use Rattle.std.specs.Prelude.{◌≡◌, ℕ, ◌+◌, ◌⊎◌, true, false, List, [], ◌∷◌}
use Rattle.rc_play_spec.specs.About.{About}
use Rattle.rc_play_spec.specs.Plan.{Strategy, scripted, random, rollout}
use Rattle.rc_play_spec.specs.View.{View}
use Rattle.rc_redraw.specs.Asking.{Key, cost_of}
use Rattle.rc_redraw.specs.Counts.{Counts, looked_up, kept_once}
use Rattle.rc_redraw.specs.Need.{Need}

-- what a strategy asks of playouts for a view: a rollout its key, and the others nothing
abbrev pub asked_by : About → Strategy → ℕ → View → List Key
asked_by about (scripted numbers) seed view = []
asked_by about (random key) seed view = []
asked_by about (rollout rounds key) seed view =
    record { about = about; ask = record { rounds = rounds; key = key; seed = seed; view = view } } ∷ []

-- One key is looked up. After a hit nothing else is done and no step is counted; after a miss its playouts are made, a step for
-- each, and the entry is kept.
pub data Asks (key : Key) (before after : Counts) (steps steps' : ℕ) : Type 0 where
  hits : after ≡ looked_up key true before → steps' ≡ steps → Asks key before after steps steps'
  misses : after ≡ kept_once key (looked_up key false before) → steps' ≡ steps + cost_of key →
      Asks key before after steps steps'

-- These keys are looked up one after the other.
abbrev pub AsksAll : List Key → Counts → Counts → ℕ → ℕ → Type 0
AsksAll [] before after steps steps' = (after ≡ before) × (steps' ≡ steps)
AsksAll (key ∷ keys) before after steps steps' =
    (between : Counts) × (more : ℕ) × Asks key before between steps more × AsksAll keys between after more steps'

-- what a choice asks
abbrev pub asked_for : Need → List Key
asked_for need = asked_by need.about need.strategy need.seed need.view

abbrev pub Chooses : Need → Counts → Counts → ℕ → ℕ → Type 0
Chooses need before after steps steps' = AsksAll (asked_for need) before after steps steps'

-- Where memory runs out at a key, nothing of it was done, or it was looked up, a miss, and none of its playouts were made, or all of
-- them. Nothing was kept.
pub data Lacks (key : Key) (before after : Counts) (steps steps' : ℕ) : Type 0 where
  unasked : after ≡ before → steps' ≡ steps → Lacks key before after steps steps'
  unkept : after ≡ looked_up key false before → (steps' ≡ steps) ⊎ (steps' ≡ steps + cost_of key) →
      Lacks key before after steps steps'

-- Memory runs out at the first of these keys. Where there are none, nothing was done.
abbrev pub LacksFirst : List Key → Counts → Counts → ℕ → ℕ → Type 0
LacksFirst [] before after steps steps' = (after ≡ before) × (steps' ≡ steps)
LacksFirst (key ∷ keys) before after steps steps' = Lacks key before after steps steps'

-- memory runs out at a choice
abbrev pub ChoiceLacks : Need → Counts → Counts → ℕ → ℕ → Type 0
ChoiceLacks need before after steps steps' = LacksFirst (asked_for need) before after steps steps'

-- The first of these keys are looked up one after the other, all of them or until memory runs out at one.
abbrev pub AsksSome : List Key → Counts → Counts → ℕ → ℕ → Type 0
AsksSome [] before after steps steps' = (after ≡ before) × (steps' ≡ steps)
AsksSome (key ∷ keys) before after steps steps' =
    Lacks key before after steps steps'
    ⊎ ((between : Counts) × (more : ℕ) × Asks key before between steps more × AsksSome keys between after more steps')

-- the steps that these lookups take where none is a hit
abbrev pub all_costs : List Key → ℕ
all_costs [] = 0
all_costs (key ∷ keys) = cost_of key + all_costs keys

-- the most steps that a choice takes
abbrev pub most_steps : Need → ℕ
most_steps need = all_costs (asked_for need)
