-- Which forms stand for which plans.
use Rattle.std.specs.Prelude.{◌≡◌, ℕ, ◌+◌, ◌⊎◌, List, [], ◌∷◌, map}
use Rattle.std.specs.Prelude.{Some as Present}
use Rattle.std.specs.List.{range_with_len}
use Rattle.rc_base.specs.Tree.{Tree, Trees}
use Rattle.rc_base.specs.Literal.{natural}
use Rattle.rc_sheet_spec.specs.Rows.{◌▸◌, End, Some, Row, Word, Atom}
use Rattle.rc_play_spec.specs.Plan.{Strategy, scripted, random, rollout, Deal, Plan}

-- the form is an atom that spells this number: one to eighteen digits without a sign
abbrev pub Number : ℕ → Tree → Type 0
Number n = Word (λ bytes. natural bytes ≡ Present n)

-- each of the parts stands for one of these, in order
abbrev pub InTurn : {A : Type 0} → (A → Tree → Type 0) → List A → Trees → Type 0
InTurn Stands [] = End
InTurn Stands (first ∷ others) = Stands first ▸ InTurn Stands others

-- `(script n*)`, `(random k)` or `(rollout R k)`
abbrev pub StandsStrategy : Strategy → Tree → Type 0
StandsStrategy (scripted numbers) = Row (Atom "script" ▸ InTurn Number numbers)
StandsStrategy (random key) = Row (Atom "random" ▸ Number key ▸ End)
StandsStrategy (rollout rounds key) = Row (Atom "rollout" ▸ Number rounds ▸ Number key ▸ End)

-- `(deal seat)`
abbrev pub StandsDeal : Deal → Tree → Type 0
StandsDeal deal = Row (Number deal.deal ▸ Number deal.seats ▸ End)

-- the match that comes so many behind another: both numbers count up
abbrev pub later : Deal → ℕ → Deal
later first m = record { deal = first.deal + m; seats = first.seats + m }

-- so many matches from this one on
abbrev pub counted_from : Deal → ℕ → List Deal
counted_from first count = map (later first) (range_with_len 0 count)

-- `(from deal seat count)`
abbrev pub StandsFrom : List Deal → Tree → Type 0
StandsFrom matches form =
    (first : Deal) × (count : ℕ)
    × Row (Atom "from" ▸ Number first.deal ▸ Number first.seats ▸ Number count ▸ End) form
    × (matches ≡ counted_from first count)

-- `(deal seat)` .., or one `(from deal seat count)` alone
abbrev pub StandMatches : List Deal → Trees → Type 0
StandMatches matches parts = InTurn StandsDeal matches parts ⊎ (StandsFrom matches ▸ End) parts

-- `(seats STRATEGY+)`
abbrev pub StandsSeats : List Strategy → Tree → Type 0
StandsSeats strategies = Row (Atom "seats" ▸ Some (InTurn StandsStrategy strategies))

-- `(matches M)`
abbrev pub StandsMatches : List Deal → Tree → Type 0
StandsMatches matches = Row (Atom "matches" ▸ Some (StandMatches matches))

-- `(turns T)`
abbrev pub StandsTurns : ℕ → Tree → Type 0
StandsTurns turns = Row (Atom "turns" ▸ Number turns ▸ End)

-- `(plan (seats STRATEGY+) (matches M) (turns T))`
abbrev pub PlanStands : Plan → Tree → Type 0
PlanStands plan =
    Row (Atom "plan" ▸ StandsSeats plan.strategies ▸ StandsMatches plan.matches ▸ StandsTurns plan.turns ▸ End)
