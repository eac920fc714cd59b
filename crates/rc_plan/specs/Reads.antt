-- What reading the form at a place gives.
use Rattle.std.specs.Prelude.{◌≡◌, ℕ, List, [], ◌++◌, Result, Ok, Err, Some}
use Rattle.rc_base.specs.Tree.{Tree, word, list, Trees, cons, start_of}
use Rattle.rc_sheet_spec.specs.Rows.{◌▸◌, End, Some as AtLeastOne, Row, Atom}
use Rattle.rc_play_spec.specs.Plan.{Strategy, Deal}
use Rattle.rc_base.specs.Limits.{largest_seed, most_rounds}
use Rattle.rc_play_spec.specs.Limits.{IsBetween, IsStrategyWithin}
use Rattle.rc_play_spec.specs.PlanStands.{Number, InTurn, StandsStrategy}
use Rattle.rc_play_spec.specs.Faults.{Place, each}
use Rattle.rc_play_spec.specs.PlanFault.{first}
use Rattle.rc_play_spec.specs.declared.plan_fault.PlanFault.{PlanFault}
use Rattle.rc_plan.specs.declared.fail.PlanFail.{PlanFail}
use Rattle.rc_plan.specs.declared.fail.PlanFail.TheVariants.{Fault, Memory}

-- what holds of a fault; nothing is said where memory ran out
abbrev pub IfPlanFault : PlanFail → (PlanFault → Type 0) → Type 0
IfPlanFault Memory P = Unit {0}
IfPlanFault (Fault fault) P = P fault

-- Where the form has no faults, something that holds of the form; else the first fault, unless memory ran out.
abbrev pub Reads : {A : Type 0} → Result A PlanFail → (A → Type 0) → List PlanFault → Type 0
Reads (Ok value) Holds faults = Holds value × (faults ≡ [])
Reads (Err fail) Holds faults = IfPlanFault fail (λ fault. first faults ≡ Some fault)

-- the form is a list that begins with this word, and these are the parts behind it
pub record IsBehind (text : List ℕ) (parts : Trees) (form : Tree) : Type 0 where
  pub word_from : ℕ
  pub word_to : ℕ
  pub to : ℕ
  pub is : form ≡ list (cons (word text word_from word_to) parts) (start_of form) to

-- the form is no list that begins with this word
abbrev pub IsNotHeaded : List ℕ → Tree → Type 0
IsNotHeaded text form = (parts : Trees) → IsBehind text parts form → ⊥

-- the form spells this number, which is one of these
abbrev pub IsNumberBetween : ℕ → ℕ → ℕ → Tree → Type 0
IsNumberBetween least most n form = Number n form × IsBetween least most n

abbrev pub IsAnyNumber : ℕ → Tree → Type 0
IsAnyNumber = IsNumberBetween 0 largest_seed

-- the form stands for the strategy, which is within the limits
abbrev pub IsStrategy : Strategy → Tree → Type 0
IsStrategy strategy form = StandsStrategy strategy form × IsStrategyWithin strategy

-- the two numbers of a match, and those behind `from`
abbrev pub IsPair : Deal → Trees → Type 0
IsPair deal = IsAnyNumber deal.deal ▸ IsAnyNumber deal.seats ▸ End

abbrev pub IsCount : Deal → ℕ → Trees → Type 0
IsCount first count = IsAnyNumber first.deal ▸ IsAnyNumber first.seats ▸ IsAnyNumber count ▸ End

abbrev pub IsDeal : Deal → Tree → Type 0
IsDeal deal = Row (IsPair deal)

abbrev pub IsFrom : Deal → ℕ → Tree → Type 0
IsFrom first count = Row (Atom "from" ▸ IsCount first count)

abbrev pub AreSeats : List Strategy → Tree → Type 0
AreSeats strategies = Row (Atom "seats" ▸ AtLeastOne (InTurn IsStrategy strategies))

-- the parts behind `random`, and those behind `rollout`
abbrev pub IsKey : ℕ → Trees → Type 0
IsKey key = IsAnyNumber key ▸ End

abbrev pub IsRollout : ℕ → ℕ → Trees → Type 0
IsRollout rounds key = IsNumberBetween 1 most_rounds rounds ▸ IsAnyNumber key ▸ End

-- Parts are read in turn: what was read stands for the parts so far, so that whatever stands for those that are left stands
-- behind it for all; and no part so far is at fault.
pub record IsReadSoFar {A : Type 0} (Stands : A → Tree → Type 0) (place : Place) (done : List A)
    (left all : Trees) : Type 0 where
  pub stands : (later : List A) → InTurn Stands later left → InTurn Stands (done ++ later) all
  pub faults : each place left ≡ each place all
