-- The first fault of a form that is to be a plan.
use Rattle.std.specs.Prelude.{ℕ, Bool, ◌&&◌, ◌||◌, ◌==◌, nat_le, nat_lt, List, [], ◌∷◌, Option, Some, None, IsTrue, All}
use Rattle.std.specs.List.{Contains}
use Rattle.rc_base.specs.Tree.{Tree}
use Rattle.rc_play_spec.specs.Faults.{plan_faults}
use Rattle.rc_play_spec.specs.declared.plan_fault.PlanKind.{PlanKind}
use Rattle.rc_play_spec.specs.declared.plan_fault.PlanKind.TheVariants.{Shape, Number, Seats, Matches, Turns, TooLarge, Rest}
use Rattle.rc_play_spec.specs.declared.plan_fault.PlanFault.{PlanFault}

-- when a kind is looked for: Shape and Number together, and then each kind by itself
abbrev pub turn_of : PlanKind → ℕ
turn_of Shape = 1
turn_of Number = 1
turn_of Seats = 2
turn_of Matches = 3
turn_of Turns = 4
turn_of TooLarge = 5
turn_of Rest = 6

-- which is told of two kinds at one offset
abbrev pub rank_of : PlanKind → ℕ
rank_of Shape = 0
rank_of Number = 1
rank_of kind = turn_of kind

-- the fault is told before another: its kind is looked for before, or else its offset is smaller, or else its kind is told first
abbrev pub is_told_first : PlanFault → PlanFault → Bool
is_told_first fault other =
    nat_lt (turn_of fault.kind) (turn_of other.kind)
    || (turn_of fault.kind == turn_of other.kind
    && (nat_lt fault.at other.at || (fault.at == other.at && nat_le (rank_of fault.kind) (rank_of other.kind))))

-- the first of these faults, where they stand in the order in which they are told
abbrev pub first : List PlanFault → Option PlanFault
first [] = None
first (fault ∷ others) = Some fault

-- the fault is one of these, and is told before all of them
pub record IsFirstOf (faults : List PlanFault) (fault : PlanFault) : Type 0 where
  pub stands : Contains faults fault
  pub least : All (λ other. IsTrue (is_told_first fault other)) faults

-- the first fault of a form that is to be a plan for so many players
abbrev pub IsPlanFault : Tree → ℕ → PlanKind → ℕ → Type 0
IsPlanFault form players kind at = IsFirstOf (plan_faults players form) (record { kind = kind; at = at })
