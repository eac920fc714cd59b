-- Places in the code, one after the other.
use Rattle.std.specs.Prelude.{◌≡◌, ℕ, true, false, List, [], ◌∷◌, ◌++◌, slice_get, Option, Some, None}
use Rattle.rc_sheet_spec.specs.Sheet.{Class, Test}
use Rattle.rc_play_spec.specs.Path.{Path}
use Rattle.rc_code.specs.Instruction.{Instruction, begin_stage}

-- at an instruction
abbrev pub went_to : ℕ → Path → Path
went_to next path = record { outer = path.outer; next = next; at_round = false }

-- at a round of the innermost stage
abbrev pub at_round_of : Path → Path
at_round_of path = record { outer = path.outer; next = path.next; at_round = true }

-- all but the innermost
abbrev pub but_last : List ℕ → List ℕ
but_last [] = []
but_last (n ∷ []) = []
but_last (n ∷ m ∷ outer) = n ∷ but_last (m ∷ outer)

-- behind the innermost stage
abbrev pub closed_to : ℕ → Path → Path
closed_to next path = record { outer = but_last path.outer; next = next; at_round = false }

-- in the stage that is next, at a round
abbrev pub opened_at : Path → Path
opened_at path = record { outer = path.outer ++ path.next ∷ []; next = path.next; at_round = true }

-- the innermost place, if there is one
abbrev pub Innermost : Path → Option ℕ → Type 0
Innermost path None = path.outer ≡ []
Innermost path (Some place) = (outer : List ℕ) × (path.outer ≡ outer ++ place ∷ [])

-- a stage begins there
abbrev pub IsStageAt : List Instruction → ℕ → Type 0
IsStageAt code place =
    (number : ℕ) × (class : Class) × (end : Test) × (inside : ℕ)
    × (slice_get code place ≡ Some (begin_stage number class end inside))

abbrev pub AreStages : List Instruction → List ℕ → Type 0
AreStages code [] = Unit {0}
AreStages code (place ∷ outer) = IsStageAt code place × AreStages code outer

-- at each of the open places a stage begins, and where a round is next one is open
pub record IsPlace (code : List Instruction) (path : Path) : Type 0 where
  pub stages : AreStages code path.outer
  pub at_stage : path.at_round ≡ true → (outer : List ℕ) × (place : ℕ) × (path.outer ≡ outer ++ place ∷ [])
