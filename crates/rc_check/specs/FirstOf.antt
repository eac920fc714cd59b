-- Which of the faults of a round is the first.
use Rattle.std.specs.Prelude.{◌≡◌, ℕ, ◌<◌, ◌⊎◌, List, All, Contains}
use Rattle.rc_check.specs.declared.fault.SheetKind.{SheetKind}
use Rattle.rc_check.specs.declared.fault.SheetKind.TheVariants.{Shape, Number, Twice, Unknown, WrongKind, TooMany, NoCards}
use Rattle.rc_check.specs.declared.fault.SheetFault.{SheetFault}

-- where a kind stands among the kinds, of which an earlier one is told first
abbrev pub rank : SheetKind → ℕ
rank Shape = 0
rank Number = 1
rank Twice = 2
rank Unknown = 3
rank WrongKind = 4
rank TooMany = 5
rank NoCards = 6

-- a fault comes before another one: at a smaller offset, or of an earlier kind at the same
abbrev pub ComesBefore : SheetFault → SheetFault → Type 0
ComesBefore fault other = (fault.at < other.at) ⊎ ((fault.at ≡ other.at) × (rank fault.kind < rank other.kind))

-- it is a fault of the round, and none of the round comes before it
pub record IsFirstOf (round : List SheetFault) (fault : SheetFault) : Type 0 where
  pub found : Contains round fault
  pub least : All (λ other. ComesBefore other fault → ⊥) round
