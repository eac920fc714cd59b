-- The first fault of a form, of either round.
use Rattle.std.specs.Prelude.{◌≡◌, ◌⊎◌, []}
use Rattle.rc_base.specs.Tree.{Tree}
use Rattle.rc_check.specs.Faults.{faults}
use Rattle.rc_check.specs.FirstOf.{IsFirstOf}
use Rattle.rc_check.specs.declared.grammar.Symbol.TheVariants as symbol
use Rattle.rc_check.specs.declared.fault.SheetFault.{SheetFault}
use Rattle.rc_check.specs.SecondFaults.{second_faults}

-- it is the first of the first round, or of the second where the first round has none
abbrev pub IsFirstFault : Tree → SheetFault → Type 0
IsFirstFault tree fault =
    IsFirstOf (faults symbol.Sheet tree) fault
    ⊎ ((faults symbol.Sheet tree ≡ []) × IsFirstOf (second_faults tree) fault)
