-- The laws of the walk over the parts.
use Rattle.std.specs.Prelude.{◌≡◌, ℕ, List, Some, Result, Ok, Err}
use Rattle.rc_base.specs.Tree.{Tree}
use Rattle.rc_base.specs.Placed.{IsPlaced}
use Rattle.rc_check.specs.Faults.{first, fault_of}
use Rattle.rc_check.specs.FirstOf.{IsFirstOf}
use Rattle.rc_check.specs.SecondParts.{Part, parts_of}
use Rattle.rc_check.specs.SecondFaults.{second_faults}
use Rattle.rc_check.specs.Summary.{Whole, whole_of, Summary, nothing_seen, check_all}
use Rattle.rc_check.specs.declared.fault.SheetFault.{SheetFault}

-- a fault, or else more parts from what was seen on
abbrev pub check_on : Whole → Result Summary SheetFault → List Part → Result Summary SheetFault
check_on whole (Err fault) more = Err fault
check_on whole (Ok seen) more = check_all whole seen more

-- the walk of a form
abbrev pub check_form : Tree → Result Summary SheetFault
check_form tree = check_all (whole_of (parts_of tree)) nothing_seen (parts_of tree)

-- One walk over the parts of a form finds the first fault of the second round, and none where there is none.
abbrev pub FindsFirst : Tree → Type 0
FindsFirst tree = first (second_faults tree) ≡ fault_of (check_form tree)

-- The first fault in the list is that before which no other comes, where the form stands in a text.
abbrev pub IsLeastFirst : Tree → Type 0
IsLeastFirst tree =
    (size : ℕ) (fault : SheetFault) → IsPlaced size tree → first (second_faults tree) ≡ Some fault
    → IsFirstOf (second_faults tree) fault
