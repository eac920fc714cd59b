-- What the walk of a whole form answers.
use Rattle.std.proofs.Common.{◌≡◌, ℕ, List, [], ◌∷◌, Some, None, Result, Ok, Err, IfOk, IfErr, refl, ap, ◌∙◌}
use Rattle.rc_base.specs.Tree.{Tree, nil}
use Rattle.rc_base.specs.Placed.{IsPlaced}
use Rattle.rc_sheet_spec.specs.WellFormed.{Around, outside}
use Rattle.rc_check.specs.Faults.{first, fault_of}
use Rattle.rc_check.specs.FirstOf.{IsFirstOf}
use Rattle.rc_check.specs.declared.fault.SheetFault.{SheetFault}
use Rattle.rc_check.specs.declared.grammar.Symbol.TheVariants as symbol
use Rattle.rc_check.specs.declared.fail.SheetFail.{SheetFail}
use Rattle.rc_check.specs.declared.fail.SheetFail.TheVariants as fails
use Rattle.rc_check.specs.SecondParts.{no_role, parts_at, parts_of}
use Rattle.rc_check.specs.SecondFaults.{second_faults}
use Rattle.rc_check.specs.Summary.{Whole, whole_of, Summary, nothing_seen, check_all}
use Rattle.rc_check.specs.SecondWalk.{check_form}
use Rattle.rc_check.specs.Checks.{Checks, IfSheetFault}
use Rattle.rc_check.proofs.InOrder.{first_is_least}
use Rattle.rc_check.proofs.SecondLaw.{finds_first}

-- the walk from the start is that of the form
pub from_start : (tree : Tree) (whole : Whole) (seen : Summary) (around : Around) (above : List (List ℕ)) → whole
    ≡ whole_of (parts_of tree)
    → seen ≡ nothing_seen → around ≡ outside → above ≡ []
    → check_all whole seen
    (parts_at (Some (record { place = symbol.Sheet; role = no_role; beside = nil; around = around; above = above })) tree)
    ≡ check_form tree
from_start tree whole seen around above known none out no_above = rw (known, none, out, no_above) refl

-- faults without a first one
no_first : (faults : List SheetFault) → first faults ≡ None → faults ≡ []
no_first [] none = refl
no_first (fault ∷ faults) none = absurd cc

-- a walk without a fault
pub answered_fine : (tree : Tree) (new : Summary) (result : Result (Unit {0}) SheetFail) → Checks (check_form tree) result new
    → IfOk result (λ u. second_faults tree ≡ [])
answered_fine tree new (Ok u) checks = no_first (second_faults tree) (finds_first tree ∙ ap fault_of checks)
answered_fine tree new (Err fail) checks = tt

-- and one with a fault
pub answered_found : (tree : Tree) (new : Summary) (result : Result (Unit {0}) SheetFail) → Checks (check_form tree) result new
    → IfErr result (λ fail. IfSheetFault fail (λ fault. first (second_faults tree) ≡ Some fault))
answered_found tree new (Ok u) checks = tt
answered_found tree new (Err fails.Memory) checks = tt
answered_found tree new (Err (fails.Fault fault)) checks = finds_first tree ∙ ap fault_of checks

-- before which none comes, where the form is placed
pub answered_least : (tree : Tree) (result : Result (Unit {0}) SheetFail)
    → IfErr result (λ fail. IfSheetFault fail (λ fault. first (second_faults tree) ≡ Some fault))
    → IfErr result (λ fail. IfSheetFault fail (λ fault. (size : ℕ) → IsPlaced size tree → IsFirstOf (second_faults tree) fault))
answered_least tree (Ok u) found = tt
answered_least tree (Err fails.Memory) found = tt
answered_least tree (Err (fails.Fault fault)) found = λ size placed. first_is_least size tree fault placed found
