-- What checking a part gives.
use Rattle.std.proofs.Common.{◌≡◌, ℕ, ◌+◌, ◌<◌, List, ◌∷◌, ◌++◌, length, drop, get_or, Some, None, option_map, Result, Ok, Err, OnOk, OnErr, sym, ap, subst, ◌∙◌}
use Rattle.std.proofs.lemmas.List.{at_drop_more}
use Rattle.rc_base.specs.Tree.{Trees}
use Rattle.rc_form.specs.Form.{tree_of, trees_of, packed}
use Rattle.rc_form.specs.declared.form.Form.{Form}
use Rattle.rc_check.specs.declared.grammar.Rule.{Rule}
use Rattle.rc_check.specs.declared.fault.SheetFault.{SheetFault}
use Rattle.rc_check.specs.declared.fault.SheetKind.{SheetKind}
use Rattle.rc_check.specs.declared.fail.SheetFail.{SheetFail}
use Rattle.rc_check.specs.declared.fail.SheetFail.TheVariants as fails
use Rattle.rc_check.proofs.Walks.{check_all-fine, check_all-faulty}
use Rattle.rc_check.specs.Checks.{Checks, IfSheetFault}
use Rattle.rc_check.specs.SecondParts.{Standing, standing_in, Part, offset_of, parts_at, parts_in}
use Rattle.rc_check.specs.Summary.{Whole, Summary, fault_by, kind_by, or_on, check_all}

-- a part that is at fault
pub faulty : (whole : Whole) (seen : Summary) (part : Part) (kind : SheetKind) (next : Result Summary SheetFault)
    (fail : SheetFail)
    → kind_by whole seen part ≡ Some kind
    → fail ≡ fails.Fault (record { kind = kind; at = offset_of part })
    → IfSheetFault fail (λ fault. or_on (fault_by whole seen part) next ≡ Err fault)
faulty whole seen part kind next fail is failed =
    subst (λ fail. IfSheetFault fail (λ fault. or_on (fault_by whole seen part) next ≡ Err fault)) (sym failed)
    (ap (λ kind. or_on (option_map (λ kind. record { kind = kind; at = offset_of part }) kind) next) is)

-- a part without fault
pub fine : (whole : Whole) (seen : Summary) (part : Part) (next : Result Summary SheetFault) → kind_by whole seen part ≡ None
    → or_on (fault_by whole seen part) next ≡ next
fine whole seen part next is = ap (λ kind. or_on (option_map (λ kind. record { kind = kind; at = offset_of part }) kind) next) is

-- what was seen of a part, where memory doesn't run out
pub took : (checked : Result Summary SheetFault) (seen new : Summary) (result : Result (Unit {0}) SheetFail) → checked ≡ Ok seen
    → OnOk result (new ≡ seen) → OnErr result (result ≡ Err fails.Memory)
    → Checks checked result new
took checked seen new (Ok u) is same memory = is ∙ ap (λ known. Ok known) (sym same)
took checked seen new (Err fails.Memory) is same memory = tt
took checked seen new (Err (fails.Fault fault)) is same memory = absurd cc

-- a fault of these parts is one of these and more
pub before_more : (whole : Whole) (seen : Summary) (parts more : List Part) (fail : SheetFail)
    → IfSheetFault fail (λ fault. check_all whole seen parts ≡ Err fault)
    → IfSheetFault fail (λ fault. check_all whole seen (parts ++ more) ≡ Err fault)
before_more whole seen parts more fails.Memory is = tt
before_more whole seen parts more (fails.Fault fault) is = check_all-faulty whole seen parts more fault is

-- more parts behind these, which have none
pub behind_these : (whole : Whole) (seen seen' : Summary) (parts more : List Part) (result : Result (Unit {0}) SheetFail)
    (new : Summary)
    → check_all whole seen parts ≡ Ok seen' → Checks (check_all whole seen' more) result new
    → Checks (check_all whole seen (parts ++ more)) result new
behind_these whole seen seen' parts more result new is checks =
    subst (λ checked. Checks checked result new) (sym (check_all-fine whole seen seen' parts more is)) checks

-- the part of a form at an index stands before the others that are left
module _ (at : Standing) (rule : Rule) (all : Trees) (index : ℕ) (forms : List Form) (part : Form) (lt : index < length forms)
    (is : part ≡ get_or forms index part) where
  abbrev left : List Part
  left = parts_in at rule all index (packed (trees_of (drop index forms)))

  abbrev later : List Part
  later = parts_in at rule all (index + 1) (packed (trees_of (drop (index + 1) forms)))

  pub left_at : left ≡ parts_at (standing_in at rule all index) (tree_of part) ++ later
  left_at =
      at_drop_more (λ parts. parts_in at rule all index (packed (trees_of parts))) forms index part lt
      ∙ ap (λ form. parts_in at rule all index (packed (trees_of (form ∷ drop (index + 1) forms)))) (sym is)

  pub step_on : (whole : Whole) (seen seen' : Summary)
      → check_all whole seen (parts_at (standing_in at rule all index) (tree_of part)) ≡ Ok seen'
      → check_all whole seen' later ≡ check_all whole seen left
  step_on whole seen seen' fine =
      sym (ap (λ parts. check_all whole seen parts) left_at
      ∙ check_all-fine whole seen seen' (parts_at (standing_in at rule all index) (tree_of part)) later fine)

  pub stop_here : (whole : Whole) (seen : Summary) (fail : SheetFail)
      → IfSheetFault fail (λ fault. check_all whole seen (parts_at (standing_in at rule all index) (tree_of part)) ≡ Err fault)
      → IfSheetFault fail (λ fault. check_all whole seen left ≡ Err fault)
  stop_here whole seen fail is =
      subst (λ parts. IfSheetFault fail (λ fault. check_all whole seen parts ≡ Err fault)) (sym left_at)
      (before_more whole seen (parts_at (standing_in at rule all index) (tree_of part)) later fail is)

-- the same fault of what is checked alike
pub fault_alike : (checked other : Result Summary SheetFault) (fail : SheetFail) → checked ≡ other
    → IfSheetFault fail (λ fault. checked ≡ Err fault) → IfSheetFault fail (λ fault. other ≡ Err fault)
fault_alike checked other fail same is = subst (λ result. IfSheetFault fail (λ fault. result ≡ Err fault)) same is

-- what an answer says of what is checked
pub told_fault : (checked : Result Summary SheetFault) (new : Summary) (result : Result (Unit {0}) SheetFail) (fail : SheetFail)
    → result ≡ Err fail
    → Checks checked result new → IfSheetFault fail (λ fault. checked ≡ Err fault)
told_fault checked new result fail is checks = subst (λ answer. Checks checked answer new) is checks

pub told_fine : (checked : Result Summary SheetFault) (new : Summary) (result : Result (Unit {0}) SheetFail) (u : Unit {0})
    → result ≡ Ok u
    → Checks checked result new → checked ≡ Ok new
told_fine checked new result u is checks = subst (λ answer. Checks checked answer new) is checks
