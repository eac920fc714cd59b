-- The first of several faults.
use Rattle.std.proofs.Common.{◌≡◌, ℕ, ◌+◌, ◌<◌, List, [], ◌∷◌, ◌++◌, length, drop, get_or, Option, Some, None, refl, sym, ap, ◌∙◌}
use Rattle.std.proofs.lemmas.List.{at_drop_more}
use Rattle.rc_form.specs.Form.{tree_of, trees_of, packed}
use Rattle.rc_form.specs.declared.form.Form.{Form}
use Rattle.rc_check.specs.Faults.{first, faults_at, faults_in, place_at}
use Rattle.rc_check.specs.declared.fault.SheetFault.{SheetFault}
use Rattle.rc_check.specs.declared.grammar.Rule.{Rule}

-- behind no fault, the first is the first of the others
first_behind : (xs ys : List SheetFault) → first xs ≡ None → first (xs ++ ys) ≡ first ys
first_behind [] ys none = refl
first_behind (x ∷ xs) ys none = absurd cc

-- the first of some faults is the first of more
first_before : (xs ys : List SheetFault) (fault : SheetFault) → first xs ≡ Some fault → first (xs ++ ys) ≡ Some fault
first_before [] ys fault is = absurd cc
first_before (x ∷ xs) ys fault is = is

-- the first fault of the parts that are left
abbrev left : Rule → ℕ → ℕ → List Form → Option SheetFault
left rule n index forms = first (faults_in rule n index (packed (trees_of forms)))

-- the part at an index stands before the others that are left
left_at : (rule : Rule) (n index : ℕ) (parts : List Form) (part : Form) → index < length parts → part ≡ get_or parts index part
    → left rule n index (drop index parts) ≡ left rule n index (part ∷ drop (index + 1) parts)
left_at rule n index parts part lt is =
    at_drop_more (left rule n index) parts index part lt ∙ ap (λ form. left rule n index (form ∷ drop (index + 1) parts)) (sym is)

-- where a part has no fault, the first is the first of the parts behind it
pub step_on : (rule : Rule) (n index : ℕ) (parts : List Form) (part : Form) → index < length parts → part ≡ get_or parts index part
    → first (faults_at (place_at rule n index) (tree_of part)) ≡ None
    → first (faults_in rule n (index + 1) (packed (trees_of (drop (index + 1) parts))))
    ≡ first (faults_in rule n index (packed (trees_of (drop index parts))))
step_on rule n index parts part lt is none = sym (left_at rule n index parts part lt is ∙ first_behind _ _ none)

-- where a part has one, that is the first
pub stop_here : (rule : Rule) (n index : ℕ) (parts : List Form) (part : Form) (fault : SheetFault) → index < length parts
    → part ≡ get_or parts index part → first (faults_at (place_at rule n index) (tree_of part)) ≡ Some fault
    → first (faults_in rule n index (packed (trees_of (drop index parts)))) ≡ Some fault
stop_here rule n index parts part fault lt is here = left_at rule n index parts part lt is ∙ first_before _ _ fault here
