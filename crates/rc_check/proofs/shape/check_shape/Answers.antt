use Rattle.std.proofs.Common.{◌≡◌, List, Result, Ok, Err, sym}
use Rattle.std.specs.Result.{IfErr}
use Rattle.rc_form.specs.Form.{tree_of}
use Rattle.rc_check.specs.Faults as spec
use Rattle.rc_check.specs.FirstOf.{IsFirstOf}
use Rattle.rc_check.specs.declared.fault.SheetFault.{SheetFault}
use Rattle.rc_check.specs.declared.grammar.Symbol.TheVariants.{Sheet}
use Rattle.rc_check.proofs.ShapeInOrder.{Ordered, Ordered-faults, Ordered-first}
use Rattle.rc_check.proofs.shape.check_shape.Goals as goal

if_first : {A : Type 0} (r : Result A SheetFault) (faults : List SheetFault) → spec.fault_of r ≡ spec.first faults → Ordered 0 faults
    → IfErr r (λ fault. IsFirstOf faults fault)
if_first (Ok u) faults is ordered = tt
if_first (Err fault) faults is ordered = Ordered-first 0 faults fault ordered (sym is)

pub returns-clause-least : goal.returns-clause-least
returns-clause-least c =
    let placed = c.requires.placed in
    if_first c.check_form.result _ c.check_form.ensures (Ordered-faults Sheet (tree_of c.args.form.now) placed.0 placed.1)
