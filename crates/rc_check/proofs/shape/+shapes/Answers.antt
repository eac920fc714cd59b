use Rattle.std.proofs.Common.{◌≡◌, ℕ, List, length, Option, Result, ap, sym, subst, ◌∙◌}
use Rattle.std.proofs.lemmas.Result.{err_from_is_err_and}
use Rattle.rc_form.specs.Form.{tree_of, trees_of, packed}
use Rattle.rc_form.specs.declared.form.Form.{Form}
use Rattle.rc_form.proofs.FormLemmas.{count_packed}
use Rattle.rc_check.specs.Faults as spec
use Rattle.rc_check.specs.declared.fault.SheetFault.{SheetFault}
use Rattle.rc_check.specs.declared.grammar.Symbol.{Symbol}
use Rattle.rc_check.specs.declared.grammar.Rule.{Rule}
use Rattle.rc_check.proofs.FirstFault.{step_on, stop_here}
use Rattle.rc_check.proofs.shape.+shapes.Goals as goal

-- what looking at a part answers, at the place that the form has for it
answered : (rule : Rule) (parts : List Form) (index : ℕ) (place : Option Symbol) (part : Form) (result : Result (Unit {0}) SheetFault)
    → place ≡ spec.place_at rule (length parts) index → spec.fault_of result ≡ spec.first (spec.faults_at place (tree_of part))
    → spec.first (spec.faults_at (spec.place_at rule (spec.count (packed (trees_of parts))) index) (tree_of part)) ≡ spec.fault_of result
answered rule parts index place part result is answer =
    let same = is ∙ ap (λ n. spec.place_at rule n index) (sym (count_packed parts)) in
    sym (subst (λ place. spec.fault_of result ≡ spec.first (spec.faults_at place (tree_of part))) same answer)

pub check_parts-loop-index-preserved : goal.check_parts-loop-index-preserved
check_parts-loop-index-preserved t c =
    let parts = c.args.parts.now in
    let index = c.loop-index.index in
    let part = c.index-parts-index.result in
    let answer = answered c.args.rule parts index c.place_at.result part c.check_part.result c.place_at.ensures c.check_part.ensures in
    step_on c.args.rule _ index parts part c.loop-index-test.true c.index-parts-index.is (answer ∙ ap spec.fault_of c.in_ok-check_part.was)
    ∙ c.loop-index.invariant

pub check_parts-returns-in_err-check_part : goal.check_parts-returns-in_err-check_part
check_parts-returns-in_err-check_part t c =
    let parts = c.args.parts.now in
    let index = c.loop-index.index in
    let part = c.index-parts-index.result in
    let fault = c.in_err-check_part.field-0.0 in
    let answer = answered c.args.rule parts index c.place_at.result part c.check_part.result c.place_at.ensures c.check_part.ensures in
    let stop = stop_here c.args.rule _ index parts part fault c.loop-index-test.true c.index-parts-index.is (answer ∙ ap spec.fault_of c.in_err-check_part.was) in
    let passed = err_from_is_err_and c.from_residual.result c.from_residual.ensures.1 in
    rw (passed.1, passed.2) (sym stop ∙ c.loop-index.invariant)
