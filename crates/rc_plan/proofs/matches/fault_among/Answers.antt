use Rattle.std.proofs.Common.{◌∙◌, sym, true, arith}
use Rattle.std.proofs.lemmas.List.{at_drop_all}
use Rattle.rc_form.specs.Form.{trees_of, packed}
use Rattle.rc_form.proofs.FormLemmas.{count_packed}
use Rattle.rc_play_spec.specs.Faults.{each, match}
use Rattle.rc_play_spec.proofs.SomePlan.{all_lists}
use Rattle.rc_plan.proofs.matches.fault_among.Goals as goal

pub unreachable-requires : goal.unreachable-requires
unreachable-requires c =
    let forms = c.args.parts.now in
    let none = sym c.loop-part.invariant
    ∙ at_drop_all (λ left. each (match true) (packed (trees_of left))) forms c.loop-part.part-index c.loop-part-test.false in
    let lists = all_lists true (packed (trees_of forms)) none in
    let parts = count_packed forms in
    let several = c.requires.several in
    let one = c.requires.lists in
    omega (arith, lists, parts, several, one)
