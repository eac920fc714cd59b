use Rattle.std.proofs.Common.{◌∷◌, [], sym, ap, ◌∙◌, arith}
use Rattle.std.specs.Prelude.{codes}
use Rattle.rc_base.specs.Tree.{start_of}
use Rattle.rc_form.specs.Form.{tree_of, trees_of, packed}
use Rattle.rc_form.proofs.SliceLemmas.{three}
use Rattle.rc_play_spec.specs.Faults.{fault, row, seats, matches, turns}
use Rattle.rc_play_spec.specs.declared.plan_fault.PlanKind.TheVariants.{Shape}
use Rattle.rc_plan.proofs.Headed.{headed_is, unheaded}
use Rattle.rc_plan.proofs.Lengths.{other_length}
use Rattle.rc_plan.proofs.Told.{shape_told, fail_as, reads_handed_on, second_part}
use Rattle.rc_plan.proofs.draft.read_draft.Goals as goal

pub returns-in_default : goal.returns-in_default
returns-in_default c =
    shape_told _ _ _ c.shape.ensures
    (unheaded (codes "plan") (tree_of c.args.form.now) (row (seats ∷ matches ∷ turns ∷ [])) c.in_default.ensures.none ∙ ap (fault Shape) (sym c.start_of.ensures))

pub returns-in_default-parts : goal.returns-in_default-parts
returns-in_default-parts c =
    let form = tree_of c.args.form.now in
    let forms = c.in-Some.parts.now in
    let places = seats ∷ matches ∷ turns ∷ [] in
    shape_told _ _ _ c.shape-in_default-parts.ensures
    (headed_is (codes "plan") (packed (trees_of forms)) form (row places) c.in-Some.ensures.found
    ∙ other_length places (start_of form) forms (λ long. grind arith)
    ∙ ap (fault Shape) (sym c.start_of-in_default-parts.ensures))

pub returns-in_err-matches : goal.returns-in_err-matches
returns-in_err-matches c =
    let form = tree_of c.args.form.now in
    let forms = c.in-Some.parts.now in
    let places = seats ∷ matches ∷ turns ∷ [] in
    let parts = three forms c.seats-item.result c.matches-item.result c.turns-item.result (omega (arith, c.in-len3.len_at_least, c.in-len3.len_below))
    c.seats-item.is c.matches-item.is c.turns-item.is in
    let same = headed_is (codes "plan") (packed (trees_of forms)) form (row places) c.in-Some.ensures.found
    ∙ ap (λ forms. row places (start_of form) (packed (trees_of forms))) parts in
    let fail = c.in_err-matches.field-0.0 in
    reads_handed_on c.from_residual-in_err-matches.result fail _ _ c.from_residual-in_err-matches.ensures.1
    (fail_as fail _ _ same (second_part fail _ _ _ c.in_ok-strategies.ensures.1 c.in_err-matches.ensures))
