use Rattle.std.proofs.Common.{◌≡◌, List, ◌∷◌, ◌++◌, refl, ap, ◌∙◌}
use Rattle.rc_base.specs.Tree.{Tree, printed_behind}
use Rattle.rc_sheet_spec.specs.Printing.{binding, packed, keyword, row, named, int_form, test_form, domain_form, effect_form, effect_forms}
use Rattle.rc_ast.specs.Expressions.{int_seen, test_seen, domain_seen}
use Rattle.rc_ast.specs.Effects.{effect_seen, effects_seen}
use Rattle.rc_print.specs.Printing.{naming_seen, bound_seen}
use Rattle.rc_print.proofs.Rows.{opened, with_part, with_parts, closed, printed_as}
use Rattle.rc_print.proofs.FormLemmas.{if_form, repeat_form, each_form}
use Rattle.rc_print.proofs.effects.+effects.Goals as goal

pub push_effect-returns-in-If : goal.push_effect-returns-in-If
push_effect-returns-in-If t c =
    let sheet = c.args.sheet.now in
    printed_as _ _ c.push_guarded.result _ _ c.push_guarded.ensures
    (if_form (naming_seen sheet) (bound_seen sheet c.args.bound.now) c.args.effect.now c.in-If.test c.in-If.effects c.in-If.is)

pub push_effect-returns-in-Repeat : goal.push_effect-returns-in-Repeat
push_effect-returns-in-Repeat t c =
    let sheet = c.args.sheet.now in
    printed_as _ _ c.push_repeated.result _ _ c.push_repeated.ensures
    (repeat_form (naming_seen sheet) (bound_seen sheet c.args.bound.now) c.args.effect.now c.in-Repeat.times
    c.in-Repeat.effects c.in-Repeat.is)

pub push_effect-returns-in-Each : goal.push_effect-returns-in-Each
push_effect-returns-in-Each t c =
    let sheet = c.args.sheet.now in
    printed_as _ _ c.push_each.result _ _ c.push_each.ensures
    (each_form (naming_seen sheet) (bound_seen sheet c.args.bound.now) c.args.effect.now c.in-Each.domain c.in-Each.var
    c.in-Each.effects c.in-Each.is)

pub push_each-returns : goal.push_each-returns
push_each-returns t c =
    let sheet = c.args.sheet.now in
    let naming = naming_seen sheet in
    let bound = bound_seen sheet c.args.bound.now in
    let domain : Tree = domain_form naming bound (domain_seen c.args.domain.now) in
    let var : Tree = named sheet.names.vars.items c.args.var in
    let effects : List Tree = effect_forms naming (binding naming bound c.args.var) (effects_seen c.args.effects.now.items) in
    let form : Tree = row (keyword "all" ∷ domain ∷ var ∷ effects) in
    let old = c.push_binder.new.out.bytes.items in
    let are_effects : c.push_effects.new.out.bytes.items ≡ old ++ printed_behind (packed effects) =
    c.in_ok-push_effects.ensures
    ∙ ap (λ words. old ++ printed_behind (packed (effect_forms naming (bound_seen sheet words)
    (effects_seen c.args.effects.now.items)))) c.deref.ensures.value
    ∙ ap (λ scope. old ++ printed_behind (packed (effect_forms naming scope
    (effects_seen c.args.effects.now.items)))) c.in_ok-within.ensures in
    let first = with_part domain (opened c.in_ok-open_part.ensures) c.in_ok-push_domain.ensures in
    let begun = with_part var first c.in_ok-push_binder.ensures in
    closed _ c.close.result form (with_parts effects begun are_effects) c.close.ensures refl

pub push_effect-returns-in-Move : goal.push_effect-returns-in-Move
push_effect-returns-in-Move t c =
    let sheet = c.args.sheet.now in
    printed_as _ _ c.push_placed.result _ _ c.push_placed.ensures
    (ap (λ x. effect_form (naming_seen sheet) (bound_seen sheet c.args.bound.now) (effect_seen x)) c.in-Move.is)

pub push_effect-returns-in-MoveAll : goal.push_effect-returns-in-MoveAll
push_effect-returns-in-MoveAll t c =
    let sheet = c.args.sheet.now in
    printed_as _ _ c.push_moved.result _ _ c.push_moved.ensures
    (ap (λ x. effect_form (naming_seen sheet) (bound_seen sheet c.args.bound.now) (effect_seen x)) c.in-MoveAll.is)

pub push_effect-returns-in-Remember : goal.push_effect-returns-in-Remember
push_effect-returns-in-Remember t c =
    let sheet = c.args.sheet.now in
    printed_as _ _ c.push_placed-in-Remember.result _ _ c.push_placed-in-Remember.ensures
    (ap (λ x. effect_form (naming_seen sheet) (bound_seen sheet c.args.bound.now) (effect_seen x)) c.in-Remember.is)

pub push_effect-returns-in-Forget : goal.push_effect-returns-in-Forget
push_effect-returns-in-Forget t c =
    let sheet = c.args.sheet.now in
    printed_as _ _ c.push_forgotten.result _ _ c.push_forgotten.ensures
    (ap (λ x. effect_form (naming_seen sheet) (bound_seen sheet c.args.bound.now) (effect_seen x)) c.in-Forget.is)

pub push_effect-returns-in-Shuffle : goal.push_effect-returns-in-Shuffle
push_effect-returns-in-Shuffle t c =
    let sheet = c.args.sheet.now in
    printed_as _ _ c.push_at.result _ _ c.push_at.ensures
    (ap (λ x. effect_form (naming_seen sheet) (bound_seen sheet c.args.bound.now) (effect_seen x)) c.in-Shuffle.is)

pub push_effect-returns-in-Set : goal.push_effect-returns-in-Set
push_effect-returns-in-Set t c =
    let sheet = c.args.sheet.now in
    printed_as _ _ c.push_change.result _ _ c.push_change.ensures
    (ap (λ x. effect_form (naming_seen sheet) (bound_seen sheet c.args.bound.now) (effect_seen x)) c.in-Set.is)

pub push_effect-returns-in-Inc : goal.push_effect-returns-in-Inc
push_effect-returns-in-Inc t c =
    let sheet = c.args.sheet.now in
    printed_as _ _ c.push_change-in-Inc.result _ _ c.push_change-in-Inc.ensures
    (ap (λ x. effect_form (naming_seen sheet) (bound_seen sheet c.args.bound.now) (effect_seen x)) c.in-Inc.is)

pub push_effect-returns-in-Dec : goal.push_effect-returns-in-Dec
push_effect-returns-in-Dec t c =
    let sheet = c.args.sheet.now in
    printed_as _ _ c.push_change-in-Dec.result _ _ c.push_change-in-Dec.ensures
    (ap (λ x. effect_form (naming_seen sheet) (bound_seen sheet c.args.bound.now) (effect_seen x)) c.in-Dec.is)

pub push_effect-returns-in-Next : goal.push_effect-returns-in-Next
push_effect-returns-in-Next t c =
    let sheet = c.args.sheet.now in
    printed_as _ _ c.push_next.result _ _ c.push_next.ensures
    (ap (λ x. effect_form (naming_seen sheet) (bound_seen sheet c.args.bound.now) (effect_seen x)) c.in-Next.is)

pub push_effect-returns-in-Peek : goal.push_effect-returns-in-Peek
push_effect-returns-in-Peek t c =
    let sheet = c.args.sheet.now in
    printed_as _ _ c.push_peeked.result _ _ c.push_peeked.ensures
    (ap (λ x. effect_form (naming_seen sheet) (bound_seen sheet c.args.bound.now) (effect_seen x)) c.in-Peek.is)

pub push_guarded-returns : goal.push_guarded-returns
push_guarded-returns t c =
    let sheet = c.args.sheet.now in
    let naming = naming_seen sheet in
    let bound = bound_seen sheet c.args.bound.now in
    let test : Tree = test_form naming bound (test_seen c.args.guard.now) in
    let effects : List Tree = effect_forms naming bound (effects_seen c.args.effects.now.items) in
    let begun-0 = opened c.in_ok-open_part.ensures in
    let begun-1 = with_part test begun-0 c.in_ok-push_test.ensures in
    let begun-2 = with_parts effects begun-1 c.in_ok-push_effects.ensures in
    closed _ c.close.result (row (keyword "if" ∷ test ∷ effects)) begun-2 c.close.ensures refl

pub push_repeated-returns : goal.push_repeated-returns
push_repeated-returns t c =
    let sheet = c.args.sheet.now in
    let naming = naming_seen sheet in
    let bound = bound_seen sheet c.args.bound.now in
    let times : Tree = int_form naming bound (int_seen c.args.times.now) in
    let effects : List Tree = effect_forms naming bound (effects_seen c.args.effects.now.items) in
    let begun-0 = opened c.in_ok-open_part.ensures in
    let begun-1 = with_part times begun-0 c.in_ok-push_int.ensures in
    let begun-2 = with_parts effects begun-1 c.in_ok-push_effects.ensures in
    closed _ c.close.result (row (keyword "repeat" ∷ times ∷ effects)) begun-2 c.close.ensures refl
