use Rattle.std.proofs.Common.{refl, subst, arith}
use Rattle.rc_sheet_spec.specs.Sheet.{effect}
use Rattle.rc_sheet_spec.specs.Lists.{effects_from}
use Rattle.rc_ast.specs.Effects.{effect_seen}
use Rattle.rc_ast.specs.Expressions.{domain_seen}
use Rattle.rc_sheet.specs.Gives.{Gives}
use Rattle.rc_sheet.specs.ReadEffects.{effect_at, effects_at}
use Rattle.rc_sheet.proofs.Sizes.{largest-rest}
use Rattle.rc_sheet.proofs.EffectLemmas.{if_read, repeat_read, each_read}
use Rattle.rc_sheet.proofs.InTurn.{goes_on, is_done}
use Rattle.rc_sheet.proofs.reader.Reader.+effects.Goals as goal

pub effect_list-effects-effects-requires : goal.effect_list-effects-effects-requires
effect_list-effects-effects-requires t c = (omega (arith, largest-rest 2 c.args.parts.now, c.decreases), tt)

pub effect_list-effects-effects-requires-in-Repeat : goal.effect_list-effects-effects-requires-in-Repeat
effect_list-effects-effects-requires-in-Repeat t c = (omega (arith, largest-rest 2 c.args.parts.now, c.decreases), tt)

pub effect_list-effects-effects-requires-in-Each : goal.effect_list-effects-effects-requires-in-Each
effect_list-effects-effects-requires-in-Each t c = (omega (arith, largest-rest 3 c.args.parts.now, c.decreases), tt)

pub effect_list-returns-in-If : goal.effect_list-returns-in-If
effect_list-returns-in-If t c =
    let given = c.in_ok-rule.ensures in
    let read = if_read c.args.self.now c.args.scope.now c.args.parts.now _ c.index-parts-1.result
    given.given given.sized c.in-If.is c.index-parts-1.is in
    subst (Gives effect_seen c.when.result) read (c.when.ensures _ c.effects-effects.ensures)

pub effect_list-returns-in-Repeat : goal.effect_list-returns-in-Repeat
effect_list-returns-in-Repeat t c =
    let given = c.in_ok-rule.ensures in
    let at = c.index-parts-1-in-Repeat in
    let read = repeat_read c.args.self.now c.args.scope.now c.args.parts.now _ at.result given.given given.sized
    c.in-Repeat.is at.is in
    subst (Gives effect_seen c.repeat_of.result) read (c.repeat_of.ensures _ c.effects-effects-in-Repeat.ensures)

pub effect_list-returns-in_ok-domain-in-Each : goal.effect_list-returns-in_ok-domain-in-Each
effect_list-returns-in_ok-domain-in-Each t c =
    let given = c.in_ok-rule.ensures in
    let found = c.in_ok-domain-in-Each in
    let range = c.index-parts-1-in-Each in
    let variable = c.index-parts-2 in
    let read = each_read c.args.self.now c.args.scope.now found.inner c.args.parts.now _ range.result variable.result
    (domain_seen found.domain) found.bound
    given.given given.sized c.in-Each.is range.is variable.is found.ensures.given found.ensures.inner in
    subst (Gives effect_seen c.for_each.result) read (c.for_each.ensures _ c.effects-effects-in-Each.ensures)

pub effects-loop-form-preserved : goal.effects-loop-form-preserved
effects-loop-form-preserved t c =
    let naming = c.args.self.now in
    let scope = c.args.scope.now in
    rw c.in_ok-push.ensures.items (goes_on effect_seen effect (effect_at naming scope) (effects_at naming scope)
    (λ tree trees. refl) c.loop-form.all.items
    c.args.forms.now c.loop-form.form-index c.form-item.result c.in_ok-effect.field-0 _
    c.loop-form-test.true c.form-item.is c.in_ok-effect.ensures
    c.loop-form.invariant)

pub effects-returns : goal.effects-returns
effects-returns t c =
    let naming = c.args.self.now in
    let scope = c.args.scope.now in
    is_done effect_seen effect effects_from (effects_at naming scope)
    (λ e later. refl) refl c.loop-form.all.items c.args.forms.now c.loop-form.form-index _
    c.loop-form-test.false c.loop-form.invariant
