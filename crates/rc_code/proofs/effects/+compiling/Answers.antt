use Rattle.std.proofs.Common.{◌≡◌, ◌++◌, sym, ap, ap₂, ◌∙◌, subst}
use Rattle.std.specs.Prelude.{OnOk}
use Rattle.rc_ast.specs.Effects.{effect_seen, effects_seen}
use Rattle.rc_ast.proofs.ViewLemmas.{if_seen, repeat_seen, each_seen}
use Rattle.rc_code.specs.Instruction.{if_true, so_often, one_by_one, end_body}
use Rattle.rc_code.specs.Compiled.{effect_code, effects_code}
use Rattle.rc_code.specs.Seen.{list_seen}
use Rattle.rc_code.proofs.ListLemmas.{behind, enclosed, filled}
use Rattle.rc_code.proofs.effects.+compiling.Goals as goal

pub push_if-returns-in-Ok-copy_test : goal.push_if-returns-in-Ok-copy_test
push_if-returns-in-Ok-copy_test t c =
    let code = effects_code (effects_seen c.args.effects.now.items) in
    let here = c.len-at.ensures ∙ c.args.list.now.ok.0 in
    let one = ap₂ (λ test n. if_true test n) (c.new.ensures ∙ c.in-Ok-copy_test.ensures) c.in-Ok.ensures.inside in
    filled c.args.list.now.items c.push_inside.new.list.items c.write.new.list.items code end_body _ _ c.len-at.result c.in-Ok.ensures.code here c.write.ensures one

pub push_repeat-returns-in-Ok-copy_int : goal.push_repeat-returns-in-Ok-copy_int
push_repeat-returns-in-Ok-copy_int t c =
    let code = effects_code (effects_seen c.args.effects.now.items) in
    let here = c.len-at.ensures ∙ c.args.list.now.ok.0 in
    let one = ap₂ (λ count n. so_often count n) c.in-Ok-copy_int.ensures c.in-Ok.ensures.inside in
    filled c.args.list.now.items c.push_inside.new.list.items c.write.new.list.items code end_body _ _ c.len-at.result c.in-Ok.ensures.code here c.write.ensures one

pub push_each-returns-in-Ok-copy_domain : goal.push_each-returns-in-Ok-copy_domain
push_each-returns-in-Ok-copy_domain t c =
    let code = effects_code (effects_seen c.args.effects.now.items) in
    let here = c.len-at.ensures ∙ c.args.list.now.ok.0 in
    let one = ap₂ (λ domain n. one_by_one domain c.args.bound n) c.in-Ok-copy_domain.ensures c.in-Ok.ensures.inside in
    filled c.args.list.now.items c.push_inside.new.list.items c.write.new.list.items code end_body _ _ c.len-at.result c.in-Ok.ensures.code here c.write.ensures one

pub push_inside-returns-in-Ok-push_effects-clause-code : goal.push_inside-returns-in-Ok-push_effects-clause-code
push_inside-returns-in-Ok-push_effects-clause-code t c =
    let code = effects_code (effects_seen c.args.effects.now.items) in
    enclosed c.args.list.now.items c.push.new.list.items c.push_effects.new.list.items code end_body c.in-Ok.ensures c.in-Ok-push_effects.ensures

pub push_inside-returns-in-Ok-push_effects-clause-inside : goal.push_inside-returns-in-Ok-push_effects-clause-inside
push_inside-returns-in-Ok-push_effects-clause-inside t c =
    let code = effects_code (effects_seen c.args.effects.now.items) in
    behind c.push.new.list.items c.push_effects.new.list.items code _ _ c.in-Ok-push_effects.ensures (c.len-from.ensures ∙ c.push.new.list.ok.0)
    (c.len.ensures ∙ c.push_effects.new.list.ok.0)

pub push_effect-returns-in-If : goal.push_effect-returns-in-If
push_effect-returns-in-If t c =
    let is = ap effect_seen c.in-If.is ∙ if_seen c.in-If.test c.in-If.effects in
    subst (λ e. OnOk c.push_if.result (list_seen c.push_if.new.list.items ≡ list_seen c.args.list.now.items ++ effect_code e)) (sym is) c.push_if.ensures

pub push_effect-returns-in-Repeat : goal.push_effect-returns-in-Repeat
push_effect-returns-in-Repeat t c =
    let is = ap effect_seen c.in-Repeat.is ∙ repeat_seen c.in-Repeat.count c.in-Repeat.effects in
    subst (λ e. OnOk c.push_repeat.result (list_seen c.push_repeat.new.list.items ≡ list_seen c.args.list.now.items ++ effect_code e)) (sym is) c.push_repeat.ensures

pub push_effect-returns-in-Each : goal.push_effect-returns-in-Each
push_effect-returns-in-Each t c =
    let is = ap effect_seen c.in-Each.is ∙ each_seen c.in-Each.domain c.in-Each.bound c.in-Each.effects in
    subst (λ e. OnOk c.push_each.result (list_seen c.push_each.new.list.items ≡ list_seen c.args.list.now.items ++ effect_code e)) (sym is) c.push_each.ensures
