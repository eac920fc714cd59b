use Rattle.std.proofs.Common.{sym, ap, ap₂, ◌∙◌}
use Rattle.rc_sheet_spec.specs.Sheet.{when, repeat, for_each}
use Rattle.rc_sheet_spec.specs.Lists.{effects_from}
use Rattle.rc_ast.specs.Effects.{effect_seen}
use Rattle.rc_ast.proofs.ViewLemmas.{if_seen, repeat_seen, each_seen}
use Rattle.rc_code.proofs.copied_effects.+effects.Goals as goal

pub copy_effect-returns-in_ok-copy_test-in-If : goal.copy_effect-returns-in_ok-copy_test-in-If
copy_effect-returns-in_ok-copy_test-in-If t c =
    c.when.ensures ∙ ap₂ (λ test es. when test (effects_from es)) c.in_ok-copy_test-in-If.ensures c.in_ok-effects-in-If.ensures
    ∙ sym (ap effect_seen c.in-If.is ∙ if_seen c.in-If.test c.in-If.effects)

pub copy_effect-returns-in_ok-copy_int-in-Repeat : goal.copy_effect-returns-in_ok-copy_int-in-Repeat
copy_effect-returns-in_ok-copy_int-in-Repeat t c =
    c.repeat.ensures ∙ ap₂ (λ count es. repeat count (effects_from es)) c.in_ok-copy_int-in-Repeat.ensures c.in_ok-effects-in-Repeat.ensures
    ∙ sym (ap effect_seen c.in-Repeat.is ∙ repeat_seen c.in-Repeat.count c.in-Repeat.effects)

pub copy_effect-returns-in_ok-copy_domain-in-Each : goal.copy_effect-returns-in_ok-copy_domain-in-Each
copy_effect-returns-in_ok-copy_domain-in-Each t c =
    c.for_each.ensures
    ∙ ap₂ (λ domain es. for_each domain c.in-Each.bound (effects_from es)) c.in_ok-copy_domain-in-Each.ensures c.in_ok-effects-in-Each.ensures
    ∙ sym (ap effect_seen c.in-Each.is ∙ each_seen c.in-Each.domain c.in-Each.bound c.in-Each.effects)
