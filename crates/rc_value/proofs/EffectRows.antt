-- Effects that hold others, and the effects of a vector from a place on.
use Rattle.std.proofs.Common.{◌≡◌, ℕ, zero, suc, ◌<◌, List, [], ◌∷◌, length, get_or, Vec, Global, sym, ap, ◌∙◌, subst, arith}
use Rattle.rc_sheet_spec.specs.Sheet.{when, repeat, for_each, Sheet}
use Rattle.rc_sheet_spec.specs.WellFormed.{Around, IsEffect, AreEffects, IsAlt, AreAlts}
use Rattle.rc_ast.specs.declared.expressions.IntExpr.{IntExpr}
use Rattle.rc_ast.specs.declared.expressions.Test.{Test}
use Rattle.rc_ast.specs.declared.expressions.Domain.{Domain}
use Rattle.rc_ast.specs.declared.effects.Effect.{Effect, If, Repeat, Each}
use Rattle.rc_ast.specs.declared.items.Alt.{Alt}
use Rattle.rc_ast.specs.Items.{alt_seen, alts_seen}
use Rattle.rc_ast.specs.Expressions.{int_seen, test_seen, domain_seen}
use Rattle.rc_ast.specs.Effects.{effect_seen, effects_seen}
use Rattle.rc_ast.proofs.ViewLemmas.{if_seen, repeat_seen, each_seen}
use Rattle.rc_play_spec.specs.Scene.{Vars}
use Rattle.rc_value.specs.Under.{IsEffectUnder, AreEffectsUnder, IsAltUnder}
use Rattle.rc_value.specs.Bindings.{AreAltsOutside}

pub is_if : (e : Effect) (t : Test) (es : Vec Effect Global) → e ≡ If t es → effect_seen e ≡ when (test_seen t) (effects_seen es.items)
is_if e t es is = ap effect_seen is ∙ if_seen t es

pub is_repeat : (e : Effect) (count : IntExpr) (es : Vec Effect Global) → e ≡ Repeat count es → effect_seen e ≡ repeat (int_seen count) (effects_seen es.items)
is_repeat e count es is = ap effect_seen is ∙ repeat_seen count es

pub is_each : (e : Effect) (domain : Domain) (bound : ℕ) (es : Vec Effect Global) → e ≡ Each domain bound es →
    effect_seen e ≡ for_each (domain_seen domain) bound (effects_seen es.items)
is_each e domain bound es is = ap effect_seen is ∙ each_seen domain bound es

module _ (sheet : Sheet) where
  each_effect : (around : Around) (es : List Effect) → AreEffects sheet around (effects_seen es) → (i : ℕ) (e : Effect) → i < length es →
      e ≡ get_or es i e → IsEffect sheet around (effect_seen e)
  each_effect around [] are i e lt is = absurd (omega (arith, lt))
  each_effect around (f ∷ es) are zero e lt is = subst (λ e. IsEffect sheet around (effect_seen e)) (sym is) are.0
  each_effect around (f ∷ es) are (suc i) e lt is = each_effect around es are.1 i e (omega (arith, lt)) is

  -- each of the effects stands under the same variables
  pub effect_under : (vars : Vars) (es : List Effect) → AreEffectsUnder sheet vars (effects_seen es) → (i : ℕ) (e : Effect) → i < length es →
      e ≡ get_or es i e → IsEffectUnder sheet vars (effect_seen e)
  effect_under vars es are i e lt is = (are.0, are.1, are.2, each_effect are.0 es are.3 i e lt is)

  pub each_alt : (around : Around) (alts : List Alt) → AreAlts sheet around (alts_seen alts) → (i : ℕ) (alt : Alt) →
      i < length alts → alt ≡ get_or alts i alt →
      IsAlt sheet around (alt_seen alt)
  each_alt around [] are i alt lt is = absurd (omega (arith, lt))
  each_alt around (a ∷ alts) are zero alt lt is = subst (λ alt. IsAlt sheet around (alt_seen alt)) (sym is) are.0
  each_alt around (a ∷ alts) are (suc i) alt lt is = each_alt around alts are.1 i alt (omega (arith, lt)) is

  -- each of the alternatives outside all binders stands under no variable
  pub alt_under : (alts : List Alt) → AreAltsOutside sheet (alts_seen alts) → (vars : Vars) → vars ≡ [] → (i : ℕ) (alt : Alt) → i < length alts →
      alt ≡ get_or alts i alt → IsAltUnder sheet vars (alt_seen alt)
  alt_under alts are vars none i alt lt is =
      let outside = are.1 in
      let long : length vars ≡ 0 = ap length none in (
        are.0,
        omega (arith, outside),
        omega (arith, long),
        each_alt are.0 alts are.2 i alt lt is,
      )
