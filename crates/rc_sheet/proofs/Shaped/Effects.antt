-- Forms that stand for spots, effects and alternatives have the shape of their place.
use Rattle.std.proofs.Common.{◌≡◌, [], refl}
use Rattle.std.specs.Prelude.{codes}
use Rattle.rc_base.specs.Tree.{Tree, word, list, Trees, nil, cons}
use Rattle.rc_sheet_spec.specs.Sheet.{End, top, bottom, Loc, Effect, move, move_all, remember, forget, shuffle, set_to, increase, decrease, when, repeat, for_each, next_is, turn_round, peek, Effects, no_effect, effect, Alt, do_alt, if_alt, any_alt, Sheet}
use Rattle.rc_sheet_spec.specs.Rows.{◌▸◌}
use Rattle.rc_sheet_spec.specs.Rows.{End as Last}
use Rattle.rc_sheet_spec.specs.Rows.{Some as Full}
use Rattle.rc_sheet_spec.specs.Naming.{bind, sort_of, Binder, sheet_naming}
use Rattle.rc_sheet_spec.specs.StandsExpressions.{StandsOwner, StandsLoc, StandsNum, StandsCard, StandsColl, StandsInt, StandsTest, StandsRange, StandsDomain}
use Rattle.rc_sheet_spec.specs.StandsEffects.{StandsSpot, StandsEffect, StandEffects}
use Rattle.rc_sheet_spec.specs.StandsItems.{StandsAlt}
use Rattle.rc_sheet_spec.specs.WellFormed.{Around, behind, in_repeat, IsEffect, AreEffects, IsAlt}
use Rattle.rc_check.specs.Faults.{faults}
use Rattle.rc_sheet.proofs.One.Rows.{behind_word, row_one, row_two, row_three, row_word, row_word_part, row_part, row_words, two_parts, first_part}
use Rattle.rc_sheet.proofs.One.Effects.{move_rule}
use Rattle.rc_sheet.proofs.Shaped.Common.{AllShaped, form_shaped, row_shaped, more_fit, more_fit_two, more_fit_three, binder_shaped, owner_shaped, loc_shaped, num_shaped}
use Rattle.rc_sheet.proofs.Shaped.Expressions.{shaped_card, shaped_coll, shaped_int, shaped_test, shaped_range, shaped_domain}
use Rattle.rc_check.specs.declared.grammar.Symbol.TheVariants as symbol
use Rattle.rc_check.specs.declared.grammar.Rule.TheVariants as rule

abbrev SpotShaped : Tree → Type 0
SpotShaped tree = faults symbol.Spot tree ≡ []

abbrev EffectShaped : Tree → Type 0
EffectShaped tree = faults symbol.Effect tree ≡ []

abbrev AltShaped : Tree → Type 0
AltShaped tree = faults symbol.Alternative tree ≡ []

-- A sheet whose parts stand for forms.
module _ (sheet : Sheet) where
  -- SPOT
  shaped_spot : (around : Around) (end : End) (loc : Loc) (tree : Tree)
      → StandsSpot (sheet_naming sheet) around.scope end loc tree → SpotShaped tree
  shaped_spot around top loc tree stands =
      row_one "top" (StandsLoc (sheet_naming sheet) around.scope loc) SpotShaped tree stands
      (λ f t from to l here.
      row_shaped symbol.Spot rule.TopOf (cons (word (codes "top") f t) (cons l nil)) from to refl refl
      (refl, ((loc_shaped (sheet_naming sheet) around.scope loc l here).0, tt)))
  shaped_spot around bottom loc tree stands =
      row_one "bottom" (StandsLoc (sheet_naming sheet) around.scope loc) SpotShaped tree stands
      (λ f t from to l here.
      row_shaped symbol.Spot rule.BottomOf (cons (word (codes "bottom") f t) (cons l nil)) from to refl refl
      (refl, ((loc_shaped (sheet_naming sheet) around.scope loc l here).0, tt)))

  mutual
    -- EFFECT
    pub shaped_effect : (around : Around) (a : Effect) (tree : Tree) → StandsEffect (sheet_naming sheet) around.scope a tree
        → IsEffect sheet around a → faults symbol.Effect tree ≡ []
    shaped_effect around (move card end loc) tree stands is =
        row_two "move" (StandsCard (sheet_naming sheet) around.scope card) (StandsSpot (sheet_naming sheet) around.scope end loc)
        EffectShaped tree stands
        (λ f t from to c s here there.
        row_shaped symbol.Effect rule.Move (cons (word (codes "move") f t) (cons c (cons s nil))) from to
        (move_rule (sheet_naming sheet) around.scope card f t c s here) refl
        (refl, ((shaped_card sheet around card c here is.0).0, (shaped_spot around end loc s there, tt))))
    shaped_effect around (move_all cards end loc) tree stands is =
        row_words "move" "all"
        (StandsColl (sheet_naming sheet) around.scope cards ▸ StandsSpot (sheet_naming sheet) around.scope end loc ▸ Last)
        EffectShaped tree stands
        (λ f t f' t' from to parts more. two_parts (StandsColl (sheet_naming sheet) around.scope cards)
        (StandsSpot (sheet_naming sheet) around.scope end loc)
        (λ l. EffectShaped (list (cons (word (codes "move") f t) (cons (word (codes "all") f' t') l)) from to)) parts more
        (λ c s here there.
        row_shaped symbol.Effect rule.MoveAll
        (cons (word (codes "move") f t) (cons (word (codes "all") f' t') (cons c (cons s nil)))) from to refl refl
        (refl, (refl, ((shaped_coll sheet around cards c here is.0).0, (shaped_spot around end loc s there, tt))))))
    shaped_effect around (remember card end loc) tree stands is =
        row_two "remember" (StandsCard (sheet_naming sheet) around.scope card) (StandsSpot (sheet_naming sheet) around.scope end loc)
        EffectShaped tree stands
        (λ f t from to c s here there.
        row_shaped symbol.Effect rule.Remember (cons (word (codes "remember") f t) (cons c (cons s nil))) from to refl refl
        (refl, ((shaped_card sheet around card c here is.0).0, (shaped_spot around end loc s there, tt))))
    shaped_effect around (forget card) tree stands is =
        row_one "forget" (StandsCard (sheet_naming sheet) around.scope card) EffectShaped tree stands
        (λ f t from to c here.
        row_shaped symbol.Effect rule.Forget (cons (word (codes "forget") f t) (cons c nil)) from to refl refl
        (refl, ((shaped_card sheet around card c here is).0, tt)))
    shaped_effect around (shuffle loc) tree stands is =
        row_one "shuffle" (StandsLoc (sheet_naming sheet) around.scope loc) EffectShaped tree stands
        (λ f t from to l here.
        row_shaped symbol.Effect rule.Shuffle (cons (word (codes "shuffle") f t) (cons l nil)) from to refl refl
        (refl, ((loc_shaped (sheet_naming sheet) around.scope loc l here).0, tt)))
    shaped_effect around (set_to num value) tree stands is =
        row_two "set" (StandsNum (sheet_naming sheet) around.scope num) (StandsInt (sheet_naming sheet) around.scope value)
        EffectShaped tree stands
        (λ f t from to n v here there.
        row_shaped symbol.Effect rule.Set (cons (word (codes "set") f t) (cons n (cons v nil))) from to refl refl
        (refl, ((num_shaped (sheet_naming sheet) around.scope num n here).0, ((shaped_int sheet around value v there is.1).0, tt))))
    shaped_effect around (increase num value) tree stands is =
        row_two "inc" (StandsNum (sheet_naming sheet) around.scope num) (StandsInt (sheet_naming sheet) around.scope value)
        EffectShaped tree stands
        (λ f t from to n v here there.
        row_shaped symbol.Effect rule.Increase (cons (word (codes "inc") f t) (cons n (cons v nil))) from to refl refl
        (refl, ((num_shaped (sheet_naming sheet) around.scope num n here).0, ((shaped_int sheet around value v there is.1).0, tt))))
    shaped_effect around (decrease num value) tree stands is =
        row_two "dec" (StandsNum (sheet_naming sheet) around.scope num) (StandsInt (sheet_naming sheet) around.scope value)
        EffectShaped tree stands
        (λ f t from to n v here there.
        row_shaped symbol.Effect rule.Decrease (cons (word (codes "dec") f t) (cons n (cons v nil))) from to refl refl
        (refl, ((num_shaped (sheet_naming sheet) around.scope num n here).0, ((shaped_int sheet around value v there is.1).0, tt))))
    shaped_effect around (when t effects) tree stands is =
        row_part "if" (StandsTest (sheet_naming sheet) around.scope t) (Full (StandEffects (sheet_naming sheet) around.scope effects))
        EffectShaped tree stands
        (λ f g from to x es here there.
        form_shaped symbol.Effect rule.If (cons (word (codes "if") f g) (cons x es)) from to refl (more_fit_two es there.0) refl
        (refl, (shaped_test sheet around t x here is.0, shaped_effects around effects es there.1 is.2)))
    shaped_effect around (repeat times effects) tree stands is =
        row_part "repeat" (StandsInt (sheet_naming sheet) around.scope times)
        (Full (StandEffects (sheet_naming sheet) around.scope effects)) EffectShaped tree stands
        (λ f g from to x es here there.
        form_shaped symbol.Effect rule.Repeat (cons (word (codes "repeat") f g) (cons x es)) from to refl
        (more_fit_two es there.0) refl
        (refl, ((shaped_int sheet around times x here is.0).0, shaped_effects (in_repeat around) effects es there.1 is.3)))
    shaped_effect around (for_each domain bound effects) tree stands is =
        row_part "all" (StandsRange (sheet_naming sheet) around.scope domain)
        (Binder (sheet_naming sheet) bound
        ▸ Full (StandEffects (sheet_naming sheet) (bind (sheet_naming sheet) around.scope bound (sort_of domain)) effects))
        EffectShaped tree stands
        (λ f g from to r parts here more. first_part (Binder (sheet_naming sheet) bound)
        (Full (StandEffects (sheet_naming sheet) (bind (sheet_naming sheet) around.scope bound (sort_of domain)) effects))
        (λ l. EffectShaped (list (cons (word (codes "all") f g) (cons r l)) from to)) parts more
        (λ v es binds there.
        form_shaped symbol.Effect rule.Each (cons (word (codes "all") f g) (cons r (cons v es))) from to refl
        (more_fit_three es there.0) refl (
          refl,
          (
            (shaped_range sheet around domain r here is.0).0,
            (
              binder_shaped (sheet_naming sheet) bound v binds,
              shaped_effects (behind sheet around bound (sort_of domain)) effects es there.1 is.3,
            ),
          ),
        )))
    shaped_effect around (next_is who) tree stands is =
        row_word_part "cycle" "next" (StandsOwner around.scope who) EffectShaped tree stands
        (λ f t f' t' from to o here.
        row_shaped symbol.Effect rule.Next
        (cons (word (codes "cycle") f t) (cons (word (codes "next") f' t') (cons o nil))) from to refl refl
        (refl, (refl, ((owner_shaped around.scope who o here).0, tt))))
    shaped_effect around turn_round tree stands is =
        row_word "cycle" "reverse" EffectShaped tree stands
        (λ f t f' t' from to.
        row_shaped symbol.Effect rule.Reverse
        (cons (word (codes "cycle") f t) (cons (word (codes "reverse") f' t') nil)) from to refl refl
        (refl, (refl, tt)))
    shaped_effect around (peek cards who) tree stands is =
        row_two "peek" (StandsColl (sheet_naming sheet) around.scope cards) (StandsOwner around.scope who) EffectShaped tree stands
        (λ f t from to c o here there.
        row_shaped symbol.Effect rule.Peek (cons (word (codes "peek") f t) (cons c (cons o nil))) from to refl refl
        (refl, ((shaped_coll sheet around cards c here is.0).0, ((owner_shaped around.scope who o there).0, tt))))

    pub shaped_effects : (around : Around) (all : Effects) (trees : Trees)
        → StandEffects (sheet_naming sheet) around.scope all trees → AreEffects sheet around all → AllShaped symbol.Effect trees
    shaped_effects around no_effect nil stands is = tt
    shaped_effects around no_effect (cons tree trees) stands is = absurd stands
    shaped_effects around (effect e all) nil stands is = absurd stands
    shaped_effects around (effect e all) (cons tree trees) stands is =
        (shaped_effect around e tree stands.0 is.0, shaped_effects around all trees stands.1 is.1)

  -- ALT
  pub shaped_alt : (around : Around) (a : Alt) (tree : Tree) → StandsAlt (sheet_naming sheet) around.scope a tree
      → IsAlt sheet around a → faults symbol.Alternative tree ≡ []
  shaped_alt around (do_alt effects) tree stands is =
      behind_word "do" (Full (StandEffects (sheet_naming sheet) around.scope effects)) AltShaped tree stands
      (λ f t from to es there.
      form_shaped symbol.Alternative rule.Do (cons (word (codes "do") f t) es) from to refl (more_fit 1 es there.0) refl
      (refl, shaped_effects around effects es there.1 is.1))
  shaped_alt around (if_alt guard effects) tree stands is =
      row_part "if" (StandsTest (sheet_naming sheet) around.scope guard)
      (Full (StandEffects (sheet_naming sheet) around.scope effects)) AltShaped tree stands
      (λ f g from to x es here there.
      form_shaped symbol.Alternative rule.If (cons (word (codes "if") f g) (cons x es)) from to refl
      (more_fit_two es there.0) refl
      (refl, (shaped_test sheet around guard x here is.0, shaped_effects around effects es there.1 is.2)))
  shaped_alt around (any_alt domain bound alt) tree stands is =
      row_three "any" (StandsDomain (sheet_naming sheet) around.scope domain) (Binder (sheet_naming sheet) bound)
      (StandsAlt (sheet_naming sheet) (bind (sheet_naming sheet) around.scope bound (sort_of domain)) alt) AltShaped tree stands
      (λ f t from to d v x here binds there.
      row_shaped symbol.Alternative rule.AnyOf (cons (word (codes "any") f t) (cons d (cons v (cons x nil)))) from to refl refl (
        refl,
        (
          shaped_domain sheet around domain d here is.0,
          (
            binder_shaped (sheet_naming sheet) bound v binds,
            (shaped_alt (behind sheet around bound (sort_of domain)) alt x there is.2, tt),
          ),
        ),
      ))
