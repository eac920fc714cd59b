-- What forms of effects and of alternatives say, in a scope.
use Rattle.std.specs.Prelude.{ℕ, List, [], ◌∷◌, Option, Some, None, option_map}
use Rattle.rc_base.specs.Tree.{Tree, word, list, Trees, nil, cons}
use Rattle.rc_sheet_spec.specs.Sheet.{End, top, bottom, Loc, Domain, each_card, each_group, Effect, move, move_all, remember, forget, shuffle, set_to, increase, decrease, when, repeat, for_each, next_is, turn_round, peek, Effects, no_effect, effect, Alt, do_alt, if_alt, any_alt}
use Rattle.rc_sheet_spec.specs.Naming.{Naming, Scope, bind, sort_of}
use Rattle.rc_sheet.specs.ReadNames.{◌>>=◌, both, rule_at, name_at, binder_at, owner_at, loc_at, num_at}
use Rattle.rc_sheet.specs.ReadExpressions.{card_at, coll_at, coll_rule, int_at, test_at, range_at}
use Rattle.rc_check.specs.declared.grammar.Symbol.TheVariants as symbol
use Rattle.rc_check.specs.declared.grammar.Rule.{Rule}
use Rattle.rc_check.specs.declared.grammar.Rule.TheVariants as rule

-- SPOT: `(top LOC)` or `(bottom LOC)`
abbrev pub spot_rule : Naming → Scope → Rule → Trees → Option (End × Loc)
spot_rule naming scope rule.TopOf (cons head (cons loc nil)) = option_map (λ loc. (top, loc)) (loc_at naming scope loc)
spot_rule naming scope rule.BottomOf (cons head (cons loc nil)) =
    option_map (λ loc. (bottom, loc)) (loc_at naming scope loc)
spot_rule naming scope rule parts = None

abbrev pub spot_at : Naming → Scope → Tree → Option (End × Loc)
spot_at naming scope (word bytes from to) = None
spot_at naming scope (list parts from to) = rule_at symbol.Spot parts >>= λ rule. spot_rule naming scope rule parts

-- an effect on numbers or on stages
abbrev pub number_rule : Naming → Scope → Rule → Trees → Option Effect
number_rule naming scope rule.Set (cons head (cons num (cons value nil))) =
    option_map (λ p. set_to p.0 p.1) (both (num_at naming scope num) (int_at naming scope value))
number_rule naming scope rule.Increase (cons head (cons num (cons value nil))) =
    option_map (λ p. increase p.0 p.1) (both (num_at naming scope num) (int_at naming scope value))
number_rule naming scope rule.Decrease (cons head (cons num (cons value nil))) =
    option_map (λ p. decrease p.0 p.1) (both (num_at naming scope num) (int_at naming scope value))
number_rule naming scope rule.Next (cons head (cons next (cons owner nil))) = option_map next_is (owner_at scope owner)
number_rule naming scope rule.Reverse parts = Some turn_round
number_rule naming scope rule parts = None

-- an effect on cards, or another that has no effects in it
abbrev pub plain_rule : Naming → Scope → Rule → Trees → Option Effect
plain_rule naming scope rule.Move (cons head (cons card (cons spot nil))) =
    option_map (λ p. move p.0 p.1.0 p.1.1) (both (card_at naming scope card) (spot_at naming scope spot))
plain_rule naming scope rule.MoveAll (cons head (cons all (cons cards (cons spot nil)))) =
    option_map (λ p. move_all p.0 p.1.0 p.1.1) (both (coll_at naming scope cards) (spot_at naming scope spot))
plain_rule naming scope rule.Remember (cons head (cons card (cons spot nil))) =
    option_map (λ p. remember p.0 p.1.0 p.1.1) (both (card_at naming scope card) (spot_at naming scope spot))
plain_rule naming scope rule.Forget (cons head (cons card nil)) = option_map forget (card_at naming scope card)
plain_rule naming scope rule.Shuffle (cons head (cons loc nil)) = option_map shuffle (loc_at naming scope loc)
plain_rule naming scope rule.Peek (cons head (cons cards (cons owner nil))) =
    option_map (λ p. peek p.0 p.1) (both (coll_at naming scope cards) (owner_at scope owner))
plain_rule naming scope rule parts = number_rule naming scope rule parts

abbrev mutual
  -- EFFECT
  pub effect_at : Naming → Scope → Tree → Option Effect
  effect_at naming scope (word bytes from to) = None
  effect_at naming scope (list parts from to) =
      rule_at symbol.Effect parts >>= λ rule. effect_rule naming scope rule parts

  pub effect_rule : Naming → Scope → Rule → Trees → Option Effect
  effect_rule naming scope rule.If (cons head (cons t effects)) =
      option_map (λ p. when p.0 p.1) (both (test_at naming scope t) (effects_at naming scope effects))
  effect_rule naming scope rule.Repeat (cons head (cons times effects)) =
      option_map (λ p. repeat p.0 p.1) (both (int_at naming scope times) (effects_at naming scope effects))
  effect_rule naming scope rule.Each (cons head (cons range (cons variable effects))) =
      range_at naming scope range >>= λ domain.
      binder_at naming.names.vars scope variable >>= λ bound.
      option_map (λ effects. for_each domain bound effects)
      (effects_at naming (bind naming scope bound (sort_of domain)) effects)
  effect_rule naming scope rule parts = plain_rule naming scope rule parts

  pub effects_at : Naming → Scope → Trees → Option Effects
  effects_at naming scope nil = Some no_effect
  effects_at naming scope (cons part parts) =
      option_map (λ p. effect p.0 p.1) (both (effect_at naming scope part) (effects_at naming scope parts))

-- an effect that is a list of these parts
abbrev pub effect_of_list : Naming → Scope → Trees → Option Effect
effect_of_list naming scope parts = rule_at symbol.Effect parts >>= λ rule. effect_rule naming scope rule parts

-- DOMAIN
abbrev pub domain_rule : Naming → Scope → ℕ → Rule → Trees → Option Domain
domain_rule naming scope from rule.Partition (cons head (cons cards (cons attr nil))) =
    option_map (λ p. each_group p.0 p.1) (both (coll_at naming scope cards) (name_at naming.names.attrs attr))
domain_rule naming scope from rule parts = option_map each_card (coll_rule naming scope from rule parts)

abbrev pub domain_at : Naming → Scope → Tree → Option Domain
domain_at naming scope (word bytes from to) = range_at naming scope (word bytes from to)
domain_at naming scope (list parts from to) =
    rule_at symbol.Domain parts >>= λ rule. domain_rule naming scope from rule parts

-- an alternative with no alternative in it
abbrev pub plain_alt : Naming → Scope → Rule → Trees → Option Alt
plain_alt naming scope rule.Do (cons head effects) = option_map do_alt (effects_at naming scope effects)
plain_alt naming scope rule.If (cons head (cons guard effects)) =
    option_map (λ p. if_alt p.0 p.1) (both (test_at naming scope guard) (effects_at naming scope effects))
plain_alt naming scope rule parts = None

abbrev mutual
  -- ALT
  pub alt_at : Naming → Scope → Tree → Option Alt
  alt_at naming scope (word bytes from to) = None
  alt_at naming scope (list parts from to) =
      rule_at symbol.Alternative parts >>= λ rule. alt_rule naming scope rule parts

  pub alt_rule : Naming → Scope → Rule → Trees → Option Alt
  alt_rule naming scope rule.AnyOf (cons head (cons domain (cons variable (cons alt nil)))) =
      domain_at naming scope domain >>= λ domain.
      binder_at naming.names.vars scope variable >>= λ bound.
      option_map (λ alt. any_alt domain bound alt) (alt_at naming (bind naming scope bound (sort_of domain)) alt)
  alt_rule naming scope rule parts = plain_alt naming scope rule parts

-- an alternative that is a list of these parts
abbrev pub alt_of_list : Naming → Scope → Trees → Option Alt
alt_of_list naming scope parts = rule_at symbol.Alternative parts >>= λ rule. alt_rule naming scope rule parts

abbrev pub alts_at : Naming → Trees → Option (List Alt)
alts_at naming nil = Some []
alts_at naming (cons part parts) = option_map (λ p. p.0 ∷ p.1) (both (alt_at naming [] part) (alts_at naming parts))
