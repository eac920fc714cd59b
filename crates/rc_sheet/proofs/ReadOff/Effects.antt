-- What is read stands for its form: spots, effects, domains and alternatives.
use Rattle.std.proofs.Common.{ℕ, [], ◌∷◌, arith}
use Rattle.rc_base.specs.Tree.{Tree, word, list, Trees, nil, cons}
use Rattle.rc_sheet_spec.specs.Sheet.{top, bottom, Domain, each_player, each_card, each_group, move, move_all, remember, forget, shuffle, set_to, increase, decrease, when, repeat, next_is, turn_round, peek, no_effect, effect, do_alt, if_alt}
use Rattle.rc_sheet_spec.specs.Naming.{Naming, Scope, bind, sort_of}
use Rattle.rc_sheet_spec.specs.StandsExpressions.{StandsDomain, StandsRange}
use Rattle.rc_sheet_spec.specs.StandsEffects.{StandsSpot, StandsEffect, StandEffects}
use Rattle.rc_sheet_spec.specs.StandsItems.{StandsAlt, StandAlts}
use Rattle.rc_sheet.specs.ReadNames.{rule_at, binder_at, owner_at, loc_at}
use Rattle.rc_sheet.specs.ReadExpressions.{card_at, coll_rule, range_at}
use Rattle.rc_sheet.specs.ReadEffects.{spot_rule, spot_at, number_rule, plain_rule, effect_at, effect_rule, effects_at, domain_rule, domain_at, alt_at, alt_rule, alts_at}
use Rattle.rc_sheet.proofs.Means.{Means, nothing, something, weaker, mapped, behind, paired, both_mean}
use Rattle.rc_sheet.proofs.ReadOff.Names.{Told, told_at, least_left, two_words, name_means, binder_means, owner_means, loc_means, num_means}
use Rattle.rc_sheet.proofs.ReadOff.Expressions.{card_means, coll_means, coll_rule_means, int_means, test_means, range_means}
use Rattle.rc_check.specs.declared.keyword.Keyword.TheVariants as keyword
use Rattle.rc_check.specs.declared.grammar.Symbol.TheVariants as symbol
use Rattle.rc_check.specs.declared.grammar.Rule.{Rule}
use Rattle.rc_check.specs.declared.grammar.Rule.TheVariants as rule

-- a spot, by its rule
spot_rule_means : (naming : Naming) (scope : Scope) (from to : ℕ) (rule : Rule) (parts : Trees) → Told rule parts
    → Means (spot_rule naming scope rule parts) (λ p. StandsSpot naming scope p.0 p.1 (list parts from to))
spot_rule_means naming scope from to rule.TopOf (cons head (cons loc nil)) told =
    mapped (loc_at naming scope loc) (λ loc. (top, loc)) (loc_means naming scope loc) (λ l stands. (told.0, (stands, tt)))
spot_rule_means naming scope from to rule.BottomOf (cons head (cons loc nil)) told =
    mapped (loc_at naming scope loc) (λ loc. (bottom, loc)) (loc_means naming scope loc) (λ l stands. (told.0, (stands, tt)))
spot_rule_means naming scope from to rule parts told = nothing

-- a spot
pub spot_means : (naming : Naming) (scope : Scope) (tree : Tree)
    → Means (spot_at naming scope tree) (λ p. StandsSpot naming scope p.0 p.1 tree)
spot_means naming scope (word bytes from to) = nothing
spot_means naming scope (list parts from to) =
    behind (rule_at symbol.Spot parts) _ (told_at symbol.Spot parts)
    (λ rule told. spot_rule_means naming scope from to rule parts told)

-- effects on numbers and on stages
number_rule_means : (naming : Naming) (scope : Scope) (from to : ℕ) (rule : Rule) (parts : Trees) → Told rule parts
    → Means (number_rule naming scope rule parts) (λ e. StandsEffect naming scope e (list parts from to))
number_rule_means naming scope from to rule.Set (cons head (cons num (cons value nil))) told =
    paired _ _ set_to (num_means naming scope num) (int_means naming scope value) (λ p q one other. (told.0, (one, (other, tt))))
number_rule_means naming scope from to rule.Increase (cons head (cons num (cons value nil))) told =
    paired _ _ increase (num_means naming scope num) (int_means naming scope value)
    (λ p q one other. (told.0, (one, (other, tt))))
number_rule_means naming scope from to rule.Decrease (cons head (cons num (cons value nil))) told =
    paired _ _ decrease (num_means naming scope num) (int_means naming scope value)
    (λ p q one other. (told.0, (one, (other, tt))))
number_rule_means naming scope from to rule.Next (cons head (cons next (cons owner nil))) told =
    mapped (owner_at scope owner) next_is (owner_means scope owner) (λ who stands. (told.0, (told.1, (stands, tt))))
number_rule_means naming scope from to rule.Reverse nil told = absurd told
number_rule_means naming scope from to rule.Reverse (cons head parts) told =
    something turn_round (two_words keyword.Cycle keyword.Reverse parts from to head told.0 told.1 told.2)
number_rule_means naming scope from to rule parts told = nothing

-- the same on cards
plain_rule_means : (naming : Naming) (scope : Scope) (from to : ℕ) (rule : Rule) (parts : Trees) → Told rule parts
    → Means (plain_rule naming scope rule parts) (λ e. StandsEffect naming scope e (list parts from to))
plain_rule_means naming scope from to rule.Move (cons head (cons card (cons spot nil))) told =
    mapped _ (λ p. move p.0 p.1.0 p.1.1) (both_mean _ _ (card_means naming scope card) (spot_means naming scope spot))
    (λ p stand. (told.0, (stand.0, (stand.1, tt))))
plain_rule_means naming scope from to rule.MoveAll (cons head (cons all (cons cards (cons spot nil)))) told =
    mapped _ (λ p. move_all p.0 p.1.0 p.1.1) (both_mean _ _ (coll_means naming scope cards) (spot_means naming scope spot))
    (λ p stand. (told.0, (told.1, (stand.0, (stand.1, tt)))))
plain_rule_means naming scope from to rule.Remember (cons head (cons card (cons spot nil))) told =
    mapped _ (λ p. remember p.0 p.1.0 p.1.1) (both_mean _ _ (card_means naming scope card) (spot_means naming scope spot))
    (λ p stand. (told.0, (stand.0, (stand.1, tt))))
plain_rule_means naming scope from to rule.Forget (cons head (cons card nil)) told =
    mapped (card_at naming scope card) forget (card_means naming scope card) (λ c stands. (told.0, (stands, tt)))
plain_rule_means naming scope from to rule.Shuffle (cons head (cons loc nil)) told =
    mapped (loc_at naming scope loc) shuffle (loc_means naming scope loc) (λ l stands. (told.0, (stands, tt)))
plain_rule_means naming scope from to rule.Peek (cons head (cons cards (cons owner nil))) told =
    paired _ _ peek (coll_means naming scope cards) (owner_means scope owner) (λ p q one other. (told.0, (one, (other, tt))))
plain_rule_means naming scope from to rule parts told = number_rule_means naming scope from to rule parts told

mutual
  -- EFFECT
  pub effect_means : (naming : Naming) (scope : Scope) (tree : Tree)
      → Means (effect_at naming scope tree) (λ e. StandsEffect naming scope e tree)
  effect_means naming scope (word bytes from to) = nothing
  effect_means naming scope (list parts from to) =
      behind (rule_at symbol.Effect parts) _ (told_at symbol.Effect parts)
      (λ rule told. effect_rule_means naming scope from to rule parts told)

  -- by its rule
  effect_rule_means : (naming : Naming) (scope : Scope) (from to : ℕ) (rule : Rule) (parts : Trees) → Told rule parts
      → Means (effect_rule naming scope rule parts) (λ e. StandsEffect naming scope e (list parts from to))
  effect_rule_means naming scope from to rule.If (cons head (cons t effects)) told =
      paired _ _ when (test_means naming scope t) (effects_mean naming scope effects)
      (λ p q one other. (told.0, (one, (least_left 1 2 _ effects told.2 (omega arith), other))))
  effect_rule_means naming scope from to rule.Repeat (cons head (cons times effects)) told =
      paired _ _ repeat (int_means naming scope times) (effects_mean naming scope effects)
      (λ p q one other. (told.0, (one, (least_left 1 2 _ effects told.2 (omega arith), other))))
  effect_rule_means naming scope from to rule.Each (cons head (cons range (cons variable effects))) told =
      behind (range_at naming scope range) _ (range_means naming scope range)
      (λ domain stands. behind (binder_at naming.names.vars scope variable) _ (binder_means naming scope variable)
      (λ bound binds. mapped (effects_at naming (bind naming scope bound (sort_of domain)) effects) _
      (effects_mean naming (bind naming scope bound (sort_of domain)) effects)
      (λ es stand. (told.0, (stands, (binds, (least_left 1 3 _ effects told.2 (omega arith), stand)))))))
  effect_rule_means naming scope from to rule parts told = plain_rule_means naming scope from to rule parts told

  -- effects, one after the other
  pub effects_mean : (naming : Naming) (scope : Scope) (parts : Trees)
      → Means (effects_at naming scope parts) (λ es. StandEffects naming scope es parts)
  effects_mean naming scope nil = something no_effect tt
  effects_mean naming scope (cons part parts) =
      paired _ _ effect (effect_means naming scope part) (effects_mean naming scope parts) (λ p q one other. (one, other))

-- what is no partition
range_is_domain : (naming : Naming) (scope : Scope) (domain : Domain) (tree : Tree) → StandsRange naming scope domain tree
    → StandsDomain naming scope domain tree
range_is_domain naming scope each_player tree stands = stands
range_is_domain naming scope (each_card cards) tree stands = stands
range_is_domain naming scope (each_group cards attr) tree stands = absurd stands

-- by its rule
domain_rule_means : (naming : Naming) (scope : Scope) (from to : ℕ) (rule : Rule) (parts : Trees) → Told rule parts
    → Means (domain_rule naming scope from rule parts) (λ domain. StandsDomain naming scope domain (list parts from to))
domain_rule_means naming scope from to rule.Partition (cons head (cons cards (cons attr nil))) told =
    paired _ _ each_group (coll_means naming scope cards) (name_means naming.names.attrs attr)
    (λ p q one other. (told.0, (one, (other, tt))))
domain_rule_means naming scope from to rule parts told =
    mapped (coll_rule naming scope from rule parts) each_card (coll_rule_means naming scope from to rule parts told)
    (λ cards stands. stands)

-- a domain
pub domain_means : (naming : Naming) (scope : Scope) (tree : Tree)
    → Means (domain_at naming scope tree) (λ domain. StandsDomain naming scope domain tree)
domain_means naming scope (word bytes from to) =
    weaker (range_at naming scope (word bytes from to)) (range_means naming scope (word bytes from to))
    (λ domain stands. range_is_domain naming scope domain (word bytes from to) stands)
domain_means naming scope (list parts from to) =
    behind (rule_at symbol.Domain parts) _ (told_at symbol.Domain parts)
    (λ rule told. domain_rule_means naming scope from to rule parts told)

mutual
  -- ALT
  pub alt_means : (naming : Naming) (scope : Scope) (tree : Tree)
      → Means (alt_at naming scope tree) (λ alt. StandsAlt naming scope alt tree)
  alt_means naming scope (word bytes from to) = nothing
  alt_means naming scope (list parts from to) =
      behind (rule_at symbol.Alternative parts) _ (told_at symbol.Alternative parts)
      (λ rule told. alt_rule_means naming scope from to rule parts told)

  -- by its rule
  alt_rule_means : (naming : Naming) (scope : Scope) (from to : ℕ) (rule : Rule) (parts : Trees) → Told rule parts
      → Means (alt_rule naming scope rule parts) (λ alt. StandsAlt naming scope alt (list parts from to))
  alt_rule_means naming scope from to rule.Do (cons head effects) told =
      mapped (effects_at naming scope effects) do_alt (effects_mean naming scope effects)
      (λ es stand. (told.0, (least_left 1 1 _ effects told.2 (omega arith), stand)))
  alt_rule_means naming scope from to rule.If (cons head (cons guard effects)) told =
      paired _ _ if_alt (test_means naming scope guard) (effects_mean naming scope effects)
      (λ p q one other. (told.0, (one, (least_left 1 2 _ effects told.2 (omega arith), other))))
  alt_rule_means naming scope from to rule.AnyOf (cons head (cons domain (cons variable (cons alt nil)))) told =
      behind (domain_at naming scope domain) _ (domain_means naming scope domain)
      (λ d stands. behind (binder_at naming.names.vars scope variable) _ (binder_means naming scope variable)
      (λ bound binds. mapped (alt_at naming (bind naming scope bound (sort_of d)) alt) _
      (alt_means naming (bind naming scope bound (sort_of d)) alt)
      (λ a holds. (told.0, (stands, (binds, (holds, tt)))))))
  alt_rule_means naming scope from to rule parts told = nothing

-- alternatives, one after the other
pub alts_mean : (naming : Naming) (parts : Trees) → Means (alts_at naming parts) (λ alts. StandAlts naming alts parts)
alts_mean naming nil = something [] tt
alts_mean naming (cons part parts) =
    paired _ _ ◌∷◌ (alt_means naming [] part) (alts_mean naming parts) (λ p q one other. (one, other))
