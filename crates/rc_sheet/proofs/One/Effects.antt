-- What is read off a form for which a sheet's part stands is that part: spots, effects, domains and alternatives.
use Rattle.std.proofs.Common.{◌≡◌, ℕ, List, [], ◌∷◌, ◌++◌, Option, Some, option_map, refl, subst, append-nil}
use Rattle.std.specs.Prelude.{codes}
use Rattle.rc_base.specs.Tree.{Tree, word, list, Trees, nil, cons}
use Rattle.rc_sheet_spec.specs.Sheet.{End, top, bottom, Loc, CardExpr, card_var, top_card, bottom_card, max_card, min_card, CollExpr, group_var, cards_in, filtered, union_of, known_in, Domain, each_player, each_card, each_group, Effect, move, move_all, remember, forget, shuffle, set_to, increase, decrease, when, repeat, for_each, next_is, turn_round, peek, Effects, no_effect, effect, Alt, do_alt, if_alt, any_alt, Sheet}
use Rattle.rc_sheet_spec.specs.Mentions.{Mention, attr_name, loc_name, num_name, in_card, in_coll, in_colls, in_int, in_test, in_domain, in_effect, in_effects, in_alt}
use Rattle.rc_sheet_spec.specs.Rows.{◌▸◌, AtLeast}
use Rattle.rc_sheet_spec.specs.Rows.{End as Last}
use Rattle.rc_sheet_spec.specs.Rows.{Some as Full}
use Rattle.rc_sheet_spec.specs.Naming.{Naming, Scope, bind, sort_of, Named, Binder, KindOf, sheet_naming}
use Rattle.rc_sheet_spec.specs.StandsExpressions.{StandsOwner, StandsHolder, StandsLoc, StandsNum, StandsCard, StandsColl, StandColls, StandsInt, StandsTest, StandsRange, StandsDomain}
use Rattle.rc_sheet_spec.specs.StandsEffects.{StandsSpot, StandsEffect, StandEffects}
use Rattle.rc_sheet_spec.specs.StandsItems.{StandsAlt}
use Rattle.rc_sheet_spec.specs.WellFormed.{Around, behind, in_repeat, IsDomain, IsEffect, AreEffects, IsAlt}
use Rattle.rc_check.specs.Faults.{count}
use Rattle.rc_sheet.specs.ReadNames.{both, rule_at, owner_at}
use Rattle.rc_sheet.specs.ReadExpressions.{coll_at, coll_rule}
use Rattle.rc_sheet.specs.ReadEffects.{spot_at, effect_at, effect_rule, effects_at, domain_at, domain_rule, alt_at, alt_rule}
use Rattle.rc_sheet.proofs.Means.{something}
use Rattle.rc_sheet.proofs.One.Rows.{behind_word, row_one, row_two, row_three, row_word, row_word_part, row_part, row_words, two_parts, first_part, three_parts}
use Rattle.rc_sheet.proofs.One.Names.{Differ, Apart, variable_word, one_owner, loc_rule_in_cards, loc_rule_in_domain, along, Only, only_quiet, only_map, only_both, only_pair, only_sized, by_rule, of_rule, sized_too, one_attr, one_loc, one_num}
use Rattle.rc_sheet.proofs.One.Expressions.{CollIs, one_bound, bound_apart, one_card, one_coll, one_int, one_test, one_range}
use Rattle.rc_check.specs.declared.grammar.Symbol.TheVariants as symbol
use Rattle.rc_check.specs.declared.grammar.Rule.TheVariants as rule

-- a card is a variable or a list
pub card_held : (naming : Naming) (scope : Scope) (a : CardExpr) (P : Tree → Type 0) (tree : Tree) → StandsCard naming scope a tree
    → ((rest : List ℕ) (from to : ℕ) → P (word (39 ∷ rest) from to)) → ((parts : Trees) (from to : ℕ) → P (list parts from to))
    → P tree
card_held naming scope a P (list parts from to) stands bound row = row parts from to
card_held naming scope (card_var var) P (word bytes from to) stands bound row =
    variable_word (λ b. P (word b from to)) bytes stands.1 (λ rest. bound rest from to)
card_held naming scope (top_card cards) P (word bytes from to) stands bound row = absurd stands
card_held naming scope (bottom_card cards) P (word bytes from to) stands bound row = absurd stands
card_held naming scope (max_card cards map) P (word bytes from to) stands bound row = absurd stands
card_held naming scope (min_card cards map) P (word bytes from to) stands bound row = absurd stands

-- the rule of a move of one card
pub move_rule : (naming : Naming) (scope : Scope) (a : CardExpr) (f t : ℕ) (card spot : Tree) → StandsCard naming scope a card
    → rule_at symbol.Effect (cons (word (codes "move") f t) (cons card (cons spot nil))) ≡ Some rule.Move
move_rule naming scope a f t card spot stands =
    card_held naming scope a
    (λ card. rule_at symbol.Effect (cons (word (codes "move") f t) (cons card (cons spot nil))) ≡ Some rule.Move) card stands
    (λ rest from to. refl) (λ parts from to. refl)

-- A sheet whose names differ, and a naming that a form is read by.
module _ (sheet : Sheet) (told : Naming) (differ : Differ sheet.names) where
  abbrev SpotIs : Around → End → Loc → Tree → Type 0
  SpotIs around end loc tree =
      Only sheet told (end, loc) (loc_name loc.name ∷ []) (spot_at (along sheet told) around.scope tree)

  abbrev pub EffectIs : Around → Effect → Tree → Type 0
  EffectIs around e tree = Only sheet told e (in_effect e) (effect_at (along sheet told) around.scope tree)

  abbrev pub EffectsAre : Around → Effects → Trees → Type 0
  EffectsAre around all trees = Only sheet told all (in_effects all) (effects_at (along sheet told) around.scope trees)

  abbrev pub DomainIs : Around → Domain → Tree → Type 0
  DomainIs around domain tree = Only sheet told domain (in_domain domain) (domain_at (along sheet told) around.scope tree)

  abbrev pub AltIs : Around → Alt → Tree → Type 0
  AltIs around alt tree = Only sheet told alt (in_alt alt) (alt_at (along sheet told) around.scope tree)

  -- SPOT
  one_spot : (around : Around) (end : End) (loc : Loc) (tree : Tree) → Apart around.scope
      → StandsSpot (sheet_naming sheet) around.scope end loc tree → SpotIs around end loc tree
  one_spot around top loc tree alone stands =
      row_one "top" (StandsLoc (sheet_naming sheet) around.scope loc) (SpotIs around top loc) tree stands
      (λ f t from to l here. only_map sheet told (λ loc. (top, loc)) loc (loc_name loc.name ∷ []) _
      (one_loc sheet told around.scope loc l differ alone here))
  one_spot around bottom loc tree alone stands =
      row_one "bottom" (StandsLoc (sheet_naming sheet) around.scope loc) (SpotIs around bottom loc) tree stands
      (λ f t from to l here. only_map sheet told (λ loc. (bottom, loc)) loc (loc_name loc.name ∷ []) _
      (one_loc sheet told around.scope loc l differ alone here))

  -- what is moved, and where to
  moved : {A : Type 0} (around : Around) (make : A → End → Loc → Effect) (a : A) (ms : List Mention) (end : End) (loc : Loc)
      (found : Option A) (spot : Tree) → Apart around.scope → StandsSpot (sheet_naming sheet) around.scope end loc spot
      → Only sheet told a ms found
      → Only sheet told (make a end loc) (ms ++ loc_name loc.name ∷ [])
      (option_map (λ p. make p.0 p.1.0 p.1.1) (both found (spot_at (along sheet told) around.scope spot)))
  moved around make a ms end loc found spot alone stands one =
      only_map sheet told (λ p. make p.0 p.1.0 p.1.1) (a, (end, loc)) (ms ++ loc_name loc.name ∷ []) (both found _)
      (only_both sheet told a (end, loc) ms (loc_name loc.name ∷ []) found _ one (one_spot around end loc spot alone stands))

  mutual
    -- EFFECT
    pub one_effect : (around : Around) (a : Effect) (tree : Tree) → Apart around.scope
        → StandsEffect (sheet_naming sheet) around.scope a tree → IsEffect sheet around a → EffectIs around a tree
    one_effect around (move card end loc) tree alone stands is =
        row_two "move" (StandsCard (sheet_naming sheet) around.scope card) (StandsSpot (sheet_naming sheet) around.scope end loc)
        (EffectIs around (move card end loc)) tree stands
        (λ f t from to c s here there. by_rule sheet told rule.Move
        (λ rule. effect_rule (along sheet told) around.scope rule (cons (word (codes "move") f t) (cons c (cons s nil))))
        (move card end loc) (in_effect (move card end loc))
        (rule_at symbol.Effect (cons (word (codes "move") f t) (cons c (cons s nil))))
        (move_rule (sheet_naming sheet) around.scope card f t c s here)
        (moved around move card (in_card card) end loc _ s alone there
        (one_card sheet told differ around card c alone here is.0).0))
    one_effect around (move_all cards end loc) tree alone stands is =
        row_words "move" "all"
        (StandsColl (sheet_naming sheet) around.scope cards ▸ StandsSpot (sheet_naming sheet) around.scope end loc ▸ Last)
        (EffectIs around (move_all cards end loc)) tree stands
        (λ f t f' t' from to parts more. two_parts (StandsColl (sheet_naming sheet) around.scope cards)
        (StandsSpot (sheet_naming sheet) around.scope end loc)
        (λ l. EffectIs around (move_all cards end loc)
        (list (cons (word (codes "move") f t) (cons (word (codes "all") f' t') l)) from to)) parts more
        (λ c s here there. moved around move_all cards (in_coll cards) end loc _ s alone there
        (one_coll sheet told differ around cards c alone here is.0)))
    one_effect around (remember card end loc) tree alone stands is =
        row_two "remember" (StandsCard (sheet_naming sheet) around.scope card) (StandsSpot (sheet_naming sheet) around.scope end loc)
        (EffectIs around (remember card end loc)) tree stands
        (λ f t from to c s here there. moved around remember card (in_card card) end loc _ s alone there
        (one_card sheet told differ around card c alone here is.0).0)
    one_effect around (forget card) tree alone stands is =
        row_one "forget" (StandsCard (sheet_naming sheet) around.scope card) (EffectIs around (forget card)) tree stands
        (λ f t from to c here. only_map sheet told forget card (in_card card) _
        (one_card sheet told differ around card c alone here is).0)
    one_effect around (shuffle loc) tree alone stands is =
        row_one "shuffle" (StandsLoc (sheet_naming sheet) around.scope loc) (EffectIs around (shuffle loc)) tree stands
        (λ f t from to l here. only_map sheet told shuffle loc (loc_name loc.name ∷ []) _
        (one_loc sheet told around.scope loc l differ alone here))
    one_effect around (set_to num value) tree alone stands is =
        row_two "set" (StandsNum (sheet_naming sheet) around.scope num) (StandsInt (sheet_naming sheet) around.scope value)
        (EffectIs around (set_to num value)) tree stands
        (λ f t from to n v here there. only_pair sheet told set_to num value (num_name num.name ∷ []) (in_int value) _ _
        (one_num sheet told around.scope num n differ alone here)
        (one_int sheet told differ around value v alone there is.1).0)
    one_effect around (increase num value) tree alone stands is =
        row_two "inc" (StandsNum (sheet_naming sheet) around.scope num) (StandsInt (sheet_naming sheet) around.scope value)
        (EffectIs around (increase num value)) tree stands
        (λ f t from to n v here there. only_pair sheet told increase num value (num_name num.name ∷ []) (in_int value) _ _
        (one_num sheet told around.scope num n differ alone here)
        (one_int sheet told differ around value v alone there is.1).0)
    one_effect around (decrease num value) tree alone stands is =
        row_two "dec" (StandsNum (sheet_naming sheet) around.scope num) (StandsInt (sheet_naming sheet) around.scope value)
        (EffectIs around (decrease num value)) tree stands
        (λ f t from to n v here there. only_pair sheet told decrease num value (num_name num.name ∷ []) (in_int value) _ _
        (one_num sheet told around.scope num n differ alone here)
        (one_int sheet told differ around value v alone there is.1).0)
    one_effect around (when t effects) tree alone stands is =
        row_part "if" (StandsTest (sheet_naming sheet) around.scope t) (Full (StandEffects (sheet_naming sheet) around.scope effects))
        (EffectIs around (when t effects)) tree stands
        (λ f g from to x es here there. only_sized sheet told (count (cons (word (codes "if") f g) (cons x es))) rule.If
        (λ rule. effect_rule (along sheet told) around.scope rule (cons (word (codes "if") f g) (cons x es)))
        (when t effects) (in_test t ++ in_effects effects)
        (only_pair sheet told when t effects (in_test t) (in_effects effects) _ _
        (one_test sheet told differ around t x alone here is.0) (one_effects around effects es alone there.1 is.2)))
    one_effect around (repeat times effects) tree alone stands is =
        row_part "repeat" (StandsInt (sheet_naming sheet) around.scope times)
        (Full (StandEffects (sheet_naming sheet) around.scope effects)) (EffectIs around (repeat times effects)) tree stands
        (λ f g from to x es here there. only_sized sheet told (count (cons (word (codes "repeat") f g) (cons x es))) rule.Repeat
        (λ rule. effect_rule (along sheet told) around.scope rule (cons (word (codes "repeat") f g) (cons x es)))
        (repeat times effects) (in_int times ++ in_effects effects)
        (only_pair sheet told repeat times effects (in_int times) (in_effects effects) _ _
        (one_int sheet told differ around times x alone here is.0).0
        (one_effects (in_repeat around) effects es alone there.1 is.3)))
    one_effect around (for_each domain bound effects) tree alone stands is =
        row_part "all" (StandsRange (sheet_naming sheet) around.scope domain)
        (Binder (sheet_naming sheet) bound
        ▸ Full (StandEffects (sheet_naming sheet) (bind (sheet_naming sheet) around.scope bound (sort_of domain)) effects))
        (EffectIs around (for_each domain bound effects)) tree stands
        (λ f g from to r parts here more. first_part (Binder (sheet_naming sheet) bound)
        (Full (StandEffects (sheet_naming sheet) (bind (sheet_naming sheet) around.scope bound (sort_of domain)) effects))
        (λ l. EffectIs around (for_each domain bound effects) (list (cons (word (codes "all") f g)
        (cons r l)) from to)) parts more
        (λ v es binds there. only_sized sheet told (count (cons (word (codes "all") f g) (cons r (cons v es)))) rule.Each
        (λ rule. effect_rule (along sheet told) around.scope rule (cons (word (codes "all") f g) (cons r (cons v es))))
        (for_each domain bound effects) (in_effect (for_each domain bound effects))
        (one_bound sheet told differ around domain bound effects (in_domain domain) (in_effects effects) _ v
        (λ scope. effects_at (along sheet told) scope es) for_each
        (one_range sheet told differ around domain r alone here is.0) binds
        (one_effects (behind sheet around bound (sort_of domain)) effects es
        (bound_apart sheet told differ around bound (sort_of domain) alone is.1) there.1 is.3))))
    one_effect around (next_is who) tree alone stands is =
        row_word_part "cycle" "next" (StandsOwner around.scope who) (EffectIs around (next_is who)) tree stands
        (λ f t f' t' from to o here. only_map sheet told next_is who [] _
        (only_quiet sheet told who (owner_at around.scope o) (one_owner around.scope who o alone here)))
    one_effect around turn_round tree alone stands is =
        row_word "cycle" "reverse" (EffectIs around turn_round) tree stands
        (λ f t f' t' from to. something turn_round (refl, tt))
    one_effect around (peek cards who) tree alone stands is =
        row_two "peek" (StandsColl (sheet_naming sheet) around.scope cards) (StandsOwner around.scope who)
        (EffectIs around (peek cards who)) tree stands
        (λ f t from to c o here there. subst (λ ms. Only sheet told (peek cards who) ms
        (option_map (λ p. peek p.0 p.1) (both (coll_at (along sheet told) around.scope c) (owner_at around.scope o))))
        (append-nil (in_coll cards))
        (only_pair sheet told peek cards who (in_coll cards) [] _ _ (one_coll sheet told differ around cards c alone here is.0)
        (only_quiet sheet told who (owner_at around.scope o) (one_owner around.scope who o alone there))))

    pub one_effects : (around : Around) (all : Effects) (trees : Trees) → Apart around.scope
        → StandEffects (sheet_naming sheet) around.scope all trees → AreEffects sheet around all → EffectsAre around all trees
    one_effects around no_effect nil alone stands is = something no_effect (refl, tt)
    one_effects around no_effect (cons tree trees) alone stands is = absurd stands
    one_effects around (effect e all) nil alone stands is = absurd stands
    one_effects around (effect e all) (cons tree trees) alone stands is =
        only_pair sheet told effect e all (in_effect e) (in_effects all) _ _ (one_effect around e tree alone stands.0 is.0)
        (one_effects around all trees alone stands.1 is.1)

  -- cards as a domain
  cards_domain : (around : Around) (cards : CollExpr) (parts : Trees) (from to : ℕ)
      → StandsColl (sheet_naming sheet) around.scope cards (list parts from to)
      → CollIs sheet told differ around cards (list parts from to) → DomainIs around (each_card cards) (list parts from to)
  cards_domain around (group_var var) parts from to stands one = absurd stands
  cards_domain around (cards_in loc) parts from to stands one =
      three_parts (StandsHolder around.scope loc.who) (KindOf (sheet_naming sheet) loc.name) (Named sheet.names.locs loc.name)
      (λ tree. CollIs sheet told differ around (cards_in loc) tree → DomainIs around (each_card (cards_in loc)) tree)
      (list parts from to) stands.0
      (λ holder kind name from to holds k n one.
      let parts = cons holder (cons kind (cons name nil)) in
      by_rule sheet told rule.Location (λ rule. domain_rule (along sheet told) around.scope from rule parts)
      (each_card (cards_in loc)) (loc_name loc.name ∷ []) (rule_at symbol.Domain parts)
      (loc_rule_in_domain around.scope loc.who holder kind name holds)
      (only_map sheet told each_card (cards_in loc) (loc_name loc.name ∷ [])
      (coll_rule (along sheet told) around.scope from rule.Location parts)
      (of_rule sheet told rule.Location (λ rule. coll_rule (along sheet told) around.scope from rule parts)
      (cards_in loc) (loc_name loc.name ∷ []) (rule_at symbol.Collection parts)
      (loc_rule_in_cards around.scope loc.who holder kind name holds) one)))
      one
  cards_domain around (filtered cards bound t) parts from to stands one =
      row_three "filter" _ _ _
      (λ tree. CollIs sheet told differ around (filtered cards bound t) tree
      → DomainIs around (each_card (filtered cards bound t)) tree)
      (list parts from to) stands
      (λ f g from to c v t' here binds there one. only_map sheet told each_card (filtered cards bound t)
      (in_coll (filtered cards bound t)) _ one)
      one
  cards_domain around (union_of all) parts from to stands one =
      behind_word "union" (AtLeast 2 (StandColls (sheet_naming sheet) around.scope all))
      (λ tree. CollIs sheet told differ around (union_of all) tree → DomainIs around (each_card (union_of all)) tree)
      (list parts from to) stands
      (λ f t from to ps here one. sized_too sheet told (count (cons (word (codes "union") f t) ps)) rule.Union
      (λ rule. coll_rule (along sheet told) around.scope from rule (cons (word (codes "union") f t) ps))
      (λ rule. domain_rule (along sheet told) around.scope from rule (cons (word (codes "union") f t) ps))
      (union_of all) (each_card (union_of all)) (in_colls all)
      (λ one. only_map sheet told each_card (union_of all) (in_colls all) _ one) one)
      one
  cards_domain around (known_in loc) parts from to stands one =
      row_one "known" _
      (λ tree. CollIs sheet told differ around (known_in loc) tree → DomainIs around (each_card (known_in loc)) tree)
      (list parts from to) stands
      (λ f t from to l here one. only_map sheet told each_card (known_in loc) (loc_name loc.name ∷ []) _ one)
      one

  -- DOMAIN
  pub one_domain : (around : Around) (domain : Domain) (tree : Tree) → Apart around.scope
      → StandsDomain (sheet_naming sheet) around.scope domain tree → IsDomain sheet around domain → DomainIs around domain tree
  one_domain around each_player (word bytes from to) alone stands is =
      one_range sheet told differ around each_player (word bytes from to) alone stands is
  one_domain around each_player (list parts from to) alone stands is = absurd stands
  one_domain around (each_card cards) (word bytes from to) alone stands is =
      one_range sheet told differ around (each_card cards) (word bytes from to) alone stands is
  one_domain around (each_card cards) (list parts from to) alone stands is =
      cards_domain around cards parts from to stands (one_coll sheet told differ around cards
      (list parts from to) alone stands is)
  one_domain around (each_group cards attr) tree alone stands is =
      row_two "partition" (StandsColl (sheet_naming sheet) around.scope cards) (Named sheet.names.attrs attr)
      (DomainIs around (each_group cards attr)) tree stands
      (λ f t from to c n here named. only_pair sheet told each_group cards attr (in_coll cards) (attr_name attr ∷ []) _ _
      (one_coll sheet told differ around cards c alone here is.0) (one_attr sheet told attr n differ named))

  -- ALT
  pub one_alt : (around : Around) (a : Alt) (tree : Tree) → Apart around.scope
      → StandsAlt (sheet_naming sheet) around.scope a tree → IsAlt sheet around a → AltIs around a tree
  one_alt around (do_alt effects) tree alone stands is =
      behind_word "do" (Full (StandEffects (sheet_naming sheet) around.scope effects)) (AltIs around (do_alt effects)) tree stands
      (λ f t from to es there. only_sized sheet told (count (cons (word (codes "do") f t) es)) rule.Do
      (λ rule. alt_rule (along sheet told) around.scope rule (cons (word (codes "do") f t) es))
      (do_alt effects) (in_effects effects)
      (only_map sheet told do_alt effects (in_effects effects) _ (one_effects around effects es alone there.1 is.1)))
  one_alt around (if_alt guard effects) tree alone stands is =
      row_part "if" (StandsTest (sheet_naming sheet) around.scope guard) (Full (StandEffects (sheet_naming sheet) around.scope effects))
      (AltIs around (if_alt guard effects)) tree stands
      (λ f g from to x es here there. only_sized sheet told (count (cons (word (codes "if") f g) (cons x es))) rule.If
      (λ rule. alt_rule (along sheet told) around.scope rule (cons (word (codes "if") f g) (cons x es)))
      (if_alt guard effects) (in_test guard ++ in_effects effects)
      (only_pair sheet told if_alt guard effects (in_test guard) (in_effects effects) _ _
      (one_test sheet told differ around guard x alone here is.0) (one_effects around effects es alone there.1 is.2)))
  one_alt around (any_alt domain bound alt) tree alone stands is =
      row_three "any" (StandsDomain (sheet_naming sheet) around.scope domain) (Binder (sheet_naming sheet) bound)
      (StandsAlt (sheet_naming sheet) (bind (sheet_naming sheet) around.scope bound (sort_of domain)) alt)
      (AltIs around (any_alt domain bound alt)) tree stands
      (λ f g from to d v x here binds there. one_bound sheet told differ around domain bound alt (in_domain domain)
      (in_alt alt) _ v
      (λ scope. alt_at (along sheet told) scope x) any_alt (one_domain around domain d alone here is.0) binds
      (one_alt (behind sheet around bound (sort_of domain)) alt x
      (bound_apart sheet told differ around bound (sort_of domain) alone is.1) there is.2))
