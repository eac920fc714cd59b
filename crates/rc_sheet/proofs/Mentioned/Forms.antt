-- What expressions, tests, effects, alternatives and items mention are the words that their forms mention, in order.
use Prim.Native.String.{String}
use Rattle.std.proofs.Common.{◌≡◌, ℕ, false, true, List, [], ◌∷◌, ◌++◌, codes, flat_map, refl, sym, subst, ◌∙◌, append_assoc, append-nil}
use Rattle.rc_base.specs.Tree.{Tree, word, Trees}
use Rattle.rc_sheet_spec.specs.Sheet.{Names, card_sort, group_sort, Class, game_class, player_class, team_class, Who, top, bottom, Loc, CardExpr, card_var, top_card, bottom_card, max_card, min_card, CollExpr, group_var, cards_in, filtered, union_of, known_in, CollExprs, no_coll, coll, IntExpr, literal, number, size_of, sum_of, worth_of, add, subtract, multiply, Test, eq_int, eq_card, eq_attr, eq_who, ne, less, less_eq, more, more_eq, has_value, and_of, or_of, not_of, all_of, any_of, Tests, no_test, test, Domain, each_player, each_card, each_group, Effect, move, move_all, remember, forget, shuffle, set_to, increase, decrease, when, repeat, for_each, next_is, turn_round, peek, Effects, no_effect, effect, Alt, do_alt, if_alt, any_alt, SheetItem, do_item, stage, choice, SheetItems, no_item, item}
use Rattle.rc_sheet_spec.specs.Sheet.{End as Spot}
use Rattle.rc_sheet_spec.specs.Mentions.{Mention, attr_name, in_loc, in_card, in_coll, in_colls, in_int, in_test, in_tests, in_domain, in_effect, in_effects, in_alt, in_item, in_items}
use Rattle.rc_sheet_spec.specs.Rows.{◌▸◌, End, AtLeast, Row, Atom}
use Rattle.rc_sheet_spec.specs.Naming.{Naming, Scope, bind, sort_of, Named}
use Rattle.rc_sheet_spec.specs.StandsExpressions.{StandsOwner, Two, TwoOwners, StandsCard, StandsColl, StandColls, StandsInt, StandsTest, StandTests, StandsRange, StandsDomain}
use Rattle.rc_sheet_spec.specs.StandsEffects.{StandsSpot, StandsEffect, StandEffects}
use Rattle.rc_sheet_spec.specs.StandsItems.{StandsAlt, StandAlts, StandsClass, StandsItem, StandItems}
use Rattle.rc_sheet.proofs.Mentioned.Common.{Kind, is_sort_word, tells, Speaks, Speak, end_speaks, then_speak, last_speaks, atom_then, at_least_speak, plain_speaks, SpeakFirst, none_speak, more_speak, parts_speak}
use Rattle.rc_sheet.proofs.Mentioned.Rows.{nothing_speaks, text_speaks, variable_speaks, literal_speaks, owner_speaks, loc_speaks, num_speaks, attr_speaks, map_speaks, value_speaks, binder_speaks}

-- a form with one part behind its head, or with several
one_speaks : {kind : Kind} {names : Names} {P : Tree → Type 0} {ms : List Mention} (text : String)
    → tells false false false false text ≡ true → Speaks kind names P ms
    → Speaks kind names (Row (Atom text ▸ P ▸ End)) ms
one_speaks text told part = plain_speaks text told part.other (last_speaks part)

-- two parts
two_speak : {kind : Kind} {names : Names} {P Q : Tree → Type 0} {ms ns : List Mention} (text : String)
    → tells false false false false text ≡ true → Speaks kind names P ms → Speaks kind names Q ns
    → Speaks kind names (Row (Atom text ▸ P ▸ Q ▸ End)) (ms ++ ns)
two_speak text told first second = plain_speaks text told first.other (then_speak first (last_speaks second))

-- a fixed word behind the head
word_speaks_first : {kind : Kind} {names : Names} {Rest : Trees → Type 0} {ms : List Mention} (text second : String)
    → tells false false false false text ≡ true → is_sort_word (word (codes second) 0 0) ≡ false → Speak kind names Rest ms
    → Speaks kind names (Row (Atom text ▸ Atom second ▸ Rest)) ms
word_speaks_first {kind} {names} text second told other rest =
    plain_speaks text told ((text_speaks {kind = kind} {names = names} second other).other) (atom_then rest)

-- one part, and some behind it
some_behind : {kind : Kind} {names : Names} {P : Tree → Type 0} {Q : Trees → Type 0} {ms ns : List Mention} (text : String)
    → tells false false false false text ≡ true → Speaks kind names P ms → SpeakFirst kind names Q ns
    → Speaks kind names (Row (Atom text ▸ P ▸ AtLeast 1 Q)) (ms ++ ns)
some_behind text told first later = plain_speaks text told first.other (then_speak first (at_least_speak 1 later.all))

-- two owners, and two values of cards
owners_speak : {kind : Kind} {names : Names} (text : String) → tells false false false false text ≡ true
    → (scope : Scope) (who who' : Who) → Speaks kind names (TwoOwners text scope who who') []
owners_speak {kind} {names} text told scope who who' =
    let both : Speaks kind names (Two text (StandsOwner scope who) (StandsOwner scope who')) [] =
    two_speak text told (owner_speaks scope who) (owner_speaks scope who') in
    record { says = λ tree stands. both.says tree stands.0; other = λ tree stands. both.other tree stands.0 }

values_speak : {kind : Kind} (text : String) → tells false false false false text ≡ true
    → (naming : Naming) (scope : Scope) (a : CardExpr) (attr : ℕ) (b : CardExpr) (attr' : ℕ)
    → Speaks kind naming.names (StandsCard naming scope a) (in_card a)
    → Speaks kind naming.names (StandsCard naming scope b) (in_card b)
    → Speaks kind naming.names (Two text
    (Row (Atom "attr" ▸ StandsCard naming scope a ▸ Named naming.names.attrs attr ▸ End))
    (Row (Atom "attr" ▸ StandsCard naming scope b ▸ Named naming.names.attrs attr' ▸ End)))
    (in_card a ++ attr_name attr ∷ in_card b ++ attr_name attr' ∷ [])
values_speak {kind} text told naming scope a attr b attr' first second =
    subst (Speaks kind naming.names _)
    (append_assoc (in_card a) (attr_name attr ∷ []) (in_card b ++ attr_name attr' ∷ [])
    ∙ sym (append_assoc (in_card a) (attr_name attr ∷ in_card b) (attr_name attr' ∷ [])))
    (two_speak text told (attr_speaks naming.names attr "attr" refl first) (attr_speaks naming.names attr' "attr" refl second))

-- a stage
stage_speaks : {kind : Kind} {names : Names} {P Q : Tree → Type 0} {R : Trees → Type 0} {ms ns : List Mention}
    → Speaks kind names P [] → Speaks kind names Q ms → Speak kind names R ns
    → Speaks kind names (Row (Atom "stage" ▸ P ▸ Q ▸ AtLeast 1 R)) (ms ++ ns)
stage_speaks class end items =
    plain_speaks "stage" refl class.other (then_speak class (then_speak end (at_least_speak 1 items)))

mutual
  -- CARD
  pub card_speaks : {kind : Kind} (naming : Naming) (scope : Scope) (card : CardExpr)
      → Speaks kind naming.names (StandsCard naming scope card) (in_card card)
  card_speaks naming scope (card_var var) = variable_speaks scope card_sort var
  card_speaks naming scope (top_card cards) = one_speaks "top" refl (coll_speaks naming scope cards)
  card_speaks naming scope (bottom_card cards) = one_speaks "bottom" refl (coll_speaks naming scope cards)
  card_speaks naming scope (max_card cards map) = map_speaks naming.names map "max" refl (coll_speaks naming scope cards)
  card_speaks naming scope (min_card cards map) = map_speaks naming.names map "min" refl (coll_speaks naming scope cards)

  -- COLL
  pub coll_speaks : {kind : Kind} (naming : Naming) (scope : Scope) (cards : CollExpr)
      → Speaks kind naming.names (StandsColl naming scope cards) (in_coll cards)
  coll_speaks naming scope (group_var var) = variable_speaks scope group_sort var
  coll_speaks naming scope (cards_in loc) = loc_speaks naming scope loc
  coll_speaks naming scope (filtered cards bound t) =
      binder_speaks naming bound "filter" refl (coll_speaks naming scope cards)
      (last_speaks (test_speaks naming (bind naming scope bound card_sort) t))
  coll_speaks naming scope (union_of parts) = parts_speak "union" 2 refl refl (colls_speak naming scope parts)
  coll_speaks naming scope (known_in loc) = one_speaks "known" refl (loc_speaks naming scope loc)

  pub colls_speak : {kind : Kind} (naming : Naming) (scope : Scope) (parts : CollExprs)
      → SpeakFirst kind naming.names (StandColls naming scope parts) (in_colls parts)
  colls_speak naming scope no_coll = none_speak
  colls_speak naming scope (coll cards parts) = more_speak (coll_speaks naming scope cards) (colls_speak naming scope parts)

  -- INT
  pub int_speaks : {kind : Kind} (naming : Naming) (scope : Scope) (value : IntExpr)
      → Speaks kind naming.names (StandsInt naming scope value) (in_int value)
  int_speaks naming scope (literal value) = literal_speaks value
  int_speaks naming scope (number num) = num_speaks naming scope num
  int_speaks naming scope (size_of cards) = one_speaks "size" refl (coll_speaks naming scope cards)
  int_speaks naming scope (sum_of cards map) = map_speaks naming.names map "sum" refl (coll_speaks naming scope cards)
  int_speaks naming scope (worth_of card map) = map_speaks naming.names map "points" refl (card_speaks naming scope card)
  int_speaks naming scope (add a b) = two_speak "+" refl (int_speaks naming scope a) (int_speaks naming scope b)
  int_speaks naming scope (subtract a b) = two_speak "-" refl (int_speaks naming scope a) (int_speaks naming scope b)
  int_speaks naming scope (multiply a b) = two_speak "*" refl (int_speaks naming scope a) (int_speaks naming scope b)

  -- BOOL
  pub test_speaks : {kind : Kind} (naming : Naming) (scope : Scope) (t : Test)
      → Speaks kind naming.names (StandsTest naming scope t) (in_test t)
  test_speaks naming scope (eq_int a b) = two_speak "=" refl (int_speaks naming scope a) (int_speaks naming scope b)
  test_speaks naming scope (eq_card a b) = two_speak "=" refl (card_speaks naming scope a) (card_speaks naming scope b)
  test_speaks naming scope (eq_attr a attr b attr') =
      values_speak "=" refl naming scope a attr b attr' (card_speaks naming scope a) (card_speaks naming scope b)
  test_speaks naming scope (eq_who who who') = owners_speak "=" refl scope who who'
  test_speaks naming scope (ne (eq_int a b)) = two_speak "!=" refl (int_speaks naming scope a) (int_speaks naming scope b)
  test_speaks naming scope (ne (eq_card a b)) = two_speak "!=" refl (card_speaks naming scope a) (card_speaks naming scope b)
  test_speaks naming scope (ne (eq_attr a attr b attr')) =
      values_speak "!=" refl naming scope a attr b attr' (card_speaks naming scope a) (card_speaks naming scope b)
  test_speaks naming scope (ne (eq_who who who')) = owners_speak "!=" refl scope who who'
  test_speaks naming scope (ne t) = nothing_speaks
  test_speaks naming scope (less a b) = two_speak "<" refl (int_speaks naming scope a) (int_speaks naming scope b)
  test_speaks naming scope (less_eq a b) = two_speak "<=" refl (int_speaks naming scope a) (int_speaks naming scope b)
  test_speaks naming scope (more a b) = two_speak ">" refl (int_speaks naming scope a) (int_speaks naming scope b)
  test_speaks naming scope (more_eq a b) = two_speak ">=" refl (int_speaks naming scope a) (int_speaks naming scope b)
  test_speaks naming scope (has_value card attr value) =
      value_speaks naming.names attr value "is" refl (card_speaks naming scope card)
  test_speaks naming scope (and_of tests) = parts_speak "and" 1 refl refl (tests_speak naming scope tests)
  test_speaks naming scope (or_of tests) = parts_speak "or" 1 refl refl (tests_speak naming scope tests)
  test_speaks naming scope (not_of t) = one_speaks "not" refl (test_speaks naming scope t)
  test_speaks naming scope (all_of domain bound t) =
      binder_speaks naming bound "all" refl (range_speaks naming scope domain)
      (last_speaks (test_speaks naming (bind naming scope bound (sort_of domain)) t))
  test_speaks naming scope (any_of domain bound t) =
      binder_speaks naming bound "any" refl (range_speaks naming scope domain)
      (last_speaks (test_speaks naming (bind naming scope bound (sort_of domain)) t))

  pub tests_speak : {kind : Kind} (naming : Naming) (scope : Scope) (tests : Tests)
      → SpeakFirst kind naming.names (StandTests naming scope tests) (in_tests tests)
  tests_speak naming scope no_test = none_speak
  tests_speak naming scope (test t tests) = more_speak (test_speaks naming scope t) (tests_speak naming scope tests)

  -- what a variable runs over
  pub range_speaks : {kind : Kind} (naming : Naming) (scope : Scope) (domain : Domain)
      → Speaks kind naming.names (StandsRange naming scope domain) (in_domain domain)
  range_speaks naming scope each_player = text_speaks "player" refl
  range_speaks naming scope (each_card cards) = coll_speaks naming scope cards
  range_speaks naming scope (each_group cards attr) = nothing_speaks

-- DOMAIN
pub domain_speaks : {kind : Kind} (naming : Naming) (scope : Scope) (domain : Domain)
    → Speaks kind naming.names (StandsDomain naming scope domain) (in_domain domain)
domain_speaks naming scope each_player = text_speaks "player" refl
domain_speaks naming scope (each_card cards) = coll_speaks naming scope cards
domain_speaks naming scope (each_group cards attr) =
    attr_speaks naming.names attr "partition" refl (coll_speaks naming scope cards)

-- SPOT
pub spot_speaks : {kind : Kind} (naming : Naming) (scope : Scope) (end : Spot) (loc : Loc)
    → Speaks kind naming.names (StandsSpot naming scope end loc) (in_loc loc)
spot_speaks naming scope top loc = one_speaks "top" refl (loc_speaks naming scope loc)
spot_speaks naming scope bottom loc = one_speaks "bottom" refl (loc_speaks naming scope loc)

mutual
  -- EFFECT
  pub effect_speaks : {kind : Kind} (naming : Naming) (scope : Scope) (e : Effect)
      → Speaks kind naming.names (StandsEffect naming scope e) (in_effect e)
  effect_speaks naming scope (move card end loc) =
      two_speak "move" refl (card_speaks naming scope card) (spot_speaks naming scope end loc)
  effect_speaks naming scope (move_all cards end loc) =
      word_speaks_first "move" "all" refl refl
      (then_speak (coll_speaks naming scope cards) (last_speaks (spot_speaks naming scope end loc)))
  effect_speaks naming scope (remember card end loc) =
      two_speak "remember" refl (card_speaks naming scope card) (spot_speaks naming scope end loc)
  effect_speaks naming scope (forget card) = one_speaks "forget" refl (card_speaks naming scope card)
  effect_speaks naming scope (shuffle loc) = one_speaks "shuffle" refl (loc_speaks naming scope loc)
  effect_speaks naming scope (set_to num value) =
      two_speak "set" refl (num_speaks naming scope num) (int_speaks naming scope value)
  effect_speaks naming scope (increase num value) =
      two_speak "inc" refl (num_speaks naming scope num) (int_speaks naming scope value)
  effect_speaks naming scope (decrease num value) =
      two_speak "dec" refl (num_speaks naming scope num) (int_speaks naming scope value)
  effect_speaks naming scope (when t effects) =
      some_behind "if" refl (test_speaks naming scope t) (effects_speak naming scope effects)
  effect_speaks naming scope (repeat times effects) =
      some_behind "repeat" refl (int_speaks naming scope times) (effects_speak naming scope effects)
  effect_speaks naming scope (for_each domain bound effects) =
      binder_speaks naming bound "all" refl (range_speaks naming scope domain)
      (at_least_speak 1 ((effects_speak naming (bind naming scope bound (sort_of domain)) effects).all))
  effect_speaks naming scope (next_is who) =
      word_speaks_first "cycle" "next" refl refl (last_speaks (owner_speaks scope who))
  effect_speaks naming scope turn_round = word_speaks_first "cycle" "reverse" refl refl end_speaks
  effect_speaks {kind} naming scope (peek cards who) =
      subst (Speaks kind naming.names _) (append-nil (in_coll cards))
      (two_speak "peek" refl (coll_speaks naming scope cards) (owner_speaks scope who))

  pub effects_speak : {kind : Kind} (naming : Naming) (scope : Scope) (effects : Effects)
      → SpeakFirst kind naming.names (StandEffects naming scope effects) (in_effects effects)
  effects_speak naming scope no_effect = none_speak
  effects_speak naming scope (effect e effects) = more_speak (effect_speaks naming scope e) (effects_speak naming scope effects)

-- ALT
pub alt_speaks : {kind : Kind} (naming : Naming) (scope : Scope) (alt : Alt)
    → Speaks kind naming.names (StandsAlt naming scope alt) (in_alt alt)
alt_speaks naming scope (do_alt effects) = parts_speak "do" 1 refl refl (effects_speak naming scope effects)
alt_speaks naming scope (if_alt guard effects) =
    some_behind "if" refl (test_speaks naming scope guard) (effects_speak naming scope effects)
alt_speaks naming scope (any_alt domain bound alt) =
    binder_speaks naming bound "any" refl (domain_speaks naming scope domain)
    (last_speaks (alt_speaks naming (bind naming scope bound (sort_of domain)) alt))

pub alts_speak : {kind : Kind} (naming : Naming) (alts : List Alt)
    → SpeakFirst kind naming.names (StandAlts naming alts) (flat_map in_alt alts)
alts_speak naming [] = none_speak
alts_speak naming (alt ∷ alts) = more_speak (alt_speaks naming [] alt) (alts_speak naming alts)

-- whose turns they are
class_speaks : {kind : Kind} {names : Names} (class : Class) → Speaks kind names (StandsClass class) []
class_speaks game_class = nothing_speaks
class_speaks player_class = text_speaks "player" refl
class_speaks team_class = text_speaks "team" refl

mutual
  -- ITEM
  pub item_speaks : {kind : Kind} (naming : Naming) (i : SheetItem) → Speaks kind naming.names (StandsItem naming i) (in_item i)
  item_speaks naming (do_item effects) = parts_speak "do" 1 refl refl (effects_speak naming [] effects)
  item_speaks naming (stage place class end body) =
      stage_speaks (class_speaks class) (one_speaks "end" refl (test_speaks naming [] end)) (items_speak naming body)
  item_speaks naming (choice site alts) = parts_speak "choice" 1 refl refl (alts_speak naming alts)

  -- items alone
  pub items_speak : {kind : Kind} (naming : Naming) (items : SheetItems)
      → Speak kind naming.names (StandItems naming items End) (in_items items)
  items_speak naming no_item = end_speaks
  items_speak naming (item i items) = then_speak (item_speaks naming i) (items_speak naming items)

-- items, and what follows them
pub items_then : {kind : Kind} {Rest : Trees → Type 0} {rs : List Mention} (naming : Naming) (items : SheetItems)
    → Speak kind naming.names Rest rs → Speak kind naming.names (StandItems naming items Rest) (in_items items ++ rs)
items_then naming no_item rest = rest
items_then {kind} {Rest} {rs} naming (item i items) rest =
    subst (Speak kind naming.names (StandItems naming (item i items) Rest)) (sym (append_assoc (in_item i) (in_items items) rs))
    (then_speak (item_speaks naming i) (items_then naming items rest))
