-- Codes of sheets, by which the logic tells them apart. Each tree that holds itself is stored as a tree of numbers: of_card and
-- its like store it, to_card and its like get it back, and same_card and its like say that it is the same.
use Rattle.std.specs.Prelude.{◌≡◌, List, [], ◌∷◌, refl}
use Rattle.std.specs.Coded.{Coded, code_by}
use base.Stored.{Gv, gnil, gnum, gcons}
use denote.Struct.Codes.{itself}
use lib.IntN.{ℤ, pos, negsuc}
use Rattle.rc_base.specs.Deck.{Groups, no_group, group, Branches, no_branch, branch}
use Rattle.rc_sheet_spec.specs.Sheet.{Class, game_class, player_class, team_class, End, top, bottom, Who, game, current_player, current_team, team_of_current, team_of_var, who_var, Loc, Num, CardExpr, card_var, top_card, bottom_card, max_card, min_card, CollExpr, group_var, cards_in, filtered, union_of, known_in, CollExprs, no_coll, coll, IntExpr, literal, number, size_of, sum_of, worth_of, add, subtract, multiply, Test, eq_int, eq_card, eq_attr, eq_who, ne, less, less_eq, more, more_eq, has_value, and_of, or_of, not_of, all_of, any_of, Tests, no_test, test, Domain, each_player, each_card, each_group, Effect, move, move_all, remember, forget, shuffle, set_to, increase, decrease, when, repeat, for_each, next_is, turn_round, peek, Effects, no_effect, effect, Alt, do_alt, if_alt, any_alt, SheetItem, do_item, stage, choice, SheetItems, no_item, item}

-- the cases of a type, counted
pattern abbrev nought : Gv
nought = gnil

pattern abbrev one : Gv
one = gcons gnil nought

pattern abbrev two : Gv
two = gcons gnil one

pattern abbrev three : Gv
three = gcons gnil two

pattern abbrev four : Gv
four = gcons gnil three

pattern abbrev five : Gv
five = gcons gnil four

pattern abbrev six : Gv
six = gcons gnil five

pattern abbrev seven : Gv
seven = gcons gnil six

pattern abbrev eight : Gv
eight = gcons gnil seven

pattern abbrev nine : Gv
nine = gcons gnil eight

pattern abbrev ten : Gv
ten = gcons gnil nine

pattern abbrev eleven : Gv
eleven = gcons gnil ten

pattern abbrev twelve : Gv
twelve = gcons gnil eleven

pattern abbrev thirteen : Gv
thirteen = gcons gnil twelve

pattern abbrev fourteen : Gv
fourteen = gcons gnil thirteen

-- WHOLE NUMBERS, ENDS AND CLASSES

abbrev of_integer : ℤ → Gv
of_integer (pos n) = gnum n
of_integer (negsuc n) = gcons gnil (gnum n)

abbrev to_integer : Gv → ℤ
to_integer (gnum n) = pos n
to_integer (gcons a (gnum n)) = negsuc n
to_integer code = pos 0

same_integer : (n : ℤ) → to_integer (of_integer n) ≡ n
same_integer (pos n) = refl
same_integer (negsuc n) = refl

abbrev of_end : End → Gv
of_end top = nought
of_end bottom = one

abbrev to_end : Gv → End
to_end nought = top
to_end code = bottom

same_end : (end : End) → to_end (of_end end) ≡ end
same_end top = refl
same_end bottom = refl

abbrev of_class : Class → Gv
of_class game_class = nought
of_class player_class = one
of_class team_class = two

abbrev to_class : Gv → Class
to_class nought = game_class
to_class one = player_class
to_class code = team_class

same_class : (class : Class) → to_class (of_class class) ≡ class
same_class game_class = refl
same_class player_class = refl
same_class team_class = refl

-- OWNERS, LOCATIONS AND STORED NUMBERS

abbrev of_who : Who → Gv
of_who game = gcons nought gnil
of_who current_player = gcons one gnil
of_who current_team = gcons two gnil
of_who team_of_current = gcons three gnil
of_who (team_of_var var) = gcons four (gnum var)
of_who (who_var var) = gcons five (gnum var)

abbrev to_who : Gv → Who
to_who (gcons nought gnil) = game
to_who (gcons one gnil) = current_player
to_who (gcons two gnil) = current_team
to_who (gcons three gnil) = team_of_current
to_who (gcons four (gnum var)) = team_of_var var
to_who (gcons five (gnum var)) = who_var var
to_who code = game

same_who : (tree : Who) → to_who (of_who tree) ≡ tree
same_who game = refl
same_who current_player = refl
same_who current_team = refl
same_who team_of_current = refl
same_who (team_of_var var) = refl
same_who (who_var var) = refl

abbrev of_loc : Loc → Gv
of_loc loc = gcons (of_who loc.who) (gcons (gnum loc.name) (gnum loc.at))

abbrev to_loc : Gv → Loc
to_loc (gcons who (gcons (gnum name) (gnum at))) = record { who = to_who who; name = name; at = at }
to_loc code = record { who = game; name = 0; at = 0 }

same_loc : (loc : Loc) → to_loc (of_loc loc) ≡ loc
same_loc loc = λ i. record { who = same_who loc.who i; name = loc.name; at = loc.at }

abbrev of_num : Num → Gv
of_num num = gcons (of_who num.who) (gnum num.name)

abbrev to_num : Gv → Num
to_num (gcons who (gnum name)) = record { who = to_who who; name = name }
to_num code = record { who = game; name = 0 }

same_num : (num : Num) → to_num (of_num num) ≡ num
same_num num = λ i. record { who = same_who num.who i; name = num.name }

-- EXPRESSIONS AND TESTS

abbrev mutual
  of_card : CardExpr → Gv
  of_card (card_var var) = gcons nought (gnum var)
  of_card (top_card cards) = gcons one (of_coll cards)
  of_card (bottom_card cards) = gcons two (of_coll cards)
  of_card (max_card cards map) = gcons three (gcons (of_coll cards) (gnum map))
  of_card (min_card cards map) = gcons four (gcons (of_coll cards) (gnum map))

  of_coll : CollExpr → Gv
  of_coll (group_var var) = gcons nought (gnum var)
  of_coll (cards_in loc) = gcons one (of_loc loc)
  of_coll (filtered cards bound inner) = gcons two (gcons (of_coll cards) (gcons (gnum bound) (of_test inner)))
  of_coll (union_of parts) = gcons three (of_colls parts)
  of_coll (known_in loc) = gcons four (of_loc loc)

  of_colls : CollExprs → Gv
  of_colls no_coll = gcons nought gnil
  of_colls (coll first parts) = gcons one (gcons (of_coll first) (of_colls parts))

  of_int : IntExpr → Gv
  of_int (literal value) = gcons nought (of_integer value)
  of_int (number num) = gcons one (of_num num)
  of_int (size_of cards) = gcons two (of_coll cards)
  of_int (sum_of cards map) = gcons three (gcons (of_coll cards) (gnum map))
  of_int (worth_of card map) = gcons four (gcons (of_card card) (gnum map))
  of_int (add left right) = gcons five (gcons (of_int left) (of_int right))
  of_int (subtract left right) = gcons six (gcons (of_int left) (of_int right))
  of_int (multiply left right) = gcons seven (gcons (of_int left) (of_int right))

  of_test : Test → Gv
  of_test (eq_int left right) = gcons nought (gcons (of_int left) (of_int right))
  of_test (eq_card left right) = gcons one (gcons (of_card left) (of_card right))
  of_test (eq_attr left attr right attr') =
      gcons two (gcons (of_card left) (gcons (gnum attr) (gcons (of_card right) (gnum attr'))))
  of_test (eq_who left right) = gcons three (gcons (of_who left) (of_who right))
  of_test (ne inner) = gcons four (of_test inner)
  of_test (less left right) = gcons five (gcons (of_int left) (of_int right))
  of_test (less_eq left right) = gcons six (gcons (of_int left) (of_int right))
  of_test (more left right) = gcons seven (gcons (of_int left) (of_int right))
  of_test (more_eq left right) = gcons eight (gcons (of_int left) (of_int right))
  of_test (has_value card attr value) = gcons nine (gcons (of_card card) (gcons (gnum attr) (gnum value)))
  of_test (and_of tests) = gcons ten (of_tests tests)
  of_test (or_of tests) = gcons eleven (of_tests tests)
  of_test (not_of inner) = gcons twelve (of_test inner)
  of_test (all_of domain bound inner) = gcons thirteen (gcons (of_domain domain) (gcons (gnum bound) (of_test inner)))
  of_test (any_of domain bound inner) = gcons fourteen (gcons (of_domain domain) (gcons (gnum bound) (of_test inner)))

  of_tests : Tests → Gv
  of_tests no_test = gcons nought gnil
  of_tests (test first tests) = gcons one (gcons (of_test first) (of_tests tests))

  of_domain : Domain → Gv
  of_domain each_player = gcons nought gnil
  of_domain (each_card cards) = gcons one (of_coll cards)
  of_domain (each_group cards attr) = gcons two (gcons (of_coll cards) (gnum attr))

abbrev mutual
  to_card : Gv → CardExpr
  to_card (gcons nought (gnum var)) = card_var var
  to_card (gcons one cards) = top_card (to_coll cards)
  to_card (gcons two cards) = bottom_card (to_coll cards)
  to_card (gcons three (gcons cards (gnum map))) = max_card (to_coll cards) map
  to_card (gcons four (gcons cards (gnum map))) = min_card (to_coll cards) map
  to_card code = card_var 0

  to_coll : Gv → CollExpr
  to_coll (gcons nought (gnum var)) = group_var var
  to_coll (gcons one loc) = cards_in (to_loc loc)
  to_coll (gcons two (gcons cards (gcons (gnum bound) inner))) = filtered (to_coll cards) bound (to_test inner)
  to_coll (gcons three parts) = union_of (to_colls parts)
  to_coll (gcons four loc) = known_in (to_loc loc)
  to_coll code = group_var 0

  to_colls : Gv → CollExprs
  to_colls (gcons nought gnil) = no_coll
  to_colls (gcons one (gcons first parts)) = coll (to_coll first) (to_colls parts)
  to_colls code = no_coll

  to_int : Gv → IntExpr
  to_int (gcons nought value) = literal (to_integer value)
  to_int (gcons one num) = number (to_num num)
  to_int (gcons two cards) = size_of (to_coll cards)
  to_int (gcons three (gcons cards (gnum map))) = sum_of (to_coll cards) map
  to_int (gcons four (gcons card (gnum map))) = worth_of (to_card card) map
  to_int (gcons five (gcons left right)) = add (to_int left) (to_int right)
  to_int (gcons six (gcons left right)) = subtract (to_int left) (to_int right)
  to_int (gcons seven (gcons left right)) = multiply (to_int left) (to_int right)
  to_int code = literal (pos 0)

  to_test : Gv → Test
  to_test (gcons nought (gcons left right)) = eq_int (to_int left) (to_int right)
  to_test (gcons one (gcons left right)) = eq_card (to_card left) (to_card right)
  to_test (gcons two (gcons left (gcons (gnum attr) (gcons right (gnum attr'))))) =
      eq_attr (to_card left) attr (to_card right) attr'
  to_test (gcons three (gcons left right)) = eq_who (to_who left) (to_who right)
  to_test (gcons four inner) = ne (to_test inner)
  to_test (gcons five (gcons left right)) = less (to_int left) (to_int right)
  to_test (gcons six (gcons left right)) = less_eq (to_int left) (to_int right)
  to_test (gcons seven (gcons left right)) = more (to_int left) (to_int right)
  to_test (gcons eight (gcons left right)) = more_eq (to_int left) (to_int right)
  to_test (gcons nine (gcons card (gcons (gnum attr) (gnum value)))) = has_value (to_card card) attr value
  to_test (gcons ten tests) = and_of (to_tests tests)
  to_test (gcons eleven tests) = or_of (to_tests tests)
  to_test (gcons twelve inner) = not_of (to_test inner)
  to_test (gcons thirteen (gcons domain (gcons (gnum bound) inner))) = all_of (to_domain domain) bound (to_test inner)
  to_test (gcons fourteen (gcons domain (gcons (gnum bound) inner))) = any_of (to_domain domain) bound (to_test inner)
  to_test code = and_of no_test

  to_tests : Gv → Tests
  to_tests (gcons nought gnil) = no_test
  to_tests (gcons one (gcons first tests)) = test (to_test first) (to_tests tests)
  to_tests code = no_test

  to_domain : Gv → Domain
  to_domain (gcons nought gnil) = each_player
  to_domain (gcons one cards) = each_card (to_coll cards)
  to_domain (gcons two (gcons cards (gnum attr))) = each_group (to_coll cards) attr
  to_domain code = each_player

mutual
  same_card : (tree : CardExpr) → to_card (of_card tree) ≡ tree
  same_card (card_var var) = refl
  same_card (top_card cards) = λ i. top_card (same_coll cards i)
  same_card (bottom_card cards) = λ i. bottom_card (same_coll cards i)
  same_card (max_card cards map) = λ i. max_card (same_coll cards i) map
  same_card (min_card cards map) = λ i. min_card (same_coll cards i) map

  same_coll : (tree : CollExpr) → to_coll (of_coll tree) ≡ tree
  same_coll (group_var var) = refl
  same_coll (cards_in loc) = λ i. cards_in (same_loc loc i)
  same_coll (filtered cards bound inner) = λ i. filtered (same_coll cards i) bound (same_test inner i)
  same_coll (union_of parts) = λ i. union_of (same_colls parts i)
  same_coll (known_in loc) = λ i. known_in (same_loc loc i)

  same_colls : (tree : CollExprs) → to_colls (of_colls tree) ≡ tree
  same_colls no_coll = refl
  same_colls (coll first parts) = λ i. coll (same_coll first i) (same_colls parts i)

  pub same_int : (tree : IntExpr) → to_int (of_int tree) ≡ tree
  same_int (literal value) = λ i. literal (same_integer value i)
  same_int (number num) = λ i. number (same_num num i)
  same_int (size_of cards) = λ i. size_of (same_coll cards i)
  same_int (sum_of cards map) = λ i. sum_of (same_coll cards i) map
  same_int (worth_of card map) = λ i. worth_of (same_card card i) map
  same_int (add left right) = λ i. add (same_int left i) (same_int right i)
  same_int (subtract left right) = λ i. subtract (same_int left i) (same_int right i)
  same_int (multiply left right) = λ i. multiply (same_int left i) (same_int right i)

  same_test : (tree : Test) → to_test (of_test tree) ≡ tree
  same_test (eq_int left right) = λ i. eq_int (same_int left i) (same_int right i)
  same_test (eq_card left right) = λ i. eq_card (same_card left i) (same_card right i)
  same_test (eq_attr left attr right attr') = λ i. eq_attr (same_card left i) attr (same_card right i) attr'
  same_test (eq_who left right) = λ i. eq_who (same_who left i) (same_who right i)
  same_test (ne inner) = λ i. ne (same_test inner i)
  same_test (less left right) = λ i. less (same_int left i) (same_int right i)
  same_test (less_eq left right) = λ i. less_eq (same_int left i) (same_int right i)
  same_test (more left right) = λ i. more (same_int left i) (same_int right i)
  same_test (more_eq left right) = λ i. more_eq (same_int left i) (same_int right i)
  same_test (has_value card attr value) = λ i. has_value (same_card card i) attr value
  same_test (and_of tests) = λ i. and_of (same_tests tests i)
  same_test (or_of tests) = λ i. or_of (same_tests tests i)
  same_test (not_of inner) = λ i. not_of (same_test inner i)
  same_test (all_of domain bound inner) = λ i. all_of (same_domain domain i) bound (same_test inner i)
  same_test (any_of domain bound inner) = λ i. any_of (same_domain domain i) bound (same_test inner i)

  same_tests : (tree : Tests) → to_tests (of_tests tree) ≡ tree
  same_tests no_test = refl
  same_tests (test first tests) = λ i. test (same_test first i) (same_tests tests i)

  same_domain : (tree : Domain) → to_domain (of_domain tree) ≡ tree
  same_domain each_player = refl
  same_domain (each_card cards) = λ i. each_card (same_coll cards i)
  same_domain (each_group cards attr) = λ i. each_group (same_coll cards i) attr

-- EFFECTS

abbrev mutual
  of_effect : Effect → Gv
  of_effect (move card end loc) = gcons nought (gcons (of_card card) (gcons (of_end end) (of_loc loc)))
  of_effect (move_all cards end loc) = gcons one (gcons (of_coll cards) (gcons (of_end end) (of_loc loc)))
  of_effect (remember card end loc) = gcons two (gcons (of_card card) (gcons (of_end end) (of_loc loc)))
  of_effect (forget card) = gcons three (of_card card)
  of_effect (shuffle loc) = gcons four (of_loc loc)
  of_effect (set_to num value) = gcons five (gcons (of_num num) (of_int value))
  of_effect (increase num value) = gcons six (gcons (of_num num) (of_int value))
  of_effect (decrease num value) = gcons seven (gcons (of_num num) (of_int value))
  of_effect (when guard effects) = gcons eight (gcons (of_test guard) (of_effects effects))
  of_effect (repeat count effects) = gcons nine (gcons (of_int count) (of_effects effects))
  of_effect (for_each domain bound effects) =
      gcons ten (gcons (of_domain domain) (gcons (gnum bound) (of_effects effects)))
  of_effect (next_is who) = gcons eleven (of_who who)
  of_effect turn_round = gcons twelve gnil
  of_effect (peek cards who) = gcons thirteen (gcons (of_coll cards) (of_who who))

  of_effects : Effects → Gv
  of_effects no_effect = gcons nought gnil
  of_effects (effect first effects) = gcons one (gcons (of_effect first) (of_effects effects))

abbrev mutual
  to_effect : Gv → Effect
  to_effect (gcons nought (gcons card (gcons end loc))) = move (to_card card) (to_end end) (to_loc loc)
  to_effect (gcons one (gcons cards (gcons end loc))) = move_all (to_coll cards) (to_end end) (to_loc loc)
  to_effect (gcons two (gcons card (gcons end loc))) = remember (to_card card) (to_end end) (to_loc loc)
  to_effect (gcons three card) = forget (to_card card)
  to_effect (gcons four loc) = shuffle (to_loc loc)
  to_effect (gcons five (gcons num value)) = set_to (to_num num) (to_int value)
  to_effect (gcons six (gcons num value)) = increase (to_num num) (to_int value)
  to_effect (gcons seven (gcons num value)) = decrease (to_num num) (to_int value)
  to_effect (gcons eight (gcons guard effects)) = when (to_test guard) (to_effects effects)
  to_effect (gcons nine (gcons count effects)) = repeat (to_int count) (to_effects effects)
  to_effect (gcons ten (gcons domain (gcons (gnum bound) effects))) =
      for_each (to_domain domain) bound (to_effects effects)
  to_effect (gcons eleven who) = next_is (to_who who)
  to_effect (gcons twelve gnil) = turn_round
  to_effect (gcons thirteen (gcons cards who)) = peek (to_coll cards) (to_who who)
  to_effect code = turn_round

  to_effects : Gv → Effects
  to_effects (gcons nought gnil) = no_effect
  to_effects (gcons one (gcons first effects)) = effect (to_effect first) (to_effects effects)
  to_effects code = no_effect

mutual
  same_effect : (tree : Effect) → to_effect (of_effect tree) ≡ tree
  same_effect (move card end loc) = λ i. move (same_card card i) (same_end end i) (same_loc loc i)
  same_effect (move_all cards end loc) = λ i. move_all (same_coll cards i) (same_end end i) (same_loc loc i)
  same_effect (remember card end loc) = λ i. remember (same_card card i) (same_end end i) (same_loc loc i)
  same_effect (forget card) = λ i. forget (same_card card i)
  same_effect (shuffle loc) = λ i. shuffle (same_loc loc i)
  same_effect (set_to num value) = λ i. set_to (same_num num i) (same_int value i)
  same_effect (increase num value) = λ i. increase (same_num num i) (same_int value i)
  same_effect (decrease num value) = λ i. decrease (same_num num i) (same_int value i)
  same_effect (when guard effects) = λ i. when (same_test guard i) (same_effects effects i)
  same_effect (repeat count effects) = λ i. repeat (same_int count i) (same_effects effects i)
  same_effect (for_each domain bound effects) = λ i. for_each (same_domain domain i) bound (same_effects effects i)
  same_effect (next_is who) = λ i. next_is (same_who who i)
  same_effect turn_round = refl
  same_effect (peek cards who) = λ i. peek (same_coll cards i) (same_who who i)

  same_effects : (tree : Effects) → to_effects (of_effects tree) ≡ tree
  same_effects no_effect = refl
  same_effects (effect first effects) = λ i. effect (same_effect first i) (same_effects effects i)

-- ALTERNATIVES

abbrev of_alt : Alt → Gv
of_alt (do_alt effects) = gcons nought (of_effects effects)
of_alt (if_alt guard effects) = gcons one (gcons (of_test guard) (of_effects effects))
of_alt (any_alt domain bound inner) = gcons two (gcons (of_domain domain) (gcons (gnum bound) (of_alt inner)))

abbrev to_alt : Gv → Alt
to_alt (gcons nought effects) = do_alt (to_effects effects)
to_alt (gcons one (gcons guard effects)) = if_alt (to_test guard) (to_effects effects)
to_alt (gcons two (gcons domain (gcons (gnum bound) inner))) = any_alt (to_domain domain) bound (to_alt inner)
to_alt code = do_alt no_effect

same_alt : (tree : Alt) → to_alt (of_alt tree) ≡ tree
same_alt (do_alt effects) = λ i. do_alt (same_effects effects i)
same_alt (if_alt guard effects) = λ i. if_alt (same_test guard i) (same_effects effects i)
same_alt (any_alt domain bound inner) = λ i. any_alt (same_domain domain i) bound (same_alt inner i)

abbrev of_alts : List Alt → Gv
of_alts [] = gnil
of_alts (alt ∷ alts) = gcons (of_alt alt) (of_alts alts)

abbrev to_alts : Gv → List Alt
to_alts (gcons alt alts) = to_alt alt ∷ to_alts alts
to_alts code = []

same_alts : (alts : List Alt) → to_alts (of_alts alts) ≡ alts
same_alts [] = refl
same_alts (alt ∷ alts) = λ i. same_alt alt i ∷ same_alts alts i

-- ITEMS

abbrev mutual
  of_item : SheetItem → Gv
  of_item (do_item effects) = gcons nought (of_effects effects)
  of_item (stage n class end body) =
      gcons one (gcons (gnum n) (gcons (of_class class) (gcons (of_test end) (of_items body))))
  of_item (choice site alts) = gcons two (gcons (gnum site) (of_alts alts))

  of_items : SheetItems → Gv
  of_items no_item = gcons nought gnil
  of_items (item first items) = gcons one (gcons (of_item first) (of_items items))

abbrev mutual
  to_item : Gv → SheetItem
  to_item (gcons nought effects) = do_item (to_effects effects)
  to_item (gcons one (gcons (gnum n) (gcons class (gcons end body)))) =
      stage n (to_class class) (to_test end) (to_items body)
  to_item (gcons two (gcons (gnum site) alts)) = choice site (to_alts alts)
  to_item code = do_item no_effect

  to_items : Gv → SheetItems
  to_items (gcons nought gnil) = no_item
  to_items (gcons one (gcons first items)) = item (to_item first) (to_items items)
  to_items code = no_item

mutual
  same_item : (tree : SheetItem) → to_item (of_item tree) ≡ tree
  same_item (do_item effects) = λ i. do_item (same_effects effects i)
  same_item (stage n class end body) = λ i. stage n (same_class class i) (same_test end i) (same_items body i)
  same_item (choice site alts) = λ i. choice site (same_alts alts i)

  pub same_items : (tree : SheetItems) → to_items (of_items tree) ≡ tree
  same_items no_item = refl
  same_items (item first items) = λ i. item (same_item first i) (same_items items i)

-- GROUPS OF DECKS

abbrev mutual
  of_groups : Groups → Gv
  of_groups no_group = gcons nought gnil
  of_groups (group attr branches rest) = gcons one (gcons (gnum attr) (gcons (of_branches branches) (of_groups rest)))

  of_branches : Branches → Gv
  of_branches no_branch = gcons nought gnil
  of_branches (branch value inner rest) = gcons one (gcons (gnum value) (gcons (of_groups inner) (of_branches rest)))

abbrev mutual
  to_groups : Gv → Groups
  to_groups (gcons nought gnil) = no_group
  to_groups (gcons one (gcons (gnum attr) (gcons branches rest))) = group attr (to_branches branches) (to_groups rest)
  to_groups code = no_group

  to_branches : Gv → Branches
  to_branches (gcons nought gnil) = no_branch
  to_branches (gcons one (gcons (gnum value) (gcons inner rest))) = branch value (to_groups inner) (to_branches rest)
  to_branches code = no_branch

mutual
  pub same_groups : (tree : Groups) → to_groups (of_groups tree) ≡ tree
  same_groups no_group = refl
  same_groups (group attr branches rest) = λ i. group attr (same_branches branches i) (same_groups rest i)

  same_branches : (tree : Branches) → to_branches (of_branches tree) ≡ tree
  same_branches no_branch = refl
  same_branches (branch value inner rest) = λ i. branch value (same_groups inner i) (same_branches rest i)

-- THE CODES

abbrev pub coded_groups : Coded Groups
coded_groups = code_by Gv itself of_groups to_groups same_groups

abbrev pub coded_int : Coded IntExpr
coded_int = code_by Gv itself of_int to_int same_int

abbrev pub coded_items : Coded SheetItems
coded_items = code_by Gv itself of_items to_items same_items

-- what is left to run: an item is stored as a list of items, and a test as the end of a stage
abbrev pub first_of : SheetItems → SheetItem
first_of no_item = do_item no_effect
first_of (item i items) = i

abbrev pub end_of : SheetItem → Test
end_of (do_item effects) = and_of no_test
end_of (stage n class end body) = end
end_of (choice site alts) = and_of no_test

abbrev pub coded_item : Coded SheetItem
coded_item = code_by SheetItems coded_items (λ i. item i no_item) first_of (λ _. refl)

abbrev pub coded_test : Coded Test
coded_test = code_by SheetItem coded_item (λ t. stage 0 game_class t no_item) end_of (λ _. refl)

-- by which the code of a configuration is found, beside those of sheets
pub ruleset part_codes = (coded_item, coded_test)

-- by which the code of a sheet is found, and of what has sheets as parts
pub ruleset sheet_codes = (coded_groups, coded_int, coded_items)
