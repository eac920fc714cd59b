-- What is read off a form for which a sheet's part stands is that part: cards, lists of cards, numbers, sides and tests.
use Prim.Native.String.{String}
use Rattle.std.proofs.Common.{◌≡◌, ℕ, Bool, true, false, ◌&&◌, cond, List, [], ◌∷◌, ◌++◌, length, nat_le, Option, Some, None, slice_get, option_map, refl, sym, subst, ap, ◌∙◌, append_assoc}
use Rattle.std.specs.Prelude.{codes, ℤ}
use Rattle.std.proofs.lemmas.Bool.{cond-true, cond-false}
use Rattle.rc_base.specs.Literal.{integer, is_digit}
use Rattle.std.specs.List.{list_all}
use Rattle.rc_base.specs.Tree.{Tree, word, list, Trees, nil, cons}
use Rattle.rc_sheet_spec.specs.Sheet.{Sort, player_sort, card_sort, group_sort, Who, who_var, CardExpr, card_var, top_card, bottom_card, max_card, min_card, CollExpr, group_var, cards_in, filtered, union_of, known_in, CollExprs, no_coll, coll, IntExpr, literal, number, size_of, sum_of, worth_of, add, subtract, multiply, Test, eq_int, eq_card, eq_attr, eq_who, ne, less, less_eq, more, more_eq, has_value, and_of, or_of, not_of, all_of, any_of, Tests, no_test, test, Domain, each_player, each_card, each_group, Sheet}
use Rattle.rc_sheet_spec.specs.Mentions.{Mention, attr_name, value_name, map_name, loc_name, num_name, var_name, in_card, in_coll, in_colls, in_int, in_test, in_tests, in_domain}
use Rattle.rc_sheet_spec.specs.Rows.{◌▸◌, End, AtLeast, Row, Atom}
use Rattle.rc_sheet_spec.specs.Rows.{Some as Full}
use Rattle.rc_sheet_spec.specs.Naming.{Naming, Scope, bind, sort_of, class_of, Named, Binder, InScope, KindOf, sheet_naming}
use Rattle.rc_sheet_spec.specs.StandsExpressions.{StandsOwner, StandsHolder, StandsLoc, StandsNum, StandsCard, StandsColl, StandColls, StandsInt, StandsTest, StandTests, StandsRange}
use Rattle.rc_sheet_spec.specs.WellFormed.{Around, IsBinder, behind, IsCard, IsColl, AreColls, IsInt, IsTest, AreTests, IsRange}
use Rattle.rc_sheet_spec.specs.Sheet.{same_class}
use Rattle.rc_check.specs.Faults.{is_variable, is_form_word, count}
use Rattle.rc_sheet.specs.ReadNames.{◌>>=◌, both, rule_at, name_at, binder_at, place_in, variable_in, player_at, owner_rule, team_of, num_parts, map_at}
use Rattle.rc_sheet.specs.ReadExpressions.{range_of, Side, number_side, card_side, value_side, owner_side, side_of_sort, variable_side, side_word, equal_test, card_at, coll_at, coll_rule, colls_at, int_at, int_rule, side_at, side_by, value_parts, card_rule, test_at, tests_at}
use Rattle.rc_sheet.proofs.Means.{Means, something, either}
use Rattle.rc_sheet.proofs.Means.{behind as read_behind}
use Rattle.rc_sheet.proofs.ReadOff.Names.{place_means, class_same}
use Rattle.rc_sheet.proofs.One.Rows.{behind_word, row_one, row_two, row_three, three_parts}
use Rattle.rc_sheet.proofs.One.Names.{Differ, Apart, more_apart, variable_word, one_variable, one_player_var, owner_forms, loc_rule_in_cards, num_rule_in_numbers, num_rule_in_sides, along, Only, only_quiet, only_map, only_both, only_pair, only_then, only_made, only_sized, only_said, by_rule, one_attr, one_value, one_binder, one_map, one_loc, one_loc_parts, one_num_parts}
use Rattle.rc_check.specs.declared.keyword.Keyword.TheVariants as keyword
use Rattle.rc_check.specs.declared.grammar.Symbol.TheVariants as symbol
use Rattle.rc_check.specs.declared.grammar.Rule.TheVariants as rule

-- a variable is no number
pub last_false : (a b c : Bool) → c ≡ false → (a && b && c) ≡ false
last_false true true c is = is
last_false true false c is = refl
last_false false b c is = refl

no_number : (rest : List ℕ) → integer (39 ∷ rest) ≡ None
no_number rest =
    ap (option_map _)
    (cond-false _ _ _
    (last_false (nat_le 1 (length (39 ∷ rest))) (nat_le (length (39 ∷ rest)) 18) (list_all is_digit (39 ∷ rest)) refl))

pub variable_unread : (bytes : List ℕ) (value : ℤ) → is_variable bytes ≡ true → integer bytes ≡ Some value → ⊥
variable_unread bytes value is =
    variable_word (λ bytes. integer bytes ≡ Some value → ⊥) bytes is
    (λ rest said. let none = no_number rest in absurd cc)

-- a variable as a side
side_var : (scope : Scope) (sort : Sort) (var : ℕ) (side : Side) (bytes : List ℕ) (from to : ℕ) → Apart scope
    → InScope scope sort var (word bytes from to) → side_of_sort var sort ≡ Some side → Means (side_word scope bytes)
    (λ s. s ≡ side)
unfolding side_word
side_var scope sort var side bytes from to alone stands is =
    either (is_variable bytes) _ _
    (λ bound. read_behind (place_in scope bytes) _ (place_means scope bytes)
    (λ v found.
    let same : v ≡ var = alone v var (found.0) (record { word = bytes; sort = sort }) found.1 stands.0 (sym found.2) in
    subst (λ v. Means (variable_side v (slice_get scope v)) (λ s. s ≡ side)) (sym same)
    (subst (λ o. Means (variable_side var o) (λ s. s ≡ side)) (sym stands.0)
    (subst (λ o. Means o (λ s. s ≡ side)) (sym is) (something side refl)))))
    (λ unbound. absurd (differ_both (is_variable bytes) stands.1 unbound))
  where
    differ_both : (b : Bool) → b ≡ true → b ≡ false → ⊥
    differ_both true is is' = absurd cc
    differ_both false is is' = absurd cc

-- a number as a side
side_literal : (scope : Scope) (value : ℤ) (bytes : List ℕ) → integer bytes ≡ Some value
    → Means (side_word scope bytes) (λ s. s ≡ number_side (literal value))
unfolding side_word
side_literal scope value bytes is =
    either (is_variable bytes) _ _ (λ bound. absurd (variable_unread bytes value bound is))
    (λ unbound. subst (λ o. Means (option_map (λ value. number_side (literal value)) o) (λ s. s ≡ number_side (literal value)))
    (sym is) (something (number_side (literal value)) refl))

-- cards aren't the word `player`
no_player : (naming : Naming) (scope : Scope) (cards : CollExpr) (tree : Tree) → StandsColl naming scope cards tree
    → is_form_word keyword.Player tree ≡ false
no_player naming scope cards (list parts from to) stands = refl
no_player naming scope (group_var var) (word bytes from to) stands =
    variable_word (λ b. is_form_word keyword.Player (word b from to) ≡ false) bytes stands.1 (λ rest. refl)
no_player naming scope (cards_in loc) (word bytes from to) stands = absurd stands.0
no_player naming scope (filtered cards bound t) (word bytes from to) stands = absurd stands
no_player naming scope (union_of parts) (word bytes from to) stands = absurd stands
no_player naming scope (known_in loc) (word bytes from to) stands = absurd stands

-- two mentions, each behind others
attrs_said : (xs ys : List Mention) (m n : Mention)
    → (xs ++ m ∷ []) ++ (ys ++ n ∷ []) ≡ (xs ++ m ∷ ys) ++ n ∷ []
attrs_said xs ys m n = append_assoc xs (m ∷ []) (ys ++ n ∷ []) ∙ sym (append_assoc xs (m ∷ ys) (n ∷ []))

-- A sheet whose names differ, and a naming that a form is read by.
module _ (sheet : Sheet) (told : Naming) (differ : Differ sheet.names) where
  -- what is known of a card's form, of cards, of a number, a side and a test
  abbrev pub CardIs : Around → CardExpr → Tree → Type 0
  CardIs around a tree =
      Only sheet told a (in_card a) (card_at (along sheet told) around.scope tree)
      × Only sheet told (card_side a) (in_card a) (side_at (along sheet told) around.scope tree)

  abbrev pub CollIs : Around → CollExpr → Tree → Type 0
  CollIs around a tree = Only sheet told a (in_coll a) (coll_at (along sheet told) around.scope tree)

  abbrev pub CollsAre : Around → CollExprs → Trees → Type 0
  CollsAre around all trees = Only sheet told all (in_colls all) (colls_at (along sheet told) around.scope trees)

  abbrev pub IntIs : Around → IntExpr → Tree → Type 0
  IntIs around a tree =
      Only sheet told a (in_int a) (int_at (along sheet told) around.scope tree)
      × Only sheet told (number_side a) (in_int a) (side_at (along sheet told) around.scope tree)

  abbrev pub SideIs : Around → Side → List Mention → Tree → Type 0
  SideIs around side ms tree = Only sheet told side ms (side_at (along sheet told) around.scope tree)

  abbrev pub TestIs : Around → Test → Tree → Type 0
  TestIs around t tree = Only sheet told t (in_test t) (test_at (along sheet told) around.scope tree)

  abbrev pub TestsAre : Around → Tests → Trees → Type 0
  TestsAre around all trees = Only sheet told all (in_tests all) (tests_at (along sheet told) around.scope trees)

  abbrev pub RangeIs : Around → Domain → Tree → Type 0
  RangeIs around domain tree =
      Only sheet told domain (in_domain domain) (range_of tree (coll_at (along sheet told) around.scope tree))

  -- and as a side
  with_side : {A : Type 0} (side : A → Side) (a : A) (ms : List Mention) (found : Option A) → Only sheet told a ms found
      → Only sheet told a ms found × Only sheet told (side a) ms (option_map side found)
  with_side side a ms found one = (one, only_map sheet told side a ms found one)

  -- no variable hides another behind a binder
  pub bound_apart : (around : Around) (bound : ℕ) (sort : Sort) → Apart around.scope → IsBinder sheet around bound
      → Apart (behind sheet around bound sort).scope
  bound_apart around bound sort alone is =
      more_apart around.scope (record { word = _; sort = sort }) alone is.1

  -- an owner as a side
  one_owner_side : (around : Around) (who : Who) (tree : Tree) → Apart around.scope → StandsOwner around.scope who tree
      → SideIs around (owner_side who) [] tree
  unfolding player_at
  one_owner_side around who tree alone stands =
      owner_forms around.scope (λ who tree. SideIs around (owner_side who) [] tree)
      (λ f t f' t' from to. something (owner_side _) (refl, tt))
      (λ f t f' t' from to. something (owner_side _) (refl, tt))
      (λ f t f' t' g u g' u' start end from to. something (owner_side _) (refl, tt))
      (λ f t f' t' from to var player is. only_map sheet told owner_side _ [] (option_map team_of (player_at around.scope player))
      (only_map sheet told team_of (who_var var) [] (player_at around.scope player)
      (only_quiet sheet told (who_var var) (player_at around.scope player)
      (one_player_var around.scope var player alone is))))
      (λ bytes from to var is. only_quiet sheet told (owner_side (who_var var)) (side_word around.scope bytes)
      (side_var around.scope player_sort var (owner_side (who_var var)) bytes from to alone is refl))
      who tree stands

  -- two sides
  equal_sides : (around : Around) (a b : Side) (ms ms' : List Mention) (t : Test) (x y : Tree) → equal_test a b ≡ Some t
      → SideIs around a ms x → SideIs around b ms' y
      → Only sheet told t (ms ++ ms')
      (both (side_at (along sheet told) around.scope x) (side_at (along sheet told) around.scope y) >>= λ p. equal_test p.0 p.1)
  equal_sides around a b ms ms' t x y makes one other =
      only_made sheet told (λ p. equal_test p.0 p.1) (a, b) t (ms ++ ms') (both _ _) makes
      (only_both sheet told a b ms ms' _ _ one other)

  equal_owners : (who who' : Who) → class_of who ≡ class_of who'
      → equal_test (owner_side who) (owner_side who') ≡ Some (eq_who who who')
  equal_owners who who' same =
      cond-true (same_class (class_of who) (class_of who')) _ _
      (subst (λ c. same_class (class_of who) c ≡ true) same (class_same (class_of who)))

  -- what is bound, behind what it runs over
  pub one_bound : {X Y : Type 0} (around : Around) (domain : Domain) (bound : ℕ) (x : X) (ms ms' : List Mention)
      (found : Option Domain)
      (variable : Tree) (later : Scope → Option X) (make : Domain → ℕ → X → Y)
      → Only sheet told domain ms found → Binder (sheet_naming sheet) bound variable
      → Only sheet told x ms' (later (bind (along sheet told) around.scope bound (sort_of domain)))
      → Only sheet told (make domain bound x) (ms ++ var_name bound ∷ ms')
      (found >>= λ domain. binder_at sheet.names.vars around.scope variable >>= λ bound.
      option_map (λ x. make domain bound x) (later (bind (along sheet told) around.scope bound (sort_of domain))))
  one_bound around domain bound x ms ms' found variable later make one binds two =
      only_then sheet told _ domain (make domain bound x) ms (var_name bound ∷ ms') found one
      (only_then sheet told _ bound (make domain bound x) (var_name bound ∷ []) ms'
      (binder_at sheet.names.vars around.scope variable)
      (one_binder sheet told around.scope bound variable differ binds)
      (only_map sheet told (λ x. make domain bound x) x ms'
      (later (bind (along sheet told) around.scope bound (sort_of domain))) two))

  -- a row with a point map
  row_using : (text : String) (A : Tree → Type 0) (map : ℕ) (P : Tree → Type 0) (tree : Tree)
      → Row (Atom text ▸ A ▸ Atom "using" ▸ Named sheet.names.maps map ▸ End) tree
      → ((f t f' t' from to : ℕ) (a m : Tree) → A a → Named sheet.names.maps map m
      → P (list (cons (word (codes text) f t) (cons a (cons (word (codes "using") f' t') (cons m nil)))) from to))
      → P tree
  row_using text A map P tree row each =
      row_three text A (Atom "using") (Named sheet.names.maps map) P tree row
      (λ f t from to a u m here using named. word_here f t from to a u m here using named)
    where
      word_here : (f t from to : ℕ) (a u m : Tree) → A a → Atom "using" u → Named sheet.names.maps map m
          → P (list (cons (word (codes text) f t) (cons a (cons u (cons m nil)))) from to)
      word_here f t from to a (list inner f' t') m here using named = absurd using
      word_here f t from to a (word bytes f' t') m here using named =
          subst (λ b. P (list (cons (word (codes text) f t) (cons a (cons (word b f' t') (cons m nil)))) from to)) (sym using)
          (each f t f' t' from to a m here named)

  -- `(attr CARD ATTR)` as a side, by what is known of the card
  one_attr_side : (around : Around) (a : CardExpr) (attr : ℕ) (tree : Tree)
      → Row (Atom "attr" ▸ StandsCard (sheet_naming sheet) around.scope a ▸ Named sheet.names.attrs attr ▸ End) tree
      → ((c : Tree) → StandsCard (sheet_naming sheet) around.scope a c → CardIs around a c)
      → SideIs around (value_side a attr) (in_card a ++ attr_name attr ∷ []) tree
  one_attr_side around a attr tree stands each =
      row_two "attr" (StandsCard (sheet_naming sheet) around.scope a) (Named sheet.names.attrs attr)
      (SideIs around (value_side a attr) (in_card a ++ attr_name attr ∷ [])) tree stands
      (λ f t from to c n here named. only_pair sheet told value_side a attr (in_card a) (attr_name attr ∷ []) _ _
      (each c here).0 (one_attr sheet told attr n differ named))

  mutual
    -- CARD
    pub one_card : (around : Around) (a : CardExpr) (tree : Tree) → Apart around.scope
        → StandsCard (sheet_naming sheet) around.scope a tree → IsCard sheet around a → CardIs around a tree
    one_card around (card_var var) (word bytes from to) alone stands is = (
      only_map sheet told card_var var [] (variable_in around.scope card_sort bytes)
          (only_quiet sheet told var (variable_in around.scope card_sort bytes)
          (one_variable around.scope card_sort var bytes from to alone stands)),
      only_quiet sheet told (card_side (card_var var)) (side_word around.scope bytes)
          (side_var around.scope card_sort var (card_side (card_var var)) bytes from to alone stands refl),
    )
    one_card around (card_var var) (list parts from to) alone stands is = absurd stands
    one_card around (top_card cards) tree alone stands is =
        row_one "top" (StandsColl (sheet_naming sheet) around.scope cards) (CardIs around (top_card cards)) tree stands
        (λ f t from to c here. with_side card_side (top_card cards) (in_coll cards)
        (option_map top_card (coll_at (along sheet told) around.scope c))
        (only_map sheet told top_card cards (in_coll cards) _ (one_coll around cards c alone here is)))
    one_card around (bottom_card cards) tree alone stands is =
        row_one "bottom" (StandsColl (sheet_naming sheet) around.scope cards) (CardIs around (bottom_card cards)) tree stands
        (λ f t from to c here. with_side card_side (bottom_card cards) (in_coll cards)
        (option_map bottom_card (coll_at (along sheet told) around.scope c))
        (only_map sheet told bottom_card cards (in_coll cards) _ (one_coll around cards c alone here is)))
    one_card around (max_card cards map) tree alone stands is =
        row_using "max" (StandsColl (sheet_naming sheet) around.scope cards) map (CardIs around (max_card cards map)) tree stands
        (λ f t f' t' from to c m here named. with_side card_side (max_card cards map) (in_coll cards ++ map_name map ∷ [])
        (option_map (λ p. max_card p.0 p.1)
        (both (coll_at (along sheet told) around.scope c) (map_at (along sheet told) (word (codes "using") f' t') m)))
        (only_pair sheet told max_card cards map (in_coll cards) (map_name map ∷ []) _ _ (one_coll around cards c alone here is.0)
        (one_map sheet told map f' t' m differ named)))
    one_card around (min_card cards map) tree alone stands is =
        row_using "min" (StandsColl (sheet_naming sheet) around.scope cards) map (CardIs around (min_card cards map)) tree stands
        (λ f t f' t' from to c m here named. with_side card_side (min_card cards map) (in_coll cards ++ map_name map ∷ [])
        (option_map (λ p. min_card p.0 p.1)
        (both (coll_at (along sheet told) around.scope c) (map_at (along sheet told) (word (codes "using") f' t') m)))
        (only_pair sheet told min_card cards map (in_coll cards) (map_name map ∷ []) _ _ (one_coll around cards c alone here is.0)
        (one_map sheet told map f' t' m differ named)))

    -- COLL
    pub one_coll : (around : Around) (a : CollExpr) (tree : Tree) → Apart around.scope
        → StandsColl (sheet_naming sheet) around.scope a tree → IsColl sheet around a → CollIs around a tree
    one_coll around (group_var var) (word bytes from to) alone stands is =
        only_map sheet told group_var var [] (variable_in around.scope group_sort bytes)
        (only_quiet sheet told var (variable_in around.scope group_sort bytes)
        (one_variable around.scope group_sort var bytes from to alone stands))
    one_coll around (group_var var) (list parts from to) alone stands is = absurd stands
    one_coll around (cards_in loc) tree alone stands is =
        three_parts (StandsHolder around.scope loc.who) (KindOf (sheet_naming sheet) loc.name)
        (Named sheet.names.locs loc.name)
        (λ tree. StandsLoc (sheet_naming sheet) around.scope loc tree → CollIs around (cards_in loc) tree) tree stands.0
        (λ holder kind name from to holds k n stands'. by_rule sheet told rule.Location
        (λ rule. coll_rule (along sheet told) around.scope from rule (cons holder (cons kind (cons name nil))))
        (cards_in loc) (loc_name loc.name ∷ []) _
        (loc_rule_in_cards around.scope loc.who holder kind name holds)
        (only_map sheet told cards_in loc (loc_name loc.name ∷ []) _
        (one_loc_parts sheet told around.scope loc (cons holder (cons kind (cons name nil))) from to differ alone stands')))
        stands
    one_coll around (filtered cards bound t) tree alone stands is =
        row_three "filter" (StandsColl (sheet_naming sheet) around.scope cards) (Binder (sheet_naming sheet) bound)
        (StandsTest (sheet_naming sheet) (bind (sheet_naming sheet) around.scope bound card_sort) t)
        (CollIs around (filtered cards bound t)) tree stands
        (λ f g from to c v t' here binds there. only_then sheet told _ cards (filtered cards bound t) (in_coll cards)
        (var_name bound ∷ in_test t) (coll_at (along sheet told) around.scope c) (one_coll around cards c alone here is.0)
        (only_then sheet told _ bound (filtered cards bound t) (var_name bound ∷ []) (in_test t)
        (binder_at sheet.names.vars around.scope v) (one_binder sheet told around.scope bound v differ binds)
        (only_map sheet told (λ t. filtered cards bound t) t (in_test t) _
        (one_test (behind sheet around bound card_sort) t t' (bound_apart around bound card_sort alone is.1) there is.2))))
    one_coll around (union_of parts) tree alone stands is =
        behind_word "union" (AtLeast 2 (StandColls (sheet_naming sheet) around.scope parts)) (CollIs around (union_of parts)) tree
        stands
        (λ f t from to ps here. only_sized sheet told (count (cons (word (codes "union") f t) ps)) rule.Union
        (λ rule. coll_rule (along sheet told) around.scope from rule (cons (word (codes "union") f t) ps))
        (union_of parts) (in_colls parts)
        (only_map sheet told union_of parts (in_colls parts) _ (one_colls around parts ps alone here.1 is.1)))
    one_coll around (known_in loc) tree alone stands is =
        row_one "known" (StandsLoc (sheet_naming sheet) around.scope loc) (CollIs around (known_in loc)) tree stands
        (λ f t from to l here. only_map sheet told known_in loc (loc_name loc.name ∷ []) _
        (one_loc sheet told around.scope loc l differ alone here))

    pub one_colls : (around : Around) (all : CollExprs) (trees : Trees) → Apart around.scope
        → StandColls (sheet_naming sheet) around.scope all trees → AreColls sheet around all → CollsAre around all trees
    one_colls around no_coll nil alone stands is = something no_coll (refl, tt)
    one_colls around no_coll (cons tree trees) alone stands is = absurd stands
    one_colls around (coll a all) nil alone stands is = absurd stands
    one_colls around (coll a all) (cons tree trees) alone stands is =
        only_pair sheet told coll a all (in_coll a) (in_colls all) _ _ (one_coll around a tree alone stands.0 is.0)
        (one_colls around all trees alone stands.1 is.1)

    -- INT
    pub one_int : (around : Around) (a : IntExpr) (tree : Tree) → Apart around.scope
        → StandsInt (sheet_naming sheet) around.scope a tree → IsInt sheet around a → IntIs around a tree
    one_int around (literal value) (word bytes from to) alone stands is = (
      subst (λ o. Only sheet told (literal value) [] (option_map literal o)) (sym stands) (something (literal value) (refl, tt)),
      only_quiet sheet told (number_side (literal value)) (side_word around.scope bytes)
          (side_literal around.scope value bytes stands),
    )
    one_int around (literal value) (list parts from to) alone stands is = absurd stands
    one_int around (number num) tree alone stands is =
        three_parts (StandsHolder around.scope num.who) (Atom "sto") (Named sheet.names.nums num.name)
        (λ tree. StandsNum (sheet_naming sheet) around.scope num tree → IntIs around (number num) tree) tree stands.0
        (λ holder kind name from to holds k n stands'.
        let parts = cons holder (cons kind (cons name nil)) in
        let one : Only sheet told (number num) (num_name num.name ∷ [])
        (option_map number (num_parts (along sheet told) around.scope parts)) =
        only_map sheet told number num (num_name num.name ∷ []) _
        (one_num_parts sheet told around.scope num parts from to differ alone stands') in (
          by_rule sheet told rule.Counter (λ rule. int_rule (along sheet told) around.scope rule parts)
              (number num) (num_name num.name ∷ []) (rule_at symbol.Integer parts)
              (num_rule_in_numbers around.scope num.who holder kind name holds) one,
          by_rule sheet told rule.Counter
              (λ rule. side_by rule (int_rule (along sheet told) around.scope rule parts)
              (card_rule (along sheet told) around.scope rule parts) (value_parts (along sheet told) around.scope parts)
              (owner_rule around.scope rule parts))
              (number_side (number num)) (num_name num.name ∷ []) (rule_at symbol.Side parts)
              (num_rule_in_sides around.scope num.who holder kind name holds)
              (only_map sheet told number_side (number num) (num_name num.name ∷ []) _ one),
        ))
        stands
    one_int around (size_of cards) tree alone stands is =
        row_one "size" (StandsColl (sheet_naming sheet) around.scope cards) (IntIs around (size_of cards)) tree stands
        (λ f t from to c here. with_side number_side (size_of cards) (in_coll cards)
        (option_map size_of (coll_at (along sheet told) around.scope c))
        (only_map sheet told size_of cards (in_coll cards) _ (one_coll around cards c alone here is)))
    one_int around (sum_of cards map) tree alone stands is =
        row_using "sum" (StandsColl (sheet_naming sheet) around.scope cards) map (IntIs around (sum_of cards map)) tree stands
        (λ f t f' t' from to c m here named. with_side number_side (sum_of cards map) (in_coll cards ++ map_name map ∷ [])
        (option_map (λ p. sum_of p.0 p.1)
        (both (coll_at (along sheet told) around.scope c) (map_at (along sheet told) (word (codes "using") f' t') m)))
        (only_pair sheet told sum_of cards map (in_coll cards) (map_name map ∷ []) _ _ (one_coll around cards c alone here is.0)
        (one_map sheet told map f' t' m differ named)))
    one_int around (worth_of card map) tree alone stands is =
        row_using "points" (StandsCard (sheet_naming sheet) around.scope card) map (IntIs around (worth_of card map)) tree stands
        (λ f t f' t' from to c m here named. with_side number_side (worth_of card map) (in_card card ++ map_name map ∷ [])
        (option_map (λ p. worth_of p.0 p.1)
        (both (card_at (along sheet told) around.scope c) (map_at (along sheet told) (word (codes "using") f' t') m)))
        (only_pair sheet told worth_of card map (in_card card) (map_name map ∷ []) _ _ (one_card around card c alone here is.0).0
        (one_map sheet told map f' t' m differ named)))
    one_int around (add a b) tree alone stands is =
        row_two "+" (StandsInt (sheet_naming sheet) around.scope a) (StandsInt (sheet_naming sheet) around.scope b)
        (IntIs around (add a b)) tree stands
        (λ f t from to x y here there. with_side number_side (add a b) (in_int a ++ in_int b)
        (option_map (λ p. add p.0 p.1)
        (both (int_at (along sheet told) around.scope x) (int_at (along sheet told) around.scope y)))
        (only_pair sheet told add a b (in_int a) (in_int b) _ _ (one_int around a x alone here is.0).0
        (one_int around b y alone there is.1).0))
    one_int around (subtract a b) tree alone stands is =
        row_two "-" (StandsInt (sheet_naming sheet) around.scope a) (StandsInt (sheet_naming sheet) around.scope b)
        (IntIs around (subtract a b)) tree stands
        (λ f t from to x y here there. with_side number_side (subtract a b) (in_int a ++ in_int b)
        (option_map (λ p. subtract p.0 p.1)
        (both (int_at (along sheet told) around.scope x) (int_at (along sheet told) around.scope y)))
        (only_pair sheet told subtract a b (in_int a) (in_int b) _ _ (one_int around a x alone here is.0).0
        (one_int around b y alone there is.1).0))
    one_int around (multiply a b) tree alone stands is =
        row_two "*" (StandsInt (sheet_naming sheet) around.scope a) (StandsInt (sheet_naming sheet) around.scope b)
        (IntIs around (multiply a b)) tree stands
        (λ f t from to x y here there. with_side number_side (multiply a b) (in_int a ++ in_int b)
        (option_map (λ p. multiply p.0 p.1)
        (both (int_at (along sheet told) around.scope x) (int_at (along sheet told) around.scope y)))
        (only_pair sheet told multiply a b (in_int a) (in_int b) _ _ (one_int around a x alone here is.0).0
        (one_int around b y alone there is.1).0))

    -- BOOL
    pub one_test : (around : Around) (a : Test) (tree : Tree) → Apart around.scope
        → StandsTest (sheet_naming sheet) around.scope a tree → IsTest sheet around a → TestIs around a tree
    one_test around (eq_int a b) tree alone stands is =
        row_two "=" (StandsInt (sheet_naming sheet) around.scope a) (StandsInt (sheet_naming sheet) around.scope b)
        (TestIs around (eq_int a b)) tree stands
        (λ f t from to x y here there. equal_sides around (number_side a) (number_side b) (in_int a) (in_int b)
        (eq_int a b) x y refl
        (one_int around a x alone here is.0).1 (one_int around b y alone there is.1).1)
    one_test around (eq_card a b) tree alone stands is =
        row_two "=" (StandsCard (sheet_naming sheet) around.scope a) (StandsCard (sheet_naming sheet) around.scope b)
        (TestIs around (eq_card a b)) tree stands
        (λ f t from to x y here there. equal_sides around (card_side a) (card_side b) (in_card a) (in_card b)
        (eq_card a b) x y refl
        (one_card around a x alone here is.0).1 (one_card around b y alone there is.1).1)
    one_test around (eq_attr a attr b attr') tree alone stands is =
        row_two "=" _ _ (TestIs around (eq_attr a attr b attr')) tree stands
        (λ f t from to x y here there. only_said sheet told (eq_attr a attr b attr') _ _ _
        (attrs_said (in_card a) (in_card b) (attr_name attr) (attr_name attr'))
        (equal_sides around (value_side a attr) (value_side b attr') (in_card a ++ attr_name attr ∷ [])
        (in_card b ++ attr_name attr' ∷ []) (eq_attr a attr b attr') x y refl
        (one_attr_side around a attr x here (λ c stands. one_card around a c alone stands is.0))
        (one_attr_side around b attr' y there (λ c stands. one_card around b c alone stands is.2))))
    one_test around (eq_who a b) tree alone stands is =
        row_two "=" (StandsOwner around.scope a) (StandsOwner around.scope b) (TestIs around (eq_who a b)) tree stands.0
        (λ f t from to x y here there. equal_sides around (owner_side a) (owner_side b) [] [] (eq_who a b) x y
        (equal_owners a b stands.1) (one_owner_side around a x alone here) (one_owner_side around b y alone there))
    one_test around (ne (eq_int a b)) tree alone stands is =
        row_two "!=" (StandsInt (sheet_naming sheet) around.scope a) (StandsInt (sheet_naming sheet) around.scope b)
        (TestIs around (ne (eq_int a b))) tree stands
        (λ f t from to x y here there. only_map sheet told ne (eq_int a b) (in_int a ++ in_int b) _
        (equal_sides around (number_side a) (number_side b) (in_int a) (in_int b) (eq_int a b) x y refl
        (one_int around a x alone here is.1.0).1 (one_int around b y alone there is.1.1).1))
    one_test around (ne (eq_card a b)) tree alone stands is =
        row_two "!=" (StandsCard (sheet_naming sheet) around.scope a) (StandsCard (sheet_naming sheet) around.scope b)
        (TestIs around (ne (eq_card a b))) tree stands
        (λ f t from to x y here there. only_map sheet told ne (eq_card a b) (in_card a ++ in_card b) _
        (equal_sides around (card_side a) (card_side b) (in_card a) (in_card b) (eq_card a b) x y refl
        (one_card around a x alone here is.1.0).1 (one_card around b y alone there is.1.1).1))
    one_test around (ne (eq_attr a attr b attr')) tree alone stands is =
        row_two "!=" _ _ (TestIs around (ne (eq_attr a attr b attr'))) tree stands
        (λ f t from to x y here there. only_map sheet told ne (eq_attr a attr b attr') _ _
        (only_said sheet told (eq_attr a attr b attr') _ _ _
        (attrs_said (in_card a) (in_card b) (attr_name attr) (attr_name attr'))
        (equal_sides around (value_side a attr) (value_side b attr') (in_card a ++ attr_name attr ∷ [])
        (in_card b ++ attr_name attr' ∷ []) (eq_attr a attr b attr') x y refl
        (one_attr_side around a attr x here (λ c stands. one_card around a c alone stands is.1.0))
        (one_attr_side around b attr' y there (λ c stands. one_card around b c alone stands is.1.2)))))
    one_test around (ne (eq_who a b)) tree alone stands is =
        row_two "!=" (StandsOwner around.scope a) (StandsOwner around.scope b) (TestIs around (ne (eq_who a b))) tree stands.0
        (λ f t from to x y here there. only_map sheet told ne (eq_who a b) [] _
        (equal_sides around (owner_side a) (owner_side b) [] [] (eq_who a b) x y
        (equal_owners a b stands.1) (one_owner_side around a x alone here) (one_owner_side around b y alone there)))
    one_test around (ne t) tree alone stands is = absurd stands
    one_test around (less a b) tree alone stands is =
        row_two "<" (StandsInt (sheet_naming sheet) around.scope a) (StandsInt (sheet_naming sheet) around.scope b)
        (TestIs around (less a b)) tree stands
        (λ f t from to x y here there. only_pair sheet told less a b (in_int a) (in_int b) _ _
        (one_int around a x alone here is.0).0 (one_int around b y alone there is.1).0)
    one_test around (less_eq a b) tree alone stands is =
        row_two "<=" (StandsInt (sheet_naming sheet) around.scope a) (StandsInt (sheet_naming sheet) around.scope b)
        (TestIs around (less_eq a b)) tree stands
        (λ f t from to x y here there. only_pair sheet told less_eq a b (in_int a) (in_int b) _ _
        (one_int around a x alone here is.0).0 (one_int around b y alone there is.1).0)
    one_test around (more a b) tree alone stands is =
        row_two ">" (StandsInt (sheet_naming sheet) around.scope a) (StandsInt (sheet_naming sheet) around.scope b)
        (TestIs around (more a b)) tree stands
        (λ f t from to x y here there. only_pair sheet told more a b (in_int a) (in_int b) _ _
        (one_int around a x alone here is.0).0 (one_int around b y alone there is.1).0)
    one_test around (more_eq a b) tree alone stands is =
        row_two ">=" (StandsInt (sheet_naming sheet) around.scope a) (StandsInt (sheet_naming sheet) around.scope b)
        (TestIs around (more_eq a b)) tree stands
        (λ f t from to x y here there. only_pair sheet told more_eq a b (in_int a) (in_int b) _ _
        (one_int around a x alone here is.0).0 (one_int around b y alone there is.1).0)
    one_test around (has_value card attr value) tree alone stands is =
        row_three "is" (StandsCard (sheet_naming sheet) around.scope card) (Named sheet.names.attrs attr)
        (Named sheet.names.values value) (TestIs around (has_value card attr value)) tree stands
        (λ f t from to c a v here named named'. only_then sheet told _ card (has_value card attr value) (in_card card)
        (attr_name attr ∷ value_name value ∷ []) (card_at (along sheet told) around.scope c)
        (one_card around card c alone here is.0).0
        (only_then sheet told _ attr (has_value card attr value) (attr_name attr ∷ []) (value_name value ∷ [])
        (name_at sheet.names.attrs a) (one_attr sheet told attr a differ named)
        (only_map sheet told (λ value. has_value card attr value) value (value_name value ∷ []) _
        (one_value sheet told value v differ named'))))
    one_test around (and_of tests) tree alone stands is =
        behind_word "and" (Full (StandTests (sheet_naming sheet) around.scope tests)) (TestIs around (and_of tests)) tree stands
        (λ f t from to ps here. only_sized sheet told (count (cons (word (codes "and") f t) ps)) rule.And _ (and_of tests)
        (in_tests tests) (only_map sheet told and_of tests (in_tests tests) _ (one_tests around tests ps alone here.1 is.1)))
    one_test around (or_of tests) tree alone stands is =
        behind_word "or" (Full (StandTests (sheet_naming sheet) around.scope tests)) (TestIs around (or_of tests)) tree stands
        (λ f t from to ps here. only_sized sheet told (count (cons (word (codes "or") f t) ps)) rule.Or _ (or_of tests)
        (in_tests tests) (only_map sheet told or_of tests (in_tests tests) _ (one_tests around tests ps alone here.1 is.1)))
    one_test around (not_of t) tree alone stands is =
        row_one "not" (StandsTest (sheet_naming sheet) around.scope t) (TestIs around (not_of t)) tree stands
        (λ f g from to x here. only_map sheet told not_of t (in_test t) _ (one_test around t x alone here is))
    one_test around (all_of domain bound t) tree alone stands is =
        row_three "all" (StandsRange (sheet_naming sheet) around.scope domain) (Binder (sheet_naming sheet) bound)
        (StandsTest (sheet_naming sheet) (bind (sheet_naming sheet) around.scope bound (sort_of domain)) t)
        (TestIs around (all_of domain bound t)) tree stands
        (λ f g from to r v x here binds there. one_bound around domain bound t (in_domain domain) (in_test t) _ v
        (λ scope. test_at (along sheet told) scope x) all_of (one_range around domain r alone here is.0) binds
        (one_test (behind sheet around bound (sort_of domain)) t x
        (bound_apart around bound (sort_of domain) alone is.1) there is.2))
    one_test around (any_of domain bound t) tree alone stands is =
        row_three "any" (StandsRange (sheet_naming sheet) around.scope domain) (Binder (sheet_naming sheet) bound)
        (StandsTest (sheet_naming sheet) (bind (sheet_naming sheet) around.scope bound (sort_of domain)) t)
        (TestIs around (any_of domain bound t)) tree stands
        (λ f g from to r v x here binds there. one_bound around domain bound t (in_domain domain) (in_test t) _ v
        (λ scope. test_at (along sheet told) scope x) any_of (one_range around domain r alone here is.0) binds
        (one_test (behind sheet around bound (sort_of domain)) t x
        (bound_apart around bound (sort_of domain) alone is.1) there is.2))

    pub one_tests : (around : Around) (all : Tests) (trees : Trees) → Apart around.scope
        → StandTests (sheet_naming sheet) around.scope all trees → AreTests sheet around all → TestsAre around all trees
    one_tests around no_test nil alone stands is = something no_test (refl, tt)
    one_tests around no_test (cons tree trees) alone stands is = absurd stands
    one_tests around (test t all) nil alone stands is = absurd stands
    one_tests around (test t all) (cons tree trees) alone stands is =
        only_pair sheet told test t all (in_test t) (in_tests all) _ _ (one_test around t tree alone stands.0 is.0)
        (one_tests around all trees alone stands.1 is.1)

    -- `player` or COLL
    pub one_range : (around : Around) (domain : Domain) (tree : Tree) → Apart around.scope
        → StandsRange (sheet_naming sheet) around.scope domain tree → IsRange sheet around domain → RangeIs around domain tree
    one_range around each_player (word bytes from to) alone stands is =
        subst (λ b. RangeIs around each_player (word b from to)) (sym stands) (something each_player (refl, tt))
    one_range around each_player (list parts from to) alone stands is = absurd stands
    one_range around (each_card cards) tree alone stands is =
        subst (λ b. Only sheet told (each_card cards) (in_coll cards)
        (cond b (Some each_player) (option_map each_card (coll_at (along sheet told) around.scope tree))))
        (sym (no_player (sheet_naming sheet) around.scope cards tree stands))
        (only_map sheet told each_card cards (in_coll cards) _ (one_coll around cards tree alone stands is))
    one_range around (each_group cards attr) tree alone stands is = absurd stands
