-- Forms that stand for cards, lists of cards, numbers and tests have the shape of their place.
use Prim.Native.String.{String}
use Rattle.std.proofs.Common.{◌≡◌, ℕ, true, [], ◌∷◌, Some, None, refl, sym, subst}
use Rattle.std.specs.Prelude.{codes}
use Rattle.rc_base.specs.Tree.{Tree, word, list, Trees, nil, cons}
use Rattle.rc_sheet_spec.specs.Sheet.{card_sort, group_sort, Who, CardExpr, card_var, top_card, bottom_card, max_card, min_card, CollExpr, group_var, cards_in, filtered, union_of, known_in, CollExprs, no_coll, coll, IntExpr, literal, number, size_of, sum_of, worth_of, add, subtract, multiply, Test, eq_int, eq_card, eq_attr, eq_who, ne, less, less_eq, more, more_eq, has_value, and_of, or_of, not_of, all_of, any_of, Tests, no_test, test, Domain, each_player, each_card, each_group, Sheet}
use Rattle.rc_sheet_spec.specs.Rows.{◌▸◌, End, AtLeast, Row, Atom}
use Rattle.rc_sheet_spec.specs.Rows.{Some as Full}
use Rattle.rc_sheet_spec.specs.Naming.{bind, sort_of, Named, Binder, sheet_naming}
use Rattle.rc_sheet_spec.specs.StandsExpressions.{StandsOwner, StandsLoc, StandsCard, StandsColl, StandColls, StandsInt, StandsTest, StandTests, StandsRange, StandsDomain}
use Rattle.rc_sheet_spec.specs.WellFormed.{Around, behind, IsCard, IsColl, AreColls, IsInt, IsTest, AreTests, IsRange, IsDomain}
use Rattle.rc_check.specs.Grammar.{front_of, more_of}
use Rattle.rc_check.specs.Faults.{faults}
use Rattle.rc_sheet.specs.ReadNames.{rule_at}
use Rattle.rc_sheet.proofs.One.Rows.{behind_word, row_one, row_two, row_three}
use Rattle.rc_sheet.proofs.Shaped.Common.{AllShaped, AreShaped, is_plain, form_shaped, row_shaped, more_fit, some_shaped, name_shaped, binder_shaped, variable_shaped, literal_shaped, fixed_shaped, owner_shaped, CardsShaped, loc_shaped, NumberShaped, num_shaped}
use Rattle.rc_check.specs.declared.keyword.Keyword.TheVariants as keyword
use Rattle.rc_check.specs.declared.grammar.Symbol.{Symbol}
use Rattle.rc_check.specs.declared.grammar.Symbol.TheVariants as symbol
use Rattle.rc_check.specs.declared.grammar.Rule.{Rule}
use Rattle.rc_check.specs.declared.grammar.Rule.TheVariants as rule

-- at a card's place, and a side's
abbrev pub CardShaped : Tree → Type 0
CardShaped tree = (faults symbol.Card tree ≡ []) × (faults symbol.Side tree ≡ [])

-- where `player` may stand for cards
abbrev pub RangeShaped : Tree → Type 0
RangeShaped tree = (faults symbol.Members tree ≡ []) × (faults symbol.Domain tree ≡ [])

abbrev TestShaped : Tree → Type 0
TestShaped tree = faults symbol.Test tree ≡ []

-- a list at more than one place
card_row : (r : Rule) (parts : Trees) (from to : ℕ) → rule_at symbol.Card parts ≡ Some r → rule_at symbol.Side parts ≡ Some r
    → is_plain r ≡ true → AreShaped (front_of r) (more_of r) parts → CardShaped (list parts from to)
card_row r parts from to card side plain all =
    (row_shaped symbol.Card r parts from to card plain all, row_shaped symbol.Side r parts from to side plain all)

number_row : (r : Rule) (parts : Trees) (from to : ℕ) → rule_at symbol.Integer parts ≡ Some r
    → rule_at symbol.Side parts ≡ Some r → is_plain r ≡ true → AreShaped (front_of r) (more_of r) parts
    → NumberShaped (list parts from to)
number_row r parts from to told side plain all =
    (row_shaped symbol.Integer r parts from to told plain all, row_shaped symbol.Side r parts from to side plain all)

-- A sheet whose parts stand for forms.
module _ (sheet : Sheet) where
  -- `(attr CARD ATTR)`
  attr_shaped : (around : Around) (a : CardExpr) (attr : ℕ) (tree : Tree)
      → Row (Atom "attr" ▸ StandsCard (sheet_naming sheet) around.scope a ▸ Named sheet.names.attrs attr ▸ End) tree
      → ((c : Tree) → StandsCard (sheet_naming sheet) around.scope a c → CardShaped c) → faults symbol.Side tree ≡ []
  attr_shaped around a attr tree stands each =
      row_two "attr" (StandsCard (sheet_naming sheet) around.scope a) (Named sheet.names.attrs attr)
      (λ tree. faults symbol.Side tree ≡ []) tree stands
      (λ f t from to c n here named.
      row_shaped symbol.Side rule.AttributeOf (cons (word (codes "attr") f t) (cons c (cons n nil))) from to refl refl
      (refl, ((each c here).0, ((name_shaped sheet.names.attrs attr n named).0, tt))))

  -- two owners
  owners_shaped : (around : Around) (head : String) (a b : Who) (tree : Tree)
      → Row (Atom head ▸ StandsOwner around.scope a ▸ StandsOwner around.scope b ▸ End) tree
      → ((f t from to : ℕ) (x y : Tree) → faults symbol.Side x ≡ [] → faults symbol.Side y ≡ []
      → TestShaped (list (cons (word (codes head) f t) (cons x (cons y nil))) from to)) → TestShaped tree
  owners_shaped around head a b tree stands each =
      row_two head (StandsOwner around.scope a) (StandsOwner around.scope b) TestShaped tree stands
      (λ f t from to x y here there. each f t from to x y (owner_shaped around.scope a x here).2
      (owner_shaped around.scope b y there).2)

  -- two sides
  equal_row : (f t from to : ℕ) (x y : Tree) → faults symbol.Side x ≡ [] → faults symbol.Side y ≡ []
      → TestShaped (list (cons (word (codes "=") f t) (cons x (cons y nil))) from to)
  equal_row f t from to x y a b =
      row_shaped symbol.Test rule.Equal (cons (word (codes "=") f t) (cons x (cons y nil))) from to refl refl
      (refl, (a, (b, tt)))

  unequal_row : (f t from to : ℕ) (x y : Tree) → faults symbol.Side x ≡ [] → faults symbol.Side y ≡ []
      → TestShaped (list (cons (word (codes "!=") f t) (cons x (cons y nil))) from to)
  unequal_row f t from to x y a b =
      row_shaped symbol.Test rule.NotEqual (cons (word (codes "!=") f t) (cons x (cons y nil))) from to refl refl
      (refl, (a, (b, tt)))

  -- a part, `using` and a point map
  measured : (p : Symbol) (map : ℕ) (c u m : Tree) → faults p c ≡ [] → Atom "using" u → Named sheet.names.maps map m
      → AreShaped (p ∷ symbol.Word keyword.Using ∷ symbol.Name ∷ []) None (cons c (cons u (cons m nil)))
  measured p map c u m fine using named =
      (fine, (fixed_shaped keyword.Using u using, ((name_shaped sheet.names.maps map m named).0, tt)))

  -- what a variable runs over, the variable, and a test
  tested : (p : Symbol) (bound : ℕ) (c v x : Tree) → faults p c ≡ [] → Binder (sheet_naming sheet) bound v → TestShaped x
      → AreShaped (p ∷ symbol.Variable ∷ symbol.Test ∷ []) None (cons c (cons v (cons x nil)))
  tested p bound c v x fine binds holds = (fine, (binder_shaped (sheet_naming sheet) bound v binds, (holds, tt)))

  mutual
    -- CARD
    pub shaped_card : (around : Around) (a : CardExpr) (tree : Tree) → StandsCard (sheet_naming sheet) around.scope a tree
        → IsCard sheet around a → CardShaped tree
    shaped_card around (card_var var) tree stands is = (
      variable_shaped symbol.Card around.scope card_sort var tree stands (λ rest. refl),
      variable_shaped symbol.Side around.scope card_sort var tree stands (λ rest. refl),
    )
    shaped_card around (top_card cards) tree stands is =
        row_one "top" (StandsColl (sheet_naming sheet) around.scope cards) CardShaped tree stands
        (λ f t from to c here. card_row rule.TopCard (cons (word (codes "top") f t) (cons c nil)) from to refl refl refl
        (refl, ((shaped_coll around cards c here is).0, tt)))
    shaped_card around (bottom_card cards) tree stands is =
        row_one "bottom" (StandsColl (sheet_naming sheet) around.scope cards) CardShaped tree stands
        (λ f t from to c here. card_row rule.BottomCard (cons (word (codes "bottom") f t) (cons c nil)) from to refl refl refl
        (refl, ((shaped_coll around cards c here is).0, tt)))
    shaped_card around (max_card cards map) tree stands is =
        row_three "max" (StandsColl (sheet_naming sheet) around.scope cards) (Atom "using") (Named sheet.names.maps map)
        CardShaped tree stands
        (λ f t from to c u m here using named.
        card_row rule.MaxCard (cons (word (codes "max") f t) (cons c (cons u (cons m nil)))) from to refl refl refl
        (refl, measured symbol.Collection map c u m (shaped_coll around cards c here is.0).0 using named))
    shaped_card around (min_card cards map) tree stands is =
        row_three "min" (StandsColl (sheet_naming sheet) around.scope cards) (Atom "using") (Named sheet.names.maps map)
        CardShaped tree stands
        (λ f t from to c u m here using named.
        card_row rule.MinCard (cons (word (codes "min") f t) (cons c (cons u (cons m nil)))) from to refl refl refl
        (refl, measured symbol.Collection map c u m (shaped_coll around cards c here is.0).0 using named))

    -- COLL
    pub shaped_coll : (around : Around) (a : CollExpr) (tree : Tree) → StandsColl (sheet_naming sheet) around.scope a tree
        → IsColl sheet around a → CardsShaped tree
    shaped_coll around (group_var var) tree stands is = (
      variable_shaped symbol.Collection around.scope group_sort var tree stands (λ rest. refl),
      variable_shaped symbol.Members around.scope group_sort var tree stands (λ rest. refl),
      variable_shaped symbol.Domain around.scope group_sort var tree stands (λ rest. refl),
    )
    shaped_coll around (cards_in loc) tree stands is = (loc_shaped (sheet_naming sheet) around.scope loc tree stands).1
    shaped_coll around (filtered cards bound t) tree stands is =
        row_three "filter" (StandsColl (sheet_naming sheet) around.scope cards) (Binder (sheet_naming sheet) bound)
        (StandsTest (sheet_naming sheet) (bind (sheet_naming sheet) around.scope bound card_sort) t) CardsShaped tree stands
        (λ f g from to c v x here binds there.
        let parts = cons (word (codes "filter") f g) (cons c (cons v (cons x nil))) in
        let all : AreShaped (front_of rule.Filter) None parts = (
          refl,
          tested symbol.Collection bound c v x (shaped_coll around cards c here is.0).0 binds
              (shaped_test (behind sheet around bound card_sort) t x there is.2),
        ) in (
          row_shaped symbol.Collection rule.Filter parts from to refl refl all,
          row_shaped symbol.Members rule.Filter parts from to refl refl all,
          row_shaped symbol.Domain rule.Filter parts from to refl refl all,
        ))
    shaped_coll around (union_of cards) tree stands is =
        behind_word "union" (AtLeast 2 (StandColls (sheet_naming sheet) around.scope cards)) CardsShaped tree stands
        (λ f t from to ps here.
        let parts = cons (word (codes "union") f t) ps in
        let fit = more_fit 2 ps here.0 in
        let all : AreShaped (front_of rule.Union) (Some symbol.Collection) parts =
        (refl, some_shaped symbol.Collection 1 ps here.0 (shaped_colls around cards ps here.1 is.1)) in (
          form_shaped symbol.Collection rule.Union parts from to refl fit refl all,
          form_shaped symbol.Members rule.Union parts from to refl fit refl all,
          form_shaped symbol.Domain rule.Union parts from to refl fit refl all,
        ))
    shaped_coll around (known_in loc) tree stands is =
        row_one "known" (StandsLoc (sheet_naming sheet) around.scope loc) CardsShaped tree stands
        (λ f t from to l here.
        let parts = cons (word (codes "known") f t) (cons l nil) in
        let all : AreShaped (front_of rule.Known) None parts =
        (refl, ((loc_shaped (sheet_naming sheet) around.scope loc l here).0, tt)) in (
          row_shaped symbol.Collection rule.Known parts from to refl refl all,
          row_shaped symbol.Members rule.Known parts from to refl refl all,
          row_shaped symbol.Domain rule.Known parts from to refl refl all,
        ))

    pub shaped_colls : (around : Around) (all : CollExprs) (trees : Trees)
        → StandColls (sheet_naming sheet) around.scope all trees → AreColls sheet around all → AllShaped symbol.Collection trees
    shaped_colls around no_coll nil stands is = tt
    shaped_colls around no_coll (cons tree trees) stands is = absurd stands
    shaped_colls around (coll a all) nil stands is = absurd stands
    shaped_colls around (coll a all) (cons tree trees) stands is =
        ((shaped_coll around a tree stands.0 is.0).0, shaped_colls around all trees stands.1 is.1)

    -- INT
    pub shaped_int : (around : Around) (a : IntExpr) (tree : Tree) → StandsInt (sheet_naming sheet) around.scope a tree
        → IsInt sheet around a → NumberShaped tree
    shaped_int around (literal value) tree stands is =
        let fine = literal_shaped value tree stands is in (fine.0, fine.1)
    shaped_int around (number num) tree stands is = (num_shaped (sheet_naming sheet) around.scope num tree stands).1
    shaped_int around (size_of cards) tree stands is =
        row_one "size" (StandsColl (sheet_naming sheet) around.scope cards) NumberShaped tree stands
        (λ f t from to c here.
        number_row rule.Size (cons (word (codes "size") f t) (cons c nil)) from to refl refl refl
        (refl, ((shaped_coll around cards c here is).0, tt)))
    shaped_int around (sum_of cards map) tree stands is =
        row_three "sum" (StandsColl (sheet_naming sheet) around.scope cards) (Atom "using") (Named sheet.names.maps map)
        NumberShaped tree stands
        (λ f t from to c u m here using named.
        number_row rule.Sum (cons (word (codes "sum") f t) (cons c (cons u (cons m nil)))) from to refl refl refl
        (refl, measured symbol.Collection map c u m (shaped_coll around cards c here is.0).0 using named))
    shaped_int around (worth_of card map) tree stands is =
        row_three "points" (StandsCard (sheet_naming sheet) around.scope card) (Atom "using") (Named sheet.names.maps map)
        NumberShaped tree stands
        (λ f t from to c u m here using named.
        number_row rule.PointsOf (cons (word (codes "points") f t) (cons c (cons u (cons m nil)))) from to refl refl refl
        (refl, measured symbol.Card map c u m (shaped_card around card c here is.0).0 using named))
    shaped_int around (add a b) tree stands is =
        row_two "+" (StandsInt (sheet_naming sheet) around.scope a) (StandsInt (sheet_naming sheet) around.scope b)
        NumberShaped tree stands
        (λ f t from to x y here there.
        number_row rule.Plus (cons (word (codes "+") f t) (cons x (cons y nil))) from to refl refl refl
        (refl, ((shaped_int around a x here is.0).0, ((shaped_int around b y there is.1).0, tt))))
    shaped_int around (subtract a b) tree stands is =
        row_two "-" (StandsInt (sheet_naming sheet) around.scope a) (StandsInt (sheet_naming sheet) around.scope b)
        NumberShaped tree stands
        (λ f t from to x y here there.
        number_row rule.Minus (cons (word (codes "-") f t) (cons x (cons y nil))) from to refl refl refl
        (refl, ((shaped_int around a x here is.0).0, ((shaped_int around b y there is.1).0, tt))))
    shaped_int around (multiply a b) tree stands is =
        row_two "*" (StandsInt (sheet_naming sheet) around.scope a) (StandsInt (sheet_naming sheet) around.scope b)
        NumberShaped tree stands
        (λ f t from to x y here there.
        number_row rule.Times (cons (word (codes "*") f t) (cons x (cons y nil))) from to refl refl refl
        (refl, ((shaped_int around a x here is.0).0, ((shaped_int around b y there is.1).0, tt))))

    -- BOOL
    pub shaped_test : (around : Around) (a : Test) (tree : Tree) → StandsTest (sheet_naming sheet) around.scope a tree
        → IsTest sheet around a → faults symbol.Test tree ≡ []
    shaped_test around (eq_int a b) tree stands is =
        row_two "=" (StandsInt (sheet_naming sheet) around.scope a) (StandsInt (sheet_naming sheet) around.scope b) TestShaped tree
        stands
        (λ f t from to x y here there. equal_row f t from to x y (shaped_int around a x here is.0).1
        (shaped_int around b y there is.1).1)
    shaped_test around (eq_card a b) tree stands is =
        row_two "=" (StandsCard (sheet_naming sheet) around.scope a) (StandsCard (sheet_naming sheet) around.scope b) TestShaped tree
        stands
        (λ f t from to x y here there. equal_row f t from to x y (shaped_card around a x here is.0).1
        (shaped_card around b y there is.1).1)
    shaped_test around (eq_attr a attr b attr') tree stands is =
        row_two "=" _ _ TestShaped tree stands
        (λ f t from to x y here there. equal_row f t from to x y
        (attr_shaped around a attr x here (λ c stands. shaped_card around a c stands is.0))
        (attr_shaped around b attr' y there (λ c stands. shaped_card around b c stands is.2)))
    shaped_test around (eq_who a b) tree stands is = owners_shaped around "=" a b tree stands.0 equal_row
    shaped_test around (ne (eq_int a b)) tree stands is =
        row_two "!=" (StandsInt (sheet_naming sheet) around.scope a) (StandsInt (sheet_naming sheet) around.scope b) TestShaped tree
        stands
        (λ f t from to x y here there. unequal_row f t from to x y (shaped_int around a x here is.1.0).1
        (shaped_int around b y there is.1.1).1)
    shaped_test around (ne (eq_card a b)) tree stands is =
        row_two "!=" (StandsCard (sheet_naming sheet) around.scope a) (StandsCard (sheet_naming sheet) around.scope b) TestShaped tree
        stands
        (λ f t from to x y here there. unequal_row f t from to x y (shaped_card around a x here is.1.0).1
        (shaped_card around b y there is.1.1).1)
    shaped_test around (ne (eq_attr a attr b attr')) tree stands is =
        row_two "!=" _ _ TestShaped tree stands
        (λ f t from to x y here there. unequal_row f t from to x y
        (attr_shaped around a attr x here (λ c stands. shaped_card around a c stands is.1.0))
        (attr_shaped around b attr' y there (λ c stands. shaped_card around b c stands is.1.2)))
    shaped_test around (ne (eq_who a b)) tree stands is = owners_shaped around "!=" a b tree stands.0 unequal_row
    shaped_test around (ne t) tree stands is = absurd stands
    shaped_test around (less a b) tree stands is =
        row_two "<" (StandsInt (sheet_naming sheet) around.scope a) (StandsInt (sheet_naming sheet) around.scope b) TestShaped tree
        stands
        (λ f t from to x y here there.
        row_shaped symbol.Test rule.Less (cons (word (codes "<") f t) (cons x (cons y nil))) from to refl refl
        (refl, ((shaped_int around a x here is.0).0, ((shaped_int around b y there is.1).0, tt))))
    shaped_test around (less_eq a b) tree stands is =
        row_two "<=" (StandsInt (sheet_naming sheet) around.scope a) (StandsInt (sheet_naming sheet) around.scope b) TestShaped tree
        stands
        (λ f t from to x y here there.
        row_shaped symbol.Test rule.LessOrEqual (cons (word (codes "<=") f t) (cons x (cons y nil))) from to refl refl
        (refl, ((shaped_int around a x here is.0).0, ((shaped_int around b y there is.1).0, tt))))
    shaped_test around (more a b) tree stands is =
        row_two ">" (StandsInt (sheet_naming sheet) around.scope a) (StandsInt (sheet_naming sheet) around.scope b) TestShaped tree
        stands
        (λ f t from to x y here there.
        row_shaped symbol.Test rule.More (cons (word (codes ">") f t) (cons x (cons y nil))) from to refl refl
        (refl, ((shaped_int around a x here is.0).0, ((shaped_int around b y there is.1).0, tt))))
    shaped_test around (more_eq a b) tree stands is =
        row_two ">=" (StandsInt (sheet_naming sheet) around.scope a) (StandsInt (sheet_naming sheet) around.scope b) TestShaped tree
        stands
        (λ f t from to x y here there.
        row_shaped symbol.Test rule.MoreOrEqual (cons (word (codes ">=") f t) (cons x (cons y nil))) from to refl refl
        (refl, ((shaped_int around a x here is.0).0, ((shaped_int around b y there is.1).0, tt))))
    shaped_test around (has_value card attr value) tree stands is =
        row_three "is" (StandsCard (sheet_naming sheet) around.scope card) (Named sheet.names.attrs attr)
        (Named sheet.names.values value) TestShaped tree stands
        (λ f t from to c a v here named named'.
        row_shaped symbol.Test rule.Is (cons (word (codes "is") f t) (cons c (cons a (cons v nil)))) from to refl refl (
          refl,
          (
            (shaped_card around card c here is.0).0,
            (
              (name_shaped sheet.names.attrs attr a named).0,
              ((name_shaped sheet.names.values value v named').0, tt),
            ),
          ),
        ))
    shaped_test around (and_of tests) tree stands is =
        behind_word "and" (Full (StandTests (sheet_naming sheet) around.scope tests)) TestShaped tree stands
        (λ f t from to ps here.
        form_shaped symbol.Test rule.And (cons (word (codes "and") f t) ps) from to refl (more_fit 1 ps here.0) refl
        (refl, shaped_tests around tests ps here.1 is.1))
    shaped_test around (or_of tests) tree stands is =
        behind_word "or" (Full (StandTests (sheet_naming sheet) around.scope tests)) TestShaped tree stands
        (λ f t from to ps here.
        form_shaped symbol.Test rule.Or (cons (word (codes "or") f t) ps) from to refl (more_fit 1 ps here.0) refl
        (refl, shaped_tests around tests ps here.1 is.1))
    shaped_test around (not_of t) tree stands is =
        row_one "not" (StandsTest (sheet_naming sheet) around.scope t) TestShaped tree stands
        (λ f g from to x here.
        row_shaped symbol.Test rule.Not (cons (word (codes "not") f g) (cons x nil)) from to refl refl
        (refl, (shaped_test around t x here is, tt)))
    shaped_test around (all_of domain bound t) tree stands is =
        row_three "all" (StandsRange (sheet_naming sheet) around.scope domain) (Binder (sheet_naming sheet) bound)
        (StandsTest (sheet_naming sheet) (bind (sheet_naming sheet) around.scope bound (sort_of domain)) t) TestShaped tree stands
        (λ f g from to r v x here binds there.
        row_shaped symbol.Test rule.ForAll (cons (word (codes "all") f g) (cons r (cons v (cons x nil)))) from to refl refl (
          refl,
          tested symbol.Members bound r v x (shaped_range around domain r here is.0).0 binds
              (shaped_test (behind sheet around bound (sort_of domain)) t x there is.2),
        ))
    shaped_test around (any_of domain bound t) tree stands is =
        row_three "any" (StandsRange (sheet_naming sheet) around.scope domain) (Binder (sheet_naming sheet) bound)
        (StandsTest (sheet_naming sheet) (bind (sheet_naming sheet) around.scope bound (sort_of domain)) t) TestShaped tree stands
        (λ f g from to r v x here binds there.
        row_shaped symbol.Test rule.ForAny (cons (word (codes "any") f g) (cons r (cons v (cons x nil)))) from to refl refl (
          refl,
          tested symbol.Members bound r v x (shaped_range around domain r here is.0).0 binds
              (shaped_test (behind sheet around bound (sort_of domain)) t x there is.2),
        ))

    pub shaped_tests : (around : Around) (all : Tests) (trees : Trees)
        → StandTests (sheet_naming sheet) around.scope all trees → AreTests sheet around all → AllShaped symbol.Test trees
    shaped_tests around no_test nil stands is = tt
    shaped_tests around no_test (cons tree trees) stands is = absurd stands
    shaped_tests around (test t all) nil stands is = absurd stands
    shaped_tests around (test t all) (cons tree trees) stands is =
        (shaped_test around t tree stands.0 is.0, shaped_tests around all trees stands.1 is.1)

    -- `player` or COLL
    pub shaped_range : (around : Around) (domain : Domain) (tree : Tree)
        → StandsRange (sheet_naming sheet) around.scope domain tree → IsRange sheet around domain → RangeShaped tree
    shaped_range around each_player (word bytes from to) stands is =
        subst (λ b. RangeShaped (word b from to)) (sym stands) (refl, refl)
    shaped_range around each_player (list parts from to) stands is = absurd stands
    shaped_range around (each_card cards) tree stands is =
        let fine = shaped_coll around cards tree stands is in (fine.1, fine.2)
    shaped_range around (each_group cards attr) tree stands is = absurd stands

  -- DOMAIN
  pub shaped_domain : (around : Around) (domain : Domain) (tree : Tree)
      → StandsDomain (sheet_naming sheet) around.scope domain tree → IsDomain sheet around domain → faults symbol.Domain tree ≡ []
  shaped_domain around each_player tree stands is = (shaped_range around each_player tree stands is).1
  shaped_domain around (each_card cards) tree stands is = (shaped_coll around cards tree stands is).2
  shaped_domain around (each_group cards attr) tree stands is =
      row_two "partition" (StandsColl (sheet_naming sheet) around.scope cards) (Named sheet.names.attrs attr)
      (λ tree. faults symbol.Domain tree ≡ []) tree stands
      (λ f t from to c n here named.
      row_shaped symbol.Domain rule.Partition (cons (word (codes "partition") f t) (cons c (cons n nil))) from to refl refl
      (refl, ((shaped_coll around cards c here is.0).0, ((name_shaped sheet.names.attrs attr n named).0, tt))))
