-- Cards, lists of cards, numbers and tests that stand for a well formed sheet's have no fault by themselves.
use Prim.Native.String.{String}
use Rattle.std.proofs.Common.{◌≡◌, ℕ, zero, suc, true, not, List, [], ◌∷◌, ◌++◌, Some, refl, sym, subst, ap, ◌∙◌}
use Rattle.std.specs.Prelude.{codes}
use Rattle.rc_base.specs.Tree.{Tree, word, list, Trees, nil, cons}
use Rattle.rc_sheet_spec.specs.Sheet.{card_sort, group_sort, Who, CardExpr, card_var, top_card, bottom_card, max_card, min_card, CollExpr, group_var, cards_in, filtered, union_of, known_in, CollExprs, no_coll, coll, IntExpr, literal, number, size_of, sum_of, worth_of, add, subtract, multiply, Test, eq_int, eq_card, eq_attr, eq_who, ne, less, less_eq, more, more_eq, has_value, and_of, or_of, not_of, all_of, any_of, Tests, no_test, test, Domain, each_player, each_card, each_group, Sheet}
use Rattle.rc_sheet_spec.specs.Rows.{◌▸◌, End, AtLeast, Row, Atom}
use Rattle.rc_sheet_spec.specs.Rows.{Some as Full}
use Rattle.rc_sheet_spec.specs.Naming.{bind, sort_of, class_of, Named, Binder, sheet_naming}
use Rattle.rc_sheet_spec.specs.StandsExpressions.{StandsOwner, StandsHolder, StandsLoc, StandsCard, StandsColl, StandColls, StandsInt, StandsTest, StandTests, StandsRange}
use Rattle.rc_sheet_spec.specs.WellFormed.{Around, IsAttr, IsMap, IsBinder, behind, IsOwner, IsCard, IsColl, AreColls, IsInt, IsTest, AreTests, IsRange}
use Rattle.rc_check.specs.Faults.{rule_of}
use Rattle.rc_check.specs.declared.keyword.Keyword.{Keyword}
use Rattle.rc_check.specs.declared.grammar.Symbol.{Symbol}
use Rattle.rc_check.specs.declared.grammar.Symbol.TheVariants as symbol
use Rattle.rc_check.specs.declared.grammar.Rule.{Rule}
use Rattle.rc_check.specs.declared.grammar.Rule.TheVariants as rule
use Rattle.rc_check.specs.Classes.{bound_in}
use Rattle.rc_check.specs.declared.role.Role.TheVariants.{No as no_role, UsedMap as used_map}
use Rattle.rc_check.specs.declared.role.SideSort.{SideSort}
use Rattle.rc_check.specs.declared.role.SideSort.TheVariants.{Number as number_side, Card as card_side, Value as value_side}
use Rattle.rc_check.specs.SecondParts.{Standing, Part, standing_in, is_binder, part_at, word_in, sort_over}
use Rattle.rc_check.specs.SecondFaults.{side_of, side_of_form}
use Rattle.rc_sheet.proofs.GoodParts.{Each}
use Rattle.rc_sheet.proofs.One.Rows.{behind_word, row_one, row_two, row_three, three_parts}
use Rattle.rc_sheet.proofs.One.Names.{Apart, loc_rule_alone, loc_rule_in_cards, loc_rule_in_domain, loc_rule_in_members, num_rule_in_numbers, num_rule_in_sides, rule_told}
use Rattle.rc_sheet.proofs.Sound.Parts.{standing, StandAt, IsRow, head_seat, plain_seat, Sound, constant_atom, plain_word, sound_list, AreGiven}
use Rattle.rc_sheet.proofs.Sound.Names.{side_place, fixed, var_sound, owner_sound, plain_loc, num_sound}
use Rattle.rc_sheet.proofs.Sound.Rows.{cards_sort, range_sort, then, var_side, literal_constant, side_of_class, owner_side, bound_word, Binds, binds_so, behind_apart, CollSound, SideSound, CardSound, IntSound, TestSound, one_sound, two_sound, using_sound, sides_sound, many_sound, binder_sound, value_of_sound, is_sound, literal_side, player_sound}

-- A sheet, and all parts of a form, which give what the sheet's setup gives.
module _ (sheet : Sheet) (all : List Part) (given : AreGiven sheet all) where
  -- an owner, as a side
  pub owner_as_side : (around : Around) (who : Who) (tree : Tree) → Apart around.scope → StandsOwner around.scope who tree
      → IsOwner around who → SideSound sheet all given around (side_of_class (class_of who)) tree
  owner_as_side around who tree alone stands is =
      (owner_sound sheet all symbol.Side around who tree side_place alone stands is, owner_side around.scope who tree alone stands)

  -- `(attr CARD ATTR)` as a side, by what is known of the card
  attr_side : (around : Around) (attr : ℕ) (a : CardExpr) (tree : Tree)
      → Row (Atom "attr" ▸ StandsCard (sheet_naming sheet) around.scope a ▸ Named sheet.names.attrs attr ▸ End) tree
      → IsAttr sheet attr
      → ((c : Tree) → StandsCard (sheet_naming sheet) around.scope a c → Sound sheet all symbol.Card around c)
      → SideSound sheet all given around value_side tree
  attr_side around attr a tree stands is each =
      row_two "attr" (StandsCard (sheet_naming sheet) around.scope a) (Named sheet.names.attrs attr)
      (SideSound sheet all given around value_side)
      tree stands
      (λ f t from to c n here named. value_of_sound sheet all given around attr f t from to c n (each c here) named is)

  -- FORMS BY THEIR SHAPES

  -- what stands as a card or as a number, and as a side
  abbrev ValueSound : Symbol → SideSort → Around → Tree → Type 0
  ValueSound q side around tree = Sound sheet all q around tree × SideSound sheet all given around side tree

  -- a list of these parts is a form of this rule at the place, and as a side
  abbrev AreTold : Symbol → Rule → Trees → Type 0
  AreTold q r parts = (rule_of q parts ≡ Some r) × (rule_of symbol.Side parts ≡ Some r)

  -- with one part behind its head
  one_value : (text : String) (r : Rule) (k : Keyword) (u q : Symbol) (side : SideSort)
      → IsRow r (head_seat k ∷ plain_seat u ∷ []) → ((f t : ℕ) (x : Tree) → AreTold q r (cons (word (codes text) f t) (cons x nil)))
      → side_of_form (Some r) ≡ Some side → (around : Around) (A : Tree → Type 0) (tree : Tree) → Row (Atom text ▸ A ▸ End) tree
      → ((x : Tree) → A x → Sound sheet all u around x) → ValueSound q side around tree
  one_value text r k u q side row told sort around A tree stands each =
      row_one text A (ValueSound q side around) tree stands
      (λ f t from to x here. (
        one_sound sheet all given text r k u row q around f t from to x (told f t x).0 (each x here),
        (
          one_sound sheet all given text r k u row symbol.Side around f t from to x (told f t x).1 (each x here),
          ap side_of_form (told f t x).1 ∙ sort,
        ),
      ))

  -- with one part, and a point map
  using_value : (text : String) (r : Rule) (k k' : Keyword) (u q : Symbol) (side : SideSort)
      → IsRow r (head_seat k ∷ plain_seat u ∷ head_seat k' ∷ (symbol.Name, used_map) ∷ [])
      → ((f t : ℕ) (x y z : Tree) → AreTold q r (cons (word (codes text) f t) (cons x (cons y (cons z nil)))))
      → side_of_form (Some r) ≡ Some side → (around : Around) (map : ℕ) (A : Tree → Type 0) (tree : Tree)
      → Row (Atom text ▸ A ▸ Atom "using" ▸ Named sheet.names.maps map ▸ End) tree → IsMap sheet map
      → ((x : Tree) → A x → Sound sheet all u around x) → ValueSound q side around tree
  using_value text r k k' u q side row told sort around map A tree stands is each =
      row_three text A (Atom "using") (Named sheet.names.maps map) (ValueSound q side around) tree stands
      (λ f t from to x y z here using named. (
        using_sound sheet all given text r k k' u row q around map f t from to x y z (told f t x y z).0
            (each x here) using named is,
        (
          using_sound sheet all given text r k k' u row symbol.Side around map f t from to x y z
              (told f t x y z).1 (each x here) using named is,
          ap side_of_form (told f t x y z).1 ∙ sort,
        ),
      ))

  -- a number of two
  two_value : (text : String) (r : Rule) (k : Keyword) → IsRow r (head_seat k ∷ plain_seat symbol.Integer ∷ plain_seat symbol.Integer ∷ [])
      → ((f t : ℕ) (x y : Tree) → AreTold symbol.Integer r (cons (word (codes text) f t) (cons x (cons y nil))))
      → side_of_form (Some r) ≡ Some number_side → (around : Around) (A B : Tree → Type 0) (tree : Tree)
      → Row (Atom text ▸ A ▸ B ▸ End) tree → ((x : Tree) → A x → Sound sheet all symbol.Integer around x)
      → ((y : Tree) → B y → Sound sheet all symbol.Integer around y) → IntSound sheet all given around tree
  two_value text r k row told sort around A B tree stands each each' =
      row_two text A B (IntSound sheet all given around) tree stands
      (λ f t from to x y here there. (
        two_sound sheet all given text r k symbol.Integer symbol.Integer row symbol.Integer around f t from to x y
            (told f t x y).0 (each x here) (each' y there),
        (
          two_sound sheet all given text r k symbol.Integer symbol.Integer row symbol.Side around f t from to x y
              (told f t x y).1 (each x here) (each' y there),
          ap side_of_form (told f t x y).1 ∙ sort,
        ),
      ))

  -- two numbers that are compared
  order_sound : (text : String) (r : Rule) (k : Keyword) → IsRow r (head_seat k ∷ plain_seat symbol.Integer ∷ plain_seat symbol.Integer ∷ [])
      → ((f t : ℕ) (x y : Tree) → rule_of symbol.Test (cons (word (codes text) f t) (cons x (cons y nil))) ≡ Some r)
      → (around : Around) (A B : Tree → Type 0) (tree : Tree) → Row (Atom text ▸ A ▸ B ▸ End) tree
      → ((x : Tree) → A x → Sound sheet all symbol.Integer around x)
      → ((y : Tree) → B y → Sound sheet all symbol.Integer around y) → TestSound sheet all given around tree
  order_sound text r k row told around A B tree stands each each' =
      row_two text A B (TestSound sheet all given around) tree stands
      (λ f t from to x y here there. two_sound sheet all given text r k symbol.Integer symbol.Integer row symbol.Test around
      f t from to x y (told f t x y) (each x here) (each' y there))

  -- two sides of one sort that are to be the same, and to differ
  equal_row : (around : Around) (side : SideSort) (A B : Tree → Type 0) (tree : Tree) → Row (Atom "=" ▸ A ▸ B ▸ End) tree
      → ((x : Tree) → A x → SideSound sheet all given around side x)
      → ((y : Tree) → B y → SideSound sheet all given around side y) → TestSound sheet all given around tree
  equal_row around side A B tree stands each each' =
      row_two "=" A B (TestSound sheet all given around) tree stands
      (λ f t from to x y here there. sides_sound sheet all given "=" rule.Equal _
      (refl, λ at parts. (refl, (refl, (refl, tt)))) around side f t from to x y refl (each x here) (each' y there))

  unequal_row : (around : Around) (side : SideSort) (A B : Tree → Type 0) (tree : Tree) → Row (Atom "!=" ▸ A ▸ B ▸ End) tree
      → ((x : Tree) → A x → SideSound sheet all given around side x)
      → ((y : Tree) → B y → SideSound sheet all given around side y) → TestSound sheet all given around tree
  unequal_row around side A B tree stands each each' =
      row_two "!=" A B (TestSound sheet all given around) tree stands
      (λ f t from to x y here there. sides_sound sheet all given "!=" rule.NotEqual _
      (refl, λ at parts. (refl, (refl, (refl, tt)))) around side f t from to x y refl (each x here) (each' y there))

  -- a test of a binder
  quantified : (text : String) (r : Rule) (k : Keyword) → is_binder r ≡ true
      → ((at : Standing) (parts : Trees) → StandAt at r parts 0 (head_seat k ∷ plain_seat symbol.Members ∷ plain_seat symbol.Variable ∷ []))
      → ((at : Standing) (parts : Trees)
      → standing_in at r parts 3
      ≡ Some (standing symbol.Test (bound_in at.around (word_in 2 parts) (sort_over (part_at 1 parts))) no_role parts
      (at.above ++ [])))
      → ((f t : ℕ) (x y z : Tree) → rule_of symbol.Test (cons (word (codes text) f t) (cons x (cons y (cons z nil)))) ≡ Some r)
      → (around : Around) (domain : Domain) (bound : ℕ) (B : Tree → Type 0) (tree : Tree)
      → Row (Atom text ▸ StandsRange (sheet_naming sheet) around.scope domain ▸ Binder (sheet_naming sheet) bound ▸ B ▸ End) tree
      → IsBinder sheet around bound
      → ((c : Tree) → StandsRange (sheet_naming sheet) around.scope domain c → Sound sheet all symbol.Members around c)
      → ((x : Tree) → B x → Sound sheet all symbol.Test (behind sheet around bound (sort_of domain)) x)
      → TestSound sheet all given around tree
  quantified text r k is stand stands_body told around domain bound B tree stands binder each each' =
      row_three text (StandsRange (sheet_naming sheet) around.scope domain) (Binder (sheet_naming sheet) bound) B
      (TestSound sheet all given around) tree stands
      (λ f g from to c v x here binds there. bound_word (sheet_naming sheet) bound
      (λ v. TestSound sheet all given around (list (cons (word (codes text) f g) (cons c (cons v (cons x nil)))) from to)) v binds
      (λ bytes f' t' found. binder_sound sheet all given text r k symbol.Members symbol.Test is stand stands_body symbol.Test around
      bound (sort_of domain) bytes f g f' t' from to c x (told f g c (word bytes f' t') x)
      (binds_so sheet all given around bound bytes binder found)
      (range_sort (sheet_naming sheet) around.scope domain c here) (each c here) (each' x there)))

  -- lists of cards at a place that takes them
  filter_at : (around : Around) (bound : ℕ) (bytes : List ℕ) (f t f' t' from to : ℕ) (c x : Tree)
      → Binds sheet all given around bound bytes → sort_over c ≡ card_sort → Sound sheet all symbol.Collection around c
      → Sound sheet all symbol.Test (behind sheet around bound card_sort) x → (q : Symbol)
      → rule_of q (cons (word (codes "filter") f t) (cons c (cons (word bytes f' t') (cons x nil)))) ≡ Some rule.Filter
      → Sound sheet all q around
      (list (cons (word (codes "filter") f t) (cons c (cons (word bytes f' t') (cons x nil)))) from to)
  filter_at around bound bytes f t f' t' from to c x binds same inner body q told =
      binder_sound sheet all given "filter" rule.Filter _ symbol.Collection symbol.Test refl (λ at parts. (refl, (refl, (refl, tt))))
      (λ at parts. refl) q around bound card_sort bytes f t f' t' from to c x told binds same inner body

  union_at : (around : Around) (f t from to : ℕ) (parts : Trees) → Each (Sound sheet all symbol.Collection around) parts
      → (q : Symbol) → rule_of q (cons (word (codes "union") f t) parts) ≡ Some rule.Union
      → Sound sheet all q around (list (cons (word (codes "union") f t) parts) from to)
  union_at around f t from to parts each q told =
      many_sound sheet all given "union" rule.Union _ symbol.Collection (refl, λ at parts. (refl, tt)) stand q around f t from to
      parts told each
    where
      stand : (at : Standing) (parts : Trees) (n : ℕ)
          → standing_in at rule.Union parts (suc n)
          ≡ Some (standing symbol.Collection at.around no_role parts (at.above ++ []))
      stand at parts zero = refl
      stand at parts (suc n) = refl

  known_at : (around : Around) (f t from to : ℕ) (l : Tree) → around.player_stage ≡ true
      → Sound sheet all symbol.Location around l → (q : Symbol)
      → rule_of q (cons (word (codes "known") f t) (cons l nil)) ≡ Some rule.Known
      → Sound sheet all q around (list (cons (word (codes "known") f t) (cons l nil)) from to)
  known_at around f t from to l staged sound q told =
      sound_list sheet all q rule.Known around (cons (word (codes "known") f t) (cons l nil)) from to told
      (λ p r b a from plain. record { once = refl; known = ap not staged; kind_fits = plain.other; shallow = refl; said = tt })
      (λ p r b a. (fixed sheet all _ _ _ _ _ _, then sheet all given symbol.Location around _ _ l _ sound tt))

  mutual
    -- CARD
    pub card_sound : (around : Around) (a : CardExpr) (tree : Tree) → Apart around.scope
        → StandsCard (sheet_naming sheet) around.scope a tree → IsCard sheet around a → CardSound sheet all given around tree
    card_sound around (card_var var) (word bytes from to) alone stands is = (
      var_sound sheet all symbol.Card around card_sort var (word bytes from to) alone (λ bytes. refl) stands,
      (
        var_sound sheet all symbol.Side around card_sort var (word bytes from to) alone (λ bytes. refl) stands,
        var_side around.scope card_sort var card_side bytes from to alone stands refl,
      ),
    )
    card_sound around (card_var var) (list parts from to) alone stands is = absurd stands
    card_sound around (top_card cards) tree alone stands is =
        one_value "top" rule.TopCard _ symbol.Collection symbol.Card card_side (refl, λ at parts. (refl, (refl, tt)))
        (λ f t x. (refl, refl)) refl around _ tree stands
        (λ c here. (coll_sound around cards c alone here is).0)
    card_sound around (bottom_card cards) tree alone stands is =
        one_value "bottom" rule.BottomCard _ symbol.Collection symbol.Card card_side (refl, λ at parts. (refl, (refl, tt)))
        (λ f t x. (refl, refl)) refl around _ tree stands
        (λ c here. (coll_sound around cards c alone here is).0)
    card_sound around (max_card cards map) tree alone stands is =
        using_value "max" rule.MaxCard _ _ symbol.Collection symbol.Card card_side
        (refl, λ at parts. (refl, (refl, (refl, (refl, tt))))) (λ f t x y z. (refl, refl)) refl around map _ tree stands is.1
        (λ c here. (coll_sound around cards c alone here is.0).0)
    card_sound around (min_card cards map) tree alone stands is =
        using_value "min" rule.MinCard _ _ symbol.Collection symbol.Card card_side
        (refl, λ at parts. (refl, (refl, (refl, (refl, tt))))) (λ f t x y z. (refl, refl)) refl around map _ tree stands is.1
        (λ c here. (coll_sound around cards c alone here is.0).0)

    -- COLL
    pub coll_sound : (around : Around) (a : CollExpr) (tree : Tree) → Apart around.scope
        → StandsColl (sheet_naming sheet) around.scope a tree → IsColl sheet around a → CollSound sheet all given around tree
    coll_sound around (group_var var) tree alone stands is = (
      var_sound sheet all symbol.Collection around group_sort var tree alone (λ bytes. refl) stands,
      var_sound sheet all symbol.Domain around group_sort var tree alone (λ bytes. refl) stands,
      var_sound sheet all symbol.Members around group_sort var tree alone (λ bytes. refl) stands,
    )
    coll_sound around (cards_in loc) tree alone stands is = (
      plain_loc sheet all symbol.Collection around loc tree loc_rule_in_cards alone stands is.0,
      plain_loc sheet all symbol.Domain around loc tree loc_rule_in_domain alone stands is.0,
      plain_loc sheet all symbol.Members around loc tree loc_rule_in_members alone stands is.0,
    )
    coll_sound around (filtered cards bound t) tree alone stands is =
        row_three "filter" (StandsColl (sheet_naming sheet) around.scope cards) (Binder (sheet_naming sheet) bound)
        (StandsTest (sheet_naming sheet) (bind (sheet_naming sheet) around.scope bound card_sort) t)
        (CollSound sheet all given around) tree stands
        (λ f g from to c v x here binds there.
        let inner = (coll_sound around cards c alone here is.0).0 in
        let body = test_sound (behind sheet around bound card_sort) t x
        (behind_apart sheet all given around bound card_sort alone is.1) there is.2 in
        let sorts = cards_sort (sheet_naming sheet) around.scope cards c here in
        bound_word (sheet_naming sheet) bound
        (λ v. CollSound sheet all given around (list (cons (word (codes "filter") f g) (cons c (cons v (cons x nil)))) from to))
        v binds
        (λ bytes f' t' found.
        let known = binds_so sheet all given around bound bytes is.1 found in
        let at = filter_at around bound bytes f g f' t' from to c x known sorts inner body in
        (at symbol.Collection refl, at symbol.Domain refl, at symbol.Members refl)))
    coll_sound around (union_of parts) tree alone stands is =
        behind_word "union" (AtLeast 2 (StandColls (sheet_naming sheet) around.scope parts)) (CollSound sheet all given around)
        tree stands
        (λ f t from to ps here. let at = union_at around f t from to ps (colls_sound around parts ps alone here.1 is.1) in
        (at symbol.Collection refl, at symbol.Domain refl, at symbol.Members refl))
    coll_sound around (known_in loc) tree alone stands is =
        row_one "known" (StandsLoc (sheet_naming sheet) around.scope loc) (CollSound sheet all given around) tree stands
        (λ f t from to l here.
        let inner = plain_loc sheet all symbol.Location around loc l loc_rule_alone alone here is.1.0 in
        let at = known_at around f t from to l is.0 inner in
        (at symbol.Collection refl, at symbol.Domain refl, at symbol.Members refl))

    pub colls_sound : (around : Around) (parts : CollExprs) (trees : Trees) → Apart around.scope
        → StandColls (sheet_naming sheet) around.scope parts trees → AreColls sheet around parts
        → Each (Sound sheet all symbol.Collection around) trees
    colls_sound around no_coll nil alone stands are = tt
    colls_sound around no_coll (cons tree trees) alone stands are = absurd stands
    colls_sound around (coll a parts) nil alone stands are = absurd stands
    colls_sound around (coll a parts) (cons tree trees) alone stands are =
        ((coll_sound around a tree alone stands.0 are.0).0, colls_sound around parts trees alone stands.1 are.1)

    -- INT
    pub int_sound : (around : Around) (a : IntExpr) (tree : Tree) → Apart around.scope
        → StandsInt (sheet_naming sheet) around.scope a tree → IsInt sheet around a → IntSound sheet all given around tree
    int_sound around (literal value) (word bytes from to) alone stands is =
        let constant = literal_constant bytes value stands in (
          plain_word sheet all symbol.Integer around bytes from to refl,
          (
            λ role beside above plain. (
              constant_atom sheet all (standing symbol.Side around role beside above) bytes from constant
                  (plain.named bytes) plain.other,
              tt,
            ),
            literal_side around.scope value bytes from to stands,
          ),
        )
    int_sound around (literal value) (list parts from to) alone stands is = absurd stands
    int_sound around (number num) tree alone stands is = (
      num_sound sheet all symbol.Integer around num tree num_rule_in_numbers alone stands is.0,
      (
        num_sound sheet all symbol.Side around num tree num_rule_in_sides alone stands is.0,
        three_parts (StandsHolder around.scope num.who) (Atom "sto") (Named sheet.names.nums num.name)
            (λ tree. side_of around.scope tree ≡ Some number_side) tree stands.0
            (λ holder kind name from to holds k n. ap side_of_form
            (rule_told symbol.Side (cons holder (cons kind (cons name nil))) rule.Counter
            (num_rule_in_sides around.scope num.who holder kind name holds))),
      ),
    )
    int_sound around (size_of cards) tree alone stands is =
        one_value "size" rule.Size _ symbol.Collection symbol.Integer number_side (refl, λ at parts. (refl, (refl, tt)))
        (λ f t x. (refl, refl)) refl around _ tree stands
        (λ c here. (coll_sound around cards c alone here is).0)
    int_sound around (sum_of cards map) tree alone stands is =
        using_value "sum" rule.Sum _ _ symbol.Collection symbol.Integer number_side
        (refl, λ at parts. (refl, (refl, (refl, (refl, tt))))) (λ f t x y z. (refl, refl)) refl around map _ tree stands is.1
        (λ c here. (coll_sound around cards c alone here is.0).0)
    int_sound around (worth_of card map) tree alone stands is =
        using_value "points" rule.PointsOf _ _ symbol.Card symbol.Integer number_side
        (refl, λ at parts. (refl, (refl, (refl, (refl, tt))))) (λ f t x y z. (refl, refl)) refl around map _ tree stands is.1
        (λ c here. (card_sound around card c alone here is.0).0)
    int_sound around (add a b) tree alone stands is =
        two_value "+" rule.Plus _ (refl, λ at parts. (refl, (refl, (refl, tt)))) (λ f t x y. (refl, refl)) refl around _ _
        tree stands
        (λ x here. (int_sound around a x alone here is.0).0) (λ y there. (int_sound around b y alone there is.1).0)
    int_sound around (subtract a b) tree alone stands is =
        two_value "-" rule.Minus _ (refl, λ at parts. (refl, (refl, (refl, tt)))) (λ f t x y. (refl, refl)) refl around _ _
        tree stands
        (λ x here. (int_sound around a x alone here is.0).0) (λ y there. (int_sound around b y alone there is.1).0)
    int_sound around (multiply a b) tree alone stands is =
        two_value "*" rule.Times _ (refl, λ at parts. (refl, (refl, (refl, tt)))) (λ f t x y. (refl, refl)) refl around _ _
        tree stands
        (λ x here. (int_sound around a x alone here is.0).0) (λ y there. (int_sound around b y alone there is.1).0)

    -- BOOL
    pub test_sound : (around : Around) (a : Test) (tree : Tree) → Apart around.scope
        → StandsTest (sheet_naming sheet) around.scope a tree → IsTest sheet around a → TestSound sheet all given around tree
    test_sound around (eq_int a b) tree alone stands is =
        equal_row around number_side _ _ tree stands
        (λ x here. (int_sound around a x alone here is.0).1) (λ y there. (int_sound around b y alone there is.1).1)
    test_sound around (eq_card a b) tree alone stands is =
        equal_row around card_side _ _ tree stands
        (λ x here. (card_sound around a x alone here is.0).1) (λ y there. (card_sound around b y alone there is.1).1)
    test_sound around (eq_attr a attr b attr') tree alone stands is =
        equal_row around value_side _ _ tree stands
        (λ x here. attr_side around attr a x here is.1 (λ c stands. (card_sound around a c alone stands is.0).0))
        (λ y there. attr_side around attr' b y there is.3 (λ c stands. (card_sound around b c alone stands is.2).0))
    test_sound around (eq_who who who') tree alone stands is =
        equal_row around (side_of_class (class_of who)) _ _ tree stands.0
        (λ x here. owner_as_side around who x alone here is.0)
        (λ y there. subst (λ c. SideSound sheet all given around (side_of_class c) y) (sym stands.1)
        (owner_as_side around who' y alone there is.1))
    test_sound around (ne (eq_int a b)) tree alone stands is =
        unequal_row around number_side _ _ tree stands
        (λ x here. (int_sound around a x alone here is.1.0).1) (λ y there. (int_sound around b y alone there is.1.1).1)
    test_sound around (ne (eq_card a b)) tree alone stands is =
        unequal_row around card_side _ _ tree stands
        (λ x here. (card_sound around a x alone here is.1.0).1) (λ y there. (card_sound around b y alone there is.1.1).1)
    test_sound around (ne (eq_attr a attr b attr')) tree alone stands is =
        unequal_row around value_side _ _ tree stands
        (λ x here. attr_side around attr a x here is.1.1 (λ c stands. (card_sound around a c alone stands is.1.0).0))
        (λ y there. attr_side around attr' b y there is.1.3 (λ c stands. (card_sound around b c alone stands is.1.2).0))
    test_sound around (ne (eq_who who who')) tree alone stands is =
        unequal_row around (side_of_class (class_of who)) _ _ tree stands.0
        (λ x here. owner_as_side around who x alone here is.1.0)
        (λ y there. subst (λ c. SideSound sheet all given around (side_of_class c) y) (sym stands.1)
        (owner_as_side around who' y alone there is.1.1))
    test_sound around (ne t) tree alone stands is = absurd stands
    test_sound around (less a b) tree alone stands is =
        order_sound "<" rule.Less _ (refl, λ at parts. (refl, (refl, (refl, tt)))) (λ f t x y. refl) around _ _ tree stands
        (λ x here. (int_sound around a x alone here is.0).0) (λ y there. (int_sound around b y alone there is.1).0)
    test_sound around (less_eq a b) tree alone stands is =
        order_sound "<=" rule.LessOrEqual _ (refl, λ at parts. (refl, (refl, (refl, tt)))) (λ f t x y. refl) around _ _ tree stands
        (λ x here. (int_sound around a x alone here is.0).0) (λ y there. (int_sound around b y alone there is.1).0)
    test_sound around (more a b) tree alone stands is =
        order_sound ">" rule.More _ (refl, λ at parts. (refl, (refl, (refl, tt)))) (λ f t x y. refl) around _ _ tree stands
        (λ x here. (int_sound around a x alone here is.0).0) (λ y there. (int_sound around b y alone there is.1).0)
    test_sound around (more_eq a b) tree alone stands is =
        order_sound ">=" rule.MoreOrEqual _ (refl, λ at parts. (refl, (refl, (refl, tt)))) (λ f t x y. refl) around _ _ tree stands
        (λ x here. (int_sound around a x alone here is.0).0) (λ y there. (int_sound around b y alone there is.1).0)
    test_sound around (has_value card attr value) tree alone stands is =
        row_three "is" (StandsCard (sheet_naming sheet) around.scope card) (Named sheet.names.attrs attr)
        (Named sheet.names.values value) (TestSound sheet all given around) tree stands
        (λ f t from to c n v here named named'. is_sound sheet all given around attr value f t from to c n v
        (card_sound around card c alone here is.0).0 named is.1 named' is.2)
    test_sound around (and_of tests) tree alone stands is =
        behind_word "and" (Full (StandTests (sheet_naming sheet) around.scope tests)) (TestSound sheet all given around) tree stands
        (λ f t from to ps here. many_sound sheet all given "and" rule.And _ symbol.Test (refl, λ at parts. (refl, tt))
        (λ at parts n. refl) symbol.Test around f t from to ps refl (tests_sound around tests ps alone here.1 is.1))
    test_sound around (or_of tests) tree alone stands is =
        behind_word "or" (Full (StandTests (sheet_naming sheet) around.scope tests)) (TestSound sheet all given around) tree stands
        (λ f t from to ps here. many_sound sheet all given "or" rule.Or _ symbol.Test (refl, λ at parts. (refl, tt))
        (λ at parts n. refl) symbol.Test around f t from to ps refl (tests_sound around tests ps alone here.1 is.1))
    test_sound around (not_of t) tree alone stands is =
        row_one "not" (StandsTest (sheet_naming sheet) around.scope t) (TestSound sheet all given around) tree stands
        (λ f g from to x here. one_sound sheet all given "not" rule.Not _ symbol.Test (refl, λ at parts. (refl, (refl, tt)))
        symbol.Test around f g from to x refl (test_sound around t x alone here is))
    test_sound around (all_of domain bound t) tree alone stands is =
        quantified "all" rule.ForAll _ refl (λ at parts. (refl, (refl, (refl, tt)))) (λ at parts. refl) (λ f g x y z. refl) around
        domain bound _ tree stands is.1 (λ c here. range_sound around domain c alone here is.0)
        (λ x there. test_sound (behind sheet around bound (sort_of domain)) t x
        (behind_apart sheet all given around bound (sort_of domain) alone is.1) there is.2)
    test_sound around (any_of domain bound t) tree alone stands is =
        quantified "any" rule.ForAny _ refl (λ at parts. (refl, (refl, (refl, tt)))) (λ at parts. refl) (λ f g x y z. refl) around
        domain bound _ tree stands is.1 (λ c here. range_sound around domain c alone here is.0)
        (λ x there. test_sound (behind sheet around bound (sort_of domain)) t x
        (behind_apart sheet all given around bound (sort_of domain) alone is.1) there is.2)

    pub tests_sound : (around : Around) (tests : Tests) (trees : Trees) → Apart around.scope
        → StandTests (sheet_naming sheet) around.scope tests trees → AreTests sheet around tests
        → Each (TestSound sheet all given around) trees
    tests_sound around no_test nil alone stands are = tt
    tests_sound around no_test (cons tree trees) alone stands are = absurd stands
    tests_sound around (test t tests) nil alone stands are = absurd stands
    tests_sound around (test t tests) (cons tree trees) alone stands are =
        (test_sound around t tree alone stands.0 are.0, tests_sound around tests trees alone stands.1 are.1)

    -- `player` or COLL
    pub range_sound : (around : Around) (domain : Domain) (tree : Tree) → Apart around.scope
        → StandsRange (sheet_naming sheet) around.scope domain tree → IsRange sheet around domain
        → Sound sheet all symbol.Members around tree
    range_sound around each_player tree alone stands is = player_sound sheet all given symbol.Members around tree stands
    range_sound around (each_card cards) tree alone stands is = (coll_sound around cards tree alone stands is).2
    range_sound around (each_group cards attr) tree alone stands is = absurd stands
