-- Expressions and tests, where their forms are moved.
use Prim.Native.String.{String}
use Rattle.std.proofs.Common.{◌≡◌, ℕ, refl, sym, subst, ap, ap₂, ◌∙◌}
use Rattle.rc_base.specs.Tree.{Tree, Trees, start_of}
use Rattle.rc_form.specs.SameForm.{SameForm}
use Rattle.rc_sheet_spec.specs.Sheet.{Sort, card_sort, Who, game, current_player, current_team, team_of_current, team_of_var, who_var, Loc, Num, CardExpr, card_var, top_card, bottom_card, max_card, min_card, CollExpr, group_var, cards_in, filtered, union_of, known_in, CollExprs, no_coll, coll, IntExpr, literal, number, size_of, sum_of, worth_of, add, subtract, multiply, Test, eq_int, eq_card, eq_attr, eq_who, ne, less, less_eq, more, more_eq, has_value, and_of, or_of, not_of, all_of, any_of, Tests, no_test, test, Domain, each_player, each_card, each_group}
use Rattle.rc_sheet_spec.specs.Rows.{◌▸◌, End, Row, Atom}
use Rattle.rc_sheet_spec.specs.Naming.{Naming, Scope, bind, sort_of, Named, Binder, KindOf}
use Rattle.rc_sheet_spec.specs.StandsExpressions.{StandsOwner, StandsHolder, StandsLoc, StandsNum, Two, TwoOwners, StandsCard, StandsColl, StandColls, StandsInt, StandsTest, StandTests, StandsRange, StandsDomain}
use Rattle.rc_print.specs.Unplaced.{loc_unplaced, card_unplaced, coll_unplaced, colls_unplaced, int_unplaced, test_unplaced, tests_unplaced, domain_unplaced}
use Rattle.rc_print.proofs.CopiedExpressions.{same_sort}
use Rattle.rc_sheet.proofs.Moved.Common.{Keeps, AllKeep, Again, Moves, AllMove, word_keeps, row_keeps, part_keeps, end_keeps, still, made, all_made, kept, row_moves, behind_kept, before_kept, least_moves, headed, one_moves, part_moves, two_move, around_kept}

pub one_sort : (domain other : Domain) → domain_unplaced other ≡ domain_unplaced domain
    → sort_of (domain_unplaced domain) ≡ sort_of other
one_sort domain other same = ap sort_of (sym same) ∙ same_sort other

-- OWNERS

two_keep : {A B : Tree → Type 0} (head : String) → Keeps A → Keeps B → Keeps (Two head A B)
two_keep head first second = row_keeps (part_keeps word_keeps (part_keeps first (part_keeps second end_keeps)))

pub owner_keeps : (scope : Scope) (who : Who) → Keeps (StandsOwner scope who)
owner_keeps scope game = record { of = λ form other same stands. absurd stands }
owner_keeps scope current_player = record { of = (row_keeps (part_keeps word_keeps (part_keeps word_keeps end_keeps))).of }
owner_keeps scope current_team = record { of = (row_keeps (part_keeps word_keeps (part_keeps word_keeps end_keeps))).of }
owner_keeps scope team_of_current =
    record { of = (two_keep "team" word_keeps (row_keeps (part_keeps word_keeps (part_keeps word_keeps end_keeps)))).of }
owner_keeps scope (team_of_var var) = record { of = (two_keep "team" word_keeps word_keeps).of }
owner_keeps scope (who_var var) = record { of = word_keeps.of }

holder_keeps : (scope : Scope) (who : Who) → Keeps (StandsHolder scope who)
holder_keeps scope game = word_keeps
holder_keeps scope current_player = owner_keeps scope current_player
holder_keeps scope current_team = owner_keeps scope current_team
holder_keeps scope team_of_current = owner_keeps scope team_of_current
holder_keeps scope (team_of_var var) = owner_keeps scope (team_of_var var)
holder_keeps scope (who_var var) = owner_keeps scope (who_var var)

owners_keep : (head : String) (scope : Scope) (who who' : Who) → Keeps (TwoOwners head scope who who')
owners_keep head scope who who' = record {
  of = λ form other same stands.
      ((two_keep head (owner_keeps scope who) (owner_keeps scope who')).of form other same stands.0, stands.1);
}

module _ (naming : Naming) where
  -- NAMES

  loc_parts_keep : (scope : Scope) (loc : Loc)
      → Keeps (Row (StandsHolder scope loc.who ▸ KindOf naming loc.name ▸ Named naming.names.locs loc.name ▸ End))
  loc_parts_keep scope loc =
      row_keeps (part_keeps (holder_keeps scope loc.who) (part_keeps word_keeps (part_keeps word_keeps end_keeps)))

  -- a location has the offset of its form
  pub loc_moves : (scope : Scope) (loc : Loc)
      → Moves (StandsLoc naming scope (loc_unplaced loc)) (StandsLoc naming scope) (λ again. loc_unplaced again ≡ loc_unplaced loc)
  loc_moves scope loc = record {
    of = λ form other same stands. record {
      again = record { who = loc.who; name = loc.name; at = start_of other };
      stands = ((loc_parts_keep scope loc).of form other same stands.0, stands.1, refl);
      same = refl;
    };
  }

  pub num_keeps : (scope : Scope) (num : Num) → Keeps (StandsNum naming scope num)
  num_keeps scope num = record {
    of = λ form other same stands. (
      (row_keeps (part_keeps (holder_keeps scope num.who) (part_keeps word_keeps (part_keeps word_keeps end_keeps)))).of
          form other same stands.0,
      stands.1,
    );
  }

  with_map : (map : ℕ) → AllKeep (Atom "using" ▸ Named naming.names.maps map ▸ End)
  with_map map = part_keeps word_keeps (part_keeps word_keeps end_keeps)

  attr_keeps : (attr : ℕ) → AllKeep (Named naming.names.attrs attr ▸ End)
  attr_keeps attr = part_keeps word_keeps end_keeps

  -- what a variable runs over that is bound in the parts behind it
  pub ranged_moves : {B : Type 0} {P : Trees → Type 0} {Same : B → Type 0} (head : String) (domain : Domain) (var : ℕ)
      (Range : Domain → Tree → Type 0) (Q : Sort → B → Trees → Type 0)
      → Moves (Range (domain_unplaced domain)) Range (λ again. domain_unplaced again ≡ domain_unplaced domain)
      → AllMove P (Q (sort_of (domain_unplaced domain))) Same
      → Moves (Row (Atom head ▸ Range (domain_unplaced domain) ▸ Binder naming var ▸ P))
      (λ (both : Domain × B). Row (Atom head ▸ Range both.0 ▸ Binder naming var ▸ Q (sort_of both.0) both.1))
      (λ both. (domain_unplaced both.0 ≡ domain_unplaced domain) × Same both.1)
  ranged_moves {B = B} {P = P} {Same = Same} head domain var Range Q first rest = record { of = of }
    where
      all : Moves (Row (Atom head ▸ Range (domain_unplaced domain) ▸ Binder naming var ▸ P))
          (λ (both : Domain × B). Row (Atom head ▸ Range both.0 ▸ Binder naming var ▸ Q (sort_of (domain_unplaced domain)) both.1))
          (λ both. (domain_unplaced both.0 ≡ domain_unplaced domain) × Same both.1)
      all = around_kept head first word_keeps rest

      of : (form other : Tree) → SameForm form other → Row (Atom head ▸ Range (domain_unplaced domain) ▸ Binder naming var ▸ P) form
          → Again (λ (both : Domain × B). Row (Atom head ▸ Range both.0 ▸ Binder naming var ▸ Q (sort_of both.0) both.1))
          (λ both. (domain_unplaced both.0 ≡ domain_unplaced domain) × Same both.1) other
      of form other same stands =
          let found = all.of form other same stands in
          record {
            again = found.again;
            stands = subst (λ sort. Row (Atom head ▸ Range found.again.0 ▸ Binder naming var ▸ Q sort found.again.1) other)
                (one_sort domain found.again.0 found.same.0) found.stands;
            same = found.same;
          }

  mutual
    pub card_moves : (scope : Scope) (card : CardExpr)
        → Moves (StandsCard naming scope (card_unplaced card)) (StandsCard naming scope) (λ again. card_unplaced again ≡ card_unplaced card)
    card_moves scope (card_var var) = still (card_var var) refl word_keeps
    card_moves scope (top_card cards) = made top_card (one_moves "top" (coll_moves scope cards)) (λ a same. ap top_card same)
    card_moves scope (bottom_card cards) =
        made bottom_card (one_moves "bottom" (coll_moves scope cards)) (λ a same. ap bottom_card same)
    card_moves scope (max_card cards map) =
        made (λ a. max_card a map) (headed "max" (coll_moves scope cards) (with_map map)) (λ a same. ap (λ c. max_card c map) same)
    card_moves scope (min_card cards map) =
        made (λ a. min_card a map) (headed "min" (coll_moves scope cards) (with_map map)) (λ a same. ap (λ c. min_card c map) same)

    pub coll_moves : (scope : Scope) (cards : CollExpr)
        → Moves (StandsColl naming scope (coll_unplaced cards)) (StandsColl naming scope) (λ again. coll_unplaced again ≡ coll_unplaced cards)
    coll_moves scope (group_var var) = still (group_var var) refl word_keeps
    coll_moves scope (cards_in loc) = made cards_in (loc_moves scope loc) (λ a same. ap cards_in same)
    coll_moves scope (filtered cards var t) =
        made (λ both. filtered both.0 var both.1)
        (around_kept "filter" (coll_moves scope cards) word_keeps
        (before_kept (test_moves (bind naming scope var card_sort) t) end_keeps))
        (λ both same. ap₂ (λ c t. filtered c var t) same.0 same.1)
    coll_moves scope (union_of parts) =
        made union_of (row_moves (behind_kept word_keeps (least_moves 2 (colls_move scope parts)))) (λ a same. ap union_of same)
    coll_moves scope (known_in loc) = made known_in (one_moves "known" (loc_moves scope loc)) (λ a same. ap known_in same)

    colls_move : (scope : Scope) (parts : CollExprs)
        → AllMove (StandColls naming scope (colls_unplaced parts)) (StandColls naming scope) (λ again. colls_unplaced again ≡ colls_unplaced parts)
    colls_move scope no_coll = all_made (λ one. no_coll) (kept end_keeps) (λ one same. refl)
    colls_move scope (coll cards parts) =
        all_made (λ both. coll both.0 both.1) (part_moves (coll_moves scope cards) (colls_move scope parts))
        (λ both same. ap₂ coll same.0 same.1)

    pub int_moves : (scope : Scope) (int : IntExpr)
        → Moves (StandsInt naming scope (int_unplaced int)) (StandsInt naming scope) (λ again. int_unplaced again ≡ int_unplaced int)
    int_moves scope (literal value) = still (literal value) refl word_keeps
    int_moves scope (number num) = still (number num) refl (num_keeps scope num)
    int_moves scope (size_of cards) = made size_of (one_moves "size" (coll_moves scope cards)) (λ a same. ap size_of same)
    int_moves scope (sum_of cards map) =
        made (λ a. sum_of a map) (headed "sum" (coll_moves scope cards) (with_map map)) (λ a same. ap (λ c. sum_of c map) same)
    int_moves scope (worth_of card map) =
        made (λ a. worth_of a map) (headed "points" (card_moves scope card) (with_map map))
        (λ a same. ap (λ c. worth_of c map) same)
    int_moves scope (add a b) =
        made (λ both. add both.0 both.1) (two_move "+" (int_moves scope a) (int_moves scope b))
        (λ both same. ap₂ add same.0 same.1)
    int_moves scope (subtract a b) =
        made (λ both. subtract both.0 both.1) (two_move "-" (int_moves scope a) (int_moves scope b))
        (λ both same. ap₂ subtract same.0 same.1)
    int_moves scope (multiply a b) =
        made (λ both. multiply both.0 both.1) (two_move "*" (int_moves scope a) (int_moves scope b))
        (λ both same. ap₂ multiply same.0 same.1)

    -- a test of two parts of one kind
    pub test_moves : (scope : Scope) (t : Test)
        → Moves (StandsTest naming scope (test_unplaced t)) (StandsTest naming scope) (λ again. test_unplaced again ≡ test_unplaced t)
    test_moves scope (eq_int a b) =
        made (λ both. eq_int both.0 both.1) (two_move "=" (int_moves scope a) (int_moves scope b))
        (λ both same. ap₂ eq_int same.0 same.1)
    test_moves scope (eq_card a b) =
        made (λ both. eq_card both.0 both.1) (two_move "=" (card_moves scope a) (card_moves scope b))
        (λ both same. ap₂ eq_card same.0 same.1)
    test_moves scope (eq_attr a attr b attr') =
        made (λ both. eq_attr both.0 attr both.1 attr')
        (two_move "=" (headed "attr" (card_moves scope a) (attr_keeps attr)) (headed "attr" (card_moves scope b) (attr_keeps attr')))
        (λ both same. ap₂ (λ a b. eq_attr a attr b attr') same.0 same.1)
    test_moves scope (eq_who who who') = still (eq_who who who') refl (owners_keep "=" scope who who')
    test_moves scope (ne (eq_int a b)) =
        made (λ both. ne (eq_int both.0 both.1)) (two_move "!=" (int_moves scope a) (int_moves scope b))
        (λ both same. ap₂ (λ a b. ne (eq_int a b)) same.0 same.1)
    test_moves scope (ne (eq_card a b)) =
        made (λ both. ne (eq_card both.0 both.1)) (two_move "!=" (card_moves scope a) (card_moves scope b))
        (λ both same. ap₂ (λ a b. ne (eq_card a b)) same.0 same.1)
    test_moves scope (ne (eq_attr a attr b attr')) =
        made (λ both. ne (eq_attr both.0 attr both.1 attr'))
        (two_move "!=" (headed "attr" (card_moves scope a) (attr_keeps attr)) (headed "attr" (card_moves scope b) (attr_keeps attr')))
        (λ both same. ap₂ (λ a b. ne (eq_attr a attr b attr')) same.0 same.1)
    test_moves scope (ne (eq_who who who')) = still (ne (eq_who who who')) refl (owners_keep "!=" scope who who')
    test_moves scope (ne t) = record { of = λ form other same stands. absurd stands }
    test_moves scope (less a b) =
        made (λ both. less both.0 both.1) (two_move "<" (int_moves scope a) (int_moves scope b))
        (λ both same. ap₂ less same.0 same.1)
    test_moves scope (less_eq a b) =
        made (λ both. less_eq both.0 both.1) (two_move "<=" (int_moves scope a) (int_moves scope b))
        (λ both same. ap₂ less_eq same.0 same.1)
    test_moves scope (more a b) =
        made (λ both. more both.0 both.1) (two_move ">" (int_moves scope a) (int_moves scope b))
        (λ both same. ap₂ more same.0 same.1)
    test_moves scope (more_eq a b) =
        made (λ both. more_eq both.0 both.1) (two_move ">=" (int_moves scope a) (int_moves scope b))
        (λ both same. ap₂ more_eq same.0 same.1)
    test_moves scope (has_value card attr value) =
        made (λ a. has_value a attr value)
        (headed "is" (card_moves scope card) (part_keeps word_keeps (part_keeps word_keeps end_keeps)))
        (λ a same. ap (λ c. has_value c attr value) same)
    test_moves scope (and_of tests) =
        made and_of (row_moves (behind_kept word_keeps (least_moves 1 (tests_move scope tests)))) (λ a same. ap and_of same)
    test_moves scope (or_of tests) =
        made or_of (row_moves (behind_kept word_keeps (least_moves 1 (tests_move scope tests)))) (λ a same. ap or_of same)
    test_moves scope (not_of t) = made not_of (one_moves "not" (test_moves scope t)) (λ a same. ap not_of same)
    test_moves scope (all_of domain var t) =
        made (λ both. all_of both.0 var both.1)
        (ranged_moves "all" domain var (StandsRange naming scope)
        (λ sort t. StandsTest naming (bind naming scope var sort) t ▸ End) (range_moves scope domain)
        (before_kept (test_moves (bind naming scope var (sort_of (domain_unplaced domain))) t) end_keeps))
        (λ both same. ap₂ (λ d t. all_of d var t) same.0 same.1)
    test_moves scope (any_of domain var t) =
        made (λ both. any_of both.0 var both.1)
        (ranged_moves "any" domain var (StandsRange naming scope)
        (λ sort t. StandsTest naming (bind naming scope var sort) t ▸ End) (range_moves scope domain)
        (before_kept (test_moves (bind naming scope var (sort_of (domain_unplaced domain))) t) end_keeps))
        (λ both same. ap₂ (λ d t. any_of d var t) same.0 same.1)

    tests_move : (scope : Scope) (tests : Tests)
        → AllMove (StandTests naming scope (tests_unplaced tests)) (StandTests naming scope) (λ again. tests_unplaced again ≡ tests_unplaced tests)
    tests_move scope no_test = all_made (λ one. no_test) (kept end_keeps) (λ one same. refl)
    tests_move scope (test t tests) =
        all_made (λ both. test both.0 both.1) (part_moves (test_moves scope t) (tests_move scope tests))
        (λ both same. ap₂ test same.0 same.1)

    pub range_moves : (scope : Scope) (domain : Domain)
        → Moves (StandsRange naming scope (domain_unplaced domain)) (StandsRange naming scope)
        (λ again. domain_unplaced again ≡ domain_unplaced domain)
    range_moves scope each_player = still each_player refl word_keeps
    range_moves scope (each_card cards) = made each_card (coll_moves scope cards) (λ a same. ap each_card same)
    range_moves scope (each_group cards attr) = record { of = λ form other same stands. absurd stands }

  pub domain_moves : (scope : Scope) (domain : Domain)
      → Moves (StandsDomain naming scope (domain_unplaced domain)) (StandsDomain naming scope)
      (λ again. domain_unplaced again ≡ domain_unplaced domain)
  domain_moves scope each_player = still each_player refl word_keeps
  domain_moves scope (each_card cards) = made each_card (coll_moves scope cards) (λ a same. ap each_card same)
  domain_moves scope (each_group cards attr) =
      made (λ a. each_group a attr) (headed "partition" (coll_moves scope cards) (attr_keeps attr))
      (λ a same. ap (λ c. each_group c attr) same)
