-- Expressions and tests, printed in the place of their forms.
use Prim.Native.String.{String}
use Rattle.std.proofs.Common.{◌≡◌, ℕ, true, codes, refl, sym, subst}
use Rattle.rc_base.specs.Tree.{Tree, list, Trees, cons}
use Rattle.rc_sheet_spec.specs.Sheet.{Sort, card_sort, group_sort, CardExpr, card_var, top_card, bottom_card, max_card, min_card, CollExpr, group_var, cards_in, filtered, union_of, known_in, CollExprs, no_coll, coll, IntExpr, literal, number, size_of, sum_of, worth_of, add, subtract, multiply, Test, eq_int, eq_card, eq_attr, eq_who, ne, less, less_eq, more, more_eq, has_value, and_of, or_of, not_of, all_of, any_of, Tests, no_test, test, Domain, each_player, each_card, each_group, Sheet}
use Rattle.rc_sheet_spec.specs.Rows.{◌▸◌, End, Row, Atom}
use Rattle.rc_sheet_spec.specs.Naming.{Naming, Scope, bind, sort_of, Named, Binder, sheet_naming}
use Rattle.rc_sheet_spec.specs.Printing.{packed, keyword, named, Bound, card_form, coll_form, coll_forms, int_form, test_form, test_forms, domain_form, attr_form}
use Rattle.rc_sheet_spec.specs.StandsExpressions.{StandsCard, StandsColl, StandColls, StandsInt, StandsTest, StandTests, StandsRange, StandsDomain}
use Rattle.rc_sheet_spec.specs.WellFormed.{is_atom, HasWords}
use Rattle.rc_print.specs.Unplaced.{card_unplaced, coll_unplaced, colls_unplaced, int_unplaced, test_unplaced, tests_unplaced, domain_unplaced}
use Rattle.rc_print.proofs.Copied.{Copies, AreCopied, keyword_copied, row_copied, bound_copied, part_copied, end_copied, least_copied}
use Rattle.rc_print.proofs.CopiedNames.{one_copied, two_copied, named_copied, literal_copied, Fits, in_scope_copied, owners_copied, binder_copied, bind_fits, with_map_copied, loc_copied, num_copied}

pub same_sort : (domain : Domain) → sort_of (domain_unplaced domain) ≡ sort_of domain
same_sort each_player = refl
same_sort (each_card cards) = refl
same_sort (each_group cards attr) = refl

module _ (sheet : Sheet) (words : HasWords sheet) where
  abbrev naming : Naming
  naming = sheet_naming sheet

  -- a card's attribute
  attr_copied : {A B : Tree → Type 0} {tree : Tree} → Copies A B tree → (attr : ℕ)
      → Copies (Row (Atom "attr" ▸ A ▸ Named sheet.names.attrs attr ▸ End))
      (Row (Atom "attr" ▸ B ▸ Named sheet.names.attrs attr ▸ End))
      (attr_form naming tree attr)
  attr_copied card attr = two_copied "attr" refl card (named_copied sheet.names.attrs attr words.attrs)

  -- what a variable runs over that is bound in the parts behind it
  pub ranged_copied : {A B : Tree → Type 0} {range : Tree} {trees : Trees} (head : String) → is_atom (codes head) ≡ true
      → (domain : Domain) (var : ℕ) (P Q : Sort → Trees → Type 0) → Copies A B range
      → ((form : Tree) → Binder naming var form → AreCopied (P (sort_of domain)) (Q (sort_of domain)) trees)
      → Copies (Row (Atom head ▸ A ▸ Binder naming var ▸ P (sort_of domain)))
      (Row (Atom head ▸ B ▸ Binder naming var ▸ Q (sort_of (domain_unplaced domain))))
      (list (cons (keyword head) (cons range (cons (named sheet.names.vars var) trees))) 0 0)
  ranged_copied {A = A} {B = B} {range = range} {trees = trees} head is domain var P Q first others =
      subst (λ sort. Copies (Row (Atom head ▸ A ▸ Binder naming var ▸ P (sort_of domain)))
      (Row (Atom head ▸ B ▸ Binder naming var ▸ Q sort)) (list (cons (keyword head)
      (cons range (cons (named sheet.names.vars var) trees))) 0 0))
      (sym (same_sort domain))
      (row_copied (part_copied (keyword_copied head is) (part_copied first
      (bound_copied (binder_copied sheet words var) others))))

  mutual
    pub card_copied : {scope : Scope} {bound : Bound} → Fits scope bound → (card : CardExpr)
        → Copies (StandsCard naming scope card) (StandsCard naming scope (card_unplaced card)) (card_form naming bound card)
    card_copied fits (card_var var) = in_scope_copied fits card_sort var
    card_copied fits (top_card cards) = one_copied "top" refl (coll_copied fits cards)
    card_copied fits (bottom_card cards) = one_copied "bottom" refl (coll_copied fits cards)
    card_copied fits (max_card cards map) = with_map_copied sheet words "max" refl (coll_copied fits cards) map
    card_copied fits (min_card cards map) = with_map_copied sheet words "min" refl (coll_copied fits cards) map

    pub coll_copied : {scope : Scope} {bound : Bound} → Fits scope bound → (cards : CollExpr)
        → Copies (StandsColl naming scope cards) (StandsColl naming scope (coll_unplaced cards)) (coll_form naming bound cards)
    coll_copied fits (group_var var) = in_scope_copied fits group_sort var
    coll_copied fits (cards_in loc) = loc_copied sheet words fits loc
    coll_copied fits (filtered cards var t) =
        row_copied (part_copied (keyword_copied "filter" refl) (part_copied (coll_copied fits cards)
        (bound_copied (binder_copied sheet words var) (λ form stands.
        part_copied (test_copied (bind_fits sheet words fits card_sort var form stands) t) end_copied))))
    coll_copied fits (union_of parts) =
        row_copied (part_copied (keyword_copied "union" refl) (least_copied 2 (colls_copied fits parts)))
    coll_copied fits (known_in loc) = one_copied "known" refl (loc_copied sheet words fits loc)

    colls_copied : {scope : Scope} {bound : Bound} → Fits scope bound → (parts : CollExprs)
        → AreCopied (StandColls naming scope parts) (StandColls naming scope (colls_unplaced parts))
        (packed (coll_forms naming bound parts))
    colls_copied fits no_coll = end_copied
    colls_copied fits (coll cards parts) = part_copied (coll_copied fits cards) (colls_copied fits parts)

    pub int_copied : {scope : Scope} {bound : Bound} → Fits scope bound → (int : IntExpr)
        → Copies (StandsInt naming scope int) (StandsInt naming scope (int_unplaced int)) (int_form naming bound int)
    int_copied fits (literal value) = literal_copied value
    int_copied fits (number num) = num_copied sheet words fits num
    int_copied fits (size_of cards) = one_copied "size" refl (coll_copied fits cards)
    int_copied fits (sum_of cards map) = with_map_copied sheet words "sum" refl (coll_copied fits cards) map
    int_copied fits (worth_of card map) = with_map_copied sheet words "points" refl (card_copied fits card) map
    int_copied fits (add a b) = two_copied "+" refl (int_copied fits a) (int_copied fits b)
    int_copied fits (subtract a b) = two_copied "-" refl (int_copied fits a) (int_copied fits b)
    int_copied fits (multiply a b) = two_copied "*" refl (int_copied fits a) (int_copied fits b)

    pub test_copied : {scope : Scope} {bound : Bound} → Fits scope bound → (t : Test)
        → Copies (StandsTest naming scope t) (StandsTest naming scope (test_unplaced t)) (test_form naming bound t)
    test_copied fits (eq_int a b) = two_copied "=" refl (int_copied fits a) (int_copied fits b)
    test_copied fits (eq_card a b) = two_copied "=" refl (card_copied fits a) (card_copied fits b)
    test_copied fits (eq_attr a attr b attr') =
        two_copied "=" refl (attr_copied (card_copied fits a) attr) (attr_copied (card_copied fits b) attr')
    test_copied fits (eq_who who who') = owners_copied "=" refl fits who who'
    test_copied fits (ne (eq_int a b)) = two_copied "!=" refl (int_copied fits a) (int_copied fits b)
    test_copied fits (ne (eq_card a b)) = two_copied "!=" refl (card_copied fits a) (card_copied fits b)
    test_copied fits (ne (eq_attr a attr b attr')) =
        two_copied "!=" refl (attr_copied (card_copied fits a) attr) (attr_copied (card_copied fits b) attr')
    test_copied fits (ne (eq_who who who')) = owners_copied "!=" refl fits who who'
    test_copied fits (ne t) = record { of = λ form stands. absurd stands }
    test_copied fits (less a b) = two_copied "<" refl (int_copied fits a) (int_copied fits b)
    test_copied fits (less_eq a b) = two_copied "<=" refl (int_copied fits a) (int_copied fits b)
    test_copied fits (more a b) = two_copied ">" refl (int_copied fits a) (int_copied fits b)
    test_copied fits (more_eq a b) = two_copied ">=" refl (int_copied fits a) (int_copied fits b)
    test_copied fits (has_value card attr value) =
        row_copied (part_copied (keyword_copied "is" refl) (part_copied (card_copied fits card)
        (part_copied (named_copied sheet.names.attrs attr words.attrs)
        (part_copied (named_copied sheet.names.values value words.values) end_copied))))
    test_copied fits (and_of tests) =
        row_copied (part_copied (keyword_copied "and" refl) (least_copied 1 (tests_copied fits tests)))
    test_copied fits (or_of tests) =
        row_copied (part_copied (keyword_copied "or" refl) (least_copied 1 (tests_copied fits tests)))
    test_copied fits (not_of t) = one_copied "not" refl (test_copied fits t)
    test_copied {scope = scope} fits (all_of domain var t) =
        ranged_copied "all" refl domain var (λ sort. StandsTest naming (bind naming scope var sort) t ▸ End)
        (λ sort. StandsTest naming (bind naming scope var sort) (test_unplaced t) ▸ End) (range_copied fits domain)
        (λ form stands. part_copied (test_copied (bind_fits sheet words fits (sort_of domain) var form stands) t) end_copied)
    test_copied {scope = scope} fits (any_of domain var t) =
        ranged_copied "any" refl domain var (λ sort. StandsTest naming (bind naming scope var sort) t ▸ End)
        (λ sort. StandsTest naming (bind naming scope var sort) (test_unplaced t) ▸ End) (range_copied fits domain)
        (λ form stands. part_copied (test_copied (bind_fits sheet words fits (sort_of domain) var form stands) t) end_copied)

    tests_copied : {scope : Scope} {bound : Bound} → Fits scope bound → (tests : Tests)
        → AreCopied (StandTests naming scope tests) (StandTests naming scope (tests_unplaced tests))
        (packed (test_forms naming bound tests))
    tests_copied fits no_test = end_copied
    tests_copied fits (test t tests) = part_copied (test_copied fits t) (tests_copied fits tests)

    pub range_copied : {scope : Scope} {bound : Bound} → Fits scope bound → (domain : Domain)
        → Copies (StandsRange naming scope domain) (StandsRange naming scope (domain_unplaced domain))
        (domain_form naming bound domain)
    range_copied fits each_player = keyword_copied "player" refl
    range_copied fits (each_card cards) = coll_copied fits cards
    range_copied fits (each_group cards attr) = record { of = λ form stands. absurd stands }

  pub domain_copied : {scope : Scope} {bound : Bound} → Fits scope bound → (domain : Domain)
      → Copies (StandsDomain naming scope domain) (StandsDomain naming scope (domain_unplaced domain))
      (domain_form naming bound domain)
  domain_copied fits each_player = keyword_copied "player" refl
  domain_copied fits (each_card cards) = coll_copied fits cards
  domain_copied fits (each_group cards attr) =
      two_copied "partition" refl (coll_copied fits cards) (named_copied sheet.names.attrs attr words.attrs)
