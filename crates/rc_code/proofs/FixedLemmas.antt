-- What isn't a comparison isn't one of numbers or cards that no variable decides.
use Rattle.std.proofs.Common.{◌≡◌, Bool, true, false, ◌&&◌, refl, sym, ap}
use Rattle.std.proofs.lemmas.Bool.{true≢false}
use Rattle.rc_sheet_spec.specs.Sheet.{CardExpr, card_var, top_card, bottom_card, max_card, min_card, CollExpr, group_var, cards_in, filtered, union_of, known_in, IntExpr, literal, number, size_of, sum_of, worth_of, add, subtract, multiply, Test, eq_int, eq_card, eq_attr, eq_who, ne, less, less_eq, more, more_eq, has_value, and_of, or_of, not_of, all_of, any_of}
use Rattle.rc_code.specs.Flatness.{is_location, is_top, is_at_hand, is_comparison}
use Rattle.rc_code.specs.GuardParts.{is_fixed_location, is_fixed_top, is_fixed_number, is_fixed_comparison}

not_location : (cards : CollExpr) → is_location cards ≡ false → is_fixed_location cards ≡ false
not_location (group_var var) is = refl
not_location (cards_in loc) is = absurd (true≢false is)
not_location (filtered cards bound t) is = refl
not_location (union_of parts) is = refl
not_location (known_in loc) is = refl

not_top : (card : CardExpr) → is_top card ≡ false → is_fixed_top card ≡ false
not_top (card_var var) is = refl
not_top (top_card cards) is = not_location cards is
not_top (bottom_card cards) is = refl
not_top (max_card cards map) is = refl
not_top (min_card cards map) is = refl

not_number : (n : IntExpr) → is_at_hand n ≡ false → is_fixed_number n ≡ false
not_number (literal value) is = absurd (true≢false is)
not_number (number num) is = absurd (true≢false is)
not_number (size_of cards) is = not_location cards is
not_number (sum_of cards map) is = refl
not_number (worth_of card map) is = not_top card is
not_number (add a b) is = refl
not_number (subtract a b) is = refl
not_number (multiply a b) is = refl

-- one of two isn't
one_not : (a b a' b' : Bool) → (a ≡ false → a' ≡ false) → (b ≡ false → b' ≡ false) → (a && b) ≡ false → (a' && b') ≡ false
one_not false b a' b' left right is = ap (λ x. x && b') (left refl)
one_not true b false b' left right is = refl
one_not true b true b' left right is = right is

numbers_not : (a b : IntExpr) → (is_at_hand a && is_at_hand b) ≡ false → (is_fixed_number a && is_fixed_number b) ≡ false
numbers_not a b = one_not (is_at_hand a) (is_at_hand b) (is_fixed_number a) (is_fixed_number b) (not_number a) (not_number b)

not_compared : (t : Test) → is_comparison t ≡ false → is_fixed_comparison t ≡ false
not_compared (eq_int a b) is = numbers_not a b is
not_compared (eq_card a b) is = refl
not_compared (eq_attr a attr b attr') is = one_not (is_top a) (is_top b) (is_fixed_top a) (is_fixed_top b) (not_top a) (not_top b) is
not_compared (eq_who a b) is = refl
not_compared (ne t) is = refl
not_compared (less a b) is = numbers_not a b is
not_compared (less_eq a b) is = numbers_not a b is
not_compared (more a b) is = numbers_not a b is
not_compared (more_eq a b) is = numbers_not a b is
not_compared (has_value card attr value) is = refl
not_compared (and_of tests) is = refl
not_compared (or_of tests) is = refl
not_compared (not_of t) is = refl
not_compared (all_of domain bound t) is = refl
not_compared (any_of domain bound t) is = refl

pub none_fixed : (t : Test) → false ≡ is_comparison t → false ≡ is_fixed_comparison t
none_fixed t is = sym (not_compared t (sym is))
