-- Which alternatives have a guard in parts.
use Rattle.std.specs.Prelude.{ℕ, nat_eq, nat_le, Bool, true, false, ◌&&◌, ◌||◌, length}
use Rattle.rc_sheet_spec.specs.Sheet.{Who, game, current_player, current_team, team_of_current, team_of_var, who_var, CardExpr, card_var, top_card, CollExpr, cards_in, IntExpr, literal, number, size_of, worth_of, Test, eq_int, eq_attr, less, less_eq, more, more_eq, has_value, ne, not_of, and_of, or_of, all_of, any_of, Tests, no_test, test, Domain, each_card, Alt, if_alt, any_alt}
use Rattle.rc_sheet_spec.specs.Lists.{test_list}

-- an owner that no variable stands for, the cards of a location of such an owner, and the top one of them
abbrev pub is_fixed_who : Who → Bool
is_fixed_who game = true
is_fixed_who current_player = true
is_fixed_who current_team = true
is_fixed_who team_of_current = true
is_fixed_who (team_of_var var) = false
is_fixed_who (who_var var) = false

abbrev pub is_fixed_location : CollExpr → Bool
is_fixed_location (cards_in loc) = is_fixed_who loc.who
is_fixed_location cards = false

abbrev pub is_fixed_top : CardExpr → Bool
is_fixed_top (top_card cards) = is_fixed_location cards
is_fixed_top card = false

abbrev pub is_fixed_domain : Domain → Bool
is_fixed_domain (each_card cards) = is_fixed_location cards
is_fixed_domain domain = false

-- a number that is written out, that the game keeps for such an owner, or that is read off such a location
abbrev pub is_fixed_number : IntExpr → Bool
is_fixed_number (literal value) = true
is_fixed_number (number num) = is_fixed_who num.who
is_fixed_number (size_of cards) = is_fixed_location cards
is_fixed_number (worth_of card map) = is_fixed_top card
is_fixed_number n = false

-- a comparison of such numbers, or of the values of the top cards of two such locations
abbrev pub is_fixed_comparison : Test → Bool
is_fixed_comparison (eq_int a b) = is_fixed_number a && is_fixed_number b
is_fixed_comparison (less a b) = is_fixed_number a && is_fixed_number b
is_fixed_comparison (less_eq a b) = is_fixed_number a && is_fixed_number b
is_fixed_comparison (more a b) = is_fixed_number a && is_fixed_number b
is_fixed_comparison (more_eq a b) = is_fixed_number a && is_fixed_number b
is_fixed_comparison (eq_attr a attr b attr') = is_fixed_top a && is_fixed_top b
is_fixed_comparison t = false

abbrev pub is_the_variable : ℕ → CardExpr → Bool
is_the_variable place (card_var var) = nat_eq var place
is_the_variable place card = false

-- a test of the card of the variable at this place: for a value, or for the one that the top card of such a location has
abbrev pub is_card_test : ℕ → Test → Bool
is_card_test place (eq_attr a attr b attr') = is_the_variable place a && is_fixed_top b
is_card_test place (has_value card attr value) = is_the_variable place card
is_card_test place t = false

-- a test, or the opposite of one
abbrev pub in_some_sense : (Test → Bool) → Test → Bool
in_some_sense is (ne t) = is t
in_some_sense is (not_of t) = is t
in_some_sense is t = is t

-- Whether one of the cards of such a location, or each of them, passes such a test or its opposite; whether the top one
-- has a value; or such a comparison.
abbrev pub is_fixed_guard_test : Test → Bool
is_fixed_guard_test (any_of domain bound t) = is_fixed_domain domain && in_some_sense (is_card_test 1) t
is_fixed_guard_test (all_of domain bound t) = is_fixed_domain domain && in_some_sense (is_card_test 1) t
is_fixed_guard_test (has_value card attr value) = is_fixed_top card
is_fixed_guard_test t = is_fixed_comparison t

-- such a one, or whether the offered card passes such a test
abbrev pub is_guard_test : Test → Bool
is_guard_test t = is_card_test 0 t || is_fixed_guard_test t

-- such ones, or their opposites
abbrev pub are_parts : Tests → Bool
are_parts no_test = true
are_parts (test t tests) = in_some_sense is_guard_test t && are_parts tests

-- at most four parts
abbrev pub are_few_parts : Tests → Bool
are_few_parts tests = nat_le (length (test_list tests)) 4 && are_parts tests

-- all of them are to hold, or one of them, or a sole one
abbrev pub is_in_parts : Test → Bool
is_in_parts (and_of tests) = are_few_parts tests
is_in_parts (or_of tests) = are_few_parts tests
is_in_parts t = in_some_sense is_guard_test t

abbrev pub is_guarded : Alt → Bool
is_guarded (if_alt guard effects) = is_in_parts guard
is_guarded alt = false

-- An alternative has a guard in parts that offers the cards of a location of an owner that no variable stands for.
abbrev pub has_guard : Alt → Bool
has_guard (any_alt domain bound alt) = is_fixed_domain domain && is_guarded alt
has_guard alt = false
