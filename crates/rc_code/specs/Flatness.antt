-- Which tests have a flat form.
use Rattle.std.specs.Prelude.{zero, Bool, true, false, ◌&&◌}
use Rattle.rc_sheet_spec.specs.Sheet.{Who, who_var, CardExpr, top_card, CollExpr, cards_in, IntExpr, literal, number, size_of, worth_of, Test, eq_int, eq_attr, less, less_eq, more, more_eq, and_of, all_of, Tests, no_test, test, Domain, each_player}

-- the cards of a location, and the top one of them
abbrev pub is_location : CollExpr → Bool
is_location (cards_in loc) = true
is_location cards = false

abbrev pub is_top : CardExpr → Bool
is_top (top_card cards) = is_location cards
is_top card = false

-- A number is at hand that is written out or that the game keeps; and how many cards a location has, and what its top card is
-- worth.
abbrev pub is_at_hand : IntExpr → Bool
is_at_hand (literal value) = true
is_at_hand (number num) = true
is_at_hand (size_of cards) = is_location cards
is_at_hand (worth_of card map) = is_top card
is_at_hand sum = false

-- numbers that are at hand are compared, or the values of two top cards
abbrev pub is_comparison : Test → Bool
is_comparison (eq_int a b) = is_at_hand a && is_at_hand b
is_comparison (less a b) = is_at_hand a && is_at_hand b
is_comparison (less_eq a b) = is_at_hand a && is_at_hand b
is_comparison (more a b) = is_at_hand a && is_at_hand b
is_comparison (more_eq a b) = is_at_hand a && is_at_hand b
is_comparison (eq_attr a attr b attr') = is_top a && is_top b
is_comparison t = false

abbrev pub are_two_comparisons : Tests → Bool
are_two_comparisons (test a (test b no_test)) = is_comparison a && is_comparison b
are_two_comparisons tests = false

-- what the outermost variable stands for, a location of his, and how many cards that has
abbrev pub is_outermost : Who → Bool
is_outermost (who_var zero) = true
is_outermost who = false

abbrev pub is_own : CollExpr → Bool
is_own (cards_in loc) = is_outermost loc.who
is_own cards = false

abbrev pub is_own_size : IntExpr → Bool
is_own_size (size_of cards) = is_own cards
is_own_size n = false

abbrev pub is_written_out : IntExpr → Bool
is_written_out (literal value) = true
is_written_out n = false

-- whether he has so many cards there
abbrev pub counts_own : Test → Bool
counts_own (eq_int a b) = is_own_size a && is_written_out b
counts_own t = false

abbrev pub are_players : Domain → Bool
are_players each_player = true
are_players domain = false

-- A test has a flat form that is a comparison; two comparisons that are both to hold; or whether each player has so many cards in
-- a location of his.
abbrev pub has_flat_form : Test → Bool
has_flat_form (and_of tests) = are_two_comparisons tests
has_flat_form (all_of domain bound t) = are_players domain && counts_own t
has_flat_form t = is_comparison t
