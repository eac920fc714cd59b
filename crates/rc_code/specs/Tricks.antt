-- Tests of the trick game of bench/tricks.sheet, and the alternative of its choice, as that sheet has them, wherever the forms of
-- their locations stand. HAND, TRICK and LEAD are its locations 1, 2 and 3, SUIT its attribute 1, BEST its number 0, POWER its
-- point map 0, and 'P, 'C and 'D the words 0, 1 and 2 of its variables.
use Rattle.std.specs.Prelude.{ℕ, pos}
use Rattle.rc_sheet_spec.specs.Sheet.{Who, game, current_player, who_var, card_var, top_card, CollExpr, cards_in, literal, number, size_of, worth_of, Test, eq_int, eq_attr, more, and_of, or_of, not_of, all_of, any_of, no_test, test, each_player, each_card, Effects, Alt, if_alt, any_alt}

abbrev cards : Who → ℕ → ℕ → CollExpr
cards who name at = cards_in (record { who = who; name = name; at = at })

abbrev hand : Who → ℕ → CollExpr
hand who = cards who 1

abbrev trick : ℕ → CollExpr
trick = cards (who_var 0) 2

abbrev lead : ℕ → CollExpr
lead = cards game 3

-- the end of the game, and that of a trick
abbrev pub hands_are_empty : ℕ → Test
hands_are_empty at = all_of each_player 0 (eq_int (size_of (hand (who_var 0) at)) (literal (pos 0)))

abbrev pub all_have_played : ℕ → Test
all_have_played at = all_of each_player 0 (eq_int (size_of (trick at)) (literal (pos 1)))

-- whether the card that is played leads
abbrev pub nobody_has_led : ℕ → Test
nobody_has_led at = eq_int (size_of (lead at)) (literal (pos 0))

-- whether a player's card is of the suit that was led, and better than the best one before
abbrev pub is_best_so_far : ℕ → ℕ → ℕ → Test
is_best_so_far at led again =
    and_of
    (test (eq_attr (top_card (trick at)) 1 (top_card (lead led)) 1)
    (test (more (worth_of (top_card (trick again)) 0) (number (record { who = game; name = 0 }))) no_test))

-- a card of the hand may be played that leads, that follows suit, or where none could
abbrev pub may_be_played : ℕ → ℕ → ℕ → ℕ → Test
may_be_played led at mine other =
    or_of
    (test (nobody_has_led led)
    (test (eq_attr (card_var 0) 1 (top_card (lead at)) 1)
    (test (not_of
    (any_of (each_card (hand current_player mine)) 2 (eq_attr (card_var 1) 1 (top_card (lead other)) 1))) no_test)))

abbrev pub plays_a_card : ℕ → Test → Effects → Alt
plays_a_card at guard effects = any_alt (each_card (hand current_player at)) 1 (if_alt guard effects)
