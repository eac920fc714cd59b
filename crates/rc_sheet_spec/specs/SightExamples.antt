-- Sheets with one choice, to try the sight rule on. A location's offset is the one that the example gives it.
use Rattle.std.specs.Prelude.{ℕ, List, [], ◌∷◌, pos}
use Rattle.rc_sheet_spec.specs.Sheet.{vloc, iloc, hloc, mem, game_class, player_class, team_class, LocName, game, current_player, who_var, top, each_player, each_card, CollExpr, cards_in, top_card, IntExpr, literal, size_of, Test, all_of, eq_int, move, Effects, Alt, do_alt, if_alt, any_alt, stage, choice, Sheet}
use Rattle.rc_sheet_spec.specs.Lists.{effects_from, items_from}
use Rattle.rc_sheet_spec.specs.Examples.{four_cards}
use Rattle.rc_sheet_spec.specs.PartExamples.{loc_at}

-- locations of each kind, and of the game, of players and of teams
abbrev pub pile : ℕ
pile = 0

abbrev pub hand : ℕ
hand = 1

abbrev pub bank : ℕ
bank = 2

abbrev pub stock : ℕ
stock = 3

abbrev pub lead : ℕ
lead = 4

abbrev pub loc_names : List LocName
loc_names =
    record { name = pile; kind = vloc; class = game_class }
    ∷ record { name = hand; kind = iloc; class = player_class }
    ∷ record { name = bank; kind = iloc; class = team_class }
    ∷ record { name = stock; kind = hloc; class = game_class }
    ∷ record { name = lead; kind = mem; class = game_class }
    ∷ []

abbrev pub pile_at : ℕ → CollExpr
pile_at at = cards_in (loc_at game pile at)

abbrev pub stock_at : ℕ → CollExpr
stock_at at = cards_in (loc_at game stock at)

-- effects that read a location which nobody sees, and the end of a stage that reads every hand
abbrev pub dealt : Effects
dealt = effects_from (move (top_card (stock_at 70)) top (loc_at current_player hand 80) ∷ [])

abbrev pub no_cards_left : Test
no_cards_left = all_of each_player 0 (eq_int (size_of (cards_in (loc_at (who_var 0) hand 10))) (literal (pos 0)))

-- a stage with a choice of these alternatives
abbrev pub offering : List Alt → Sheet
offering alts =
    record four_cards {
      locs = loc_names;
      items = items_from (stage 0 player_class no_cards_left (items_from (choice 0 alts ∷ [])) ∷ []);
    }

-- a choice of these cards
abbrev pub offering_cards : CollExpr → Sheet
offering_cards cards = offering (any_alt (each_card cards) 1 (do_alt dealt) ∷ [])

-- an alternative where the test holds
abbrev pub offering_where : Test → Sheet
offering_where guard = offering (if_alt guard dealt ∷ [])

-- an alternative where the number is 0
abbrev pub offering_where_zero : IntExpr → Sheet
offering_where_zero n = offering_where (eq_int n (literal (pos 0)))
