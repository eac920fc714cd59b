-- Sheets whose plays are known, to try the definitions on.
use Rattle.std.specs.Prelude.{ℕ, List, [], ◌∷◌, codes, pos, Option, None, map}
use Rattle.rc_base.specs.Numbers.{below}
use Rattle.rc_base.specs.Deck.{no_group, group, no_branch, branch, Branches}
use Rattle.rc_sheet_spec.specs.Sheet.{highest, lowest, game_class, player_class, vloc, iloc, hloc, game, current_player, who_var, top, card_var, top_card, cards_in, number, sum_of, size_of, literal, eq_int, more, all_of, each_player, each_card, Effect, move, shuffle, increase, repeat, for_each, when, turn_round, Alt, do_alt, if_alt, any_alt, SheetItem, do_item, stage, choice, Sheet}
use Rattle.rc_play_spec.specs.About.{about_of}
use Rattle.rc_play_spec.specs.Plan.{Strategy, scripted, Deal}
use Rattle.rc_play_spec.specs.Draws.{Draws}
use Rattle.rc_play_spec.specs.Strategy.{choice_by}
use Rattle.rc_play_spec.specs.Play.{Played}
use Rattle.rc_play_spec.specs.Match.{dealing_by, play_of}
use Rattle.rc_play_spec.specs.House.{house_text_by}
use Rattle.rc_sheet_spec.specs.Lists.{effects_from, items_from}
use Rattle.rc_sheet_spec.specs.PartExamples.{loc_at, num_of}
use Rattle.rc_sheet_spec.specs.Examples.{four_cards}

-- keys that give the first item, and leave each list as it is
abbrev pub still : Draws
still = record { pick = λ a b c d n. 0; order = λ a b c d size. below size }

-- no seat makes playouts
abbrev pub plan_text : Sheet → List Strategy → List Deal → ℕ → List ℕ
plan_text sheet strategies matches turns =
    let about = about_of sheet turns in
    house_text_by about (dealing_by still) (choice_by about still (λ rounds key seed view. []))
    (record { strategies = strategies; matches = matches; turns = turns })

abbrev pub zeros : Deal
zeros = record { deal = 0; seats = 0 }

-- one match of seats that go by these scripts
abbrev pub script_text : Sheet → List (List ℕ) → ℕ → List ℕ
script_text sheet scripts turns = plan_text sheet (map scripted scripts) (zeros ∷ []) turns

abbrev pub two : List (List ℕ)
two = [] ∷ [] ∷ []

abbrev pub three : List (List ℕ)
three = [] ∷ [] ∷ [] ∷ []

-- the play of that match
abbrev pub script_play : Sheet → List (List ℕ) → ℕ → Option (Played ℕ)
script_play sheet scripts turns =
    let about = about_of sheet turns in
    play_of about (dealing_by still) (choice_by about still (λ rounds key seed view. []))
    (record { strategies = map scripted scripts; matches = zeros ∷ []; turns = turns }) 0

abbrev pub deal_item : SheetItem
deal_item =
    do_item (effects_from (
    for_each each_player 0 (effects_from (
    repeat (literal (pos 2)) (effects_from (
    move (top_card (cards_in (loc_at game 0 202))) top (loc_at (who_var 0) 1 226) ∷ [])) ∷ [])) ∷ []))

abbrev pub offering : Alt → Sheet
offering alt =
    record four_cards {
      items = items_from (
          deal_item
          ∷ stage 0 player_class
          (all_of each_player 0 (eq_int (size_of (cards_in (loc_at (who_var 0) 1 289))) (literal (pos 0))))
          (items_from (choice 0 (any_alt (each_card (cards_in (loc_at current_player 1 323))) 1 alt ∷ []) ∷ []))
          ∷ []);
    }

abbrev play_it : Effect
play_it = move (card_var 0) top (loc_at current_player 2 373)

-- the effect counts hands that are worth much before the card is played
abbrev pub counting : Sheet
counting =
    record (offering (do_alt (effects_from (
    for_each each_player 0 (effects_from (
    when (more (sum_of (cards_in (loc_at (who_var 1) 1 0)) 0) (literal (pos 100))) (effects_from (
    increase (num_of game 0) (literal (pos 1)) ∷ [])) ∷ []))
    ∷ play_it ∷ [])))) { nums = record { name = 0; class = game_class } ∷ [] }

-- no card may be played
abbrev pub refusing : Sheet
refusing = offering (if_alt (eq_int (literal (pos 0)) (literal (pos 1))) (effects_from (play_it ∷ [])))

-- a card goes over a pile of the game
abbrev pub by_way_of_pile : Sheet
by_way_of_pile =
    record (offering (do_alt (effects_from (move (card_var 0) top (loc_at game 3 0) ∷ play_it ∷ [])))) {
      locs =
          record { name = 0; kind = hloc; class = game_class }
          ∷ record { name = 1; kind = iloc; class = player_class }
          ∷ record { name = 2; kind = vloc; class = player_class }
          ∷ record { name = 3; kind = vloc; class = game_class }
          ∷ [];
    }

abbrev pub few_points : Sheet
few_points = record four_cards { best = lowest }

-- one number counts to 4, with one more effect each time
abbrev pub counting_to_four : Effect → Sheet
counting_to_four e =
    record {
      players = 3;
      teams = None;
      names = record {
        attrs = codes "A" ∷ [];
        values = codes "X" ∷ [];
        maps = [];
        locs = codes "BOX" ∷ [];
        nums = codes "N" ∷ [];
        vars = [];
      };
      decks = record { loc = 0; groups = group 0 (branch 0 no_group no_branch) no_group } ∷ [];
      points = [];
      locs = record { name = 0; kind = hloc; class = game_class } ∷ [];
      nums = record { name = 0; class = game_class } ∷ [];
      items = items_from (
          stage 0 player_class (eq_int (number (num_of game 0)) (literal (pos 4)))
          (items_from
          (choice 0 (do_alt (effects_from (increase (num_of game 0) (literal (pos 1)) ∷ e ∷ [])) ∷ []) ∷ []))
          ∷ []);
      best = highest;
      score = number (num_of game 0);
    }

-- the number rises, and the direction is turned each time
abbrev pub turning : Sheet
turning = counting_to_four turn_round

abbrev pub turning_text : List ℕ
turning_text = codes "(game (setup (create players 3) (create deck (game hloc BOX) (deck (A (X))))) (stage player (end (= (game sto N) 4)) (choice (do (inc (game sto N) 1) (cycle reverse)))) (scoring max (game sto N)))"

abbrev pub branches_from : List ℕ → Branches
branches_from [] = no_branch
branches_from (v ∷ vs) = branch v no_group (branches_from vs)

-- a pile of 300 cards, any of which may be chosen
abbrev pub large_pile : Sheet
large_pile =
    record four_cards {
      players = 1;
      decks =
          record { loc = 0; groups = group 0 (branches_from (below 20)) (group 1 (branches_from (below 15)) no_group) }
          ∷ [];
      locs = record { name = 0; kind = vloc; class = game_class } ∷ [];
      items = items_from (
          stage 0 player_class (eq_int (literal (pos 0)) (literal (pos 1)))
          (items_from
          (choice 0 (any_alt (each_card (cards_in (loc_at game 0 0))) 0 (do_alt (effects_from (turn_round ∷ [])))
          ∷ []) ∷ []))
          ∷ []);
      score = literal (pos 0);
    }

-- two players with twenty cards each, out of forty
abbrev pub forty_cards : Sheet
forty_cards =
    record four_cards {
      decks = record { loc = 0; groups = group 0 (branches_from (below 40)) no_group } ∷ [];
      items = items_from (
          do_item (effects_from (
          shuffle (loc_at game 0 0)
          ∷ for_each each_player 0 (effects_from (
          repeat (literal (pos 20)) (effects_from (
          move (top_card (cards_in (loc_at game 0 202))) top (loc_at (who_var 0) 1 226) ∷ [])) ∷ [])) ∷ []))
          ∷ stage 0 player_class
          (all_of each_player 0 (eq_int (size_of (cards_in (loc_at (who_var 0) 1 289))) (literal (pos 0))))
          (items_from
          (choice 0 (any_alt (each_card (cards_in (loc_at current_player 1 323))) 1
          (do_alt (effects_from (play_it ∷ []))) ∷ []) ∷ []))
          ∷ []);
    }
