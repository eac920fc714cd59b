-- A decision of a small match, and plans of rollouts, to try what keys make of them.
use Rattle.std.specs.Prelude.{ℕ, List, [], ◌∷◌, Option, Some, None, false, map, pos}
use Rattle.rc_base.specs.Transcript.{Pick}
use Rattle.rc_base.specs.Deck.{no_group, group, no_branch, branch}
use Rattle.rc_sheet_spec.specs.Sheet.{Sheet, player_class, game, current_player, who_var, top, card_var, top_card, cards_in, size_of, literal, eq_int, all_of, each_player, each_card, move, shuffle, repeat, for_each, do_alt, any_alt, do_item, stage, choice}
use Rattle.rc_sheet_spec.specs.Lists.{effects_from, items_from}
use Rattle.rc_sheet_spec.specs.PartExamples.{loc_at}
use Rattle.rc_sheet_spec.specs.Examples.{four_cards}
use Rattle.rc_play_spec.specs.Control.{Control}
use Rattle.rc_play_spec.specs.Table.{Table}
use Rattle.rc_play_spec.specs.View.{View, view_of}
use Rattle.rc_play_spec.specs.About.{About, about_of}
use Rattle.rc_play_spec.specs.Play.{Played}
use Rattle.rc_play_spec.specs.Plan.{Plan, Deal, rollout}
use Rattle.rc_play_spec.specs.Tally.{Ask}

abbrev pub four : About
four = about_of four_cards 100

-- seat 0 holds the 4 and the 3, seat 1 the 2 and the 1
abbrev pub dealt : Table
dealt = record { lists = [] ∷ (3 ∷ 2 ∷ []) ∷ (1 ∷ 0 ∷ []) ∷ [] ∷ [] ∷ []; numbers = []; marks = [] ∷ [] ∷ [] ∷ [] ∷ [] }

abbrev pub first_control : Control
first_control =
    record {
      site = Some 0;
      frames = record { stage = 0; member = 0; back = false; named = None } ∷ [];
      turn = 1;
      made = 0 ∷ 0 ∷ [];
    }

abbrev pub first_view : View
first_view = view_of four.shape 0 dealt first_control

abbrev pub ask_of : ℕ → Ask
ask_of rounds = record { rounds = rounds; key = 9; seed = 7; view = first_view }

-- six cards; each player takes two, and then the rest is shuffled
abbrev pub six_cards : Sheet
six_cards =
    record four_cards {
      decks = record {
        loc = 0;
        groups =
            group 0 (branch 0 no_group
            (branch 1 no_group (branch 2 no_group (branch 3 no_group (branch 4 no_group (branch 5 no_group no_branch))))))
            no_group;
      } ∷ [];
      points =
          (record { attr = 0; values = 0 ∷ []; points = pos 1 }
          ∷ record { attr = 0; values = 1 ∷ []; points = pos 2 }
          ∷ record { attr = 0; values = 2 ∷ []; points = pos 3 }
          ∷ record { attr = 0; values = 3 ∷ []; points = pos 4 }
          ∷ record { attr = 0; values = 4 ∷ []; points = pos 5 }
          ∷ record { attr = 0; values = 5 ∷ []; points = pos 6 }
          ∷ []) ∷ [];
      items = items_from (
          do_item (effects_from (
          for_each each_player 0 (effects_from (
          repeat (literal (pos 2)) (effects_from (
          move (top_card (cards_in (loc_at game 0 202))) top (loc_at (who_var 0) 1 226) ∷ []))
          ∷ shuffle (loc_at game 0 0) ∷ [])) ∷ []))
          ∷ stage 0 player_class
          (all_of each_player 0 (eq_int (size_of (cards_in (loc_at (who_var 0) 1 289))) (literal (pos 0))))
          (items_from (
          choice 0 (
          any_alt (each_card (cards_in (loc_at current_player 1 323))) 1
          (do_alt (effects_from (move (card_var 0) top (loc_at current_player 2 373) ∷ []))) ∷ []) ∷ []))
          ∷ []);
    }

-- two seats that roll out, in a match for each of these seeds of shuffles
abbrev pub rolled_plan : List Deal → Plan
rolled_plan matches = record { strategies = rollout 4 9 ∷ rollout 4 9 ∷ []; matches = matches; turns = 100 }

abbrev pub deals_of : List ℕ → List Deal
deals_of seeds = map (λ deal. record { deal = deal; seats = 7 }) seeds

abbrev pub items_of : Option (Played ℕ) → List ℕ
items_of None = []
items_of (Some p) = map (λ (pick : Pick). pick.item) p.picks

-- how many shuffles there were, and the turn count
abbrev pub end_of : Option (Played ℕ) → List ℕ
end_of None = []
end_of (Some p) = p.dealer ∷ p.control.turn ∷ []
