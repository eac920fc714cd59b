-- A small moment of a match, to try the definitions on: three players in two teams, five cards of three ranks.
use Rattle.std.specs.Prelude.{ℕ, false, List, [], ◌∷◌, pos, neg_ℤ, Some, None}
use Rattle.rc_base.specs.Deck.{Face}
use Rattle.rc_sheet_spec.specs.Sheet.{Sheet, vloc, iloc, hloc, mem, game_class, player_class, team_class, Who, Loc, CollExpr, cards_in, stage, literal, eq_int, do_item, no_effect}
use Rattle.rc_sheet_spec.specs.Lists.{items_from}
use Rattle.rc_sheet_spec.specs.Examples.{four_cards}
use Rattle.rc_play_spec.specs.Control.{Control, Frame}
use Rattle.rc_play_spec.specs.Shape.{Shape, shape_of}
use Rattle.rc_play_spec.specs.Table.{Table}
use Rattle.rc_play_spec.specs.Value.{Scene, Bind, player_bound}
use Rattle.rc_play_spec.specs.Scene.{CardValue, scene_of}

abbrev pub loc_of : Who → ℕ → Loc
loc_of who name = record { who = who; name = name; at = 0 }

abbrev pub cards_of : Who → ℕ → CollExpr
cards_of who name = cards_in (loc_of who name)

-- Locations by number: 0 the pile of all, 1 and 2 hands, 3 and 4 banks of the teams, 5 references. Numbers: 0 of the game, 1
-- to 3 of the players. Ranks are values 10, 11, 12 of attribute 0; attribute 1 is a suit that one card lacks. Map 0: the
-- rank's points 1, 2, 3; map 1: a lot of points.
abbrev pub small_sheet : Sheet
small_sheet =
    record four_cards {
      players = 3;
      teams = Some ((1 ∷ []) ∷ (2 ∷ 0 ∷ []) ∷ []);
      points =
          (record { attr = 0; values = 10 ∷ []; points = pos 1 }
          ∷ record { attr = 0; values = 11 ∷ []; points = pos 2 }
          ∷ record { attr = 0; values = 12 ∷ []; points = pos 3 } ∷ [])
          ∷ (record { attr = 0; values = 10 ∷ 11 ∷ 12 ∷ []; points = pos 900000000 } ∷ []) ∷ [];
      locs =
          record { name = 0; kind = vloc; class = game_class }
          ∷ record { name = 1; kind = iloc; class = player_class }
          ∷ record { name = 2; kind = hloc; class = team_class }
          ∷ record { name = 3; kind = mem; class = game_class } ∷ [];
      nums = record { name = 0; class = game_class } ∷ record { name = 1; class = player_class } ∷ [];
      items = items_from (
          stage 0 player_class (eq_int (literal (pos 0)) (literal (pos 0))) (items_from (
          stage 1 team_class (eq_int (literal (pos 0)) (literal (pos 0))) (items_from (do_item no_effect ∷ [])) ∷ []))
          ∷ []);
    }

-- by id: 10 of hearts, 11 of spades, 12 without a suit, 11 of spades again, 12 of hearts
abbrev pub small_faces : List Face
small_faces =
    ((0, 10) ∷ (1, 20) ∷ []) ∷ ((0, 11) ∷ (1, 21) ∷ []) ∷ ((0, 12) ∷ []) ∷ ((0, 11) ∷ (1, 21) ∷ [])
    ∷ ((0, 12) ∷ (1, 20) ∷ []) ∷ []

-- the shape of the sheet, with these cards
abbrev pub small_shape : Shape
small_shape = record (shape_of small_sheet) { faces = small_faces }

abbrev pub small_table : Table
small_table =
    record {
      lists = (0 ∷ 1 ∷ 2 ∷ []) ∷ [] ∷ (3 ∷ 4 ∷ []) ∷ [] ∷ [] ∷ [] ∷ (4 ∷ 3 ∷ []) ∷ [];
      numbers = pos 7 ∷ pos 1 ∷ neg_ℤ (pos 2) ∷ pos 3 ∷ [];
      marks = [] ∷ [] ∷ [] ∷ (0 ∷ []) ∷ [] ∷ [];
    }

abbrev pub frame_of : ℕ → ℕ → Frame
frame_of number member = record { stage = number; member = member; back = false; named = None }

-- player 1 is the current one, and team 0 the current team
abbrev pub small_control : Control
small_control = record { site = None; frames = frame_of 0 1 ∷ frame_of 1 0 ∷ []; turn = 4; made = 1 ∷ 1 ∷ 1 ∷ [] }

abbrev pub small : Scene CardValue
small = scene_of small_sheet small_shape small_table small_control.frames

-- one variable, a player
abbrev pub bound_to : ℕ → List (Bind CardValue)
bound_to n = player_bound n ∷ []
