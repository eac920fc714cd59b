-- A small table, to try effects on: three players, of whom two are a team, four cards in a pile, and a list of references.
use Rattle.std.specs.Prelude.{ℕ, List, [], ◌∷◌, pos, None, Some, reverse, false}
use Rattle.rc_base.specs.Numbers.{below}
use Rattle.rc_sheet_spec.specs.Sheet.{game_class, player_class, team_class, vloc, hloc, mem, game, CollExpr, cards_in, literal, eq_int, Effect, stage, Sheet}
use Rattle.rc_play_spec.specs.Control.{Frame}
use Rattle.rc_play_spec.specs.Shape.{shape_of}
use Rattle.rc_play_spec.specs.Table.{opening}
use Rattle.rc_play_spec.specs.About.{about_of}
use Rattle.rc_play_spec.specs.Effects.{Point, does}
use Rattle.rc_play_spec.specs.Match.{counted}
use Rattle.rc_sheet_spec.specs.Lists.{effects_from, items_from}
use Rattle.rc_sheet_spec.specs.PartExamples.{loc_at}
use Rattle.rc_sheet_spec.specs.Examples.{four_cards}

-- a table of one location of cards and one of references
abbrev pub noting : Sheet
noting =
    record four_cards {
      players = 3;
      locs =
          record { name = 0; kind = hloc; class = game_class }
          ∷ record { name = 1; kind = mem; class = game_class }
          ∷ record { name = 2; kind = vloc; class = team_class }
          ∷ [];
      nums = record { name = 0; class = player_class } ∷ [];
      items = items_from (stage 0 player_class (eq_int (literal (pos 0)) (literal (pos 0))) (items_from (
          stage 1 team_class (eq_int (literal (pos 0)) (literal (pos 0))) (items_from []) ∷ [])) ∷ []);
      teams = Some ((0 ∷ 2 ∷ []) ∷ (1 ∷ []) ∷ []);
    }

abbrev pub frame : ℕ → ℕ → Frame
frame n member = record { stage = n; member = member; back = false; named = None }

abbrev pub two_frames : List Frame
two_frames = frame 0 2 ∷ frame 1 0 ∷ []

-- what effects make of the opening, with an order that turns lists round
abbrev pub after_effects : List Effect → Point ℕ
after_effects effects =
    does (about_of noting 9) (counted (λ k size. reverse (below size))) [] (effects_from effects)
    (record { table = opening (shape_of noting); frames = two_frames; dealer = 0 })

abbrev pub stock : CollExpr
stock = cards_in (loc_at game 0 0)

abbrev pub seen : CollExpr
seen = cards_in (loc_at game 1 0)
