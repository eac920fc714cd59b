-- What a stop is worth to one seat in a game of two teams, told without the points of the others: its team takes what
-- is most for it, and the other team what leaves it least.
use Rattle.std.specs.Prelude.{ℕ, zero, suc, ◌==◌, max, min, Bool, if◌then◌else◌, List, length, map, fold, sum_by}
use Rattle.rc_base.specs.Numbers.{below}
use Rattle.rc_sheet_spec.specs.Sheet.{Sheet}
use Rattle.rc_play_spec.specs.Shape.{team_in}
use Rattle.rc_play_spec.specs.About.{About, menu_at}
use Rattle.rc_play_spec.specs.Effects.{Dealing}
use Rattle.rc_play_spec.specs.Step.{Config, Stop, decide, is_done, is_limit}
use Rattle.rc_play_spec.specs.Scores.{scores_of, rank_points}
use Rattle.rc_play_spec.specs.Search.{at_stop, next_behind}

-- whether two players are of one team
abbrev pub is_mate : Sheet → ℕ → ℕ → Bool
is_mate sheet player other = team_in sheet.teams player == team_in sheet.teams other

-- the most rank points that a player may have: two for each player of another team
abbrev pub most_points : Sheet → ℕ → ℕ
most_points sheet player = sum_by (λ other. if is_mate sheet player other then 0 else 2) (below sheet.players)

module _ (about : About) (dealing : Dealing ℕ) (seat : ℕ) where
  -- what is best for the mover, of these points of the seat
  abbrev pub turned_out : ℕ → List ℕ → ℕ
  turned_out mover points =
      if is_mate about.sheet seat mover then fold max 0 points else fold min (most_points about.sheet seat) points

  abbrev pub value : ℕ → Stop → Config → ℕ → ℕ
  value depth is_done c made = rank_points about.sheet (scores_of about c.table c.control) seat
  value depth is_limit c made = rank_points about.sheet (scores_of about c.table c.control) seat
  value zero (decide mover site) c made = rank_points about.sheet (scores_of about c.table c.control) seat
  value (suc depth) (decide mover site) c made =
      let items = below (length (menu_at about site c.table c.control)) in
      turned_out mover (map (λ x. at_stop 0 (value depth) (next_behind about dealing c made x)) items)
