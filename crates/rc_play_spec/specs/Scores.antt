-- Scores: each player's score at the end of a play, the rank points for it, and the record of the play.
use Rattle.std.specs.Prelude.{ℕ, ◌==◌, Bool, if◌then◌else◌, List, [], ◌∷◌, map, fold, filter, sum_by, slice_index_or, ℤ, pos, ◌+ℤ◌, int_lt}
use Rattle.std.specs.Ordering.{int_eq}
use Rattle.rc_base.specs.Numbers.{below}
use Rattle.rc_base.specs.Transcript.{Score, Record}
use Rattle.rc_sheet_spec.specs.Sheet.{Best, highest, lowest, Sheet}
use Rattle.rc_play_spec.specs.Control.{Control}
use Rattle.rc_play_spec.specs.Shape.{team_in}
use Rattle.rc_play_spec.specs.Table.{Table}
use Rattle.rc_play_spec.specs.Value.{player_bound, int_value}
use Rattle.rc_play_spec.specs.About.{About, scene_at}
use Rattle.rc_play_spec.specs.Play.{Played}

-- a player's score, with whom `scoring` reads as its one variable
abbrev pub score_of : About → Table → Control → ℕ → ℤ
score_of about table control player =
    int_value (scene_at about table control.frames) (player_bound player ∷ []) about.sheet.score

abbrev pub scores_of : About → Table → Control → List ℤ
scores_of about table control = map (score_of about table control) (below about.sheet.players)

-- a team's score: the exact sum of its members' scores
abbrev pub team_score : Sheet → List ℤ → ℕ → ℤ
team_score sheet scores team =
    fold ◌+ℤ◌ (pos 0)
    (map (λ player. slice_index_or scores player (pos 0))
    (filter (λ player. team_in sheet.teams player == team) (below sheet.players)))

-- whether a score is worse than another: smaller where the highest is best, and larger where the lowest is
abbrev pub is_worse : Best → ℤ → ℤ → Bool
is_worse highest score than = int_lt score than
is_worse lowest score than = int_lt than score

-- what a player of this team gets for another one: two where that one's team score is worse, one where it is equal, and nothing
-- for one of the same team
abbrev pub points_against : Sheet → List ℤ → ℕ → ℕ → ℕ
points_against sheet scores team other =
    let score = team_score sheet scores team in
    let score' = team_score sheet scores other in
    if team == other then 0 else if is_worse sheet.best score' score then 2 else if int_eq score' score then 1 else 0

-- a player's rank points: the sum over all players
abbrev pub rank_points : Sheet → List ℤ → ℕ → ℕ
rank_points sheet scores player =
    sum_by (λ other. points_against sheet scores (team_in sheet.teams player) (team_in sheet.teams other))
    (below sheet.players)

abbrev pub score_at : About → List ℤ → ℕ → Score
score_at about scores player =
    record {
      player = player;
      score = slice_index_or scores player (pos 0);
      points = rank_points about.sheet scores player;
    }

-- the record of a play that has ended; the dealer's state there is the count of its shuffles
abbrev pub record_of : About → ℕ → ℕ → ℕ → Played ℕ → Record
record_of about number deal seats p =
    record {
      number = number;
      deal = deal;
      seats = seats;
      picks = p.picks;
      shuffles = p.dealer;
      ending = p.ending;
      turn = p.control.turn;
      scores = map (score_at about (scores_of about p.table p.control)) (below about.sheet.players);
    }
