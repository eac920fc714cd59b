-- Statements of laws of standings: each strategy stands there once, in the order by points and then by number, with its points and
-- its place.
use Rattle.std.specs.Prelude.{◌≡◌, ◌+◌, ◌<◌, nat_lt, ◌⊎◌, List, length, map, count_by, slice_index, All, AllPairs, IsPermutation}
use Rattle.rc_base.specs.Numbers.{below}
use Rattle.rc_base.specs.Transcript.{Record, Standing}
use Rattle.rc_play_spec.specs.Plan.{Plan}
use Rattle.rc_play_spec.specs.House.{points_of, standings_of}

-- one has more points than another, or as many and the lower number
abbrev pub RanksBefore : Standing → Standing → Type 0
RanksBefore s t = (t.points < s.points) ⊎ ((s.points ≡ t.points) × (s.strategy < t.strategy))

-- the strategies of the standings are those of the plan, each once
abbrev pub EachRanksOnce : Type 0
EachRanksOnce =
    (plan : Plan) (records : List Record) →
    IsPermutation (below (length plan.strategies)) (map (λ s. s.strategy) (standings_of plan records))

-- each stands before all later ones
abbrev pub StandingsAreInOrder : Type 0
StandingsAreInOrder = (plan : Plan) (records : List Record) → AllPairs RanksBefore (standings_of plan records)

-- each tells its strategy's points
abbrev pub StandingsTellPoints : Type 0
StandingsTellPoints =
    (plan : Plan) (records : List Record) →
    All (λ s. s.points ≡ slice_index (points_of plan records) s.strategy) (standings_of plan records)

-- and its place is one plus the number of those with more points
abbrev pub PlacesCountAhead : Type 0
PlacesCountAhead =
    (plan : Plan) (records : List Record) →
    All (λ s. s.place ≡ 1 + count_by (λ t. nat_lt s.points t.points) (standings_of plan records))
    (standings_of plan records)
