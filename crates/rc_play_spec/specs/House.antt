-- The house text of a plan: the records of its matches, and the standings of its strategies.
use Rattle.std.specs.Prelude.{ℕ, ◌+◌, ◌==◌, nat_lt, List, length, map, flat_map, filter, filter_map, count_by, sum_by, slice_index}
use Rattle.rc_base.specs.Numbers.{below}
use Rattle.rc_base.specs.Transcript.{Record, Standing, house_text}
use Rattle.rc_play_spec.specs.About.{About}
use Rattle.rc_play_spec.specs.Effects.{Dealing}
use Rattle.rc_play_spec.specs.Plan.{Plan, strategy_held}
use Rattle.rc_play_spec.specs.Strategy.{Choice}
use Rattle.rc_play_spec.specs.Match.{match_of}

-- the rank points of a seat in a match
abbrev pub points_at : Record → ℕ → ℕ
points_at r seat = slice_index (map (λ s. s.points) r.scores) seat

-- the rank points of the seat that had the strategy in a match
abbrev pub points_in : Plan → ℕ → Record → ℕ
points_in plan strategy r =
    sum_by (points_at r)
    (filter (λ seat. strategy_held plan r.number seat == strategy) (below (length plan.strategies)))

-- the points of each strategy: the sum over all matches, those that the turn limit ended too
abbrev pub points_of : Plan → List Record → List ℕ
points_of plan records = map (λ strategy. sum_by (points_in plan strategy) records) (below (length plan.strategies))

-- how many strategies have more points than so many
abbrev pub ahead : List ℕ → ℕ → ℕ
ahead points most = count_by (nat_lt most) points

-- Where a strategy stands in the order by points, from many to few, and then by number: behind all with more points, and behind
-- those with as many that have lower numbers.
abbrev pub rank_of : List ℕ → ℕ → ℕ
rank_of points strategy =
    let most = slice_index points strategy in
    ahead points most + count_by (λ other. slice_index points other == most) (below strategy)

-- the place is one plus the number of strategies with more points
abbrev pub standing_of : List ℕ → ℕ → Standing
standing_of points strategy =
    let most =
    slice_index points strategy in record { place = 1 + ahead points most; strategy = strategy; points = most }

-- the standings in order: at each rank the strategy that has it
abbrev pub in_order : List ℕ → List Standing
in_order points =
    flat_map (λ rank. map (standing_of points)
    (filter (λ strategy. rank_of points strategy == rank) (below (length points)))) (below (length points))

abbrev pub standings_of : Plan → List Record → List Standing
standings_of plan records = in_order (points_of plan records)

-- The records of a plan's matches, in order. None is left out, since every match has one: the law EveryMatchHasRecord of StepLaws.antt.
abbrev pub records_of : About → (ℕ → Dealing ℕ) → Choice → Plan → List Record
records_of about dealing chosen plan = filter_map (match_of about dealing chosen plan) (below (length plan.matches))

-- The house text, by the dealing of each match and by what strategies choose. What a plan's keys make of it is
-- keyed_house_text in Keyed.antt.
abbrev pub house_text_by : About → (ℕ → Dealing ℕ) → Choice → Plan → List ℕ
house_text_by about dealing chosen plan =
    let records = records_of about dealing chosen plan in house_text records (standings_of plan records)
