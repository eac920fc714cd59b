-- Statements of laws of measures.
use Rattle.std.specs.Prelude.{◌≡◌, ℕ, ◌<◌, ◌≤◌, ◌-◌, ◌/◌, List, length, sum_by, slice_index, IsTrue, IsPermutation}
use Rattle.std.specs.List.{AllByRecursion}
use Rattle.std.specs.List.Sorted.{IsNonDecreasing}
use Rattle.rc_base.specs.Numbers.{below}
use Rattle.rc_base.specs.Limits.{most_sites}
use Rattle.rc_base.specs.Transcript.{Pick, Record}
use Rattle.rc_play_spec.specs.Plan.{Plan}
use Rattle.rc_measure.specs.Tally.{Test, every, at_site, by_seat, tally_where}
use Rattle.rc_measure.specs.Turns.{ascending}
use Rattle.rc_measure.specs.Leads.{leader, leads_in, is_best_in}
use Rattle.rc_measure.specs.Measures.{seat_points, strategy_choices, strategy_points, strategy_best}
use Rattle.rc_measure.specs.Measures.{turn_at, sites_met, measures_of}
use Rattle.rc_measure.specs.Text.{HasNumbers}

-- what holds of each choice of these matches
abbrev pub EachPick : (Pick → Type 0) → List Record → Type 0
EachPick P records = AllByRecursion (λ r. AllByRecursion P r.picks) records

-- the choices of all sites together are all choices, where the sites are numbered below their limit
abbrev pub SitesAddUp : Type 0
SitesAddUp =
    (records : List Record) → EachPick (λ p. p.site < most_sites) records →
    sum_by (λ site. (tally_where (at_site site) records).choices) (sites_met records)
    ≡ (tally_where every records).choices

-- and those of all seats, where the seats are numbered below their number
abbrev pub SeatsAddUp : Type 0
SeatsAddUp =
    (plan : Plan) (records : List Record) → EachPick (λ p. p.seat < length plan.strategies) records →
    sum_by (λ seat. (tally_where (by_seat seat) records).choices) (below (length plan.strategies))
    ≡ (tally_where every records).choices

-- and those of all strategies, where there is one
abbrev pub StrategiesAddUp : Type 0
StrategiesAddUp =
    (plan : Plan) (records : List Record) → 0 < length plan.strategies →
    sum_by (strategy_choices plan records) (below (length plan.strategies)) ≡ (tally_where every records).choices

-- the strategies have the rank points that the seats have
abbrev pub PointsAddUp : Type 0
PointsAddUp =
    (plan : Plan) (records : List Record) →
    sum_by (strategy_points plan records) (below (length plan.strategies))
    ≡ sum_by (seat_points records) (below (length plan.strategies))

-- in each match there is a strategy that none has more rank points than, where there is a strategy
abbrev pub MatchesHaveBest : Type 0
MatchesHaveBest =
    (plan : Plan) (r : Record) → 0 < length plan.strategies →
    (strategy : ℕ) × (strategy < length plan.strategies) × IsTrue (is_best_in plan strategy r)

-- so the matches in which each is such a strategy add up to all matches at least
abbrev pub BestAddUp : Type 0
BestAddUp =
    (plan : Plan) (records : List Record) → 0 < length plan.strategies →
    length records ≤ sum_by (strategy_best plan records) (below (length plan.strategies))

-- at most all choices leave nothing to choose
abbrev pub ForcedAreFew : Type 0
ForcedAreFew =
    (test : Test) (records : List Record) → (tally_where test records).forced ≤ (tally_where test records).choices

-- where each menu has an item, there are at least as many items as choices
abbrev pub MenusAreLong : Type 0
MenusAreLong =
    (test : Test) (records : List Record) → EachPick (λ p. 1 ≤ p.size) records →
    (tally_where test records).choices ≤ (tally_where test records).menu

-- the leader changes fewer times than there are matches
abbrev pub LeadsAreFewer : Type 0
LeadsAreFewer = (plan : Plan) (records : List Record) → 0 < length records → leads_in plan records < length records

-- no strategy has more points than the leader, and none before it has as many
pub record IsLeader (points : List ℕ) (k : ℕ) : Type 0 where
  pub there : k < length points
  pub most : (j : ℕ) → j < length points → slice_index points j ≤ slice_index points k
  pub first : (j : ℕ) → j < k → slice_index points j < slice_index points k

abbrev pub LeaderHasMost : Type 0
LeaderHasMost = (points : List ℕ) → 0 < length points → IsLeader points (leader points)

-- the ascending list has the turn counts in order, and it is the only one that has
pub record IsInOrder (turns sorted : List ℕ) : Type 0 where
  pub same : IsPermutation turns sorted
  pub order : IsNonDecreasing sorted

abbrev pub AscendingIsInOrder : Type 0
AscendingIsInOrder = (turns : List ℕ) → IsInOrder turns (ascending turns)

abbrev pub AscendingIsTheOne : Type 0
AscendingIsTheOne = (turns sorted : List ℕ) → IsInOrder turns sorted → sorted ≡ ascending turns

-- the three turn counts ascend
abbrev pub TurnsAscend : Type 0
TurnsAscend =
    (records : List Record) → 0 < length records →
    (turn_at records 0 ≤ turn_at records (length records / 2))
    × (turn_at records (length records / 2) ≤ turn_at records (length records - 1))

-- each list of measures has the numbers of its line
abbrev pub MeasuresHaveNumbers : Type 0
MeasuresHaveNumbers = (plan : Plan) (records : List Record) → HasNumbers (measures_of plan records)
