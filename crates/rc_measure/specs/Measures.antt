-- What is measured of the matches of a plan.
use Rattle.std.specs.Prelude.{ℕ, ◌/◌, ◌-◌, nat_lt, Bool, true, false, ℤ, pos}
use Rattle.std.specs.Prelude.{List, [], ◌∷◌, length, map, filter, count_by, sum_by, slice_index}
use Rattle.rc_base.specs.Numbers.{below}
use Rattle.rc_base.specs.Limits.{most_sites}
use Rattle.rc_base.specs.Transcript.{Ending, done, limit, Record}
use Rattle.rc_play_spec.specs.Plan.{Plan}
use Rattle.rc_play_spec.specs.House.{points_at, points_in}
use Rattle.rc_measure.specs.Tally.{Tally, every, at_site, by_seat, by_strategy, tally_where}
use Rattle.rc_measure.specs.Turns.{ascending}
use Rattle.rc_measure.specs.Scores.{spread_in}
use Rattle.rc_measure.specs.Leads.{leads_in, is_best_in}

-- The numbers of each line of the text, from left to right.
pub record Measures : Type 0 where
  -- how many matches, and how many of them ended by the turn limit
  pub matches : List ℤ
  -- choices and turns
  pub choices : List ℤ
  -- choices without a choice, and all
  pub forced : List ℤ
  -- items of all menus, and choices
  pub menu : List ℤ
  -- how far the scores of a match lie apart, summed, and matches
  pub spread : List ℤ
  -- changes of the leader, and matches
  pub leads : List ℤ
  -- the smallest turn count, the middle one and the largest
  pub turns : List ℤ
  -- a site: its choices, those without a choice, and the items of their menus
  pub sites : List (List ℤ)
  -- a seat: the same, and its rank points
  pub seats : List (List ℤ)
  -- a strategy: its choices, its rank points, and the matches in which none has more
  pub strategies : List (List ℤ)

abbrev pub numbers : List ℕ → List ℤ
numbers ns = map pos ns

-- the turn limit ended it
abbrev pub is_limit : Ending → Bool
is_limit done = false
is_limit limit = true

abbrev pub is_limited : Record → Bool
is_limited r = is_limit r.ending

-- the turn count at a place of all turn counts in ascending order
abbrev pub turn_at : List Record → ℕ → ℕ
turn_at records place = slice_index (ascending (map (λ r. r.turn) records)) place

-- the smallest turn count, the middle one and the largest
abbrev pub turns_row : List Record → List ℤ
turns_row records =
    let count = length records in
    numbers (turn_at records 0 ∷ turn_at records (count / 2) ∷ turn_at records (count - 1) ∷ [])

-- a choice was made at this site
abbrev pub is_met : List Record → ℕ → Bool
is_met records site = nat_lt 0 (tally_where (at_site site) records).choices

-- the sites with a choice, ascending
unfoldable pub sites_met : List Record → List ℕ
sites_met records = filter (is_met records) (below most_sites)

abbrev pub tally_row : ℕ → Tally → List ℤ
tally_row site t = numbers (site ∷ t.choices ∷ t.forced ∷ t.menu ∷ [])

abbrev pub site_row : List Record → ℕ → List ℤ
site_row records site = tally_row site (tally_where (at_site site) records)

-- a seat's rank points over all matches
abbrev pub seat_points : List Record → ℕ → ℕ
seat_points records seat = sum_by (λ r. points_at r seat) records

abbrev pub seat_row : List Record → ℕ → List ℤ
seat_row records seat =
    let t = tally_where (by_seat seat) records in
    numbers (seat ∷ t.choices ∷ t.forced ∷ t.menu ∷ seat_points records seat ∷ [])

-- a strategy's choices, its rank points over all matches, and in how many matches none has more
abbrev pub strategy_choices : Plan → List Record → ℕ → ℕ
strategy_choices plan records strategy = (tally_where (by_strategy plan strategy) records).choices

abbrev pub strategy_points : Plan → List Record → ℕ → ℕ
strategy_points plan records strategy = sum_by (points_in plan strategy) records

abbrev pub strategy_best : Plan → List Record → ℕ → ℕ
strategy_best plan records strategy = count_by (is_best_in plan strategy) records

abbrev pub strategy_row : Plan → List Record → ℕ → List ℤ
strategy_row plan records strategy =
    numbers (
    strategy ∷ strategy_choices plan records strategy ∷ strategy_points plan records strategy
    ∷ strategy_best plan records strategy ∷ []
    )

abbrev pub measures_of : Plan → List Record → Measures
measures_of plan records =
    let count = length records in
    let all = tally_where every records in
    record {
      matches = numbers (count ∷ count_by is_limited records ∷ []);
      choices = numbers (all.choices ∷ sum_by (λ r. r.turn) records ∷ []);
      forced = numbers (all.forced ∷ all.choices ∷ []);
      menu = numbers (all.menu ∷ all.choices ∷ []);
      spread = spread_in records ∷ pos count ∷ [];
      leads = numbers (leads_in plan records ∷ count ∷ []);
      turns = turns_row records;
      sites = map (site_row records) (sites_met records);
      seats = map (seat_row records) (below (length plan.strategies));
      strategies = map (strategy_row plan records) (below (length plan.strategies));
    }
