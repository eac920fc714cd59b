-- Which strategy leads after so many matches, and how often that changes.
use Rattle.std.specs.Prelude.{ℕ, ◌+◌, ◌-◌, ◌==◌, nat_le, Bool, not, List, length, take, count_by}
use Rattle.std.specs.List.{list_all, position_or_len, range_with_len}
use Rattle.rc_base.specs.Numbers.{below}
use Rattle.rc_base.specs.Transcript.{Record}
use Rattle.rc_play_spec.specs.Plan.{Plan}
use Rattle.rc_play_spec.specs.House.{points_in, points_of, ahead}

-- the first strategy that none is ahead of
abbrev pub leader : List ℕ → ℕ
leader points = position_or_len (λ most. ahead points most == 0) points

-- the leader after the first n matches, by the rank points of all of these
abbrev pub leader_after : Plan → List Record → ℕ → ℕ
leader_after plan records n = leader (points_of plan (take n records))

-- another one leads after one match more
abbrev pub changes_at : Plan → List Record → ℕ → Bool
changes_at plan records n = not (leader_after plan records n == leader_after plan records (n + 1))

-- how often, from the first match on
abbrev pub leads_in : Plan → List Record → ℕ
leads_in plan records = count_by (changes_at plan records) (range_with_len 1 (length records - 1))

-- no strategy has more rank points in this match
abbrev pub is_best_in : Plan → ℕ → Record → Bool
is_best_in plan strategy r =
    list_all (λ other. nat_le (points_in plan other r) (points_in plan strategy r)) (below (length plan.strategies))
