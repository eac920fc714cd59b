-- What `bench N` plays, and what it writes.
use Rattle.std.specs.Prelude.{ℕ, Bool, true, false, List, [], ◌∷◌, ◌++◌, length, codes, decimal, flat_map, count_by, sum_by}
use Rattle.rc_base.specs.Transcript.{Record, Standing, Ending, done, limit, line, standing_line}
use Rattle.rc_play_spec.specs.Plan.{Plan, random, rollout}
use Rattle.rc_play_spec.specs.PlanStands.{counted_from}

-- two seats that pick by chance and two that roll out, over N matches from deal N and seed 1,000 on
abbrev pub bench_plan : ℕ → Plan
bench_plan n = record {
  strategies = random 1 ∷ rollout 4 2 ∷ random 3 ∷ rollout 4 4 ∷ [];
  matches = counted_from (record { deal = n; seats = 1000 }) n;
  turns = 64;
}

-- how many choices were made in all matches
abbrev pub decisions : List Record → ℕ
decisions = sum_by (λ r. length r.picks)

abbrev pub is_limit : Ending → Bool
is_limit done = false
is_limit limit = true

-- how many matches the turn limit ended
abbrev pub limits : List Record → ℕ
limits = count_by (λ r. is_limit r.ending)

-- the numbers of the matches, and the standings
abbrev pub bench_text : ℕ → List Record → List Standing → List ℕ
bench_text n records standings =
    line (codes "bench " ++ decimal n) ++ line (codes "matches " ++ decimal (length records))
    ++ line (codes "decisions " ++ decimal (decisions records)) ++ line (codes "limits " ++ decimal (limits records))
    ++ flat_map standing_line standings
