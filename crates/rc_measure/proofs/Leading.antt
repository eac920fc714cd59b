-- The leader, and how often it changes.
use Rattle.std.proofs.Common.{◌≡◌, ℕ, zero, suc, ◌-◌, ◌<◌, ◌≤◌, ◌==◌, nat_lt, Bool, cond, List, [], ◌∷◌, length, get_or, ◌⊎◌, inl, inr, refl, arith}
use Rattle.std.specs.List.{AllByRecursion, range_with_len}
use Rattle.std.proofs.lemmas.Bool.{cond-true, cond-false, lt-ltb, le-ltb, eq-eqb, eqb-true, cases_lt, both_ways}
use Rattle.std.proofs.lemmas.List.Sums.{sum_by-cons, count_by-le-length, fails_before_first, passes_at_first}
use Rattle.std.proofs.lemmas.List.FromFn.{length-range_with_len}
use Rattle.rc_base.specs.Transcript.{Record}
use Rattle.rc_deck.proofs.EachLemmas.{at_most_each}
use Rattle.rc_play_spec.specs.Plan.{Plan}
use Rattle.rc_play_spec.specs.House.{ahead}
use Rattle.rc_measure.specs.Leads.{leader, leads_in, changes_at}
use Rattle.rc_measure.specs.Laws.{IsLeader}

-- none is ahead of so many points exactly where each has at most as many
none_ahead : (points : List ℕ) (most : ℕ) → AllByRecursion (λ n. n ≤ most) points → ahead points most ≡ 0
none_ahead [] most all = refl
none_ahead (n ∷ points) most all =
    omega (arith, sum_by-cons (λ n. cond (nat_lt most n) 1 0) n points, cond-false {A = ℕ} (nat_lt most n) 1 0 (le-ltb most n all.0), none_ahead points most all.1)

ahead_of_none : (points : List ℕ) (most j : ℕ) → ahead points most ≡ 0 → j < length points → most < get_or points j 0 → ⊥
ahead_of_none [] most j none there less = absurd (omega arith)
ahead_of_none (n ∷ points) most zero none there less =
    absurd (omega (arith, none, sum_by-cons (λ n. cond (nat_lt most n) 1 0) n points, cond-true {A = ℕ} (nat_lt most n) 1 0 (lt-ltb most n less)))
ahead_of_none (n ∷ points) most (suc j) none there less =
    ahead_of_none points most j (omega (arith, none, sum_by-cons (λ n. cond (nat_lt most n) 1 0) n points)) (omega arith) less

-- some place has the most
abbrev HasMost : List ℕ → ℕ → Type 0
HasMost points k = (k < length points) × AllByRecursion (λ n. n ≤ get_or points k 0) points

most_case : (n : ℕ) (points : List ℕ) (k : ℕ) → HasMost points k → (n < get_or points k 0) ⊎ (get_or points k 0 ≤ n) → (k : ℕ) × HasMost (n ∷ points) k
most_case n points k has (inl less) = (suc k, (omega (arith, has.0), (omega arith, has.1)))
most_case n points k has (inr le) =
    (0, (omega arith, (omega arith, at_most_each (get_or points k 0) n points le has.1)))

most_of : (n : ℕ) (points : List ℕ) → (k : ℕ) × HasMost (n ∷ points) k
most_of n [] = (0, (omega arith, (omega arith, tt)))
most_of n (m ∷ points) = let more = most_of m points in most_case n (m ∷ points) more.0 more.1 (cases_lt n (get_or (m ∷ points) more.0 0))

some_most : (points : List ℕ) → 0 < length points → (k : ℕ) × HasMost points k
some_most [] some = absurd (omega arith)
some_most (n ∷ points) some = most_of n points

module _ (points : List ℕ) (some : 0 < length points) where
  abbrev leads : ℕ → Bool
  leads most = ahead points most == 0

  -- one that has the most isn't passed over
  within_case : (k : ℕ) → HasMost points k → (k < leader points) ⊎ (leader points ≤ k) → leader points < length points
  within_case k has (inl less) =
      absurd (both_ways (leads (get_or points k 0)) (fails_before_first leads points k 0 less) (eq-eqb (ahead points (get_or points k 0)) 0 (none_ahead points (get_or points k 0) has.1)))
  within_case k has (inr le) = omega (arith, has.0)

  within : leader points < length points
  within = let m = some_most points some in within_case m.0 m.1 (cases_lt m.0 (leader points))

  none_before : ahead points (get_or points (leader points) 0) ≡ 0
  none_before = eqb-true (ahead points (get_or points (leader points) 0)) 0 (passes_at_first leads points 0 within)

  most_there : (j : ℕ) → j < length points → get_or points j 0 ≤ get_or points (leader points) 0
  most_there j there = omega (arith, ahead_of_none points (get_or points (leader points) 0) j none_before there)

  up_to : (n : ℕ) (ps : List ℕ) → ((j : ℕ) → j < length ps → get_or ps j 0 ≤ n) → AllByRecursion (λ p. p ≤ n) ps
  up_to n [] h = tt
  up_to n (p ∷ ps) h = (h 0 (omega arith), up_to n ps (λ j less. h (suc j) (omega arith)))

  earlier_case : (j : ℕ) → j < leader points → (get_or points j 0 < get_or points (leader points) 0) ⊎ (get_or points (leader points) 0 ≤ get_or points j 0) →
      get_or points j 0 < get_or points (leader points) 0
  earlier_case j less (inl e) = e
  earlier_case j less (inr le) =
      let all = up_to (get_or points j 0) points (λ i there. omega (arith, most_there i there, le)) in
      absurd (both_ways (leads (get_or points j 0)) (fails_before_first leads points j 0 less) (eq-eqb (ahead points (get_or points j 0)) 0 (none_ahead points (get_or points j 0) all)))

  pub leader_leads : IsLeader points (leader points)
  leader_leads =
      record {
        there = within;
        most = most_there;
        first = λ j less. earlier_case j less (cases_lt (get_or points j 0) (get_or points (leader points) 0));
      }

pub leads_fewer : (plan : Plan) (records : List Record) → 0 < length records → leads_in plan records < length records
leads_fewer plan records some =
    omega (arith, count_by-le-length (changes_at plan records) (range_with_len 1 (length records - 1)), length-range_with_len 1 (length records - 1))
