-- The standings of a plan are in the ranges of their lines: in each match a strategy has the points of one seat.
use Rattle.std.proofs.Common.{◌≡◌, ℕ, zero, suc, ◌+◌, ◌*◌, ◌/◌, ◌%◌, ◌<◌, ◌≤◌, ◌==◌, Bool, true, false, cond, List, [], ◌∷◌, ⊎_elim, length, map, refl, sym, ap, ◌∙◌, arith, eqb-true}
use Rattle.std.specs.Prelude.{filter, sum_by, flat_map}
use Rattle.std.specs.List.{AllByRecursion, range_with_len}
use Rattle.std.proofs.lemmas.Bool.{cases_lt, false_from_ne_true}
use Rattle.std.proofs.lemmas.List.Elements.{All-from_recursion}
use Rattle.std.proofs.lemmas.List.Sums.{sum_by-cons, sum_by-le}
use Rattle.std.proofs.lemmas.Nat.{div-add-mod', mul-le}
use Rattle.rc_base.specs.Numbers.{below}
use Rattle.rc_base.specs.Transcript.{Record, Score, Standing}
use Rattle.rc_deck.proofs.EachLemmas.{append_each}
use Rattle.rc_play_spec.specs.Lines.{ranked, IsInRange}
use Rattle.rc_play_spec.specs.Plan.{Plan, strategy_held}
use Rattle.rc_play_spec.specs.House.{points_at, points_in, points_of, rank_of, standing_of, in_order, standings_of}
use Rattle.rc_play_spec.proofs.CardLemmas.{filter_each, map_each, get_each, numbers_below}
use Rattle.rc_play_spec.proofs.RankLemmas.{rank_within}
use Rattle.rc_play_spec.proofs.StandingLemmas.{points_long}

-- ---- a sum over at most one number

module _ (keeps : ℕ → Bool) (f : ℕ → ℕ) where
  none_kept : (a len : ℕ) → ((i : ℕ) → a ≤ i → i < a + len → keeps i ≡ false) → sum_by f (filter keeps (range_with_len a len)) ≡ 0
  none_kept a zero none = refl
  none_kept a (suc len) none =
      ap (λ b. sum_by f (cond b (a ∷ filter keeps (range_with_len (a + 1) len)) (filter keeps (range_with_len (a + 1) len)))) (none a (omega arith) (omega arith))
      ∙ none_kept (a + 1) len (λ i from to. none i (omega (arith, from)) (omega (arith, to)))

  module _ (most n : ℕ) (small : (i : ℕ) → f i ≤ most) (one : (i j : ℕ) → i < n → j < n → keeps i ≡ true → keeps j ≡ true → i ≡ j) where
    one_step : (a len : ℕ) → a + suc len ≤ n → (b : Bool) → keeps a ≡ b → sum_by f (filter keeps (range_with_len (a + 1) len)) ≤ most →
        sum_by f (cond b (a ∷ filter keeps (range_with_len (a + 1) len)) (filter keeps (range_with_len (a + 1) len))) ≤ most
    one_step a len le true is rest =
        let none =
        none_kept (a + 1) len (λ i from to.
        false_from_ne_true (keeps i) (λ e.
        let same = one a i (omega (arith, le)) (omega (arith, le, to)) is e in absurd (omega (arith, same, from)))) in
        let sum = sum_by-cons f a (filter keeps (range_with_len (a + 1) len)) in
        let here = small a in
        omega (arith, none, sum, here)
    one_step a len le false is rest = rest

    one_kept : (a len : ℕ) → a + len ≤ n → sum_by f (filter keeps (range_with_len a len)) ≤ most
    one_kept a zero le = omega arith
    one_kept a (suc len) le = one_step a len le (keeps a) refl (one_kept (a + 1) len (omega (arith, le)))

-- ---- seats that have one strategy are one

same_rest : (n m i j : ℕ) → i ≤ j → j < n → (i + m) % n ≡ (j + m) % n → i ≡ j
same_rest n m i j le less same =
    let a = div-add-mod' (i + m) n in
    let b = div-add-mod' (j + m) n in
    ⊎_elim
    (λ (more : (i + m) / n < (j + m) / n).
    let step = mul-le ((i + m) / n + 1) n ((j + m) / n) n (omega (arith, more)) (omega arith) in
    let split = one_row ((i + m) / n) n in
    absurd (omega (arith, a, b, same, step, split, le, less)))
    (λ (few : (j + m) / n ≤ (i + m) / n).
    let step = mul-le ((j + m) / n) n ((i + m) / n) n few (omega arith) in
    omega (arith, a, b, same, step, le))
    (cases_lt ((i + m) / n) ((j + m) / n))
  where
    one_row : (q n : ℕ) → (q + 1) * n ≡ q * n + n
    one_row q n = omega arith

one_seat : (plan : Plan) (m strategy i j : ℕ) → i < length plan.strategies → j < length plan.strategies →
    (strategy_held plan m i == strategy) ≡ true → (strategy_held plan m j == strategy) ≡ true → i ≡ j
one_seat plan m strategy i j i-in j-in is is' =
    let same : strategy_held plan m i ≡ strategy_held plan m j = eqb-true _ _ is ∙ sym (eqb-true _ _ is') in
    ⊎_elim
    (λ (less : i < j). same_rest (length plan.strategies) m i j (omega (arith, less)) j-in same)
    (λ (le : j ≤ i). sym (same_rest (length plan.strategies) m j i le i-in (sym same)))
    (cases_lt i j)

-- ---- points

-- the points of each score of a match
abbrev pub HasFewPoints : Record → Type 0
HasFewPoints r = AllByRecursion (λ s. s.points ≤ 14) r.scores

points_few : (r : Record) → HasFewPoints r → (seat : ℕ) → points_at r seat ≤ 14
points_few r few seat =
    get_each (λ n. n ≤ 14) 0 (omega arith) (map (λ (s : Score). s.points) r.scores) seat
    (map_each (λ (s : Score). s.points ≤ 14) (λ n. n ≤ 14) (λ (s : Score). s.points) (λ s le. le) r.scores few)

module _ (plan : Plan) where
  points_in-few : (strategy : ℕ) (r : Record) → HasFewPoints r → points_in plan strategy r ≤ 14
  points_in-few strategy r few =
      one_kept (λ seat. strategy_held plan r.number seat == strategy) (points_at r) 14 (length plan.strategies) (points_few r few)
      (λ i j. one_seat plan r.number strategy i j) 0 (length plan.strategies) (omega arith)

  all_few : (strategy : ℕ) (records : List Record) → AllByRecursion HasFewPoints records → AllByRecursion (λ r. points_in plan strategy r ≤ 14) records
  all_few strategy [] all = tt
  all_few strategy (r ∷ records) all = (points_in-few strategy r all.0, all_few strategy records all.1)

  points_within : (records : List Record) → length records ≤ 4096 → AllByRecursion HasFewPoints records →
      AllByRecursion (λ n. n ≤ 57344) (points_of plan records)
  points_within records count all =
      map_each (λ strategy. strategy < length plan.strategies) (λ n. n ≤ 57344) (λ strategy. sum_by (points_in plan strategy) records)
      (λ strategy less.
      let sum =
      sum_by-le (points_in plan strategy) 14 records
      (All-from_recursion (λ r. points_in plan strategy r ≤ 14) records (all_few strategy records all)) in
      omega (arith, sum, count))
      (below (length plan.strategies)) (numbers_below 0 (length plan.strategies) (length plan.strategies) (omega arith))

-- ---- standings

-- what holds of the standing of each strategy holds of all
module _ (points : List ℕ) (P : Standing → Type 0) (each : (strategy : ℕ) → strategy < length points → P (standing_of points strategy)) where
  abbrev row : ℕ → List Standing
  row rank = map (standing_of points) (filter (λ strategy. rank_of points strategy == rank) (below (length points)))

  row_each : (rank : ℕ) → AllByRecursion P (row rank)
  row_each rank =
      map_each (λ strategy. strategy < length points) P (standing_of points) each (filter (λ strategy. rank_of points strategy == rank) (below (length points)))
      (filter_each (λ strategy. strategy < length points) (λ strategy. rank_of points strategy == rank) (below (length points))
      (numbers_below 0 (length points) (length points) (omega arith)))

  rows_each : (ranks : List ℕ) → AllByRecursion P (flat_map row ranks)
  rows_each [] = tt
  rows_each (rank ∷ ranks) = append_each P (row rank) (flat_map row ranks) (row_each rank) (rows_each ranks)

  standings_each : AllByRecursion P (in_order points)
  standings_each = rows_each (below (length points))

abbrev IsRankInRange : Standing → Type 0
IsRankInRange standing = IsInRange (ranked standing)

pub standings_in_range : (plan : Plan) (records : List Record) → length plan.strategies ≤ 8 → length records ≤ 4096 → AllByRecursion HasFewPoints records →
    AllByRecursion IsRankInRange (standings_of plan records)
standings_in_range plan records few count all =
    let points = points_of plan records in
    let long = points_long plan records in
    standings_each points IsRankInRange (λ strategy less.
    let rank = rank_within points strategy less in (
      omega arith,
      omega (arith, rank, long, few),
      omega (arith, less, long, few),
      get_each (λ n. n ≤ 57344) 0 (omega arith) points strategy (points_within plan records count all),
    ))
