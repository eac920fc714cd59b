-- Standings: each strategy stands there once, in the order by points and then by number.
use Rattle.std.proofs.Common.{◌≡◌, ℕ, ◌+◌, nat_lt, List, [], ◌∷◌, ◌++◌, length, map, refl, sym, ap, ◌∙◌, subst, cond}
use Rattle.std.specs.Prelude.{count_by, slice_index, All, AllPairs, IsPermutation}
use Rattle.std.specs.List.{AllByRecursion, flat_map}
use Rattle.std.proofs.lemmas.List.Elements.{All-from_recursion}
use Rattle.std.proofs.lemmas.List.FromFn.{length-map-range_with_len}
use Rattle.std.proofs.lemmas.List.Sorted.{sum_by-IsPermutation}
use Rattle.rc_base.specs.Numbers.{below}
use Rattle.rc_base.specs.Transcript.{Record, Standing}
use Rattle.rc_deck.proofs.Orders.{Ordered-map, AllPairs-from_Ordered}
use Rattle.rc_play_spec.specs.Plan.{Plan}
use Rattle.rc_play_spec.specs.House.{ahead, rank_of, standing_of, in_order, points_of}
use Rattle.rc_play_spec.specs.StandingLaws.{RanksBefore}
use Rattle.rc_play_spec.proofs.Counting.{passing-is, passing-map}
use Rattle.rc_play_spec.proofs.RankLemmas.{Precedes, ahead_is, rank_within, by_rank}
use Rattle.rc_play_spec.proofs.Rows.{row, rows_permute, rows_ordered}

map_over : {A B : Type 0} (f : A → B) (xs ys : List A) → map f (xs ++ ys) ≡ map f xs ++ map f ys
map_over f [] ys = refl
map_over f (x ∷ xs) ys = ap (λ zs. f x ∷ zs) (map_over f xs ys)

-- what is told row by row is told of all rows at once
told : {A : Type 0} (f : ℕ → A) (rows : ℕ → List ℕ) (ranks : List ℕ) → flat_map (λ rank. map f (rows rank)) ranks ≡ map f (flat_map rows ranks)
told f rows [] = refl
told f rows (rank ∷ ranks) = ap (λ rest. map f (rows rank) ++ rest) (told f rows ranks) ∙ sym (map_over f (rows rank) (flat_map rows ranks))

module _ (points : List ℕ) where
  -- the strategies in the order of the standings
  abbrev order : List ℕ
  order = flat_map (row (rank_of points) (length points)) (below (length points))

  told_in_order : in_order points ≡ map (standing_of points) order
  told_in_order = told (standing_of points) (row (rank_of points) (length points)) (below (length points))

  strategies_of : (xs : List ℕ) → map (λ s. s.strategy) (map (standing_of points) xs) ≡ xs
  strategies_of [] = refl
  strategies_of (x ∷ xs) = ap (λ ys. x ∷ ys) (strategies_of xs)

  permutes : IsPermutation (below (length points)) order
  permutes = rows_permute (rank_of points) (length points) (rank_within points)

  pub each_once : IsPermutation (below (length points)) (map (λ s. s.strategy) (in_order points))
  each_once =
      subst (IsPermutation (below (length points))) (sym (ap (map (λ (s : Standing). s.strategy)) told_in_order ∙ strategies_of order)) permutes

  pub ordered : AllPairs RanksBefore (in_order points)
  ordered =
      subst (AllPairs RanksBefore) (sym told_in_order)
      (AllPairs-from_Ordered RanksBefore (map (standing_of points) order)
      (Ordered-map (Precedes points) RanksBefore (standing_of points) (λ x y first. first) order
      (rows_ordered (rank_of points) (length points) (Precedes points) (by_rank points) 0 (length points))))

  -- what holds of each strategy's standing holds of all
  each_told : (P : Standing → Type 0) → ((strategy : ℕ) → P (standing_of points strategy)) → All P (in_order points)
  each_told P holds = subst (All P) (sym told_in_order) (All-from_recursion P (map (standing_of points) order) (along order))
    where
      along : (xs : List ℕ) → AllByRecursion P (map (standing_of points) xs)
      along [] = tt
      along (x ∷ xs) = (holds x, along xs)

  pub tells_points : All (λ s. s.points ≡ slice_index points s.strategy) (in_order points)
  tells_points = each_told (λ s. s.points ≡ slice_index points s.strategy) (λ strategy. refl)

  -- as many stand there with more points as there are
  ahead_there : (most : ℕ) → ahead points most ≡ count_by (λ t. nat_lt most t.points) (in_order points)
  ahead_there most =
      ahead_is points most ∙ passing-is (λ z. nat_lt most (slice_index points z)) (below (length points))
      ∙ sym (sum_by-IsPermutation (λ z. cond (nat_lt most (slice_index points z)) 1 0) (below (length points)) order permutes)
      ∙ sym (passing-is (λ z. nat_lt most (slice_index points z)) order)
      ∙ sym (passing-map (λ (t : Standing). nat_lt most t.points) (standing_of points) order)
      ∙ passing-is (λ (t : Standing). nat_lt most t.points) (map (standing_of points) order)
      ∙ ap (count_by (λ (t : Standing). nat_lt most t.points)) (sym told_in_order)

  pub places : All (λ s. s.place ≡ 1 + count_by (λ t. nat_lt s.points t.points) (in_order points)) (in_order points)
  places =
      each_told (λ s. s.place ≡ 1 + count_by (λ t. nat_lt s.points t.points) (in_order points))
      (λ strategy. ap (λ n. 1 + n) (ahead_there (slice_index points strategy)))

-- each strategy of a plan has points
pub points_long : (plan : Plan) (records : List Record) → length (points_of plan records) ≡ length plan.strategies
points_long plan records = length-map-range_with_len _ 0 (length plan.strategies)
