-- What lanes have together.
use Rattle.std.proofs.Common.{◌≡◌, ℕ, zero, suc, ◌+◌, ◌<◌, List, [], ◌∷◌, ◌++◌, length, length-append, get_or, take, drop, map, All, refl, sym, ap, ◌∙◌, arith}
use Rattle.std.specs.List.{AllByRecursion, sum_by}
use Rattle.std.proofs.lemmas.List.{map-append, append_assoc}
use Rattle.std.proofs.lemmas.List.Elements.{All-from_recursion, recursion_from_All}
use Rattle.std.proofs.lemmas.List.Sums.{sum_by_push}
use Rattle.rc_base.specs.Numbers.{below}
use Rattle.rc_deck.proofs.RangeLemmas.{below_push}
use Rattle.rc_rules.proofs.ShapeLemmas.{summed_map}
use Rattle.rc_redraw.specs.Counts.{Counts}
use Rattle.rc_cache.specs.Memos.{shared_counts}
use Rattle.rc_cache.specs.Sums.{Lane, idle, idle_lanes}
use Rattle.rc_cache.specs.Sums as lane
use Rattle.rc_series.specs.Gathered.{RiseTogether}

-- what follows for each value follows for all that are listed
pub all_so : {X : Type 0} (P Q : X → Type 0) → ((x : X) → P x → Q x) → (xs : List X) → All P xs → All Q xs
all_so {X} P Q so xs all = All-from_recursion Q xs (by xs (recursion_from_All P xs all))
  where
    by : (l : List X) → AllByRecursion P l → AllByRecursion Q l
    by [] are = tt
    by (x ∷ l) are = (so x are.0, by l are.1)

-- what is made of all values in two steps
pub map_twice : {X Y Z : Type 0} (f : X → Y) (h : Y → Z) (xs : List X) → map (λ x. h (f x)) xs ≡ map h (map f xs)
map_twice f h [] = refl
map_twice f h (x ∷ xs) = ap (λ l. h (f x) ∷ l) (map_twice f h xs)

-- the first value and the others
pub first_and_rest : {Y : Type 0} (left rest : List Y) (y : Y) → 0 < length left → y ≡ get_or left 0 y →
    rest ≡ take 0 left ++ drop (0 + 1) left → left ≡ y ∷ rest
first_and_rest [] rest y some value is = absurd (omega (arith, some))
first_and_rest (z ∷ zs) rest y some value is = ap (λ x. x ∷ zs) (sym value) ∙ ap (λ ys. y ∷ ys) (sym is)

-- The next value is taken off a list, and what has it is pushed: these and what is left are the same values as before.
pub moved_over : {X Y : Type 0} (f : X → Y) (done more : List X) (left rest all : List Y) (x : X) (y : Y) →
    more ≡ done ++ x ∷ [] → left ≡ y ∷ rest → f x ≡ y → map f done ++ left ≡ all → map f more ++ rest ≡ all
moved_over f done more left rest all x y pushed split made so_far =
    ap (λ l. map f l ++ rest) pushed ∙ ap (λ l. l ++ rest) (map-append f done (x ∷ [])) ∙ append_assoc (map f done) (f x ∷ []) rest
    ∙ ap (λ z. map f done ++ z ∷ rest) made ∙ ap (λ l. map f done ++ l) (sym split) ∙ so_far

-- one lane more
one_more : (n : ℕ) → idle_lanes (suc n) ≡ idle_lanes n ++ idle n ∷ []
one_more n =
    ap idle_lanes (let e : suc n ≡ n + 1 = omega arith in e) ∙ ap (map idle) (below_push n) ∙ map-append idle (below n) (n ∷ [])

-- lanes that have called nothing
idle_sum : (h : Lane → ℕ) → ((k : ℕ) → h (idle k) ≡ 0) → (n : ℕ) → sum_by h (idle_lanes n) ≡ 0
idle_sum h none zero = refl
idle_sum h none (suc n) =
    let rest = idle_sum h none n in
    let last = none n in
    ap (sum_by h) (one_more n) ∙ sum_by_push h (idle_lanes n) (idle n) ∙ omega (arith, rest, last)

pub idle_count : (n : ℕ) → length (idle_lanes n) ≡ n
idle_count zero = refl
idle_count (suc n) =
    let rest = idle_count n in
    ap length (one_more n) ∙ length-append (idle_lanes n) (idle n ∷ []) ∙ omega (arith, rest)

-- what such lanes rose by
module _ (looks workers : ℕ) (lanes : List Lane) (rise : RiseTogether looks (map shared_counts (idle_lanes workers)) (map shared_counts lanes)) where
  counted : (h : Counts → ℕ) → ((k : ℕ) → h (shared_counts (idle k)) ≡ 0) → sum_by h (map shared_counts (idle_lanes workers)) ≡ 0
  counted h none = summed_map h shared_counts (idle_lanes workers) ∙ idle_sum (λ l. h (shared_counts l)) none workers

  pub all_looked : lane.looks_in lanes ≡ looks
  all_looked =
      let before = counted (λ c. c.looks) (λ k. refl) in
      let now = summed_map (λ c. c.looks) shared_counts lanes in
      omega (arith, before, now, rise.looked)

  pub all_answered : lane.keeps_in lanes + lane.hits_in lanes ≡ looks
  all_answered =
      let hits = counted (λ c. c.hits) (λ k. refl) in
      let keeps = counted (λ c. c.keeps) (λ k. refl) in
      let hits' = summed_map (λ c. c.hits) shared_counts lanes in
      let keeps' = summed_map (λ c. c.keeps) shared_counts lanes in
      omega (arith, hits, keeps, hits', keeps', rise.kept)

-- where nothing hits without a keep, not all looks hit
pub some_missed : (looks hits keeps : ℕ) → keeps + hits ≡ looks → (keeps ≡ 0 → hits ≡ 0) → 0 < looks → hits < looks
some_missed looks hits zero sum unkept some =
    let none = unkept refl in absurd (omega (arith, sum, none, some))
some_missed looks hits (suc keeps) sum unkept some = omega (arith, sum)
