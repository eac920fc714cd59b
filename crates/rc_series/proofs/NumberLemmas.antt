-- Numbers that were claimed, and those of them that count.
use Rattle.std.proofs.Common.{◌≡◌, ℕ, zero, suc, ◌+◌, ◌-◌, ◌<◌, ◌≤◌, ◌⊎◌, Bool, true, false, cond, ltb, leb, List, [], ◌∷◌, ◌++◌, map, length, get_or, sum_by, count_by, All, refl, sym, ap, ◌∙◌, inl, inr, ⊎_elim, arith}
use Rattle.std.specs.List.{AllByRecursion, range_with_len}
use Rattle.std.specs.List.Sorted.{IsPermutation, IsNonDecreasingBy}
use Rattle.std.proofs.lemmas.Bool.Decides.{leb_tells}
use Rattle.std.proofs.lemmas.List.Elements.{All-head, All-tail}
use Rattle.std.proofs.lemmas.List.Sorted.{sum_by-IsPermutation, length_permutation}
use Rattle.std.proofs.lemmas.List.Sums.{sum_by-cons, length-filter}
use Rattle.rc_base.specs.Numbers.{below}
use Rattle.rc_series.specs.Turns.{counted}

-- ltb n k is leb (suc n) k
below_tells : (n k : ℕ) → ((ltb n k ≡ true) × (n < k)) ⊎ ((ltb n k ≡ false) × (k ≤ n))
below_tells n k = ⊎_elim (λ t. inl (t.0, omega (arith, t.1))) (λ t. inr (t.0, omega (arith, t.1))) (leb_tells (suc n) k)

-- numbers below the count, and then one that isn't
pub counted_before : (count : ℕ) (numbers : List ℕ) (last : ℕ) → All (λ n. n < count) numbers → count ≤ last → counted count (numbers ++ last ∷ []) ≡ numbers
counted_before count [] last all late = ⊎_elim (λ t. absurd (omega (arith, t.1, late))) (λ t. ap (λ b. cond b (last ∷ []) []) t.0) (below_tells last count)
counted_before count (n ∷ numbers) last all late =
    let first = All-head (λ k. k < count) n numbers all in
    let rest = counted_before count numbers last (All-tail (λ k. k < count) n numbers all) late in
    ⊎_elim
    (λ t. ap (λ b. cond b (n ∷ counted count (numbers ++ last ∷ [])) (counted count (numbers ++ last ∷ []))) t.0 ∙ ap (λ l. n ∷ l) rest)
    (λ t. absurd (omega (arith, t.1, first))) (below_tells n count)

-- a sum over the numbers that count is one over all, where the others weigh nothing
sum_counted : (h : ℕ → ℕ) (count : ℕ) (numbers : List ℕ) → sum_by h (counted count numbers) ≡ sum_by (λ n. cond (ltb n count) (h n) 0) numbers
sum_counted h count [] = refl
sum_counted h count (n ∷ numbers) = by (ltb n count) refl (sum_counted h count numbers)
  where
    by : (b : Bool) → ltb n count ≡ b → sum_by h (counted count numbers) ≡ sum_by (λ k. cond (ltb k count) (h k) 0) numbers →
        sum_by h (counted count (n ∷ numbers)) ≡ sum_by (λ k. cond (ltb k count) (h k) 0) (n ∷ numbers)
    by true is rest =
        let here = ap (λ b. sum_by h (cond b (n ∷ counted count numbers) (counted count numbers))) is in
        let there = ap (λ (b : Bool). cond b (h n) 0) is in
        here ∙ sum_by-cons h n (counted count numbers) ∙ omega (arith, rest, there) ∙ sym (sum_by-cons (λ k. cond (ltb k count) (h k) 0) n numbers)
    by false is rest =
        let here = ap (λ b. sum_by h (cond b (n ∷ counted count numbers) (counted count numbers))) is in
        let there = ap (λ (b : Bool). cond b (h n) 0) is in
        here ∙ rest ∙ omega (arith, there) ∙ sym (sum_by-cons (λ k. cond (ltb k count) (h k) 0) n numbers)

-- numbers from a on that are all at least the count weigh nothing
sum_past : (h : ℕ → ℕ) (count a n : ℕ) → count ≤ a → sum_by (λ k. cond (ltb k count) (h k) 0) (range_with_len a n) ≡ 0
sum_past h count a zero late = refl
sum_past h count a (suc n) late =
    let rest = sum_past h count (a + 1) n (omega (arith, late)) in
    let here : cond (ltb a count) (h a) 0 ≡ 0 = ⊎_elim (λ t. absurd (omega (arith, t.1, late))) (λ t. ap (λ (b : Bool). cond b (h a) 0) t.0) (below_tells a count) in
    sum_by-cons (λ k. cond (ltb k count) (h k) 0) a (range_with_len (a + 1) n) ∙ omega (arith, rest, here)

sum_front : (h : ℕ → ℕ) (count a n m : ℕ) → a + n ≡ count → sum_by (λ k. cond (ltb k count) (h k) 0) (range_with_len a (n + m)) ≡ sum_by h (range_with_len a n)
sum_front h count a zero m ends = let le : count ≤ a = omega (arith, ends) in ap (λ k. sum_by (λ k. cond (ltb k count) (h k) 0) (range_with_len a k)) (let e : zero + m ≡ m = omega arith in e) ∙ sum_past h count a m le
sum_front h count a (suc n) m ends =
    let rest = sum_front h count (a + 1) n m (omega (arith, ends)) in
    let here : cond (ltb a count) (h a) 0 ≡ h a = ⊎_elim (λ t. ap (λ (b : Bool). cond b (h a) 0) t.0) (λ t. absurd (omega (arith, t.1, ends))) (below_tells a count) in
    ap (λ k. sum_by (λ k. cond (ltb k count) (h k) 0) (range_with_len a k)) (let e : suc n + m ≡ suc (n + m) = omega arith in e)
    ∙ sum_by-cons (λ k. cond (ltb k count) (h k) 0) a (range_with_len (a + 1) (n + m)) ∙ omega (arith, rest, here) ∙ sym (sum_by-cons h a (range_with_len (a + 1) n))

pub length_range : (a n : ℕ) → length (range_with_len a n) ≡ n
length_range a zero = refl
length_range a (suc n) = ap suc (length_range (a + 1) n)

-- Of all numbers that were drawn some don't count: so all that count were drawn.
past_count : (count drawn : ℕ) (numbers : List ℕ) → IsPermutation (range_with_len 0 drawn) numbers → length (counted count numbers) < length numbers → count ≤ drawn
past_count count drawn numbers all past =
    ⊎_elim (λ t. t.1) (λ t. absurd (few t.1)) (leb_tells count drawn)
  where
    every : (a n : ℕ) → a + n ≤ count → count_by (λ k. ltb k count) (range_with_len a n) ≡ n
    every a zero le = refl
    every a (suc n) le =
        let rest = every (a + 1) n (omega (arith, le)) in
        let here : cond {A = ℕ} (ltb a count) 1 0 ≡ 1 = ⊎_elim (λ t. ap (λ (b : Bool). cond {A = ℕ} b 1 0) t.0) (λ t. absurd (omega (arith, t.1, le))) (below_tells a count) in
        sum_by-cons (λ k. cond (ltb k count) 1 0) a (range_with_len (a + 1) n) ∙ omega (arith, rest, here)

    few : drawn < count → ⊥
    few less =
        let same = sum_by-IsPermutation (λ k. cond (ltb k count) 1 0) (range_with_len 0 drawn) numbers all in
        let long = length_permutation (range_with_len 0 drawn) numbers all in
        let whole = every 0 drawn (omega (arith, less)) in
        omega (arith, past, same, long, whole, length_range 0 drawn, length-filter (λ k. ltb k count) numbers)

-- However numbers are weighed, those that count weigh together what the numbers below the count do.
pub all_counted : (h : ℕ → ℕ) (count drawn : ℕ) (numbers : List ℕ) → IsPermutation (range_with_len 0 drawn) numbers →
    length (counted count numbers) < length numbers → sum_by h (counted count numbers) ≡ sum_by h (range_with_len 0 count)
all_counted h count drawn numbers all past =
    let late = past_count count drawn numbers all past in
    let same : count + (drawn - count) ≡ drawn = omega (arith, late) in
    sum_counted h count numbers
    ∙ sum_by-IsPermutation (λ k. cond (ltb k count) (h k) 0) (range_with_len 0 drawn) numbers all
    ∙ ap (λ k. sum_by (λ k. cond (ltb k count) (h k) 0) (range_with_len 0 k)) (sym same)
    ∙ sum_front h count 0 count (drawn - count) (omega arith)

module _ {X : Type 0} (f : X → ℕ) where
  -- each is at most those behind it
  abbrev Rises : List X → Type 0
  Rises [] = Unit {0}
  Rises (x ∷ xs) = AllByRecursion (λ y. f x ≤ f y) xs × Rises xs

  rises_from : (xs : List X) → IsNonDecreasingBy f xs → Rises xs
  rises_from [] up = tt
  rises_from (x ∷ xs) up =
      (first x xs (λ k d lt. up 0 (suc k) d (omega arith) (omega (arith, lt))), rises_from xs (λ i j d le lt. up (suc i) (suc j) d (omega (arith, le)) (omega (arith, lt))))
    where
      first : (x : X) (xs : List X) → ((k : ℕ) (d : X) → k < length xs → f x ≤ f (get_or xs k d)) → AllByRecursion (λ y. f x ≤ f y) xs
      first x [] h = tt
      first x (y ∷ ys) h = (h 0 y (omega arith), first x ys (λ k d lt. h (suc k) d (omega (arith, lt))))

  none_at_most : (a b : ℕ) (xs : List X) → a < b → AllByRecursion (λ y. b ≤ f y) xs → sum_by (λ x. cond (leb (f x) a) 1 0) xs ≡ 0
  none_at_most a b [] less all = refl
  none_at_most a b (x ∷ xs) less all =
      let rest = none_at_most a b xs less all.1 in
      let here : cond {A = ℕ} (leb (f x) a) 1 0 ≡ 0 = ⊎_elim (λ t. absurd (omega (arith, t.1, less, all.0))) (λ t. ap (λ (c : Bool). cond {A = ℕ} c 1 0) t.0) (leb_tells (f x) a) in
      sum_by-cons (λ x. cond (leb (f x) a) 1 0) x xs ∙ omega (arith, rest, here)

  -- a list that rises and has each number from a on once is these numbers in order
  in_order : (xs : List X) (a n : ℕ) → Rises xs → ((h : ℕ → ℕ) → sum_by (λ x. h (f x)) xs ≡ sum_by h (range_with_len a n)) → map f xs ≡ range_with_len a n
  in_order [] a zero up same = refl
  in_order [] a (suc n) up same =
      absurd (omega (arith, same (λ _. 1), sum_by-cons (λ _. 1) a (range_with_len (a + 1) n)))
  in_order (x ∷ xs) a zero up same =
      absurd (omega (arith, same (λ _. 1), sum_by-cons (λ _. 1) x xs))
  in_order (x ∷ xs) a (suc n) up same =
      ap (λ k. k ∷ map f xs) here ∙ ap (λ l. a ∷ l) (in_order xs (a + 1) n up.1 rest)
    where
      early : a ≤ f x
      early = ⊎_elim (λ t. t.1) (λ t. absurd (none t.1)) (leb_tells a (f x))
        where
          none : f x < a → ⊥
          none less =
              let sum = same (λ k. cond (ltb k a) 1 0) in
              let nothing = sum_past (λ _. 1) a a (suc n) (omega arith) in
              let first = sum_by-cons (λ y. cond (ltb (f y) a) 1 0) x xs in
              let one : cond {A = ℕ} (ltb (f x) a) 1 0 ≡ 1 = ⊎_elim (λ t. ap (λ (c : Bool). cond {A = ℕ} c 1 0) t.0) (λ t. absurd (omega (arith, t.1, less))) (below_tells (f x) a) in
              omega (arith, sum, nothing, first, one)

      late : f x ≤ a
      late = ⊎_elim (λ t. t.1) (λ t. absurd (none t.1)) (leb_tells (f x) a)
        where
          none : a < f x → ⊥
          none more =
              let sum = same (λ k. cond (leb k a) 1 0) in
              let first = sum_by-cons (λ y. cond (leb (f y) a) 1 0) x xs in
              let zero_here : cond {A = ℕ} (leb (f x) a) 1 0 ≡ 0 = ⊎_elim (λ t. absurd (omega (arith, t.1, more))) (λ t. ap (λ (c : Bool). cond {A = ℕ} c 1 0) t.0) (leb_tells (f x) a) in
              let zero_behind = none_at_most a (f x) xs more up.0 in
              let some' = sum_by-cons (λ k. cond (leb k a) 1 0) a (range_with_len (a + 1) n) in
              let one : cond {A = ℕ} (leb a a) 1 0 ≡ 1 = ⊎_elim (λ t. ap (λ (c : Bool). cond {A = ℕ} c 1 0) t.0) (λ t. absurd (omega (arith, t.1))) (leb_tells a a) in
              omega (arith, sum, first, zero_here, zero_behind, some', one)

      here : f x ≡ a
      here = omega (arith, early, late)

      rest : (h : ℕ → ℕ) → sum_by (λ y. h (f y)) xs ≡ sum_by h (range_with_len (a + 1) n)
      rest h =
          let sum = same h in
          let first = sum_by-cons (λ y. h (f y)) x xs in
          let other = sum_by-cons h a (range_with_len (a + 1) n) in
          let same_first = ap h here in
          omega (arith, sum, first, other, same_first)

  sum_mapped : (h : ℕ → ℕ) (xs : List X) → sum_by h (map f xs) ≡ sum_by (λ x. h (f x)) xs
  sum_mapped h [] = refl
  sum_mapped h (x ∷ xs) = let rest = sum_mapped h xs in sum_by-cons h (f x) (map f xs) ∙ omega (arith, rest) ∙ sym (sum_by-cons (λ y. h (f y)) x xs)

  -- In order, what was claimed are the numbers below the count.
  pub claimed_in_order : (claimed sorted : List X) (count drawn : ℕ) (numbers : List ℕ) → IsPermutation (below drawn) numbers →
      counted count numbers ≡ map f claimed → length (counted count numbers) < length numbers →
      IsPermutation claimed sorted → IsNonDecreasingBy f sorted → map f sorted ≡ below count
  claimed_in_order claimed sorted count drawn numbers all is past same up =
      in_order sorted 0 count (rises_from sorted up)
      (λ h. sum_by-IsPermutation (λ x. h (f x)) claimed sorted same ∙ sym (sum_mapped h claimed) ∙ ap (sum_by h) (sym is) ∙ all_counted h count drawn numbers all past)
