-- Numbers that differ and are all those below another: each stands once among them.
use Rattle.std.proofs.Common.{◌≡◌, ℕ, zero, suc, ◌+◌, ◌<◌, ◌≤◌, Bool, true, false, ◌||◌, cond, List, [], ◌∷◌, length, map, nat_eq, refl, sym, subst, ap, ap₂, ◌∙◌, arith, eqb-true}
use Rattle.std.specs.Prelude.{count_by, replicate}
use Rattle.std.specs.List.{AllByRecursion, range_with_len, IsDistinct}
use Rattle.std.proofs.lemmas.Bool.{or_parts}
use Rattle.std.proofs.lemmas.List.Sums.{sum_by-cons}
use Rattle.std.proofs.lemmas.Map.Steps.{length-le_from_distinct_below, le-length_from_below}
use Rattle.rc_base.specs.Numbers.{below}
use Rattle.rc_sheet_spec.specs.WellFormed.{is_among}

-- no number stands twice
abbrev pub Differ : List ℕ → Type 0
Differ [] = Unit {0}
Differ (n ∷ ns) = (is_among n ns ≡ false) × Differ ns

-- each of them is another
pub none_equal : (n : ℕ) (ns : List ℕ) → is_among n ns ≡ false → AllByRecursion (λ m. nat_eq n m ≡ false) ns
none_equal n [] is = tt
none_equal n (m ∷ ns) is = let both = or_parts (nat_eq n m) (is_among n ns) is in (both.0, none_equal n ns both.1)

distinct : (ns : List ℕ) → Differ ns → IsDistinct nat_eq ns
unfolding IsDistinct
distinct [] differ = tt
distinct (n ∷ ns) differ = (none_equal n ns differ.0, distinct ns differ.1)

-- how often a number stands among others
pub none_counted : (n : ℕ) (ns : List ℕ) → is_among n ns ≡ false → count_by (nat_eq n) ns ≡ 0
none_counted n [] is = refl
none_counted n (m ∷ ns) is =
    let both = or_parts (nat_eq n m) (is_among n ns) is in
    sum_by-cons (λ x. cond (nat_eq n x) 1 0) m ns
    ∙ ap₂ (λ (a b : ℕ). a + b) (ap (λ b. cond b 1 0) both.0) (none_counted n ns both.1)

once_counted : (n : ℕ) (ns : List ℕ) → Differ ns → is_among n ns ≡ true → count_by (nat_eq n) ns ≡ 1
once_counted n [] differ is = absurd cc
once_counted n (m ∷ ns) differ is = by (nat_eq n m) refl (λ later. once_counted n ns differ.1 later)
  where
    by : (b : Bool) → nat_eq n m ≡ b → (is_among n ns ≡ true → count_by (nat_eq n) ns ≡ 1) → count_by (nat_eq n) (m ∷ ns) ≡ 1
    by true same more =
        let none = none_counted n ns (subst (λ k. is_among k ns ≡ false) (sym (eqb-true n m same)) differ.0) in
        sum_by-cons (λ x. cond (nat_eq n x) 1 0) m ns
        ∙ ap₂ (λ (a b : ℕ). a + b) (ap (λ b. cond b 1 0) same) none
    by false other more =
        let later : is_among n ns ≡ true = subst (λ b. (b || is_among n ns) ≡ true) other is in
        sum_by-cons (λ x. cond (nat_eq n x) 1 0) m ns
        ∙ ap₂ (λ (a b : ℕ). a + b) (ap (λ b. cond b 1 0) other) (more later)

-- a list of ones
all_ones : (f : ℕ → ℕ) (start n : ℕ) → ((q : ℕ) → start ≤ q → q < start + n → f q ≡ 1)
    → map f (range_with_len start n) ≡ replicate n 1
all_ones f start zero each = refl
all_ones f start (suc n) each =
    ap₂ (λ a l. a ∷ l) (each start (omega arith) (omega arith))
    (all_ones f (start + 1) n (λ q low high. each q (omega (arith, low)) (omega (arith, high))))

-- numbers are all those below another, each once
pub record AreAllBelow (n : ℕ) (ns : List ℕ) : Type 0 where
  pub differ : Differ ns
  pub below : (q : ℕ) → is_among q ns ≡ true → q < n
  pub all : (q : ℕ) → q < n → is_among q ns ≡ true

pub as_many : (n : ℕ) (ns : List ℕ) → AreAllBelow n ns → length ns ≡ n
as_many n ns are =
    let most = length-le_from_distinct_below ns n (distinct ns are.differ) are.below in
    let least = le-length_from_below ns n are.all in
    omega (arith, most, least)

pub each_once : (n : ℕ) (ns : List ℕ) → AreAllBelow n ns
    → map (λ q. count_by (nat_eq q) ns) (below n) ≡ replicate n 1
each_once n ns are =
    all_ones (λ q. count_by (nat_eq q) ns) 0 n
    (λ q low high. once_counted q ns are.differ (are.all q (omega (arith, high))))
