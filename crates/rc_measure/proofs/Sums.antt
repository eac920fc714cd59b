-- Sums over lists, and over classes of their items.
use Rattle.std.proofs.Common.{◌≡◌, ℕ, zero, suc, ◌+◌, ◌<◌, ◌≤◌, ◌==◌, nat_lt, Bool, true, false, cond, List, [], ◌∷◌, length, filter, sum_by, refl, arith, inl, inr, ◌⊎◌}
use Rattle.std.specs.List.{range_with_len, AllByRecursion}
use Rattle.std.proofs.lemmas.List.Sums.{sum_by-cons}
use Rattle.std.proofs.lemmas.Bool.{cond-true, cond-false, ne_eqb, eq-eqb, cases_eq, ltb-false}
use Rattle.rc_base.specs.Numbers.{below}

pub sum_same : {X : Type 0} (f g : X → ℕ) (xs : List X) → ((x : X) → f x ≡ g x) → sum_by f xs ≡ sum_by g xs
sum_same f g [] e = refl
sum_same f g (x ∷ xs) e = omega (arith, sum_by-cons f x xs, sum_by-cons g x xs, sum_same f g xs e, e x)

pub sum_none : {X : Type 0} (xs : List X) → sum_by (λ x. 0) xs ≡ 0
sum_none [] = refl
sum_none (x ∷ xs) = omega (arith, sum_by-cons (λ x. 0) x xs, sum_none xs)

pub sum_plus : {X : Type 0} (f g : X → ℕ) (xs : List X) → sum_by (λ x. f x + g x) xs ≡ sum_by f xs + sum_by g xs
sum_plus f g [] = refl
sum_plus f g (x ∷ xs) = omega (arith, sum_by-cons (λ x. f x + g x) x xs, sum_by-cons f x xs, sum_by-cons g x xs, sum_plus f g xs)

pub length_is_sum : {X : Type 0} (xs : List X) → length xs ≡ sum_by (λ x. 1) xs
length_is_sum [] = refl
length_is_sum {X} (x ∷ xs) = omega (arith, length_is_sum xs, sum_by-cons (λ (x : X). 1) x xs)

pub sum_if : {X : Type 0} (w : X → ℕ) (b : Bool) (x : X) (xs : List X) → sum_by w (cond b (x ∷ xs) xs) ≡ cond b (w x) 0 + sum_by w xs
sum_if w true x xs = sum_by-cons w x xs
sum_if w false x xs = omega arith

-- a sum of sums, of rows or of columns
pub rows_and_columns : {X Y : Type 0} (f : Y → X → ℕ) (ys : List Y) (xs : List X) →
    sum_by (λ y. sum_by (f y) xs) ys ≡ sum_by (λ x. sum_by (λ y. f y x) ys) xs
rows_and_columns f ys [] = sum_none ys
rows_and_columns f ys (x ∷ xs) =
    omega (
      arith,
      sum_same (λ y. sum_by (f y) (x ∷ xs)) (λ y. f y x + sum_by (f y) xs) ys (λ y. sum_by-cons (f y) x xs),
      sum_plus (λ y. f y x) (λ y. sum_by (f y) xs) ys,
      rows_and_columns f ys xs,
      sum_by-cons (λ x. sum_by (λ y. f y x) ys) x xs,
    )

-- a number stands once among those in a row, if it is one of them
abbrev weight_at : ℕ → ℕ → ℕ → ℕ
weight_at w x k = cond (x == k) w 0

nowhere : (w x from count : ℕ) → x < from → sum_by (weight_at w x) (range_with_len from count) ≡ 0
nowhere w x from zero less = refl
nowhere w x from (suc count) less =
    let other : (x == from) ≡ false = ne_eqb x from (λ e. absurd (omega arith)) in
    let none = cond-false {A = ℕ} (x == from) w 0 other in
    omega (arith, sum_by-cons (weight_at w x) from (range_with_len (from + 1) count), none, nowhere w x (from + 1) count (omega arith))

once_from : (w x from count : ℕ) → from ≤ x → x < from + count → (x ≡ from) ⊎ (x ≡ from → ⊥) → sum_by (weight_at w x) (range_with_len from count) ≡ w
once_from w x from zero le less which = absurd (omega arith)
once_from w x from (suc count) le less (inl e) =
    let one = cond-true {A = ℕ} (x == from) w 0 (eq-eqb x from e) in
    omega (arith, sum_by-cons (weight_at w x) from (range_with_len (from + 1) count), one, nowhere w x (from + 1) count (omega arith))
once_from w x from (suc count) le less (inr ne) =
    let none = cond-false {A = ℕ} (x == from) w 0 (ne_eqb x from ne) in
    omega (
      arith,
      sum_by-cons (weight_at w x) from (range_with_len (from + 1) count),
      none,
      once_from w x (from + 1) count (omega (arith, ne)) (omega arith) (cases_eq x (from + 1)),
    )

once : (w x n : ℕ) → x < n → sum_by (weight_at w x) (below n) ≡ w
once w x n less = once_from w x 0 n (omega arith) (omega arith) (cases_eq x 0)

-- classes by a number below n: the weights of all classes are the weights of all items
pub class_weights : {X : Type 0} (key weight : X → ℕ) (n : ℕ) (xs : List X) → AllByRecursion (λ x. key x < n) xs →
    sum_by (λ k. sum_by weight (filter (λ x. key x == k) xs)) (below n) ≡ sum_by weight xs
class_weights key weight n [] all = sum_none (below n)
class_weights key weight n (x ∷ xs) all =
    let of_class = λ (k : ℕ). filter (λ x. key x == k) xs in
    let split = sum_same (λ k. sum_by weight (cond (key x == k) (x ∷ of_class k) (of_class k))) (λ k. cond (key x == k) (weight x) 0 + sum_by weight (of_class k)) (below n)
    (λ k. sum_if weight (key x == k) x (of_class k)) in
    omega (
      arith,
      split,
      sum_plus (λ k. cond (key x == k) (weight x) 0) (λ k. sum_by weight (of_class k)) (below n),
      once (weight x) (key x) n all.0,
      class_weights key weight n xs all.1,
      sum_by-cons weight x xs,
    )

-- where nothing is added, nothing is missed
kept_case : {X : Type 0} (f : X → ℕ) (x : X) (xs : List X) (b : Bool) → nat_lt 0 (f x) ≡ b →
    sum_by f (cond b (x ∷ filter (λ x. nat_lt 0 (f x)) xs) (filter (λ x. nat_lt 0 (f x)) xs)) ≡ f x + sum_by f (filter (λ x. nat_lt 0 (f x)) xs)
kept_case f x xs true e = sum_by-cons f x (filter (λ x. nat_lt 0 (f x)) xs)
kept_case f x xs false e = omega (arith, ltb-false 0 (f x) e)

pub sum_kept : {X : Type 0} (f : X → ℕ) (xs : List X) → sum_by f (filter (λ x. nat_lt 0 (f x)) xs) ≡ sum_by f xs
sum_kept f [] = refl
sum_kept f (x ∷ xs) = omega (arith, kept_case f x xs (nat_lt 0 (f x)) refl, sum_kept f xs, sum_by-cons f x xs)
