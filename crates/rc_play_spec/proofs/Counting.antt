-- How many items of a list pass a test.
use Rattle.std.proofs.Common.{◌≡◌, ℕ, zero, suc, ◌+◌, ◌<◌, ◌≤◌, ◌==◌, Bool, true, false, ◌&&◌, ◌||◌, cond, List, [], ◌∷◌, ◌++◌, length, map, refl, sym, ap, ap₂, ◌∙◌, true≢false, arith}
use Rattle.std.specs.Prelude.{filter, count_by, nat_lt}
use Rattle.std.specs.List.{AllByRecursion, list_any, range_with_len}
use Rattle.std.proofs.lemmas.List.Recursion.{is_count_by}
use Rattle.std.proofs.lemmas.Bool.Decides.{Decides-eqb, Decides-ltb}
use Rattle.rc_base.specs.Numbers.{below}

abbrev pub one_if : Bool → ℕ
one_if true = 1
one_if false = 0

abbrev pub passing : {X : Type 0} → (X → Bool) → List X → ℕ
passing p [] = 0
passing p (x ∷ xs) = one_if (p x) + passing p xs

abbrev pub same : ℕ → ℕ → Bool
same id other = other == id

one_step : (b : Bool) (n : ℕ) → one_if b + n ≡ cond b (1 + n) n
one_step true n = refl
one_step false n = omega arith

pub passing-is : {X : Type 0} (p : X → Bool) (xs : List X) → passing p xs ≡ count_by p xs
passing-is p xs = is_count_by (passing p) p refl (λ x ys. one_step (p x) (passing p ys)) xs

pub passing-append : {X : Type 0} (p : X → Bool) (xs ys : List X) → passing p (xs ++ ys) ≡ passing p xs + passing p ys
passing-append p [] ys = omega arith
passing-append p (x ∷ xs) ys = let h = passing-append p xs ys in omega (arith, h)

pub passing-map : {X Y : Type 0} (p : Y → Bool) (f : X → Y) (xs : List X) → passing p (map f xs) ≡ passing (λ x. p (f x)) xs
passing-map p f [] = refl
passing-map p f (x ∷ xs) = ap (λ n. one_if (p (f x)) + n) (passing-map p f xs)

pub passing-all : {X : Type 0} (xs : List X) → passing (λ x. true) xs ≡ length xs
passing-all [] = refl
passing-all (x ∷ xs) = let h = passing-all xs in omega (arith, h)

pub passing-sum : {X : Type 0} (p a b : X → Bool) → ((x : X) → one_if (p x) ≡ one_if (a x) + one_if (b x)) → (xs : List X) → passing p xs ≡ passing a xs + passing b xs
passing-sum p a b e [] = refl
passing-sum p a b e (x ∷ xs) = let h = passing-sum p a b e xs in let k = e x in omega (arith, h, k)

passing-none : {X : Type 0} (p : X → Bool) → ((x : X) → one_if (p x) ≡ 0) → (xs : List X) → passing p xs ≡ 0
passing-none p e [] = refl
passing-none p e (x ∷ xs) = let h = passing-none p e xs in let k = e x in omega (arith, h, k)

passing-same : {X : Type 0} (p q : X → Bool) → ((x : X) → one_if (p x) ≡ one_if (q x)) → (xs : List X) → passing p xs ≡ passing q xs
passing-same p q e [] = refl
passing-same p q e (x ∷ xs) = ap₂ ◌+◌ (e x) (passing-same p q e xs)

pub none_if : (b : Bool) → (b ≡ true → ⊥) → one_if b ≡ 0
none_if true no' = absurd (no' refl)
none_if false no' = refl

-- whether an item passes
any_step : (a : Bool) (rest : Bool) (n : ℕ) → (rest ≡ true → 0 < n) → (a || rest) ≡ true → 0 < one_if a + n
any_step true rest n h e = omega arith
any_step false rest n h e = let k = h e in omega (arith, k)

pub some_passes : {X : Type 0} (p : X → Bool) (xs : List X) → list_any p xs ≡ true → 0 < passing p xs
some_passes p [] e = absurd (true≢false (sym e))
some_passes p (x ∷ xs) e = any_step (p x) (list_any p xs) (passing p xs) (some_passes p xs) e

none_step : (a : Bool) (rest : Bool) (n : ℕ) → (rest ≡ false → n ≡ 0) → (a || rest) ≡ false → one_if a + n ≡ 0
none_step true rest n h e = absurd (true≢false e)
none_step false rest n h e = let k = h e in omega (arith, k)

pub none_passes : {X : Type 0} (p : X → Bool) (xs : List X) → list_any p xs ≡ false → passing p xs ≡ 0
none_passes p [] e = refl
none_passes p (x ∷ xs) e = none_step (p x) (list_any p xs) (passing p xs) (none_passes p xs) e

-- a number in what a filter keeps
module _ (q : ℕ → Bool) (id : ℕ) where
  other_number : (x : ℕ) → (q x ≡ q id → ⊥) → one_if (x == id) ≡ 0
  other_number x differ = none_if (x == id) (λ e. differ (ap q ((Decides-eqb x id).0 e)))

  kept_step : q id ≡ true → (x : ℕ) (xs : List ℕ) → passing (same id) (filter q xs) ≡ passing (same id) xs → (b : Bool) → q x ≡ b →
      passing (same id) (cond b (x ∷ filter q xs) (filter q xs)) ≡ one_if (x == id) + passing (same id) xs
  kept_step is x xs rest true e = ap (λ n. one_if (x == id) + n) rest
  kept_step is x xs rest false e =
      let other = other_number x (λ s. true≢false (sym is ∙ sym s ∙ e)) in omega (arith, rest, other)

  pub kept : q id ≡ true → (xs : List ℕ) → passing (same id) (filter q xs) ≡ passing (same id) xs
  kept is [] = refl
  kept is (x ∷ xs) = kept_step is x xs (kept is xs) (q x) refl

  left_step : q id ≡ false → (x : ℕ) (xs : List ℕ) → passing (same id) (filter q xs) ≡ 0 → (b : Bool) → q x ≡ b →
      passing (same id) (cond b (x ∷ filter q xs) (filter q xs)) ≡ 0
  left_step is x xs rest true e =
      let other = other_number x (λ s. true≢false (sym e ∙ s ∙ is)) in omega (arith, rest, other)
  left_step is x xs rest false e = rest

  pub left_out : q id ≡ false → (xs : List ℕ) → passing (same id) (filter q xs) ≡ 0
  left_out is [] = refl
  left_out is (x ∷ xs) = left_step is x xs (left_out is xs) (q x) refl

-- the numbers below n
range_push : (q : ℕ → Bool) (a n : ℕ) → passing q (range_with_len a (suc n)) ≡ passing q (range_with_len a n) + one_if (q (a + n))
range_push q a zero = let e : a + 0 ≡ a = omega arith in let h = ap (λ k. one_if (q k)) e in omega (arith, h)
range_push q a (suc n) =
    let h = range_push q (a + 1) n in
    let e : a + 1 + n ≡ a + suc n = omega arith in
    let k = ap (λ k. one_if (q k)) e in omega (arith, h, k)

below_push : (q : ℕ → Bool) (n : ℕ) → passing q (below (suc n)) ≡ passing q (below n) + one_if (q n)
below_push q n = let e : 0 + n ≡ n = omega arith in range_push q 0 n ∙ ap (λ k. passing q (below n) + one_if (q k)) e

pub self : (n : ℕ) → one_if (n == n) ≡ 1
self n = ap one_if ((Decides-eqb n n).1 refl)

-- one number more
module _ (id n : ℕ) where
  within_step : (n ≤ id → passing (same id) (below n) ≡ 0) → (id < n → passing (same id) (below n) ≡ 1) → id < suc n →
      (b : Bool) → (n == id) ≡ b → passing (same id) (below (suc n)) ≡ 1
  within_step past before less true e =
      let is = (Decides-eqb n id).0 e in
      let h = past (omega (arith, is)) in
      let k = ap one_if e in
      let p = below_push (same id) n in omega (arith, h, k, p)
  within_step past before less false e =
      let differ : n ≡ id → ⊥ = λ is. true≢false (sym ((Decides-eqb n id).1 is) ∙ e) in
      let h = before (omega (arith, less, differ)) in
      let k = ap one_if e in
      let p = below_push (same id) n in omega (arith, h, k, p)

  past_step : passing (same id) (below n) ≡ 0 → suc n ≤ id → passing (same id) (below (suc n)) ≡ 0
  past_step h le =
      let k = none_if (n == id) (λ e. let is = (Decides-eqb n id).0 e in omega (arith, is, le)) in
      let p = below_push (same id) n in omega (arith, h, k, p)

pub in_below : (id n : ℕ) → (id < n → passing (same id) (below n) ≡ 1) × (n ≤ id → passing (same id) (below n) ≡ 0)
in_below id zero = (λ less. absurd (omega (arith, less)), λ le. refl)
in_below id (suc n) =
    let h = in_below id n in
    (λ less. within_step id n h.1 h.0 less (n == id) refl, λ le. past_step id n (h.1 (omega (arith, le))) le)

pub once_below : (id n : ℕ) → id < n → passing (same id) (below n) ≡ 1
once_below id n less = (in_below id n).0 less

-- a list in which each number below n stands once, and no other, has as many that pass as those numbers in order
less_at : (x n : ℕ) (a : Bool) → nat_lt x n ≡ a → (e : Bool) → (x == n) ≡ e → one_if (nat_lt x (suc n)) ≡ one_if a + one_if e
less_at x n true less true is =
    let l = (Decides-ltb x n).0 less in let k = (Decides-eqb x n).0 is in absurd (omega (arith, l, k))
less_at x n true less false is = let l = (Decides-ltb x n).0 less in ap one_if ((Decides-ltb x (suc n)).1 (omega (arith, l)))
less_at x n false less true is = let k = (Decides-eqb x n).0 is in ap one_if ((Decides-ltb x (suc n)).1 (omega (arith, k)))
less_at x n false less false is =
    let not_less : x < n → ⊥ = λ l. true≢false (sym ((Decides-ltb x n).1 l) ∙ less) in
    let differ : x ≡ n → ⊥ = λ k. true≢false (sym ((Decides-eqb x n).1 k) ∙ is) in
    none_if (nat_lt x (suc n)) (λ t. let l = (Decides-ltb x (suc n)).0 t in omega (arith, l, not_less, differ))

both_push : (a c l e : Bool) → one_if c ≡ one_if l + one_if e → one_if (a && c) ≡ one_if (a && l) + one_if (a && e)
both_push true c l e h = h
both_push false c l e h = refl

none_both : (a c : Bool) → (c ≡ true → ⊥) → one_if (a && c) ≡ 0
none_both true c h = none_if c h
none_both false c h = refl

all_both : (a c : Bool) → c ≡ true → one_if (a && c) ≡ one_if a
all_both true c h = ap one_if h
all_both false c h = refl

module _ (q : ℕ → Bool) (xs : List ℕ) where
  yes_here : (n x : ℕ) → q n ≡ true → (c : Bool) → (x == n) ≡ c → one_if (q x && c) ≡ one_if c
  yes_here n x e true is = ap (λ a. one_if (a && true)) (ap q ((Decides-eqb x n).0 is) ∙ e)
  yes_here n x e false is = none_both (q x) false (λ h. true≢false (sym h))

  no_here : (n x : ℕ) → q n ≡ false → (c : Bool) → (x == n) ≡ c → one_if (q x && c) ≡ 0
  no_here n x e true is = ap (λ a. one_if (a && true)) (ap q ((Decides-eqb x n).0 is) ∙ e)
  no_here n x e false is = none_both (q x) false (λ h. true≢false (sym h))

  at_number : (n : ℕ) → passing (same n) xs ≡ 1 → (b : Bool) → q n ≡ b → passing (λ x. q x && (x == n)) xs ≡ one_if b
  at_number n once true e = passing-same (λ x. q x && (x == n)) (same n) (λ x. yes_here n x e (x == n) refl) xs ∙ once
  at_number n once false e = passing-none (λ x. q x && (x == n)) (λ x. no_here n x e (x == n) refl) xs

  pub below_each : (n : ℕ) → ((id : ℕ) → id < n → passing (same id) xs ≡ 1) → passing (λ x. q x && nat_lt x n) xs ≡ passing q (below n)
  below_each zero once =
      passing-none (λ x. q x && nat_lt x 0) (λ x. none_both (q x) (nat_lt x 0) (λ t. let l = (Decides-ltb x 0).0 t in omega (arith, l))) xs
  below_each (suc n) once =
      passing-sum (λ x. q x && nat_lt x (suc n)) (λ x. q x && nat_lt x n) (λ x. q x && (x == n))
      (λ x. both_push (q x) (nat_lt x (suc n)) (nat_lt x n) (x == n) (less_at x n (nat_lt x n) refl (x == n) refl)) xs
      ∙ ap₂ ◌+◌ (below_each n (λ id less. once id (omega (arith, less)))) (at_number n (once n (omega arith)) (q n) refl)
      ∙ sym (below_push q n)

  all_within : (n : ℕ) (ys : List ℕ) → AllByRecursion (λ x. x < n) ys → passing (λ x. q x && nat_lt x n) ys ≡ passing q ys
  all_within n [] all = refl
  all_within n (y ∷ ys) all = ap₂ ◌+◌ (all_both (q y) (nat_lt y n) ((Decides-ltb y n).1 all.0)) (all_within n ys all.1)

  pub each_once : (n : ℕ) → AllByRecursion (λ x. x < n) xs → ((id : ℕ) → id < n → passing (same id) xs ≡ 1) → passing q xs ≡ passing q (below n)
  each_once n all once = sym (all_within n xs all) ∙ below_each n once
