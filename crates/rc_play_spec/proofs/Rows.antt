-- Numbers in rows: all below a number, sorted into rows by a rank that each of them has.
use Rattle.std.proofs.Common.{◌≡◌, ℕ, zero, suc, ◌+◌, ◌<◌, ◌≤◌, ◌==◌, Bool, true, false, cond, List, [], ◌∷◌, ◌++◌, inl, inr, ⊎_elim, refl, sym, ap, ◌∙◌, subst, true≢false, arith, eqb-true}
use Rattle.std.specs.Prelude.{filter, IsPermutation}
use Rattle.std.specs.List.{flat_map, range_with_len}
use Rattle.std.proofs.lemmas.Bool.{cases_lt}
use Rattle.std.proofs.lemmas.Bool.Decides.{Decides-eqb}
use Rattle.std.proofs.lemmas.List.Sorted.{IsPermutation-refl, IsPermutation-sym, IsPermutation-cons, IsPermutation-trans, IsPermutation-middle}
use Rattle.rc_base.specs.Numbers.{below}
use Rattle.rc_deck.proofs.Orders.{In, In-flat_map_source, Ordered, Ordered-append}
use Rattle.rc_play_spec.proofs.Counting.{one_if, passing, passing-append, same, none_if, kept, left_out, self, in_below, once_below}

-- ---- lists in which each number stands equally often

abbrev Splits : ℕ → List ℕ → Type 0
Splits id ys = (front : List ℕ) × (back : List ℕ) × (ys ≡ front ++ id ∷ back)

found_step : (id y : ℕ) (ys : List ℕ) → 0 < passing (same id) (y ∷ ys) → (0 < passing (same id) ys → Splits id ys) → (b : Bool) → (y == id) ≡ b →
    Splits id (y ∷ ys)
found_step id y ys some rest true e = ([], ys, ap (λ z. z ∷ ys) (eqb-true y id e))
found_step id y ys some rest false e =
    let none = ap one_if e in
    let r = rest (omega (arith, some, none)) in (y ∷ r.0, r.1, ap (λ zs. y ∷ zs) r.2)

-- where a number stands
found : (id : ℕ) (ys : List ℕ) → 0 < passing (same id) ys → Splits id ys
found id [] some = absurd (omega (arith, some))
found id (y ∷ ys) some = found_step id y ys some (found id ys) (y == id) refl

permutes_by_counts : (xs ys : List ℕ) → ((id : ℕ) → passing (same id) xs ≡ passing (same id) ys) → IsPermutation xs ys
permutes_by_counts [] [] counts = IsPermutation-refl []
permutes_by_counts [] (y ∷ ys) counts = let h = counts y in let one = self y in absurd (omega (arith, h, one))
permutes_by_counts (x ∷ xs) ys counts =
    let h = counts x in
    let one = self x in
    let at = found x ys (omega (arith, h, one)) in
    let front : List ℕ = at.0 in
    let back : List ℕ = at.1 in
    let fewer : (id : ℕ) → passing (same id) xs ≡ passing (same id) (front ++ back) = λ id.
    let c = counts id in
    let split = ap (passing (same id)) at.2 in
    let with = passing-append (same id) front (x ∷ back) in
    let without = passing-append (same id) front back in omega (arith, c, split, with, without) in
    subst (IsPermutation (x ∷ xs)) (sym at.2)
    (IsPermutation-trans (x ∷ xs) (x ∷ (front ++ back)) (front ++ x ∷ back)
    (IsPermutation-cons x xs (front ++ back) (permutes_by_counts xs (front ++ back) fewer))
    (IsPermutation-sym (front ++ x ∷ back) (x ∷ (front ++ back)) (IsPermutation-middle front x back)))

-- ---- members of filters and of ranges

in_step : (q : ℕ → Bool) (x y : ℕ) (ys : List ℕ) → (In x (filter q ys) → In x ys × (q x ≡ true)) → (b : Bool) → q y ≡ b →
    In x (cond b (y ∷ filter q ys) (filter q ys)) → In x (y ∷ ys) × (q x ≡ true)
in_step q x y ys rest true e (inl is) = (inl is, ap q is ∙ e)
in_step q x y ys rest true e (inr there) = let h = rest there in (inr h.0, h.1)
in_step q x y ys rest false e there = let h = rest there in (inr h.0, h.1)

in_filter : (q : ℕ → Bool) (x : ℕ) (ys : List ℕ) → In x (filter q ys) → In x ys × (q x ≡ true)
in_filter q x [] there = absurd there
in_filter q x (y ∷ ys) there = in_step q x y ys (in_filter q x ys) (q y) refl there

in_range : (x a m : ℕ) → In x (range_with_len a m) → (a ≤ x) × (x < a + m)
in_range x a zero there = absurd there
in_range x a (suc m) (inl is) = (omega (arith, is), omega (arith, is))
in_range x a (suc m) (inr there) = let h = in_range x (a + 1) m there in (omega (arith, h.0), omega (arith, h.1))

kept_front : (R : ℕ → ℕ → Type 0) (q : ℕ → Bool) (x : ℕ) (ys : List ℕ) → ((y : ℕ) → In y ys → q x ≡ true → q y ≡ true → R x y) →
    Ordered R (filter q ys) → (b : Bool) → q x ≡ b → Ordered R (cond b (x ∷ filter q ys) (filter q ys))
kept_front R q x ys front rest true e = (λ y there. let h = in_filter q y ys there in front y h.0 e h.1, rest)
kept_front R q x ys front rest false e = rest

ordered_kept : (R : ℕ → ℕ → Type 0) (q : ℕ → Bool) (ys : List ℕ) → Ordered (λ x y. q x ≡ true → q y ≡ true → R x y) ys → Ordered R (filter q ys)
ordered_kept R q [] ordered = tt
ordered_kept R q (x ∷ ys) ordered = kept_front R q x ys ordered.0 (ordered_kept R q ys ordered.1) (q x) refl

-- ---- rows

module _ (r : ℕ → ℕ) (n : ℕ) where
  -- the numbers of a rank
  abbrev pub row : ℕ → List ℕ
  row rank = filter (λ x. r x == rank) (below n)

  in_row : (id rank : ℕ) → id < n → (b : Bool) → (r id == rank) ≡ b → passing (same id) (row rank) ≡ one_if (rank == r id)
  in_row id rank less true e =
      kept (λ x. r x == rank) id e (below n) ∙ once_below id n less
      ∙ sym (ap one_if ((Decides-eqb rank (r id)).1 (sym ((Decides-eqb (r id) rank).0 e))))
  in_row id rank less false e =
      left_out (λ x. r x == rank) id e (below n)
      ∙ sym (none_if (rank == r id) (λ t. true≢false (sym ((Decides-eqb (r id) rank).1 (sym ((Decides-eqb rank (r id)).0 t))) ∙ e)))

  not_in_row : (id rank : ℕ) → n ≤ id → (b : Bool) → (r id == rank) ≡ b → passing (same id) (row rank) ≡ 0
  not_in_row id rank le true e = kept (λ x. r x == rank) id e (below n) ∙ (in_below id n).1 le
  not_in_row id rank le false e = left_out (λ x. r x == rank) id e (below n)

  in_rows : (id : ℕ) → id < n → (ranks : List ℕ) → passing (same id) (flat_map row ranks) ≡ passing (same (r id)) ranks
  in_rows id less [] = refl
  in_rows id less (rank ∷ ranks) =
      let here = in_row id rank less (r id == rank) refl in
      let later = in_rows id less ranks in
      let parts = passing-append (same id) (row rank) (flat_map row ranks) in omega (arith, here, later, parts)

  not_in_rows : (id : ℕ) → n ≤ id → (ranks : List ℕ) → passing (same id) (flat_map row ranks) ≡ 0
  not_in_rows id le [] = refl
  not_in_rows id le (rank ∷ ranks) =
      let here = not_in_row id rank le (r id == rank) refl in
      let later = not_in_rows id le ranks in
      let parts = passing-append (same id) (row rank) (flat_map row ranks) in omega (arith, here, later, parts)

  -- where ranks are below the number too, each number stands in one row
  module _ (within : (x : ℕ) → x < n → r x < n) where
    counts : (id : ℕ) → passing (same id) (below n) ≡ passing (same id) (flat_map row (below n))
    counts id =
        ⊎_elim
        (λ less. once_below id n less ∙ sym (in_rows id less (below n) ∙ once_below (r id) n (within id less)))
        (λ le. (in_below id n).1 le ∙ sym (not_in_rows id le (below n)))
        (cases_lt id n)

    pub rows_permute : IsPermutation (below n) (flat_map row (below n))
    rows_permute = permutes_by_counts (below n) (flat_map row (below n)) counts

  -- and they are in an order that the ranks tell
  module _ (R : ℕ → ℕ → Type 0) (by_rank : (x y : ℕ) → x < n → y < n → (x ≡ y → ⊥) → r x ≤ r y → R x y) where
    pairs : (rank a m : ℕ) → a + m ≤ n → Ordered (λ x y. (r x == rank) ≡ true → (r y == rank) ≡ true → R x y) (range_with_len a m)
    pairs rank a zero le = tt
    pairs rank a (suc m) le = (
      λ y there e e'.
          let h = in_range y (a + 1) m there in
          let s = eqb-true (r a) rank e in
          let t = eqb-true (r y) rank e' in
          by_rank a y (omega (arith, le)) (omega (arith, le, h.1)) (λ is. absurd (omega (arith, is, h.0))) (omega (arith, s, t)),
      pairs rank (a + 1) m (omega (arith, le)),
    )

    pub rows_ordered : (a m : ℕ) → Ordered R (flat_map row (range_with_len a m))
    rows_ordered a zero = tt
    rows_ordered a (suc m) =
        Ordered-append R (row a) (flat_map row (range_with_len (a + 1) m))
        (ordered_kept R (λ x. r x == a) (below n) (pairs a 0 n (omega arith)))
        (rows_ordered (a + 1) m)
        (λ x y in-x in-y.
        let f = in_filter (λ x. r x == a) x (below n) in-x in
        let s = In-flat_map_source row y (range_with_len (a + 1) m) in-y in
        let g = in_filter (λ x. r x == s.0) y (below n) s.2 in
        let rank = in_range s.0 (a + 1) m s.1 in
        let x-in = in_range x 0 n f.0 in
        let y-in = in_range y 0 n g.0 in
        let x-at = eqb-true (r x) a f.1 in
        let y-at = eqb-true (r y) s.0 g.1 in
        by_rank x y (omega (arith, x-in.1)) (omega (arith, y-in.1))
        (λ is. let both = ap r is in absurd (omega (arith, rank.0, x-at, y-at, both)))
        (omega (arith, rank.0, x-at, y-at)))
