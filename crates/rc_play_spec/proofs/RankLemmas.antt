-- Ranks: a strategy's rank is the number of those before it in the order by points and then by number.
use Rattle.std.proofs.Common.{◌≡◌, ℕ, ◌+◌, ◌<◌, ◌≤◌, ◌==◌, nat_lt, Bool, true, false, ◌&&◌, ◌||◌, List, [], ◌∷◌, ◌⊎◌, inl, inr, ⊎_elim, length, refl, sym, ap, ◌∙◌, arith, eqb-true, ltb-true}
use Rattle.std.specs.Prelude.{count_by, slice_index}
use Rattle.std.proofs.lemmas.Bool.{cases_lt, and_parts, and_from, or_left, or_right, eq-eqb, lt-ltb}
use Rattle.std.proofs.lemmas.List.FromFn.{length-range_with_len}
use Rattle.rc_base.specs.Numbers.{below}
use Rattle.rc_play_spec.specs.House.{ahead, rank_of}
use Rattle.rc_play_spec.proofs.Counting.{one_if, passing, passing-is, passing-map, passing-all, passing-sum, same, once_below, below_each}
use Rattle.rc_play_spec.proofs.SoundLemmas.{by_places}

-- ---- one test that more numbers pass than another

passing-fewer : (p s q : ℕ → Bool) → ((z : ℕ) → one_if (p z) + one_if (s z) ≤ one_if (q z)) → (xs : List ℕ) →
    passing p xs + passing s xs ≤ passing q xs
passing-fewer p s q at [] = omega arith
passing-fewer p s q at (x ∷ xs) = let h = passing-fewer p s q at xs in let k = at x in omega (arith, h, k)

implied : (a b : Bool) → (a ≡ true → b ≡ true) → one_if a ≤ one_if b
implied true b gives = let c = ap one_if (gives refl) in omega (arith, c)
implied false b gives = omega arith

module _ (p q : ℕ → Bool) (x : ℕ) (implies : (z : ℕ) → p z ≡ true → q z ≡ true) (there : q x ≡ true) (lacks : p x ≡ false) where
  one_less : (z : ℕ) (b : Bool) → (z == x) ≡ b → one_if (p z) + one_if (z == x) ≤ one_if (q z)
  one_less z true e =
      let is = eqb-true z x e in
      let a = ap one_if (ap p is ∙ lacks) in
      let b = ap one_if e in
      let c = ap one_if (ap q is ∙ there) in omega (arith, a, b, c)
  one_less z false e =
      let b = ap one_if e in
      let h = implied (p z) (q z) (implies z) in omega (arith, b, h)

  fewer_below : (n : ℕ) → x < n → passing p (below n) < passing q (below n)
  fewer_below n less =
      let h = passing-fewer p (same x) q (λ z. one_less z (z == x) refl) (below n) in
      let one = once_below x n less in omega (arith, h, one)

-- ---- the order by points and then by number

apart : (a b : Bool) → (a ≡ true → b ≡ true → ⊥) → one_if (a || b) ≡ one_if a + one_if b
apart true true never = absurd (never refl refl)
apart true false never = refl
apart false b never = omega arith

module _ (points : List ℕ) where
  abbrev held : ℕ → ℕ
  held strategy = slice_index points strategy

  abbrev pub Precedes : ℕ → ℕ → Type 0
  Precedes z x = (held x < held z) ⊎ ((held z ≡ held x) × (z < x))

  abbrev level : ℕ → ℕ → Bool
  level z x = (held z == held x) && nat_lt z x

  abbrev before : ℕ → ℕ → Bool
  before z x = nat_lt (held x) (held z) || level z x

  precedes : (z x : ℕ) → before z x ≡ true → Precedes z x
  precedes z x e = by (nat_lt (held x) (held z)) refl e
    where
      by : (b : Bool) → nat_lt (held x) (held z) ≡ b → (b || level z x) ≡ true → Precedes z x
      by true is e = inl (ltb-true (held x) (held z) is)
      by false is e = let both = and_parts (held z == held x) (nat_lt z x) e in inr (eqb-true (held z) (held x) both.0, ltb-true z x both.1)

  comes_before : (z x : ℕ) → Precedes z x → before z x ≡ true
  comes_before z x (inl less) = or_left (nat_lt (held x) (held z)) (level z x) (lt-ltb (held x) (held z) less)
  comes_before z x (inr tied) =
      or_right (nat_lt (held x) (held z)) (level z x)
      (and_from (held z == held x) (nat_lt z x) (eq-eqb (held z) (held x) tied.0) (lt-ltb z x tied.1))

  itself : (x : ℕ) → Precedes x x → ⊥
  itself x (inl less) = absurd (omega (arith, less))
  itself x (inr tied) = absurd (omega (arith, tied.1))

  never_itself : (x : ℕ) → before x x ≡ false
  never_itself x = by (before x x) refl
    where
      by : (b : Bool) → before x x ≡ b → b ≡ false
      by true e = absurd (itself x (precedes x x e))
      by false e = refl

  goes_on : (z x y : ℕ) → Precedes z x → Precedes x y → Precedes z y
  goes_on z x y (inl a) (inl b) = inl (omega (arith, a, b))
  goes_on z x y (inl a) (inr b) = let e = b.0 in inl (omega (arith, a, e))
  goes_on z x y (inr a) (inl b) = let e = a.0 in inl (omega (arith, e, b))
  goes_on z x y (inr a) (inr b) = inr (a.0 ∙ b.0, omega (arith, a.1, b.1))

  one_way : (x y : ℕ) → (x ≡ y → ⊥) → Precedes x y ⊎ Precedes y x
  one_way x y differ = by_points (cases_lt (held x) (held y)) (cases_lt (held y) (held x)) (cases_lt x y)
    where
      by_points : (held x < held y) ⊎ (held y ≤ held x) → (held y < held x) ⊎ (held x ≤ held y) → (x < y) ⊎ (y ≤ x) → Precedes x y ⊎ Precedes y x
      by_points (inl less) other number = inr (inl less)
      by_points (inr le) (inl less) number = inl (inl less)
      by_points (inr le) (inr le') (inl less) = inl (inr (omega (arith, le, le'), less))
      by_points (inr le) (inr le') (inr past) = inr (inr (omega (arith, le, le'), omega (arith, past, differ)))

  -- ---- ranks

  disjoint : (z x : ℕ) → one_if (before z x) ≡ one_if (nat_lt (held x) (held z)) + one_if (level z x)
  disjoint z x =
      apart (nat_lt (held x) (held z)) (level z x) (λ e f.
      let less = ltb-true (held x) (held z) e in
      let tied = eqb-true (held z) (held x) (and_parts (held z == held x) (nat_lt z x) f).0 in absurd (omega (arith, less, tied)))

  pub ahead_is : (most : ℕ) → ahead points most ≡ passing (λ z. nat_lt most (held z)) (below (length points))
  ahead_is most =
      sym (passing-is (nat_lt most) points) ∙ ap (passing (nat_lt most)) (by_places points) ∙ passing-map (nat_lt most) held (below (length points))

  level_is : (x : ℕ) → x < length points →
      count_by (λ other. slice_index points other == held x) (below x) ≡ passing (λ z. level z x) (below (length points))
  level_is x less =
      sym (below_each (λ other. held other == held x) (below (length points)) x (λ id l. once_below id (length points) (omega (arith, l, less)))
      ∙ passing-is (λ other. held other == held x) (below x))

  rank_is : (x : ℕ) → x < length points → rank_of points x ≡ passing (λ z. before z x) (below (length points))
  rank_is x less =
      let a = ahead_is (held x) in
      let b = level_is x less in
      let c = passing-sum (λ z. before z x) (λ z. nat_lt (held x) (held z)) (λ z. level z x) (λ z. disjoint z x) (below (length points)) in
      omega (arith, a, b, c)

  -- a rank is a place among as many
  pub rank_within : (x : ℕ) → x < length points → rank_of points x < length points
  rank_within x less =
      let h = fewer_below (λ z. before z x) (λ z. true) x (λ z e. refl) refl (never_itself x) (length points) less in
      let all = passing-all (below (length points)) in
      let long = length-range_with_len 0 (length points) in
      let is = rank_is x less in omega (arith, h, all, long, is)

  rank_less : (x y : ℕ) → x < length points → y < length points → Precedes x y → rank_of points x < rank_of points y
  rank_less x y x-in y-in first =
      let h = fewer_below (λ z. before z x) (λ z. before z y) x (λ z e. comes_before z y (goes_on z x y (precedes z x e) first))
      (comes_before x y first) (never_itself x) (length points) x-in in
      let a = rank_is x x-in in
      let b = rank_is y y-in in omega (arith, h, a, b)

  -- and tells the order
  pub by_rank : (x y : ℕ) → x < length points → y < length points → (x ≡ y → ⊥) → rank_of points x ≤ rank_of points y → Precedes x y
  by_rank x y x-in y-in differ le =
      ⊎_elim (λ first. first) (λ first. let l = rank_less y x y-in x-in first in absurd (omega (arith, le, l))) (one_way x y differ)
