-- Numbers in order, and what is made of them.
use Rattle.std.proofs.Common.{◌≡◌, ℕ, zero, suc, ◌+◌, ◌<◌, [], ◌∷◌, ◌++◌, length, map, get_or, ap, ◌∙◌, arith}
use Rattle.std.specs.List.{range_with_len}
use Rattle.std.proofs.lemmas.List.FromFn.{length-range_with_len}
use Rattle.rc_base.specs.Numbers.{below}

pub range_push : (a n : ℕ) → range_with_len a (suc n) ≡ range_with_len a n ++ (a + n) ∷ []
range_push a zero = let first : a ≡ a + 0 = omega arith in ap (λ k. k ∷ []) first
range_push a (suc n) =
    let next : a + 1 + n ≡ a + suc n = omega arith in
    ap (λ xs. a ∷ xs) (range_push (a + 1) n ∙ ap (λ k. range_with_len (a + 1) n ++ k ∷ []) next)

pub below_push : (n : ℕ) → below (n + 1) ≡ below n ++ n ∷ []
below_push n =
    ap below (let e : n + 1 ≡ suc n = omega arith in e) ∙ range_push 0 n
    ∙ ap (λ k. below n ++ k ∷ []) (let e : 0 + n ≡ n = omega arith in e)

pub below_length : (n : ℕ) → length (below n) ≡ n
below_length n = length-range_with_len 0 n

pub at_range : {X : Type 0} (f : ℕ → X) (a n k : ℕ) (d : X) → k < n →
    get_or (map f (range_with_len a n)) k d ≡ f (a + k)
at_range f a zero k d lt = absurd (omega arith)
at_range f a (suc n) zero d lt = let same : a ≡ a + 0 = omega arith in ap f same
at_range f a (suc n) (suc k) d lt =
    let same : (a + 1) + k ≡ a + suc k = omega arith in at_range f (a + 1) n k d (omega arith) ∙ ap f same
