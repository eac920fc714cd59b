-- Products and sums that are counted as far as 513.
use Rattle.std.proofs.Common.{◌≡◌, ℕ, zero, suc, ◌*◌, ◌<◌, ◌≤◌, ◌⊎◌, inl, inr, min, sym, ap, ◌∙◌, arith}
use Rattle.std.proofs.lemmas.Bool.{cases_lt}
use Rattle.std.proofs.Math.Nat.{min-eq_left, min-eq_right, mul-suc, mul_assoc, mul_comm}

-- a factor may be cut
times_by : (a b : ℕ) → (513 < a) ⊎ (a ≤ 513) → min (min a 513 * b) 513 ≡ min (a * b) 513
times_by a b (inr le) = ap (λ n. min (n * b) 513) (min-eq_left le)
times_by a zero (inl lt) = omega arith
times_by a (suc b) (inl lt) =
    ap (λ n. min (n * suc b) 513) (min-eq_right (omega (arith, lt)))
    ∙ min-eq_right (omega (arith, mul-suc 513 b))
    ∙ sym (min-eq_right (omega (arith, mul-suc a b, lt)))

pub times : (a b : ℕ) → min (min a 513 * b) 513 ≡ min (a * b) 513
times a b = times_by a b (cases_lt 513 a)

-- one more factor
pub one_more : (count faces rest : ℕ) → min (min (count * min faces 513) 513 * rest) 513 ≡ min (count * (faces * rest)) 513
one_more count faces rest =
    times (count * min faces 513) rest
    ∙ ap (λ n. min (n * rest) 513) (mul_comm count (min faces 513))
    ∙ ap (λ n. min n 513) (mul_assoc (min faces 513) count rest)
    ∙ times faces (count * rest)
    ∙ ap (λ n. min n 513)
    (sym (mul_assoc faces count rest) ∙ ap (λ n. n * rest) (mul_comm faces count) ∙ mul_assoc count faces rest)
