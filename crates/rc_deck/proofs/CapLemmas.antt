-- Numbers that a cap cuts.
use Rattle.std.proofs.Common.{◌≡◌, ℕ, zero, suc, ◌*◌, ◌≤◌, ◌<◌, min, ap, ◌∙◌, ⊎_elim, arith}
use Rattle.std.proofs.lemmas.Bool.{cases_lt}

-- what a cap cuts before a product is cut after it as well
pub min-mul : (cap m n : ℕ) → min cap (min cap m * n) ≡ min cap (m * n)
min-mul cap m zero = omega arith
min-mul cap m (suc n) =
    ⊎_elim
    (λ (lt : m < cap). let e : min cap m ≡ m = omega arith in ap (λ x. min cap (x * suc n)) e)
    (λ (le : cap ≤ m). let e : min cap m ≡ cap = omega arith in ap (λ x. min cap (x * suc n)) e ∙ omega arith)
    (cases_lt m cap)

-- the same where the other factor is cut first
pub min-mul_cut : (cap m n k : ℕ) → min cap (min cap (m * min cap n) * k) ≡ min cap (m * (n * k))
min-mul_cut cap m n k =
    min-mul cap (m * min cap n) k ∙ ap (min cap) (omega arith) ∙ min-mul cap n (m * k) ∙ ap (min cap) (omega arith)
