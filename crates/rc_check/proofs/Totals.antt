-- Counts that stop one above their limit.
use Rattle.std.proofs.Common.{◌≡◌, ℕ, ◌+◌, min, ◌&&◌, List, [], ◌∷◌, length, leb, ltb, arith}
use Rattle.std.specs.List.{fold}
use Rattle.std.proofs.lemmas.Bool.Decides.{nat_tests}
use Rattle.rc_check.specs.Summary.{counted, goes_over}

-- a count that stops, and so many more
pub counted_more : (most n total more : ℕ) → n ≡ min total (most + 1) → counted most n more ≡ min (total + more) (most + 1)
counted_more most n total more is = omega arith

-- a sum of numbers
pub counted_sum : (most n total : ℕ) (numbers : List ℕ) → n ≡ min total (most + 1)
    → fold (counted most) n numbers ≡ min (fold (λ a x. a + x) total numbers) (most + 1)
counted_sum most n total [] is = is
counted_sum most n total (more ∷ numbers) is =
    counted_sum most (counted most n more) (total + more) numbers (counted_more most n total more is)

-- one more thing, and a count of things
abbrev pub count_one : ℕ → ℕ → ℕ → ℕ
count_one most n x = counted most n 1

pub counted_each : (most n total : ℕ) (numbers : List ℕ) → n ≡ min total (most + 1)
    → fold (count_one most) n numbers ≡ min (total + length numbers) (most + 1)
counted_each most n total [] is = omega arith
counted_each most n total (x ∷ numbers) is =
    let rest = counted_each most (counted most n 1) (total + 1) numbers (counted_more most n total 1 is) in omega arith

-- such a count passes its limit just where the whole does
pub goes_over_whole : (most n total more : ℕ) → n ≡ min total (most + 1)
    → goes_over most n more ≡ (leb total most && ltb most (total + more))
goes_over_whole most n total more is = grind (arith, nat_tests)
