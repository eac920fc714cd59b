-- What holds of each item of lists, and of lists that are mapped.
use Rattle.std.proofs.Common.{◌≡◌, ℕ, zero, suc, ◌≤◌, Bool, ◌||◌, List, [], ◌∷◌, ◌++◌, length, map, take, slice_get}
use Rattle.std.proofs.Common.{None, Result, Ok, Err, OnOk, refl, ap, arith, ◌+◌}
use Rattle.std.specs.List.{AllByRecursion, AllZip, list_any}

-- what holds of each holds of each of a part
pub take_each : {X : Type 0} (P : X → Type 0) (n : ℕ) (xs : List X) → AllByRecursion P xs → AllByRecursion P (take n xs)
take_each P zero xs all = tt
take_each P (suc n) [] all = tt
take_each P (suc n) (x ∷ xs) all = (all.0, take_each P n xs all.1)

pub append_each : {X : Type 0} (P : X → Type 0) (xs ys : List X) → AllByRecursion P xs → AllByRecursion P ys →
    AllByRecursion P (xs ++ ys)
append_each P [] ys all all' = all'
append_each P (x ∷ xs) ys all all' = (all.0, append_each P xs ys all.1 all')

-- of two lists, one behind the other
pub parts_of_append : {X : Type 0} (P : X → Type 0) (xs ys : List X) → AllByRecursion P (xs ++ ys) →
    AllByRecursion P xs × AllByRecursion P ys
parts_of_append P [] ys all = (tt, all)
parts_of_append P (x ∷ xs) ys all = let rest = parts_of_append P xs ys all.1 in ((all.0, rest.0), rest.1)

-- one more of each of two lists
pub zip_push : {A B : Type 0} (R : A → B → Type 0) (xs : List A) (ys : List B) (x : A) (y : B) → AllZip R xs ys →
    R x y → AllZip R (xs ++ x ∷ []) (ys ++ y ∷ [])
zip_push R [] [] x y all is = (is, tt)
zip_push R [] (y' ∷ ys) x y all is = absurd all
zip_push R (x' ∷ xs) [] x y all is = absurd all
zip_push R (x' ∷ xs) (y' ∷ ys) x y all is = (all.0, zip_push R xs ys x y all.1 is)

pub any-map : {X Y : Type 0} (P : Y → Bool) (f : X → Y) (xs : List X) →
    list_any P (map f xs) ≡ list_any (λ x. P (f x)) xs
any-map P f [] = refl
any-map P f (x ∷ xs) = ap (λ b. P (f x) || b) (any-map P f xs)

pub past_end : {A : Type 0} (xs : List A) (i : ℕ) → slice_get xs i ≡ None → length xs ≤ i
past_end [] i is = omega arith
past_end (x ∷ xs) zero is = absurd cc
past_end (x ∷ xs) (suc i) is = let less = past_end xs i is in omega (arith, less)

pub on_ok : {A E P Q : Type 0} (result : Result A E) → OnOk result P → (P → Q) → OnOk result Q
on_ok (Ok a) holds more = more holds
on_ok (Err e) holds more = tt

pub unmapped : {X Y : Type 0} (P : Y → Type 0) (f : X → Y) (xs : List X) → AllByRecursion P (map f xs) →
    AllByRecursion (λ x. P (f x)) xs
unmapped P f [] all = tt
unmapped P f (x ∷ xs) all = (all.0, unmapped P f xs all.1)

pub at_most_each : (m n : ℕ) (points : List ℕ) → m ≤ n → AllByRecursion (λ p. p ≤ m) points →
    AllByRecursion (λ p. p ≤ n) points
at_most_each m n [] le all = tt
at_most_each m n (p ∷ points) le all = (omega (arith, all.0), at_most_each m n points le all.1)

pub push_each : {X : Type 0} (P : X → Type 0) (xs : List X) (x : X) → AllByRecursion P xs → P x →
    AllByRecursion P (xs ++ x ∷ [])
push_each P [] x a p = (p, tt)
push_each P (y ∷ xs) x a p = (a.0, push_each P xs x a.1 p)
