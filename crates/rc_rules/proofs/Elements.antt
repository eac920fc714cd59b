-- An element of a list, where a loop stands at it.
use Rattle.std.proofs.Common.{◌≡◌, ℕ, ◌+◌, ◌<◌, ◌≤◌, min, List, ◌∷◌, length, get_or, take, drop, map, arith, sym, ap, subst, ◌∙◌}
use Rattle.std.specs.Prelude.{All, sum_by}
use Rattle.std.proofs.lemmas.List.{at_drop_more, length-map}
use Rattle.std.proofs.lemmas.List.Sums.{sum_by_more, sum_by_more_le}
use Rattle.std.proofs.Math.ListN.{get_or-map}

pub drop_here : {X : Type 0} (xs : List X) (i : ℕ) (x : X) → i < length xs → x ≡ get_or xs i x → drop i xs ≡ x ∷ drop (i + 1) xs
drop_here xs i x lt is = at_drop_more (λ ys. ys) xs i x lt ∙ ap (λ y. y ∷ drop (i + 1) xs) (sym is)

pub map_here : {X Y : Type 0} (f : X → Y) (xs : List X) (i : ℕ) (x : X) → i < length xs → x ≡ get_or xs i x → f x ≡ get_or (map f xs) i (f x)
map_here f xs i x lt is = ap f is ∙ sym (get_or-map f xs i x)

pub each_here : {X Y : Type 0} (P : Y → Type 0) (f : X → Y) (xs : List X) (i : ℕ) (x : X) → All P (map f xs) → i < length xs → x ≡ get_or xs i x → P (f x)
each_here P f xs i x all lt is =
    subst P (sym (map_here f xs i x lt is)) (all i (f x) (omega (arith, length-map xs f)))

-- one more of what is counted
module _ {N M : Type 0} (seen : N → M) (count : M → ℕ) (names : List N) where
  pub counted_more : (i n : ℕ) (x : N) → i < min (length names) n → x ≡ get_or names i x →
      sum_by count (take (i + 1) (map seen names)) ≡ sum_by count (take i (map seen names)) + count (seen x)
  counted_more i n x lt is =
      sum_by_more count (map seen names) i (seen x) (omega (arith, length-map names seen))
      ∙ ap (λ y. sum_by count (take i (map seen names)) + count y) (get_or-map seen names i x ∙ ap seen (sym is))

  pub counted_within : (i n : ℕ) (x : N) → i < min (length names) n → x ≡ get_or names i x →
      sum_by count (take i (map seen names)) + count (seen x) ≤ sum_by count (map seen names)
  counted_within i n x lt is =
      subst (λ y. sum_by count (take i (map seen names)) + count y ≤ sum_by count (map seen names)) (get_or-map seen names i x ∙ ap seen (sym is))
      (sum_by_more_le count (map seen names) i (seen x) (omega (arith, length-map names seen)))
