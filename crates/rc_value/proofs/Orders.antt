-- The places of a list, in an order.
use Rattle.std.proofs.Common.{◌≡◌, ℕ, zero, suc, ◌+◌, ◌<◌, List, [], ◌∷◌, ◌++◌, length, refl, sym, ap, ap₂, ◌∙◌, subst, arith}
use Rattle.std.specs.List.{AllByRecursion, range_with_len}
use Rattle.std.specs.List.Sorted.{IsPermutation}
use Rattle.std.proofs.lemmas.List.Elements.{recursion_from_All, All-from_recursion}
use Rattle.std.proofs.lemmas.List.FromFn.{length-range_with_len, get_or-range_with_len}
use Rattle.std.proofs.lemmas.List.Sorted.{All-permutation}
use Rattle.rc_base.specs.Numbers.{below}
use Rattle.rc_play_spec.specs.Table.{taken}
use Rattle.rc_play_spec.proofs.CardLemmas.{numbers_below}

range_more : (a n : ℕ) → range_with_len a (n + 1) ≡ range_with_len a n ++ (a + n) ∷ []
range_more a zero = let e : a ≡ a + 0 = omega arith in ap (λ k. k ∷ []) e
range_more a (suc n) =
    let two : suc n + 1 ≡ suc (n + 1) = omega arith in
    let last : a + 1 + n ≡ a + suc n = omega arith in
    ap (range_with_len a) two ∙ ap (λ ns. a ∷ ns) (range_more (a + 1) n ∙ ap (λ k. range_with_len (a + 1) n ++ k ∷ []) last)

order_taken : (n : ℕ) (order : List ℕ) → AllByRecursion (λ k. k < n) order → taken order (below n) ≡ order
order_taken n [] all = refl
order_taken n (k ∷ order) all =
    let e : 0 + k ≡ k = omega arith in ap₂ (λ j js. j ∷ js) (get_or-range_with_len 0 n k 0 all.0 ∙ e) (order_taken n order all.1)

-- the places, in an order, are the order
order_of_places : (n : ℕ) (order : List ℕ) → IsPermutation (below n) order → taken order (below n) ≡ order
order_of_places n order permutes =
    order_taken n order
    (recursion_from_All (λ k. k < n) order
    (All-permutation (λ k. k < n) (below n) order permutes (All-from_recursion (λ k. k < n) (below n) (numbers_below 0 n n (omega arith)))))

-- the places of a list, shuffled, are the order that its length is given
pub shuffled : (f : ℕ → List ℕ) (n : ℕ) (places list : List ℕ) → places ≡ below n → IsPermutation (below (length places)) (f (length places)) →
    list ≡ taken (f (length places)) places → (list ≡ f n) × IsPermutation (below n) list
shuffled f n places list are permutes is =
    let long : length places ≡ n = ap length are ∙ length-range_with_len 0 n in
    let order = subst (λ k. IsPermutation (below k) (f k)) long permutes in
    let same : list ≡ f n = is ∙ ap₂ (λ k ps. taken (f k) ps) long are ∙ order_of_places n (f n) order in
    (same, subst (IsPermutation (below n)) (sym same) order)
