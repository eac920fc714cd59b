-- Marks are read exactly where their texts stand, and are compared exactly.
use Rattle.std.proofs.Common.{◌≡◌, ℕ, zero, suc, ◌≤◌, true, List, [], ◌∷◌, ◌++◌, flat_map, length, Option, Some, codes, decimal, refl, ap, ◌∙◌, subst, arith, inl, inr, eqb-true}
use Rattle.std.specs.List.{AllByRecursion}
use Rattle.std.proofs.lemmas.Bool.{eq-eqb}
use Rattle.rc_play_spec.specs.Fields.{◌>>=◌, number, ◌or_else◌}
use Rattle.rc_play_spec.specs.ItemBounds.{Bound, player, card, group}
use Rattle.rc_play_spec.proofs.Faces.{both_true}
use Rattle.rc_play_spec.specs.Bounds.{mark_text, IsMark, player_in, card_in, group_in, mark_in, marks_in, is_bound, are_bounds}
use Rattle.rc_play_spec.proofs.FieldLemmas.{bind_some, bind_is, some_is, number-only, number-again, either, IsStop}

abbrev IsMarkIn : List ℕ → Bound × List ℕ → Type 0
IsMarkIn bytes x = IsMark x.0 × (bytes ≡ mark_text x.0 ++ x.1)

player-only : (bytes : List ℕ) (x : Bound × List ℕ) → player_in bytes ≡ Some x → IsMarkIn bytes x
player-only bytes x e =
    let a = bind_some (number (codes " p") 7 bytes) (λ n. Some (player n.0, n.1)) x e in
    let n = number-only (codes " p") 7 bytes a.0 a.1 (omega arith) in
    subst (IsMarkIn bytes) (some_is (player a.0.0, a.0.1) x a.2) (n.0, n.1)

card-only : (bytes : List ℕ) (x : Bound × List ℕ) → card_in bytes ≡ Some x → IsMarkIn bytes x
card-only bytes x e =
    let a = bind_some (number (codes " c") 511 bytes) (λ n. Some (card n.0, n.1)) x e in
    let n = number-only (codes " c") 511 bytes a.0 a.1 (omega arith) in
    subst (IsMarkIn bytes) (some_is (card a.0.0, a.0.1) x a.2) (n.0, n.1)

group-only : (bytes : List ℕ) (x : Bound × List ℕ) → group_in bytes ≡ Some x → IsMarkIn bytes x
group-only bytes x e =
    let a = bind_some (number (codes " g") 511 bytes) (λ n. Some (group n.0, n.1)) x e in
    let n = number-only (codes " g") 511 bytes a.0 a.1 (omega arith) in
    subst (IsMarkIn bytes) (some_is (group a.0.0, a.0.1) x a.2) (n.0, n.1)

one_of : (a b : Option (Bound × List ℕ)) (bytes : List ℕ) (x : Bound × List ℕ) → (a ≡ Some x → IsMarkIn bytes x) → (b ≡ Some x → IsMarkIn bytes x) →
    (a or_else b) ≡ Some x → IsMarkIn bytes x
one_of a b bytes x f g e = elim (either a b x e) [
  | inl e' ↦ f e'
  | inr e' ↦ g e'
]

pub mark-only : (bytes : List ℕ) (x : Bound × List ℕ) → mark_in bytes ≡ Some x → IsMarkIn bytes x
mark-only bytes x =
    one_of _ _ bytes x (one_of _ _ bytes x (player-only bytes x) (card-only bytes x)) (group-only bytes x)

mark-again : (m : Bound) (rest : List ℕ) → IsMark m → IsStop rest → mark_in (mark_text m ++ rest) ≡ Some (m, rest)
mark-again (player n) rest is stop =
    let found : player_in (codes " p" ++ (decimal n ++ rest)) ≡ Some (player n, rest) =
    bind_is (number (codes " p") 7 (codes " p" ++ (decimal n ++ rest))) (λ n. Some (player n.0, n.1)) (n, rest) (Some (player n, rest))
    (number-again (codes " p") 7 n rest is (omega arith) stop) refl in
    rw found refl
mark-again (card n) rest is stop =
    let found : card_in (codes " c" ++ (decimal n ++ rest)) ≡ Some (card n, rest) =
    bind_is (number (codes " c") 511 (codes " c" ++ (decimal n ++ rest))) (λ n. Some (card n.0, n.1)) (n, rest) (Some (card n, rest))
    (number-again (codes " c") 511 n rest is (omega arith) stop) refl in
    rw found refl
mark-again (group n) rest is stop =
    let found : group_in (codes " g" ++ (decimal n ++ rest)) ≡ Some (group n, rest) =
    bind_is (number (codes " g") 511 (codes " g" ++ (decimal n ++ rest))) (λ n. Some (group n.0, n.1)) (n, rest) (Some (group n, rest))
    (number-again (codes " g") 511 n rest is (omega arith) stop) refl in
    rw found refl

-- ---- marks up to the end

abbrev AreMarksIn : ℕ → List ℕ → List Bound → Type 0
AreMarksIn most bytes marks = (length marks ≤ most) × AllByRecursion IsMark marks × (bytes ≡ flat_map mark_text marks)

pub marks-only : (most : ℕ) (bytes : List ℕ) (marks : List Bound) → marks_in most bytes ≡ Some marks → AreMarksIn most bytes marks
marks-only zero [] marks e = subst (AreMarksIn zero []) (some_is [] marks e) (omega arith, tt, refl)
marks-only zero (b ∷ bytes) marks e = absurd cc
marks-only (suc most) [] marks e = subst (AreMarksIn (suc most) []) (some_is [] marks e) (omega arith, tt, refl)
marks-only (suc most) (b ∷ bytes) marks e =
    let a = bind_some (mark_in (b ∷ bytes)) (λ mark. marks_in most mark.1 >>= λ marks. Some (mark.0 ∷ marks)) marks e in
    let z = bind_some (marks_in most a.0.1) (λ marks. Some (a.0.0 ∷ marks)) marks a.2 in
    let one = mark-only (b ∷ bytes) a.0 a.1 in
    let more = marks-only most a.0.1 z.0 z.1 in
    subst (AreMarksIn (suc most) (b ∷ bytes)) (some_is (a.0.0 ∷ z.0) marks z.2)
    (omega (arith, more.0), (one.0, more.1), one.1 ∙ ap (λ t. mark_text a.0.0 ++ t) more.2)

-- no digit comes next where a mark does
pub marks_stop : (marks : List Bound) → IsStop (flat_map mark_text marks)
marks_stop [] = tt
marks_stop (player n ∷ marks) = refl
marks_stop (card n ∷ marks) = refl
marks_stop (group n ∷ marks) = refl

marks_step : (most : ℕ) (m : Bound) (rest : List ℕ) →
    marks_in (suc most) (mark_text m ++ rest) ≡ (mark_in (mark_text m ++ rest) >>= λ mark. marks_in most mark.1 >>= λ marks. Some (mark.0 ∷ marks))
marks_step most (player n) rest = refl
marks_step most (card n) rest = refl
marks_step most (group n) rest = refl

pub marks-again : (most : ℕ) (marks : List Bound) → length marks ≤ most → AllByRecursion IsMark marks → marks_in most (flat_map mark_text marks) ≡ Some marks
marks-again zero [] le all = refl
marks-again (suc most) [] le all = refl
marks-again zero (m ∷ marks) le all = absurd (omega (arith, le))
marks-again (suc most) (m ∷ marks) le all =
    let rest = flat_map mark_text marks in
    marks_step most m rest
    ∙ bind_is (mark_in (mark_text m ++ rest)) (λ mark. marks_in most mark.1 >>= λ marks. Some (mark.0 ∷ marks)) (m, rest) (Some (m ∷ marks))
    (mark-again m rest all.0 (marks_stop marks))
    (bind_is (marks_in most rest) (λ marks. Some (m ∷ marks)) marks (Some (m ∷ marks)) (marks-again most marks (omega (arith, le)) all.1) refl)

-- ---- compared

bound_is : (a b : Bound) → is_bound a b ≡ true → a ≡ b
bound_is (player n) (player m) e = ap (λ k. player k) (eqb-true n m e)
bound_is (player n) (card f) e = absurd cc
bound_is (player n) (group f) e = absurd cc
bound_is (card f) (player n) e = absurd cc
bound_is (card f) (card g) e = ap (λ k. card k) (eqb-true f g e)
bound_is (card f) (group g) e = absurd cc
bound_is (group f) (player n) e = absurd cc
bound_is (group f) (card g) e = absurd cc
bound_is (group f) (group g) e = ap (λ k. group k) (eqb-true f g e)

bound_itself : (a : Bound) → is_bound a a ≡ true
bound_itself (player n) = eq-eqb n n refl
bound_itself (card f) = eq-eqb f f refl
bound_itself (group f) = eq-eqb f f refl

pub bounds_are : (xs ys : List Bound) → are_bounds xs ys ≡ true → xs ≡ ys
bounds_are [] [] e = refl
bounds_are [] (b ∷ bs) e = absurd cc
bounds_are (a ∷ xs) [] e = absurd cc
bounds_are (a ∷ xs) (b ∷ bs) e =
    let parts = both_true (is_bound a b) (are_bounds xs bs) e in
    let one = bound_is a b parts.0 in
    let more = bounds_are xs bs parts.1 in
    λ i. one i ∷ more i

pub bounds_themselves : (xs : List Bound) → are_bounds xs xs ≡ true
bounds_themselves [] = refl
bounds_themselves (a ∷ xs) = rw (bound_itself a) (bounds_themselves xs)
