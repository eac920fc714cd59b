-- Values in order of first appearance, one by one.
use Rattle.std.proofs.Common.{◌≡◌, ℕ, ◌+◌, ◌<◌, ◌≤◌, Bool, true, false, cond, not, ◌||◌, ◌==◌, nat_eq, List, [], ◌∷◌, ◌++◌, length, get_or, take, Option, Some, None, refl, sym, ap, ◌∙◌, append-nil, arith}
use Rattle.std.specs.Prelude.{filter, filter_map}
use Rattle.std.specs.List.{cons_option}
use Rattle.std.proofs.lemmas.Bool.Decides.{nat_tests}
use Rattle.std.proofs.lemmas.List.{take_more, take_all}
use Rattle.std.proofs.lemmas.List.Elements.{filter-append, filter_map-append}
use Rattle.rc_sheet_spec.specs.WellFormed.{is_among}
use Rattle.rc_play_spec.specs.Value.{firsts}
use Rattle.rc_value.specs.Groups.{noted_in}

abbrev others : ℕ → List ℕ → List ℕ
others n ns = filter (λ m. not (m == n)) ns

-- what is not n stays among the others
among_kept : (k n m : ℕ) (ns : List ℕ) (b : Bool) → nat_eq k n ≡ false → (m == n) ≡ b → is_among k (others n ns) ≡ is_among k ns →
    is_among k (cond (not b) (m ∷ others n ns) (others n ns)) ≡ is_among k (m ∷ ns)
among_kept k n m ns true differ same rest = rest ∙ ap (λ x. x || is_among k ns) (sym (elsewhere k n m differ same)) where
  elsewhere : (k n m : ℕ) → nat_eq k n ≡ false → (m == n) ≡ true → nat_eq k m ≡ false
  elsewhere k n m differ same = grind (arith, nat_tests)
among_kept k n m ns false differ same rest = ap (λ x. nat_eq k m || x) rest

among_others : (k n : ℕ) (ns : List ℕ) → nat_eq k n ≡ false → is_among k (others n ns) ≡ is_among k ns
among_others k n [] differ = refl
among_others k n (m ∷ ns) differ = among_kept k n m ns (m == n) differ refl (among_others k n ns differ)

same_number : (k n : ℕ) → nat_eq k n ≡ true → (k == n) ≡ true
same_number k n is = grind (arith, nat_tests)

other_number : (k n : ℕ) → nat_eq k n ≡ false → (k == n) ≡ false
other_number k n is = grind (arith, nat_tests)

-- one more behind the first, where the rest has it or hasn't
one_more : (n k : ℕ) (ns : List ℕ) (b c : Bool) → nat_eq k n ≡ b → is_among k ns ≡ c →
    n ∷ others n (cond c ns (ns ++ k ∷ [])) ≡ cond (b || is_among k (others n ns)) (n ∷ others n ns) (n ∷ others n ns ++ k ∷ [])
one_more n k ns true true is among = refl
one_more n k ns true false is among =
    ap (λ xs. n ∷ xs) (filter-append (λ m. not (m == n)) ns (k ∷ [])
    ∙ ap (λ x. others n ns ++ cond (not x) (k ∷ []) []) (same_number k n is) ∙ append-nil (others n ns))
one_more n k ns false true is among =
    ap (λ x. cond x (n ∷ others n ns) (n ∷ others n ns ++ k ∷ [])) (sym (among_others k n ns is ∙ among))
one_more n k ns false false is among =
    ap (λ xs. n ∷ xs) (filter-append (λ m. not (m == n)) ns (k ∷ [])
    ∙ ap (λ x. others n ns ++ cond (not x) (k ∷ []) []) (other_number k n is))
    ∙ ap (λ x. cond x (n ∷ others n ns) (n ∷ others n ns ++ k ∷ [])) (sym (among_others k n ns is ∙ among))

firsts_more : (ns : List ℕ) (k : ℕ) → firsts (ns ++ k ∷ []) ≡ noted_in (firsts ns) (Some k)
firsts_more [] k = refl
firsts_more (n ∷ ns) k =
    ap (λ xs. n ∷ others n xs) (firsts_more ns k)
    ∙ one_more n k (firsts ns) (nat_eq k n) (is_among k (firsts ns)) refl refl

noted : (ns : List ℕ) (value : Option ℕ) → firsts (ns ++ cons_option value []) ≡ noted_in (firsts ns) value
noted ns None = ap firsts (append-nil ns)
noted ns (Some k) = firsts_more ns k

pub firsts_step : {C : Type 0} (f : C → Option ℕ) (done done' : List ℕ) (cards : List C) (i : ℕ) (c : C) → i < length cards → c ≡ get_or cards i c →
    done' ≡ noted_in done (f c) → done ≡ firsts (filter_map f (take i cards)) →
    done' ≡ firsts (filter_map f (take (i + 1) cards))
firsts_step f done done' cards i c lt is grown told =
    grown ∙ ap (λ xs. noted_in xs (f c)) told ∙ sym (noted (filter_map f (take i cards)) (f c))
    ∙ sym (ap firsts (ap (filter_map f) (take_more cards i c lt ∙ ap (λ x. take i cards ++ x ∷ []) (sym is))
    ∙ filter_map-append f (take i cards) (c ∷ [])))

pub firsts_end : {C : Type 0} (f : C → Option ℕ) (done : List ℕ) (cards : List C) (i : ℕ) → length cards ≤ i →
    done ≡ firsts (filter_map f (take i cards)) → done ≡ firsts (filter_map f cards)
firsts_end f done cards i le told = told ∙ ap (λ xs. firsts (filter_map f xs)) (take_all i cards le)
