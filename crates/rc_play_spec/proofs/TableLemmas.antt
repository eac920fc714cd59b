-- A card that is taken from its place and put somewhere else: each card stands as often as before.
use Rattle.std.proofs.Common.{◌≡◌, ℕ, zero, suc, ◌+◌, ◌<◌, ◌==◌, false, cond, List, [], ◌∷◌, ◌++◌, length, slice_set, get_or, remove, sum_by, zip, refl, sym, ap, ◌∙◌, subst, arith, length-set}
use Rattle.std.proofs.lemmas.List.Sums.{sum_by-set, sum_by_push, sum_by-remove}
use Rattle.std.proofs.lemmas.Bool.{cond-false}
use Rattle.rc_sheet_spec.specs.WellFormed.{is_mem}
use Rattle.rc_play_spec.specs.Shape.{Place}
use Rattle.rc_play_spec.specs.Table.{times_in}

pub zip-set : {K X : Type 0} (ks : List K) (xs : List X) (i : ℕ) (k : K) (x : X) → i < length ks → k ≡ get_or ks i k →
    zip ks (slice_set xs i x) ≡ slice_set (zip ks xs) i (k, x)
zip-set [] xs i k x lt is = absurd (omega arith)
zip-set (a ∷ ks) [] i k x lt is = refl
zip-set (a ∷ ks) (y ∷ xs) zero k x lt is = ap (λ b. (b, x) ∷ zip ks xs) (sym is)
zip-set (a ∷ ks) (y ∷ xs) (suc i) k x lt is = ap (λ rest. (a, y) ∷ rest) (zip-set ks xs i k x (omega arith) is)

pub zip-get : {K X : Type 0} (ks : List K) (xs : List X) (i : ℕ) (k : K) (x : X) → i < length ks → i < length xs → k ≡ get_or ks i k → x ≡ get_or xs i x →
    get_or (zip ks xs) i (k, x) ≡ (k, x)
zip-get [] xs i k x lt lt' is is' = absurd (omega arith)
zip-get (a ∷ ks) [] i k x lt lt' is is' = absurd (omega arith)
zip-get (a ∷ ks) (y ∷ xs) zero k x lt lt' is is' = ap (λ b. (b, y)) (sym is) ∙ ap (λ b. (k, b)) (sym is')
zip-get (a ∷ ks) (y ∷ xs) (suc i) k x lt lt' is is' = zip-get ks xs i k x (omega arith) (omega arith) is is'

pub length-zip : {K X : Type 0} (ks : List K) (xs : List X) (i : ℕ) → i < length ks → i < length xs → i < length (zip ks xs)
length-zip [] xs i lt lt' = absurd (omega arith)
length-zip (a ∷ ks) [] i lt lt' = absurd (omega arith)
length-zip (a ∷ ks) (y ∷ xs) zero lt lt' = omega arith
length-zip (a ∷ ks) (y ∷ xs) (suc i) lt lt' = let rest = length-zip ks xs i (omega arith) (omega arith) in omega arith

pub get_or-any : (lists : List (List ℕ)) (i : ℕ) (d : List ℕ) → i < length lists → get_or lists i [] ≡ get_or lists i (get_or lists i [])
get_or-any [] i d lt = absurd (omega arith)
get_or-any (l ∷ lists) zero d lt = refl
get_or-any (l ∷ lists) (suc i) d lt = get_or-any lists i d (omega arith)

-- another list in one place
pub sum-set : (f : Place × List ℕ → ℕ) (places : List Place) (lists : List (List ℕ)) (i : ℕ) (p : Place) (old new : List ℕ) →
    i < length places → i < length lists → p ≡ get_or places i p → old ≡ get_or lists i old →
    sum_by f (zip places (slice_set lists i new)) + f (p, old) ≡ sum_by f (zip places lists) + f (p, new)
sum-set f places lists i p old new lt lt' is is' =
    let both = sum_by-set f (zip places lists) i (p, new) (p, old) (length-zip places lists i lt lt') in
    let at = ap f (zip-get places lists i p old lt lt' is is') in
    let set = ap (sum_by f) (zip-set places lists i p new lt is) in
    omega arith

abbrev pub hit : ℕ → ℕ → ℕ
hit other id = cond (id == other) 1 0

pub times_in-held : (other : ℕ) (p : Place) (list : List ℕ) → is_mem p.kind ≡ false → times_in other (p, list) ≡ sum_by (hit other) list
times_in-held other p list held = cond-false _ _ _ held

-- A card out of one list and into another, wherever it goes there: each card stands as often as before.
pub moved_keeps : (id other : ℕ) (add : List ℕ → List ℕ) → ((xs : List ℕ) → sum_by (hit other) (add xs) ≡ sum_by (hit other) xs + hit other id) →
    (places : List Place) (lists : List (List ℕ)) (from at loc : ℕ) (p q : Place) →
    from < length places → from < length lists → p ≡ get_or places from p → is_mem p.kind ≡ false →
    at < length (get_or lists from []) → get_or (get_or lists from []) at 0 ≡ id →
    loc < length places → loc < length lists → q ≡ get_or places loc q → is_mem q.kind ≡ false →
    sum_by (times_in other) (zip places (slice_set (slice_set lists from (remove (get_or lists from []) at)) loc
    (add (get_or (slice_set lists from (remove (get_or lists from []) at)) loc []))))
    ≡ sum_by (times_in other) (zip places lists)
moved_keeps id other add adds places lists from at loc p q within within' is held below here within2 within2' is2 held2 =
    let old = get_or lists from [] in
    let lists1 = slice_set lists from (remove old at) in
    let old2 = get_or lists1 loc [] in
    let taken = sum-set (times_in other) places lists from p old (remove old at) within within' is (get_or-any lists from old within') in
    let longer : loc < length lists1 = subst (λ k. loc < k) (sym (length-set lists from (remove old at))) within2' in
    let put = sum-set (times_in other) places lists1 loc q old2 (add old2) within2 longer is2 (get_or-any lists1 loc old2 longer) in
    let a = times_in-held other p old held in
    let b = times_in-held other p (remove old at) held in
    let c = times_in-held other q old2 held2 in
    let d = times_in-held other q (add old2) held2 in
    let less = sum_by-remove (hit other) old at 0 below in
    let same = ap (hit other) here in
    let more = adds old2 in
    omega arith

-- on top
pub put_keeps : (id other : ℕ) (places : List Place) (lists : List (List ℕ)) (from at loc : ℕ) (p q : Place) →
    from < length places → from < length lists → p ≡ get_or places from p → is_mem p.kind ≡ false →
    at < length (get_or lists from []) → get_or (get_or lists from []) at 0 ≡ id →
    loc < length places → loc < length lists → q ≡ get_or places loc q → is_mem q.kind ≡ false →
    sum_by (times_in other) (zip places (slice_set (slice_set lists from (remove (get_or lists from []) at)) loc
    (get_or (slice_set lists from (remove (get_or lists from []) at)) loc [] ++ id ∷ [])))
    ≡ sum_by (times_in other) (zip places lists)
put_keeps id other places lists from at loc p q = moved_keeps id other (λ xs. xs ++ id ∷ []) (λ xs. sum_by_push (hit other) xs id) places lists from at loc p q
