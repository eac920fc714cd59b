-- The first of the lists of rank points in which a player has the most.
use Rattle.std.proofs.Common.{◌≡◌, ℕ, zero, suc, ◌+◌, ◌<◌, ◌≤◌, ◌==◌, max, min, nat_lt, Bool, true, false, not, cond, if◌then◌else◌, List, [], ◌∷◌, ◌++◌, length, map, get_or, ◌⊎◌, inl, inr, ⊎_elim, refl, sym, ap, ◌∙◌, subst, arith, ltb-true, true≢false}
use Rattle.std.specs.Prelude.{fold}
use Rattle.std.specs.List.{AllByRecursion, position_or_len}
use Rattle.std.proofs.lemmas.Bool.{ltb-false}
use Rattle.std.proofs.lemmas.Bool.Decides.{Decides-eqb}
use Rattle.std.proofs.lemmas.List.{map-append, length-map}
use Rattle.std.proofs.lemmas.List.Sums.{fold_push}
use Rattle.rc_play_spec.specs.Strategy.{first_largest}
use Rattle.rc_play_spec.proofs.ChoiceLemmas.{larger}
use Rattle.rc_play_spec.specs.Search.{best_for}

-- ---- places

-- the first that passes, if one does
abbrev Has : {X : Type 0} → (X → Bool) → List X → Type 0
Has p [] = ⊥
Has p (x ∷ xs) = (p x ≡ true) ⊎ Has p xs

module _ {X : Type 0} (p : X → Bool) where
  first_there : (xs : List X) (d : X) → Has p xs → (position_or_len p xs < length xs) × (p (get_or xs (position_or_len p xs) d) ≡ true)
  first_there [] d has = absurd has
  first_there (x ∷ xs) d has = by (λ there. first_there xs d there) (p x) refl has where
    by : (Has p xs → (position_or_len p xs < length xs) × (p (get_or xs (position_or_len p xs) d) ≡ true)) → (b : Bool) → p x ≡ b → Has p (x ∷ xs) →
        (cond (not b) (1 + position_or_len p xs) 0 < length (x ∷ xs)) × (p (get_or (x ∷ xs) (cond (not b) (1 + position_or_len p xs) 0) d) ≡ true)
    by rest true is has = (omega arith, is)
    by rest false is (inl here) = absurd (true≢false (sym here ∙ is))
    by rest false is (inr there) =
        let h = rest there in
        let lt = h.0 in
        let e : suc (position_or_len p xs) ≡ 1 + position_or_len p xs = omega arith in
        (omega (arith, lt), subst (λ n. p (get_or (x ∷ xs) n d) ≡ true) e h.1)

  -- others behind don't matter
  first_before : (xs ys : List X) → Has p xs → position_or_len p (xs ++ ys) ≡ position_or_len p xs
  first_before [] ys has = absurd has
  first_before (x ∷ xs) ys has = by (λ there. first_before xs ys there) (p x) refl has where
    by : (Has p xs → position_or_len p (xs ++ ys) ≡ position_or_len p xs) → (b : Bool) → p x ≡ b → Has p (x ∷ xs) → cond (not b) (1 + position_or_len p (xs ++ ys)) 0 ≡ cond (not b) (1 + position_or_len p xs) 0
    by rest true is has = refl
    by rest false is (inl here) = absurd (true≢false (sym here ∙ is))
    by rest false is (inr there) = ap (λ n. 1 + n) (rest there)

  -- where none passes but one behind them
  first_behind : (xs : List X) (y : X) → AllByRecursion (λ x. p x ≡ false) xs → p y ≡ true → position_or_len p (xs ++ y ∷ []) ≡ length xs
  first_behind [] y none is = ap (λ b. cond (not b) (1 + position_or_len p []) 0) is
  first_behind (x ∷ xs) y none is =
      let rest = first_behind xs y none.1 is in
      ap (λ b. cond (not b) (1 + position_or_len p (xs ++ y ∷ [])) 0) none.0 ∙ (let e : 1 + position_or_len p (xs ++ y ∷ []) ≡ suc (length xs) = omega (arith, rest) in e)

get_before : {X : Type 0} (xs ys : List X) (n : ℕ) (d : X) → n < length xs → get_or (xs ++ ys) n d ≡ get_or xs n d
get_before [] ys n d lt = absurd (omega (arith, lt))
get_before (x ∷ xs) ys zero d lt = refl
get_before (x ∷ xs) ys (suc n) d lt = get_before xs ys n d (omega (arith, lt))

get_last : {X : Type 0} (xs : List X) (y : X) (d : X) → get_or (xs ++ y ∷ []) (length xs) d ≡ y
get_last [] y d = refl
get_last (x ∷ xs) y d = get_last xs y d

get_through : {X : Type 0} (f : X → ℕ) (xs : List X) (n : ℕ) (d : X) → n < length xs → get_or (map f xs) n 0 ≡ f (get_or xs n d)
get_through f [] n d lt = absurd (omega (arith, lt))
get_through f (x ∷ xs) zero d lt = refl
get_through f (x ∷ xs) (suc n) d lt = get_through f xs n d (omega (arith, lt))

get_all : {X : Type 0} (P : X → Type 0) (xs : List X) (n : ℕ) (d : X) → n < length xs → AllByRecursion P xs → P (get_or xs n d)
get_all P [] n d lt all = absurd (omega (arith, lt))
get_all P (x ∷ xs) zero d lt all = all.0
get_all P (x ∷ xs) (suc n) d lt all = get_all P xs n d (omega (arith, lt)) all.1

-- ---- the largest

fold_least : (a : ℕ) (xs : List ℕ) → a ≤ fold max a xs
fold_least a [] = omega arith
fold_least a (x ∷ xs) = let h = fold_least (max a x) xs in omega (arith, h)

pub fold_most : (a : ℕ) (xs : List ℕ) → AllByRecursion (λ x. x ≤ fold max a xs) xs
fold_most a [] = tt
fold_most a (x ∷ xs) = let h = fold_least (max a x) xs in (omega (arith, h), fold_most (max a x) xs)

pub fold_bounded : (a m : ℕ) (xs : List ℕ) → a ≤ m → AllByRecursion (λ x. x ≤ m) xs → fold max a xs ≤ m
fold_bounded a m [] le all = le
fold_bounded a m (x ∷ xs) le all = let h = all.0 in fold_bounded (max a x) m xs (omega (arith, le, h)) all.1

fold_there : (a : ℕ) (xs : List ℕ) → (fold max a xs ≡ a) ⊎ Has (λ x. x == fold max a xs) xs
fold_there a [] = inl refl
fold_there a (x ∷ xs) =
    ⊎_elim
    (λ e. ⊎_elim (λ is. inl (e ∙ is)) (λ is. inr (inl ((Decides-eqb x (fold max (max a x) xs)).1 (sym (e ∙ is))))) (larger a x))
    (λ has. inr (inr has))
    (fold_there (max a x) xs)

largest_there : (xs : List ℕ) → 0 < length xs → Has (λ x. x == fold max 0 xs) xs
largest_there [] some = absurd (omega (arith, some))
largest_there (x ∷ xs) some =
    ⊎_elim (λ e. inl ((Decides-eqb x (fold max (max 0 x) xs)).1 (let h : max 0 x ≡ x = omega arith in sym h ∙ sym e))) (λ has. inr has) (fold_there (max 0 x) xs)

-- the least
fold_low : (a : ℕ) (xs : List ℕ) → fold min a xs ≤ a
fold_low a [] = omega arith
fold_low a (x ∷ xs) = let h = fold_low (min a x) xs in omega (arith, h)

pub fold_fewest : (a : ℕ) (xs : List ℕ) → AllByRecursion (λ x. fold min a xs ≤ x) xs
fold_fewest a [] = tt
fold_fewest a (x ∷ xs) = let h = fold_low (min a x) xs in (omega (arith, h), fold_fewest (min a x) xs)

pub fold_above : (a m : ℕ) (xs : List ℕ) → m ≤ a → AllByRecursion (λ x. m ≤ x) xs → m ≤ fold min a xs
fold_above a m [] le all = le
fold_above a m (x ∷ xs) le all = let h = all.0 in fold_above (min a x) m xs (omega (arith, le, h)) all.1

-- ---- what is best for a player

module _ (s : ℕ) where
  abbrev pub entry : List ℕ → ℕ
  entry points = get_or points s 0

  abbrev top : List (List ℕ) → ℕ
  top lists = fold max 0 (map entry lists)

  there : (lists : List (List ℕ)) → 0 < length lists → Has (λ x. x == top lists) (map entry lists)
  there lists some = let long = length-map lists entry in largest_there (map entry lists) (omega (arith, some, long))

  found : (lists : List (List ℕ)) → 0 < length lists → first_largest (map entry lists) < length lists
  found lists some =
      let long = length-map lists entry in
      let h = (first_there (λ x. x == top lists) (map entry lists) 0 (there lists some)).0 in omega (arith, h, long)

  -- it is one of them
  pub best_among : (P : List ℕ → Type 0) (lists : List (List ℕ)) → 0 < length lists → AllByRecursion P lists → P (best_for s lists)
  best_among P lists some all = get_all P lists (first_largest (map entry lists)) [] (found lists some) all

  -- and nobody has more in another
  pub best_entry : (lists : List (List ℕ)) → 0 < length lists → entry (best_for s lists) ≡ top lists
  best_entry lists some =
      let n = first_largest (map entry lists) in
      sym (get_through entry lists n [] (found lists some))
      ∙ (Decides-eqb (get_or (map entry lists) n 0) (top lists)).0 (first_there (λ x. x == top lists) (map entry lists) 0 (there lists some)).1

  top_push : (lists : List (List ℕ)) (list : List ℕ) → top (lists ++ list ∷ []) ≡ max (top lists) (entry list)
  top_push lists list = ap (fold max 0) (map-append entry lists (list ∷ [])) ∙ fold_push max 0 (map entry lists) (entry list)

  none_so_high : (m : ℕ) (xs : List ℕ) → AllByRecursion (λ x. x < m) xs → AllByRecursion (λ x. (x == m) ≡ false) xs
  none_so_high m [] all = tt
  none_so_high m (x ∷ xs) all = (by (x == m) refl, none_so_high m xs all.1) where
    by : (b : Bool) → (x == m) ≡ b → b ≡ false
    by true is = let e = (Decides-eqb x m).0 is in let lt = all.0 in absurd (omega (arith, e, lt))
    by false is = refl

  all_below : (m n : ℕ) (xs : List ℕ) → m < n → AllByRecursion (λ x. x ≤ m) xs → AllByRecursion (λ x. x < n) xs
  all_below m n [] lt all = tt
  all_below m n (x ∷ xs) lt all = let h = all.0 in (omega (arith, h, lt), all_below m n xs lt all.1)

  -- one list more: it is the best only where the player has more in it than before
  pub best_push : (lists : List (List ℕ)) (list : List ℕ) → 0 < length lists →
      best_for s (lists ++ list ∷ []) ≡ (if nat_lt (entry (best_for s lists)) (entry list) then list else best_for s lists)
  best_push lists list some = by (nat_lt (entry (best_for s lists)) (entry list)) refl where
    tops : map entry (lists ++ list ∷ []) ≡ map entry lists ++ entry list ∷ []
    tops = map-append entry lists (list ∷ [])

    place : (m : ℕ) → top (lists ++ list ∷ []) ≡ m →
        first_largest (map entry (lists ++ list ∷ [])) ≡ position_or_len (λ x. x == m) (map entry lists ++ entry list ∷ [])
    place m is = ap (λ t. position_or_len (λ x. x == t) (map entry (lists ++ list ∷ []))) is ∙ ap (position_or_len (λ x. x == m)) tops

    by : (b : Bool) → nat_lt (entry (best_for s lists)) (entry list) ≡ b → best_for s (lists ++ list ∷ []) ≡ (if b then list else best_for s lists)
    by true is =
        let lt = ltb-true (entry (best_for s lists)) (entry list) is in
        let best = best_entry lists some in
        let push = top_push lists list in
        let m : top (lists ++ list ∷ []) ≡ entry list = omega (arith, lt, best, push) in
        let none = none_so_high (entry list) (map entry lists) (all_below (top lists) (entry list) (map entry lists) (omega (arith, lt, best)) (fold_most 0 (map entry lists))) in
        ap (λ n. get_or (lists ++ list ∷ []) n [])
        (place (entry list) m ∙ first_behind (λ x. x == entry list) (map entry lists) (entry list) none ((Decides-eqb (entry list) (entry list)).1 refl) ∙ length-map lists entry)
        ∙ get_last lists list []
    by false is =
        let le = ltb-false (entry (best_for s lists)) (entry list) is in
        let best = best_entry lists some in
        let push = top_push lists list in
        let m : top (lists ++ list ∷ []) ≡ top lists = omega (arith, le, best, push) in
        ap (λ n. get_or (lists ++ list ∷ []) n [])
        (place (top lists) m ∙ first_before (λ x. x == top lists) (map entry lists) (entry list ∷ []) (there lists some))
        ∙ get_before lists (list ∷ []) (first_largest (map entry lists)) [] (found lists some)

  pub best_alone : (list : List ℕ) → best_for s (list ∷ []) ≡ list
  best_alone list =
      let h = found (list ∷ []) (omega arith) in
      let zero_is : first_largest (map entry (list ∷ [])) ≡ 0 = omega (arith, h) in
      ap (λ n. get_or (list ∷ []) n []) zero_is
