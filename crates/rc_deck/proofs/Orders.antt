-- Lists in strict order: membership, and that the members determine the list.
use Rattle.std.proofs.Common.{◌≡◌, ℕ, zero, suc, ◌<◌, List, [], ◌∷◌, ◌++◌, ◌⊎◌, inl, inr, ⊎_elim, length, get_or, map, refl, sym, ap, ◌∙◌, subst, arith}
use Rattle.std.specs.List.{AllPairs, AllZip, Contains, flat_map}

-- x is among the items
abbrev pub In : {X : Type 0} → X → List X → Type 0
In x [] = ⊥
In x (y ∷ ys) = (x ≡ y) ⊎ In x ys

-- a member stands at some place
pub Contains-from_In : {X : Type 0} (x : X) (xs : List X) → In x xs → Contains xs x
Contains-from_In x [] in' = absurd in'
Contains-from_In x (y ∷ ys) (inl is) = (0, omega arith, sym is)
Contains-from_In x (y ∷ ys) (inr in') = let c = Contains-from_In x ys in' in (suc c.0, omega (arith, c.1), c.2)

-- what stands at a place is a member
pub In-get_or : {X : Type 0} (xs : List X) (k : ℕ) (d : X) → k < length xs → In (get_or xs k d) xs
In-get_or [] k d lt = absurd (omega arith)
In-get_or (x ∷ xs) zero d lt = inl refl
In-get_or (x ∷ xs) (suc k) d lt = inr (In-get_or xs k d (omega arith))

-- and so is what the list contains
pub In-from_Contains : {X : Type 0} (x : X) (xs : List X) → Contains xs x → In x xs
In-from_Contains x xs c = subst (λ y. In y xs) c.2 (In-get_or xs c.0 x c.1)

-- a member of the first of two lists
pub In-append_left : {X : Type 0} (x : X) (xs ys : List X) → In x xs → In x (xs ++ ys)
In-append_left x [] ys in' = absurd in'
In-append_left x (y ∷ xs) ys (inl is) = inl is
In-append_left x (y ∷ xs) ys (inr in') = inr (In-append_left x xs ys in')

-- a member of the second of two lists
pub In-append_right : {X : Type 0} (x : X) (xs ys : List X) → In x ys → In x (xs ++ ys)
In-append_right x [] ys in' = in'
In-append_right x (y ∷ xs) ys in' = inr (In-append_right x xs ys in')

-- a member of two joined lists is in one of them
pub In-append_cases : {X : Type 0} (x : X) (xs ys : List X) → In x (xs ++ ys) → In x xs ⊎ In x ys
In-append_cases x [] ys in' = inr in'
In-append_cases x (y ∷ xs) ys (inl is) = inl (inl is)
In-append_cases x (y ∷ xs) ys (inr in') = ⊎_elim (λ l. inl (inr l)) (λ r. inr r) (In-append_cases x xs ys in')

-- the image of a member is among the images
pub In-map : {X Y : Type 0} (f : X → Y) (x : X) (xs : List X) → In x xs → In (f x) (map f xs)
In-map f x [] in' = absurd in'
In-map f x (y ∷ ys) (inl is) = inl (ap f is)
In-map f x (y ∷ ys) (inr in') = inr (In-map f x ys in')

-- an image is that of some member
pub In-map_source : {X Y : Type 0} (f : X → Y) (y : Y) (xs : List X) → In y (map f xs) → (x : X) × In x xs × (y ≡ f x)
In-map_source f y [] in' = absurd in'
In-map_source f y (x ∷ xs) (inl is) = (x, inl refl, is)
In-map_source f y (x ∷ xs) (inr in') = let s = In-map_source f y xs in' in (s.0, inr s.1, s.2)

-- what a member gives is among all that is given
pub In-flat_map : {X Y : Type 0} (f : X → List Y) (y : Y) (x : X) (xs : List X) → In x xs → In y (f x) → In y (flat_map f xs)
In-flat_map f y x [] in' given = absurd in'
In-flat_map f y x (z ∷ zs) (inl is) given = In-append_left y (f z) (flat_map f zs) (subst (λ w. In y (f w)) is given)
In-flat_map f y x (z ∷ zs) (inr in') given = In-append_right y (f z) (flat_map f zs) (In-flat_map f y x zs in' given)

-- what is given comes from some member
pub In-flat_map_source : {X Y : Type 0} (f : X → List Y) (y : Y) (xs : List X) → In y (flat_map f xs) → (x : X) × In x xs × In y (f x)
In-flat_map_source f y [] in' = absurd in'
In-flat_map_source f y (x ∷ xs) in' =
    ⊎_elim (λ l. (x, inl refl, l)) (λ r. let s = In-flat_map_source f y xs r in (s.0, inr s.1, s.2)) (In-append_cases y (f x) (flat_map f xs) in')

-- each item comes before all that stand behind it
abbrev pub Ordered : {X : Type 0} → (X → X → Type 0) → List X → Type 0
Ordered R [] = Unit {0}
Ordered {X} R (x ∷ xs) = ((y : X) → In y xs → R x y) × Ordered R xs

-- two lists in order, the first before the second
pub Ordered-append : {X : Type 0} (R : X → X → Type 0) (xs ys : List X) → Ordered R xs → Ordered R ys →
    ((x y : X) → In x xs → In y ys → R x y) → Ordered R (xs ++ ys)
Ordered-append R [] ys left right across = right
Ordered-append R (x ∷ xs) ys left right across = (
  λ y in'. ⊎_elim (left.0 y) (across x y (inl refl)) (In-append_cases y xs ys in'),
  Ordered-append R xs ys left.1 right (λ u v in-u in-v. across u v (inr in-u) in-v),
)

-- a map that keeps the order
pub Ordered-map : {X Y : Type 0} (R : X → X → Type 0) (S : Y → Y → Type 0) (f : X → Y) → ((x y : X) → R x y → S (f x) (f y)) →
    (xs : List X) → Ordered R xs → Ordered S (map f xs)
Ordered-map R S f keeps [] ordered = tt
Ordered-map R S f keeps (x ∷ xs) ordered = (
  λ y in'. let s = In-map_source f y xs in' in subst (S (f x)) (sym s.2) (keeps x s.0 (ordered.0 s.0 s.1)),
  Ordered-map R S f keeps xs ordered.1,
)

-- an order that says less
pub Ordered-weaker : {X : Type 0} (R S : X → X → Type 0) → ((x y : X) → R x y → S x y) → (xs : List X) → Ordered R xs → Ordered S xs
Ordered-weaker R S gives [] ordered = tt
Ordered-weaker R S gives (x ∷ xs) ordered = (λ y in'. gives x y (ordered.0 y in'), Ordered-weaker R S gives xs ordered.1)

-- each pair of places is in order
pub AllPairs-from_Ordered : {X : Type 0} (R : X → X → Type 0) (xs : List X) → Ordered R xs → AllPairs R xs
AllPairs-from_Ordered R [] ordered i j d lt within = absurd (omega arith)
AllPairs-from_Ordered R (x ∷ xs) ordered i zero d lt within = absurd (omega arith)
AllPairs-from_Ordered R (x ∷ xs) ordered zero (suc j) d lt within = ordered.0 _ (In-get_or xs j d (omega arith))
AllPairs-from_Ordered R (x ∷ xs) ordered (suc i) (suc j) d lt within =
    AllPairs-from_Ordered R xs ordered.1 i j d (omega arith) (omega arith)

-- and the other way round
pub Ordered-from_AllPairs : {X : Type 0} (R : X → X → Type 0) (xs : List X) → AllPairs R xs → Ordered R xs
Ordered-from_AllPairs R [] pairs = tt
Ordered-from_AllPairs R (x ∷ xs) pairs = (
  λ y in'.
      let c = Contains-from_In y xs in' in
      subst (R x) c.2 (pairs 0 (suc c.0) y (omega arith) (omega (arith, c.1))),
  Ordered-from_AllPairs R xs (λ i j d lt within. pairs (suc i) (suc j) d (omega arith) (omega arith)),
)

-- two lists in one order with the same members are equal
pub Ordered-unique : {X : Type 0} (R : X → X → Type 0) → ((x y : X) → R x y → R y x → ⊥) →
    (xs ys : List X) → Ordered R xs → Ordered R ys →
    ((x : X) → In x xs → In x ys) → ((x : X) → In x ys → In x xs) → xs ≡ ys
Ordered-unique R never [] [] left right into back = refl
Ordered-unique R never [] (y ∷ ys) left right into back = absurd (back y (inl refl))
Ordered-unique R never (x ∷ xs) [] left right into back = absurd (into x (inl refl))
Ordered-unique {X} R never (x ∷ xs) (y ∷ ys) left right into back =
    ap (λ z. z ∷ xs) same ∙ ap (λ zs. y ∷ zs) (Ordered-unique R never xs ys left.1 right.1 forth behind)
  where
    same : x ≡ y
    same = ⊎_elim
        (λ e. e)
        (λ in-x. ⊎_elim (λ e. sym e) (λ in-y. absurd (never x y (left.0 y in-y) (right.0 x in-x))) (back y (inl refl)))
        (into x (inl refl))

    forth : (z : X) → In z xs → In z ys
    forth z in' = ⊎_elim
        (λ e. let here = subst (R x) (e ∙ sym same) (left.0 z in') in absurd (never x x here here))
        (λ r. r)
        (into z (inr in'))

    behind : (z : X) → In z ys → In z xs
    behind z in' = ⊎_elim
        (λ e. let here = subst (R y) (e ∙ same) (right.0 z in') in absurd (never y y here here))
        (λ r. r)
        (back z (inr in'))

-- pairs of two lists, and of two more behind them
pub AllZip-append : {A B : Type 0} (R : A → B → Type 0) (as' as'' : List A) (bs bs' : List B) →
    AllZip R as' bs → AllZip R as'' bs' → AllZip R (as' ++ as'') (bs ++ bs')
AllZip-append R [] as'' [] bs' h k = k
AllZip-append R [] as'' (b ∷ bs) bs' h k = absurd h
AllZip-append R (a ∷ as') as'' [] bs' h k = absurd h
AllZip-append R (a ∷ as') as'' (b ∷ bs) bs' h k = (h.0, AllZip-append R as' as'' bs bs' h.1 k)

-- pairs whose two parts are mapped
pub AllZip-map : {A B C D : Type 0} (R : A → B → Type 0) (S : C → D → Type 0) (f : A → C) (g : B → D) →
    ((a : A) (b : B) → R a b → S (f a) (g b)) → (xs : List A) (ys : List B) → AllZip R xs ys → AllZip S (map f xs) (map g ys)
AllZip-map R S f g gives [] [] h = tt
AllZip-map R S f g gives [] (y ∷ ys) h = absurd h
AllZip-map R S f g gives (x ∷ xs) [] h = absurd h
AllZip-map R S f g gives (x ∷ xs) (y ∷ ys) h = (gives x y h.0, AllZip-map R S f g gives xs ys h.1)

-- pairs whose first part is mapped
pub AllZip-map_left : {A B C : Type 0} (R : A → B → Type 0) (S : C → B → Type 0) (f : A → C) →
    ((a : A) (b : B) → R a b → S (f a) b) → (xs : List A) (ys : List B) → AllZip R xs ys → AllZip S (map f xs) ys
AllZip-map_left R S f gives [] [] h = tt
AllZip-map_left R S f gives [] (y ∷ ys) h = absurd h
AllZip-map_left R S f gives (x ∷ xs) [] h = absurd h
AllZip-map_left R S f gives (x ∷ xs) (y ∷ ys) h = (gives x y h.0, AllZip-map_left R S f gives xs ys h.1)

-- pairs each of which gives two lists of pairs
pub AllZip-flat_map : {A B C D : Type 0} (R : A → B → Type 0) (S : C → D → Type 0) (f : A → List C) (g : B → List D) →
    ((a : A) (b : B) → R a b → AllZip S (f a) (g b)) → (xs : List A) (ys : List B) → AllZip R xs ys →
    AllZip S (flat_map f xs) (flat_map g ys)
AllZip-flat_map R S f g gives [] [] h = tt
AllZip-flat_map R S f g gives [] (y ∷ ys) h = absurd h
AllZip-flat_map R S f g gives (x ∷ xs) [] h = absurd h
AllZip-flat_map R S f g gives (x ∷ xs) (y ∷ ys) h =
    AllZip-append S (f x) (flat_map f xs) (g y) (flat_map g ys) (gives x y h.0) (AllZip-flat_map R S f g gives xs ys h.1)

-- what stands beside a member
pub AllZip-In : {A B : Type 0} (R : A → B → Type 0) (xs : List A) (ys : List B) (x : A) → AllZip R xs ys → In x xs → (y : B) × R x y
AllZip-In R [] ys x h in' = absurd in'
AllZip-In R (z ∷ xs) [] x h in' = absurd h
AllZip-In R (z ∷ xs) (y ∷ ys) x h (inl is) = (y, subst (λ w. R w y) (sym is) h.0)
AllZip-In R (z ∷ xs) (y ∷ ys) x h (inr in') = AllZip-In R xs ys x h.1 in'

-- where the first list determines the second one
pub AllZip-unique : {A B : Type 0} (R : A → B → Type 0) → ((a : A) (b c : B) → R a b → R a c → b ≡ c) →
    (xs : List A) (ys zs : List B) → AllZip R xs ys → AllZip R xs zs → ys ≡ zs
AllZip-unique R same [] [] [] h k = refl
AllZip-unique R same [] [] (z ∷ zs) h k = absurd k
AllZip-unique R same [] (y ∷ ys) zs h k = absurd h
AllZip-unique R same (x ∷ xs) [] zs h k = absurd h
AllZip-unique R same (x ∷ xs) (y ∷ ys) [] h k = absurd k
AllZip-unique R same (x ∷ xs) (y ∷ ys) (z ∷ zs) h k =
    ap (λ w. w ∷ ys) (same x y z h.0 k.0) ∙ ap (λ ws. z ∷ ws) (AllZip-unique R same xs ys zs h.1 k.1)
