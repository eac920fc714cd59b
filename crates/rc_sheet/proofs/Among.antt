-- What stands among the items of a list.
use Rattle.std.proofs.Common.{◌≡◌, ℕ, true, false, Bool, ◌||◌, List, [], ◌∷◌, ◌++◌, ◌⊎◌, inl, inr, ⊎_elim, map, flat_map, bytes_eq, refl, ap, sym, subst}
use Rattle.std.specs.List.{AllByRecursion}
use Rattle.std.proofs.lemmas.Bool.{or_left}
use Rattle.std.proofs.lemmas.Slice.Eq.{bytes_eq-Decides}
use Rattle.rc_check.specs.SecondNames.{is_named}

-- it is one of the items
abbrev pub Among : {X : Type 0} → X → List X → Type 0
Among x [] = ⊥
Among x (y ∷ ys) = (x ≡ y) ⊎ Among x ys

-- each item is one of the others
abbrev pub Within : {X : Type 0} → List X → List X → Type 0
Within {X} xs ys = (x : X) → Among x xs → Among x ys

-- before and behind others
pub among_left : {X : Type 0} (x : X) (xs ys : List X) → Among x xs → Among x (xs ++ ys)
among_left x [] ys is = absurd is
among_left x (y ∷ xs) ys (inl is) = inl is
among_left x (y ∷ xs) ys (inr is) = inr (among_left x xs ys is)

pub among_right : {X : Type 0} (x : X) (xs ys : List X) → Among x ys → Among x (xs ++ ys)
among_right x [] ys is = is
among_right x (y ∷ xs) ys is = inr (among_right x xs ys is)

pub among_either : {X : Type 0} (x : X) (xs ys : List X) → Among x (xs ++ ys) → Among x xs ⊎ Among x ys
among_either x [] ys is = inr is
among_either x (y ∷ xs) ys (inl is) = inl (inl is)
among_either x (y ∷ xs) ys (inr is) = ⊎_elim (λ a. inl (inr a)) (λ b. inr b) (among_either x xs ys is)

-- two lists within two others
pub both_within : {X : Type 0} (xs xs' ys ys' : List X) → Within xs xs' → Within ys ys' → Within (xs ++ ys) (xs' ++ ys')
both_within xs xs' ys ys' first second x is =
    ⊎_elim (λ a. among_left x xs' ys' (first x a)) (λ b. among_right x xs' ys' (second x b)) (among_either x xs ys is)

-- what each item gives is within what all give
pub flat_within : {A X : Type 0} (f : A → List X) (a : A) (us : List A) → Among a us → Within (f a) (flat_map f us)
flat_within f a [] is x one = absurd is
flat_within f a (b ∷ us) (inl is) x one = among_left x (f b) (flat_map f us) (subst (λ c. Among x (f c)) is one)
flat_within f a (b ∷ us) (inr is) x one = among_right x (f b) (flat_map f us) (flat_within f a us is x one)

-- a word among words is named there, and the other way round
pub among_named : (x : List ℕ) (words : List (List ℕ)) → Among x words → is_named x words ≡ true
among_named x [] is = absurd is
among_named x (y ∷ words) (inl is) = or_left (bytes_eq x y) (is_named x words) ((bytes_eq-Decides x y).1 is)
among_named x (y ∷ words) (inr is) = or_either (bytes_eq x y) (is_named x words) (among_named x words is)
  where
    or_either : (a b : Bool) → b ≡ true → (a || b) ≡ true
    or_either true b is = refl
    or_either false b is = is

by_first : (x y : List ℕ) (words : List (List ℕ)) (same : Bool) → bytes_eq x y ≡ same → (same || is_named x words) ≡ true
    → (is_named x words ≡ true → Among x words) → Among x (y ∷ words)
by_first x y words true equal is others = inl ((bytes_eq-Decides x y).0 equal)
by_first x y words false equal is others = inr (others is)

pub named_among : (x : List ℕ) (words : List (List ℕ)) → is_named x words ≡ true → Among x words
named_among x [] is = absurd cc
named_among x (y ∷ words) is = by_first x y words (bytes_eq x y) refl is (named_among x words)

-- what is made of an item is among what is made of all
pub among_map : {A B : Type 0} (f : A → B) (a : A) (us : List A) → Among a us → Among (f a) (map f us)
among_map f a [] is = absurd is
among_map f a (b ∷ us) (inl is) = inl (ap f is)
among_map f a (b ∷ us) (inr is) = inr (among_map f a us is)

-- what is among them is made of one
pub map_among : {A B : Type 0} (f : A → B) (b : B) (us : List A) → Among b (map f us) → (a : A) × Among a us × (b ≡ f a)
map_among f b [] is = absurd is
map_among f b (a ∷ us) (inl is) = (a, inl refl, is)
map_among f b (a ∷ us) (inr is) = let found = map_among f b us is in (found.0, inr found.1, found.2)

-- what holds of each that is among them
pub each_among : {A : Type 0} (P : A → Type 0) (us : List A) → ((a : A) → Among a us → P a) → AllByRecursion P us
each_among P [] each = tt
each_among P (a ∷ us) each = (each a (inl refl), each_among P us (λ b is. each b (inr is)))

-- and what holds of all holds of it
pub one_of_all : {A : Type 0} (P : A → Type 0) (a : A) (us : List A) → AllByRecursion P us → Among a us → P a
one_of_all P a [] all is = absurd is
one_of_all P a (b ∷ us) all (inl is) = subst P (sym is) all.0
one_of_all P a (b ∷ us) all (inr is) = one_of_all P a us all.1 is

-- first parts and second parts, put in another order
pub shuffled : {X : Type 0} (u v l d p : List X) → Within l (d ++ p) → Within ((u ++ v) ++ l) ((u ++ d) ++ (v ++ p))
shuffled u v l d p within x is =
    ⊎_elim
    (λ here. ⊎_elim
    (λ one. among_left x (u ++ d) (v ++ p) (among_left x u d one))
    (λ one. among_right x (u ++ d) (v ++ p) (among_left x v p one)) (among_either x u v here))
    (λ later. both_within d (u ++ d) p (v ++ p) (λ y one. among_right y u d one) (λ y one. among_right y v p one) x
    (within x later))
    (among_either x (u ++ v) l is)

pub unshuffled : {X : Type 0} (u v l d p : List X) → Within (d ++ p) l → Within ((u ++ d) ++ (v ++ p)) ((u ++ v) ++ l)
unshuffled u v l d p within x is =
    ⊎_elim
    (λ first. ⊎_elim
    (λ one. among_left x (u ++ v) l (among_left x u v one))
    (λ one. among_right x (u ++ v) l (within x (among_left x d p one))) (among_either x u d first))
    (λ second. ⊎_elim
    (λ one. among_left x (u ++ v) l (among_right x u v one))
    (λ one. among_right x (u ++ v) l (within x (among_right x d p one))) (among_either x v p second))
    (among_either x (u ++ d) (v ++ p) is)
