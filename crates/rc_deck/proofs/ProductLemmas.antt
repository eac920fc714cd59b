-- Products of lists.
use Rattle.std.proofs.Common.{◌≡◌, List, [], ◌∷◌, ◌++◌, map, refl, sym, ap, ◌∙◌, append_assoc}
use Rattle.std.proofs.lemmas.List.{append-nil, map-append}
use Rattle.std.proofs.lemmas.List.Concat.{flat_map-append}
use Rattle.rc_deck.specs.Product.{behind, joined}

-- nothing before them leaves the lists as they are
pub behind-nil : {X : Type 0} (first : List X) (lists : List (List X)) → first ≡ [] → behind first lists ≡ lists
behind-nil first [] none = refl
behind-nil first (xs ∷ lists) none = ap (λ l. (l ++ xs) ∷ behind first lists) none ∙ ap (λ ls. xs ∷ ls) (behind-nil first lists none)

-- two lists before each, one after the other
behind-append : {X : Type 0} (xs ys : List X) (lists : List (List X)) → behind (xs ++ ys) lists ≡ behind xs (behind ys lists)
behind-append xs ys [] = refl
behind-append xs ys (zs ∷ lists) =
    ap (λ l. l ∷ behind (xs ++ ys) lists) (append_assoc xs ys zs) ∙ ap (λ ls. (xs ++ (ys ++ zs)) ∷ ls) (behind-append xs ys lists)

-- a list before each first one is before each of the product
joined-behind : {X : Type 0} (xs : List X) (lists others : List (List X)) → joined (behind xs lists) others ≡ behind xs (joined lists others)
joined-behind xs [] others = refl
joined-behind xs (ys ∷ lists) others =
    ap (λ ls. ls ++ joined (behind xs lists) others) (behind-append xs ys others)
    ∙ ap (λ ls. behind xs (behind ys others) ++ ls) (joined-behind xs lists others)
    ∙ sym (map-append (λ list. xs ++ list) (behind ys others) (joined lists others))

-- products may be grouped in any way
pub joined-joined : {X : Type 0} (xs ys zs : List (List X)) → joined (joined xs ys) zs ≡ joined xs (joined ys zs)
joined-joined [] ys zs = refl
joined-joined (x ∷ xs) ys zs =
    flat_map-append (λ first. behind first zs) (behind x ys) (joined xs ys)
    ∙ ap (λ ls. ls ++ joined (joined xs ys) zs) (joined-behind x ys zs)
    ∙ ap (λ ls. behind x (joined ys zs) ++ ls) (joined-joined xs ys zs)

-- the empty list alone changes nothing behind
pub joined-single_nil : {X : Type 0} (xs : List (List X)) → joined xs ([] ∷ []) ≡ xs
joined-single_nil [] = refl
joined-single_nil (x ∷ xs) = ap (λ l. l ∷ joined xs ([] ∷ [])) (append-nil x) ∙ ap (λ ls. x ∷ ls) (joined-single_nil xs)

-- a pair behind the face or before each list is the same
pub behind-push : {X : Type 0} (first : List X) (x : X) (lists : List (List X)) → behind (first ++ x ∷ []) lists ≡ behind first (map (λ list. x ∷ list) lists)
behind-push first x [] = refl
behind-push first x (list ∷ lists) =
    ap (λ l. l ∷ behind (first ++ x ∷ []) lists) (append_assoc first (x ∷ []) list)
    ∙ ap (λ ls. (first ++ x ∷ list) ∷ ls) (behind-push first x lists)
