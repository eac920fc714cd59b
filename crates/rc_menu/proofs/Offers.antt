-- Menus that grow.
use Rattle.std.proofs.Common.{◌≡◌, ℕ, ◌+◌, ◌<◌, ◌≤◌, Bool, true, false, cond, ◌==◌, List, [], ◌∷◌, ◌++◌, length, get_or, take, drop, map, arith, refl, sym, ap, ◌∙◌, append_assoc, append-nil}
use Rattle.std.proofs.lemmas.List.{drop_all, take_all, map-append, length-map, length-take, length-append, take-append-le}
use Rattle.rc_play_spec.specs.Menu.{Item as PureItem, from_each, item_of, spots_of}
use Rattle.rc_menu.specs.Menu.{extended}
use Rattle.rc_base.specs.Numbers.{below}
use Rattle.rc_play_spec.specs.Value.{Scene as PureScene, Bind as PureBind, player_bound, card_bound}
use mathlib.Core.Path.{fun_ext}
use Rattle.rc_sheet_spec.specs.Sheet.{Test as PureTest, Alt as PureAlt, Effects, do_alt, if_alt}
use Rattle.rc_menu.specs.Asks.{told_of}
use Rattle.rc_play_spec.specs.Scene.{CardValue}
use Rattle.std.proofs.lemmas.Bool.Decides.{nat_tests}
use Rattle.rc_deck.proofs.RangeLemmas.{below_length}
use Rattle.rc_rules.proofs.Elements.{drop_here}
use Rattle.rc_value.proofs.Steps.{cut_more}

moved : (item : PureItem) (i : ℕ) (ss : List (List ℕ)) →
    map (extended (extended item (i ∷ []))) ss ≡ map (extended item) (map (λ s. i ∷ s) ss)
moved item i [] = refl
moved item i (s ∷ ss) =
    let e : extended (extended item (i ∷ [])) s ≡ extended item (i ∷ s) =
    ap (λ xs. record { alt = item.alt; spots = xs }) (append_assoc item.spots (i ∷ []) s) in
    ap (λ x. x ∷ map (extended (extended item (i ∷ []))) ss) e ∙ ap (λ xs. extended item (i ∷ s) ∷ xs) (moved item i ss)

pub offered : {M : Type 0} (g : M → List (List ℕ)) (item item' : PureItem) (done done' whole : List PureItem) (ms : List M) (i : ℕ) (m : M) →
    i < length ms → m ≡ get_or ms i m → item' ≡ extended item (i ∷ []) → done' ≡ take 256 (done ++ map (extended item') (g m)) →
    take 256 (done ++ map (extended item) (from_each g i (drop i ms))) ≡ whole →
    take 256 (done' ++ map (extended item) (from_each g (i + 1) (drop (i + 1) ms))) ≡ whole
offered g item item' done done' whole ms i m lt is next grown told =
    let one : List (List ℕ) = map (λ s. i ∷ s) (g m) in
    let more : List (List ℕ) = from_each g (i + 1) (drop (i + 1) ms) in
    let f = extended item in
    ap (λ xs. take 256 (xs ++ map f more))
    (grown ∙ ap (λ x. take 256 (done ++ map (extended x) (g m))) next ∙ ap (λ xs. take 256 (done ++ xs)) (moved item i (g m)))
    ∙ cut_more 256 (done ++ map f one) (map f more) ∙ ap (take 256) (append_assoc done (map f one) (map f more))
    ∙ ap (λ xs. take 256 (done ++ xs)) (sym (map-append f one more))
    ∙ ap (λ xs. take 256 (done ++ map f (from_each g i xs))) (sym (drop_here ms i m lt is)) ∙ told

pub offered_all : {M : Type 0} (g : M → List (List ℕ)) (item : PureItem) (done whole : List PureItem) (ms : List M) (i : ℕ) →
    length ms ≤ i → length done ≤ 256 → take 256 (done ++ map (extended item) (from_each g i (drop i ms))) ≡ whole → done ≡ whole
offered_all g item done whole ms i le few told =
    sym (take_all 256 done few) ∙ ap (take 256) (sym (append-nil done))
    ∙ ap (λ xs. take 256 (done ++ map (extended item) (from_each g i xs))) (sym (drop_all i ms le)) ∙ told

pub offered_full : (done more whole : List PureItem) → length done ≡ 256 → take 256 (done ++ more) ≡ whole → done ≡ whole
offered_full done more whole full told =
    sym (take_all 256 done (omega arith)) ∙ sym (take-append-le 256 done more (omega arith)) ∙ told

pub cut_few : (xs : List PureItem) (ys : List PureItem) → xs ≡ take 256 ys → length xs ≤ 256
cut_few xs ys is = let e : length xs ≡ length (take 256 ys) = ap length is in omega (arith, length-take 256 ys)

pub full_is : (b : Bool) (n : ℕ) → b ≡ (n == 256) → b ≡ true → n ≡ 256
full_is b n e is = grind (arith, nat_tests)

-- one more, where there is room
pub put_more : (xs xs' : List PureItem) (x y : PureItem) → xs' ≡ xs ++ x ∷ [] → length xs < 256 → x ≡ y → xs' ≡ take 256 (xs ++ y ∷ [])
put_more xs xs' x y e few is =
    e ∙ ap (λ z. xs ++ z ∷ []) is ∙ sym (take_all 256 (xs ++ y ∷ []) (omega (arith, length-append xs (y ∷ []))))

pub put_nothing : (xs : List PureItem) → length xs ≤ 256 → xs ≡ take 256 (xs ++ [])
put_nothing xs few = sym (ap (take 256) (append-nil xs) ∙ take_all 256 xs few)

pub room_is : (b : Bool) (n : ℕ) → b ≡ (n == 256) → b ≡ false → n ≤ 256 → n < 256
room_is b n e is le = grind (arith, nat_tests)

pub bound_count : (n : ℕ) → length (map {B = PureBind CardValue} (λ x. player_bound x) (below n)) ≡ n
bound_count n = length-map {B = PureBind CardValue} (below n) (λ x. player_bound x) ∙ below_length n

-- what is offered of none
pub none_each : {A : Type 0} (n : ℕ) (xs : List A) → from_each (λ x. []) n xs ≡ []
none_each n [] = refl
none_each n (x ∷ xs) = none_each (n + 1) xs

-- as much of each, as many times
as_many : {A B : Type 0} (i : ℕ) (xs : List A) (ys : List B) → length xs ≡ length ys → from_each (λ x. [] ∷ []) i xs ≡ from_each (λ y. [] ∷ []) i ys
as_many i [] [] e = refl
as_many i [] (y ∷ ys) e = absurd (omega arith)
as_many i (x ∷ xs) [] e = absurd (omega arith)
as_many i (x ∷ xs) (y ∷ ys) e = ap (λ more. (i ∷ []) ∷ more) (as_many (i + 1) xs ys (omega arith))

pub counted_each : {B : Type 0} (n : ℕ) (ys : List B) → n ≡ length ys → from_each (λ x. [] ∷ []) 0 (below n) ≡ from_each (λ y. [] ∷ []) 0 ys
counted_each n ys e = as_many 0 (below n) ys (below_length n ∙ e)

-- what is offered of each alike, or of none
pub alike_each : {M : Type 0} (g : M → List (List ℕ)) (b : Bool) (ms : List M) → ((m : M) → g m ≡ cond b ([] ∷ []) []) → b ≡ true →
    from_each (λ m. [] ∷ []) 0 ms ≡ from_each g 0 ms
alike_each g b ms h so = ap (λ f. from_each f 0 ms) (fun_ext (λ m. sym (h m ∙ ap (λ b. cond b ([] ∷ []) []) so)))

pub alike_none : {M : Type 0} (g : M → List (List ℕ)) (b : Bool) (ms : List M) → ((m : M) → g m ≡ cond b ([] ∷ []) []) → b ≡ false →
    [] ≡ from_each g 0 ms
alike_none g b ms h so = sym (none_each 0 ms) ∙ ap (λ f. from_each f 0 ms) (fun_ext (λ m. sym (h m ∙ ap (λ b. cond b ([] ∷ []) []) so)))

-- an alternative and those behind it
abbrev pub begun : ℕ → PureItem
begun alt = record { alt = alt; spots = [] }

alt_items : (alt : ℕ) (ss : List (List ℕ)) → map (extended (begun alt)) ss ≡ map item_of (map (λ s. alt ∷ s) ss)
alt_items alt [] = refl
alt_items alt (s ∷ ss) = ap (λ xs. extended (begun alt) s ∷ xs) (alt_items alt ss)

pub offered_alt : {M : Type 0} (g : M → List (List ℕ)) (done done' whole : List PureItem) (ms : List M) (i : ℕ) (m : M) →
    i < length ms → m ≡ get_or ms i m → done' ≡ take 256 (done ++ map (extended (begun i)) (g m)) →
    take 256 (done ++ map item_of (from_each g i (drop i ms))) ≡ whole →
    take 256 (done' ++ map item_of (from_each g (i + 1) (drop (i + 1) ms))) ≡ whole
offered_alt g done done' whole ms i m lt is grown told =
    let one : List (List ℕ) = map (λ s. i ∷ s) (g m) in
    let more : List (List ℕ) = from_each g (i + 1) (drop (i + 1) ms) in
    ap (λ xs. take 256 (xs ++ map item_of more)) (grown ∙ ap (λ xs. take 256 (done ++ xs)) (alt_items i (g m)))
    ∙ cut_more 256 (done ++ map item_of one) (map item_of more) ∙ ap (take 256) (append_assoc done (map item_of one) (map item_of more))
    ∙ ap (λ xs. take 256 (done ++ xs)) (sym (map-append item_of one more))
    ∙ ap (λ xs. take 256 (done ++ map item_of (from_each g i xs))) (sym (drop_here ms i m lt is)) ∙ told

pub offered_alts : {M : Type 0} (g : M → List (List ℕ)) (done whole : List PureItem) (ms : List M) (i : ℕ) →
    length ms ≤ i → length done ≤ 256 → take 256 (done ++ map item_of (from_each g i (drop i ms))) ≡ whole → done ≡ whole
offered_alts g done whole ms i le few told =
    sym (take_all 256 done few) ∙ ap (take 256) (sym (append-nil done))
    ∙ ap (λ xs. take 256 (done ++ map item_of (from_each g i xs))) (sym (drop_all i ms le)) ∙ told

-- what is offered of the cards of an innermost domain
pub each_mapped : {A B : Type 0} (g : B → List (List ℕ)) (f : A → B) (n : ℕ) (xs : List A) → from_each g n (map f xs) ≡ from_each (λ x. g (f x)) n xs
each_mapped g f n [] = refl
each_mapped g f n (x ∷ xs) = ap (λ more. map (λ s. n ∷ s) (g (f x)) ++ more) (each_mapped g f (n + 1) xs)

pub offered_do : (s : PureScene CardValue) (vars : List (PureBind CardValue)) (alt : PureAlt) (effects : Effects) (cards : List CardValue) → alt ≡ do_alt effects →
    from_each (λ c. [] ∷ []) 0 cards ≡ from_each (λ m. spots_of s (vars ++ m ∷ []) alt) 0 (map (λ c. card_bound c) cards)
offered_do s vars alt effects cards is =
    sym (each_mapped (λ m. spots_of s (vars ++ m ∷ []) (do_alt effects)) (λ c. card_bound c) 0 cards)
    ∙ ap (λ a. from_each (λ m. spots_of s (vars ++ m ∷ []) a) 0 (map (λ c. card_bound c) cards)) (sym is)

pub offered_if : (s : PureScene CardValue) (vars : List (PureBind CardValue)) (alt : PureAlt) (guard : PureTest) (effects : Effects) (cards : List CardValue) → alt ≡ if_alt guard effects →
    from_each (λ c. cond (told_of s vars guard c) ([] ∷ []) []) 0 cards ≡ from_each (λ m. spots_of s (vars ++ m ∷ []) alt) 0 (map (λ c. card_bound c) cards)
offered_if s vars alt guard effects cards is =
    sym (each_mapped (λ m. spots_of s (vars ++ m ∷ []) (if_alt guard effects)) (λ c. card_bound c) 0 cards)
    ∙ ap (λ a. from_each (λ m. spots_of s (vars ++ m ∷ []) a) 0 (map (λ c. card_bound c) cards)) (sym is)

-- the same for tests that say the same of each card
pub same_offers : (P Q : CardValue → Bool) (cards : List CardValue) → ((c : CardValue) → P c ≡ Q c) →
    from_each (λ c. cond (P c) ([] ∷ []) []) 0 cards ≡ from_each (λ c. cond (Q c) ([] ∷ []) []) 0 cards
same_offers P Q cards h = ap (λ f. from_each f 0 cards) (fun_ext (λ c. ap (λ b. cond b ([] ∷ []) []) (h c)))

pub extended_none : (item : PureItem) → extended item [] ≡ item
extended_none item = ap (λ xs. record { alt = item.alt; spots = xs }) (append-nil item.spots)

-- an item that had no position yet
pub first_extended : (item : PureItem) (alt spot : ℕ) (spots : List ℕ) → spots ≡ [] → item ≡ record { alt = alt; spots = spot ∷ [] } →
    item ≡ extended (record { alt = alt; spots = spots }) (spot ∷ [])
first_extended item alt spot spots none is = is ∙ ap (λ xs. record { alt = alt; spots = xs ++ spot ∷ [] }) (sym none)

-- and one that had one
pub second_extended : (item : PureItem) (alt first spot : ℕ) (spots : List ℕ) → spots ≡ first ∷ [] → item ≡ record { alt = alt; spots = first ∷ spot ∷ [] } →
    item ≡ extended (record { alt = alt; spots = spots }) (spot ∷ [])
second_extended item alt first spot spots one is = is ∙ ap (λ xs. record { alt = alt; spots = xs ++ spot ∷ [] }) (sym one)

-- what an alternative with a guard offers behind no position
pub bare_if : (item : PureItem) (passes : Bool) → item.spots ≡ [] →
    cond passes (record { alt = item.alt; spots = [] } ∷ []) [] ≡ map (extended item) (cond passes ([] ∷ []) [])
bare_if item true bare = ap (λ xs. record { alt = item.alt; spots = xs ++ [] } ∷ []) (sym bare)
bare_if item false bare = refl
