-- The positions that an alternative offers, as they are listed.
use Rattle.std.proofs.Common.{◌≡◌, ℕ, zero, suc, ◌+◌, ◌≤◌, length, take, Bool, true, false, if◌then◌else◌, List, [], ◌∷◌, ◌++◌, inl, inr, ⊎_elim, map, slice_get, Some, refl, sym, ap, ◌∙◌, subst, true≢false, zero-add, arith}
use Rattle.std.specs.List.{AllByRecursion}
use Rattle.std.proofs.lemmas.List.Elements.{All-from_recursion}
use Rattle.std.proofs.lemmas.List.{length-map, length-take}
use Rattle.rc_base.specs.Deck.{IsBefore}
use Rattle.rc_base.specs.Limits.{most_items}
use Rattle.rc_deck.proofs.Orders.{In, Contains-from_In, In-append_left, In-append_right, In-append_cases, In-map, In-map_source, Ordered, Ordered-append, Ordered-map, AllPairs-from_Ordered}
use Rattle.rc_sheet_spec.specs.Sheet.{Alt, do_alt, if_alt, any_alt}
use Rattle.rc_play_spec.specs.Value.{Scene, Bind, test_value, members}
use Rattle.rc_play_spec.specs.Menu.{item_of, from_each, spots_of, paths_of}
use Rattle.rc_play_spec.specs.Offers.{Offers, OffersOne, AreOffers}

-- what stands in a list of members, with the first at n
abbrev Drawn : {M : Type 0} → (M → List ℕ → Type 0) → ℕ → List M → List ℕ → Type 0
Drawn {M} P n ms spots = (k : ℕ) × (m : M) × (rest : List ℕ) × (spots ≡ (n + k) ∷ rest) × (slice_get ms k ≡ Some m) × P m rest

module _ {M : Type 0} (f : M → List (List ℕ)) where
  drawn_from : (n : ℕ) (ms : List M) (spots : List ℕ) → In spots (from_each f n ms) → Drawn (λ m rest. In rest (f m)) n ms spots
  drawn_from n [] spots in' = absurd in'
  drawn_from n (m ∷ ms) spots in' =
      ⊎_elim
      (λ l. let s = In-map_source (λ rest. n ∷ rest) spots (f m) l in
      let e : n ≡ n + 0 = omega arith in
      (0, m, s.0, s.2 ∙ ap (λ k. k ∷ s.0) e, refl, s.1))
      (λ r. let d = drawn_from (n + 1) ms spots r in
      let e : n + 1 + d.0 ≡ n + suc d.0 = omega arith in
      (suc d.0, d.1, d.2, d.3 ∙ ap (λ k. k ∷ d.2) e, d.4, d.5))
      (In-append_cases spots (map (λ rest. n ∷ rest) (f m)) (from_each f (n + 1) ms) in')

  drawn_to : (n : ℕ) (ms : List M) (k : ℕ) (m : M) (rest : List ℕ) → slice_get ms k ≡ Some m → In rest (f m) → In ((n + k) ∷ rest) (from_each f n ms)
  drawn_to n [] k m rest is in' = absurd (cc)
  drawn_to n (m' ∷ ms) zero m rest is in' =
      let same : m' ≡ m = cc in
      let e : n ≡ n + 0 = omega arith in
      In-append_left ((n + 0) ∷ rest) (map (λ rest. n ∷ rest) (f m')) (from_each f (n + 1) ms)
      (subst (λ k. In (k ∷ rest) (map (λ rest. n ∷ rest) (f m'))) e
      (In-map (λ rest. n ∷ rest) rest (f m') (subst (λ x. In rest (f x)) (sym same) in')))
  drawn_to n (m' ∷ ms) (suc k) m rest is in' =
      let e : n + 1 + k ≡ n + suc k = omega arith in
      In-append_right ((n + suc k) ∷ rest) (map (λ rest. n ∷ rest) (f m')) (from_each f (n + 1) ms)
      (subst (λ j. In (j ∷ rest) (from_each f (n + 1) ms)) e (drawn_to (n + 1) ms k m rest is in'))

  ordered_each : ((m : M) → Ordered IsBefore (f m)) → (n : ℕ) (ms : List M) → Ordered IsBefore (from_each f n ms)
  ordered_each each n [] = tt
  ordered_each each n (m ∷ ms) =
      Ordered-append IsBefore (map (λ rest. n ∷ rest) (f m)) (from_each f (n + 1) ms)
      (Ordered-map IsBefore IsBefore (λ rest. n ∷ rest) (λ x y before. inr (refl, before)) (f m) (each m))
      (ordered_each each (n + 1) ms)
      (λ x y in-x in-y.
      let s = In-map_source (λ rest. n ∷ rest) x (f m) in-x in
      let d = drawn_from (n + 1) ms y in-y in
      subst (λ z. IsBefore z y) (sym s.2) (subst (λ z. IsBefore (n ∷ s.0) z) (sym d.3) (inl (omega arith))))

module _ {C : Type 0} (scene : Scene C) where
  guarded : (b : Bool) (spots : List ℕ) → In spots (if b then [] ∷ [] else []) → (spots ≡ []) × (b ≡ true)
  guarded true spots (inl is) = (is, refl)
  guarded true spots (inr in') = absurd in'
  guarded false spots in' = absurd in'

  guarded_in : (b : Bool) (spots : List ℕ) → spots ≡ [] → b ≡ true → In spots (if b then [] ∷ [] else [])
  guarded_in true spots is e = inl is
  guarded_in false spots is e = absurd (true≢false (sym e))

  ordered_guard : (b : Bool) → Ordered IsBefore (if b then [] ∷ [] else [])
  ordered_guard true = (λ y in'. absurd in', tt)
  ordered_guard false = tt

  listed_offers : (vars : List (Bind C)) (alt : Alt) (spots : List ℕ) → In spots (spots_of scene vars alt) → Offers scene vars alt spots
  listed_offers vars (do_alt effects) spots (inl is) = is
  listed_offers vars (do_alt effects) spots (inr in') = absurd in'
  listed_offers vars (if_alt guard effects) spots in' = guarded (test_value scene vars guard) spots in'
  listed_offers vars (any_alt domain bound alt) spots in' =
      let d = drawn_from (λ m. spots_of scene (vars ++ m ∷ []) alt) 0 (members scene vars domain) spots in' in
      let e : 0 + d.0 ≡ d.0 = omega arith in
      (d.0, d.1, d.2, d.3 ∙ ap (λ k. k ∷ d.2) e, d.4, listed_offers (vars ++ d.1 ∷ []) alt d.2 d.5)

  offers_listed : (vars : List (Bind C)) (alt : Alt) (spots : List ℕ) → Offers scene vars alt spots → In spots (spots_of scene vars alt)
  offers_listed vars (do_alt effects) spots is = inl is
  offers_listed vars (if_alt guard effects) spots is = guarded_in (test_value scene vars guard) spots is.0 is.1
  offers_listed vars (any_alt domain bound alt) spots o =
      let e : 0 + o.0 ≡ o.0 = omega arith in
      subst (λ x. In x (spots_of scene vars (any_alt domain bound alt))) (ap (λ k. k ∷ o.2) e ∙ sym o.3)
      (drawn_to (λ m. spots_of scene (vars ++ m ∷ []) alt) 0 (members scene vars domain) o.0 o.1 o.2 o.4 (offers_listed (vars ++ o.1 ∷ []) alt o.2 o.5))

  listed_in_order : (vars : List (Bind C)) (alt : Alt) → Ordered IsBefore (spots_of scene vars alt)
  listed_in_order vars (do_alt effects) = (λ y in'. absurd in', tt)
  listed_in_order vars (if_alt guard effects) = ordered_guard (test_value scene vars guard)
  listed_in_order vars (any_alt domain bound alt) =
      ordered_each (λ m. spots_of scene (vars ++ m ∷ []) alt) (λ m. listed_in_order (vars ++ m ∷ []) alt) 0 (members scene vars domain)

  all_in : {X : Type 0} (P : X → Type 0) (xs : List X) → ((x : X) → In x xs → P x) → AllByRecursion P xs
  all_in P [] h = tt
  all_in P (x ∷ xs) h = (h x (inl refl), all_in P xs (λ y in'. h y (inr in')))

  listed_paths : (alts : List Alt) (path : List ℕ) → In path (paths_of scene alts) → OffersOne scene alts path
  listed_paths alts path in' =
      let d = drawn_from (spots_of scene []) 0 alts path in' in
      (d.0, d.1, d.2, d.3 ∙ ap (λ k. k ∷ d.2) (zero-add d.0), d.4, listed_offers [] d.1 d.2 d.5)

  paths_listed : (alts : List Alt) (path : List ℕ) → OffersOne scene alts path → In path (paths_of scene alts)
  paths_listed alts path o =
      subst (λ x. In x (paths_of scene alts)) (ap (λ k. k ∷ o.2) (zero-add o.0) ∙ sym o.3)
      (drawn_to (spots_of scene []) 0 alts o.0 o.1 o.2 o.4 (offers_listed [] o.1 o.2 o.5))

  pub are_offers : (alts : List Alt) → AreOffers scene alts (paths_of scene alts)
  are_offers alts =
      record {
        ordered = AllPairs-from_Ordered IsBefore (paths_of scene alts) (ordered_each (spots_of scene []) (listed_in_order []) 0 alts);
        offered = All-from_recursion (OffersOne scene alts) (paths_of scene alts) (all_in (OffersOne scene alts) (paths_of scene alts) (listed_paths alts));
        every = λ path offered. Contains-from_In path (paths_of scene alts) (paths_listed alts path offered);
      }

-- the first of so many, as items
pub few_items : (paths : List (List ℕ)) → length (map item_of (take most_items paths)) ≤ most_items
few_items paths = let e = length-map (take most_items paths) item_of in let f = length-take most_items paths in omega (arith, e, f)
