-- The best card stands first among those that are as good.
use Rattle.std.proofs.Common.{◌≡◌, ℕ, ◌<◌, Bool, true, false, List, [], ◌∷◌, length, get_or, slice_get, take, ℤ, ◌≤ℤ◌, ◌<ℤ◌, Some, refl, sym, ap, ◌∙◌, arith}
use Rattle.std.specs.Prelude.{All, int_lt}
use Rattle.std.specs.Cmp.{IsStrictWeakOrder}
use Rattle.std.specs.List.{best_of as first_best}
use Rattle.std.proofs.lemmas.Int.{ints}
use Rattle.std.proofs.lemmas.List.{get_or_default, get_or-take, length-take}
use Rattle.std.proofs.lemmas.List.MinMax.{IsFirstBest-from_best_of}
use Rattle.std.proofs.lemmas.Option.{slice_get-get_or}
use Rattle.rc_play_spec.specs.Value.{beats, best_of, int_more}

module _ {C : Type 0} (worth : C → ℤ) where
  module _ (better : ℤ → ℤ → Bool) (order : IsStrictWeakOrder {X = C} (beats better worth)) where
    abbrev pub ComesFirst : List C → C → Type 0
    ComesFirst cards c =
        (k : ℕ) × (slice_get cards k ≡ Some c) × All (λ other. better (worth other) (worth c) ≡ false) cards
        × All (λ other. better (worth c) (worth other) ≡ true) (take k cards)

    best_first : (cards : List C) (c : C) → best_of better worth cards ≡ Some c → ComesFirst cards c
    best_first [] c is = absurd (cc)
    best_first (d ∷ cards) c is =
        let h = IsFirstBest-from_best_of order d cards in
        let k = h.0 in
        let found : first_best (beats better worth) d cards ≡ c = cc in
        let within : k < length (d ∷ cards) = h.1.0 in
        let at : (e : C) → get_or (d ∷ cards) k e ≡ c = λ e. sym (get_or_default (d ∷ cards) k d e within) ∙ h.2 ∙ found in (
          k,
          slice_get-get_or (d ∷ cards) k d within ∙ ap (λ x. Some x) (at d),
          λ i e lt. ap (λ x. better (worth (get_or (d ∷ cards) i e)) (worth x)) (sym (at e)) ∙ h.1.1 i e lt,
          λ i e lt.
              let short = length-take k (d ∷ cards) in
              let before : i < k = omega (arith, short, lt) in
              ap (λ x. better (worth c) (worth x)) (get_or-take k (d ∷ cards) i e before)
              ∙ ap (λ x. better (worth x) (worth (get_or (d ∷ cards) i e))) (sym (at e)) ∙ h.1.2 i e before,
        )

  lt_order : IsStrictWeakOrder {X = C} (beats int_lt worth)
  lt_order = record {
    one_way = λ x y h. not_back (worth x) (worth y) h (int_lt (worth y) (worth x)) refl;
    chain = λ x y z a b. no_less (worth x) (worth y) (worth z) a b (int_lt (worth x) (worth z)) refl;
  }
    where
      not_back : (x y : ℤ) → int_lt x y ≡ true → (b : Bool) → int_lt y x ≡ b → int_lt y x ≡ false
      not_back x y h true e = absurd (omega (arith, ints))
      not_back x y h false e = e

      no_less : (x y z : ℤ) → int_lt x y ≡ false → int_lt y z ≡ false → (b : Bool) → int_lt x z ≡ b → int_lt x z ≡ false
      no_less x y z h k true e = absurd (omega (arith, ints))
      no_less x y z h k false e = e

  more_order : IsStrictWeakOrder {X = C} (beats int_more worth)
  more_order = record {
    one_way = λ x y h. lt_order.one_way y x h;
    chain = λ x y z a b. lt_order.chain z y x b a;
  }

  at_most : (x y : ℤ) → int_lt x y ≡ false → y ≤ℤ x
  at_most x y h = omega (arith, ints)

  less : (x y : ℤ) → int_lt x y ≡ true → x <ℤ y
  less x y h = omega (arith, ints)

  pub largest_first : (cards : List C) (c : C) → best_of int_more worth cards ≡ Some c →
      (k : ℕ) × (slice_get cards k ≡ Some c) × All (λ other. worth other ≤ℤ worth c) cards × All (λ other. worth other <ℤ worth c) (take k cards)
  largest_first cards c is =
      let h = best_first int_more more_order cards c is in
      (h.0, h.1, λ i e lt. at_most _ _ (h.2 i e lt), λ i e lt. less _ _ (h.3 i e lt))

  pub smallest_first : (cards : List C) (c : C) → best_of int_lt worth cards ≡ Some c →
      (k : ℕ) × (slice_get cards k ≡ Some c) × All (λ other. worth c ≤ℤ worth other) cards × All (λ other. worth c <ℤ worth other) (take k cards)
  smallest_first cards c is =
      let h = best_first int_lt lt_order cards c is in
      (h.0, h.1, λ i e lt. at_most _ _ (h.2 i e lt), λ i e lt. less _ _ (h.3 i e lt))
