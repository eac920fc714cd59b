-- What each player has of a name stands as far behind what the first one has as the player's number says.
use Rattle.std.proofs.Common.{◌≡◌, ℕ, zero, suc, ◌+◌, ◌<◌, ◌≤◌, nat_lt, cond, Bool, true, false, ◌&&◌, List, []}
use Rattle.std.proofs.Common.{◌∷◌, map, Option, Some, None, option_map, refl, sym, ap, ◌∙◌, subst, arith}
use Rattle.std.specs.Prelude.{sum_by, IfSome}
use Rattle.std.proofs.lemmas.Bool.{lt-ltb, ltb-true}
use Rattle.std.proofs.lemmas.List.Sums.{sum_by-cons}
use Rattle.rc_sheet_spec.specs.Sheet.{Sheet, Class, game_class, team_class, player_class}
use Rattle.rc_sheet_spec.specs.WellFormed.{owner_count}
use Rattle.rc_play_spec.specs.Owners.{place_among, class_eq}

module _ (sheet : Sheet) (player : ℕ) (lt : player < sheet.players) where
  abbrev moved : Option ℕ → Option ℕ
  moved = option_map (λ first. first + player)

  one_class : (class : Class) →
      place_among sheet player_class (class ∷ []) 0 player ≡ moved (place_among sheet player_class (class ∷ []) 0 0)
  one_class game_class = refl
  one_class team_class = refl
  one_class player_class =
      let here : nat_lt player sheet.players ≡ true = lt-ltb player sheet.players lt in
      let some : 0 < sheet.players = omega (arith, lt) in
      let there : nat_lt 0 sheet.players ≡ true = lt-ltb 0 sheet.players some in
      let same : player ≡ 0 + player = omega arith in
      ap (λ b. cond b (Some player) None) here ∙ ap Some same ∙ sym (ap (λ b. moved (cond b (Some 0) None)) there)

  further : (count : ℕ) (place : Option ℕ) →
      option_map (λ n. count + n) (moved place) ≡ moved (option_map (λ n. count + n) place)
  further count None = refl
  further count (Some first) =
      let same : count + (first + player) ≡ count + first + player = omega arith in ap Some same

  pub own_among : (classes : List Class) (name : ℕ) →
      place_among sheet player_class classes name player ≡ moved (place_among sheet player_class classes name 0)
  own_among [] name = refl
  own_among (class ∷ classes) zero = one_class class
  own_among (class ∷ classes) (suc name) =
      ap (option_map (λ n. owner_count sheet class + n)) (own_among classes name)
      ∙ further (owner_count sheet class) (place_among sheet player_class classes name 0)

-- each place is one of all
module _ {A : Type 0} (class_in : A → Class) (sheet : Sheet) (class : Class) (owner : ℕ) where
  abbrev count : A → ℕ
  count x = owner_count sheet (class_in x)

  later : (before all : ℕ) (place : Option ℕ) →
      IfSome place (λ n. n < all) → IfSome (option_map (λ n. before + n) place) (λ n. n < before + all)
  later before all None few = tt
  later before all (Some n) few = omega (arith, few)

  guarded : (b c : Bool) (all : ℕ) → (c ≡ true → owner < all) → IfSome (cond (b && c) (Some owner) None) (λ n. n < all)
  guarded false c all few = tt
  guarded true false all few = tt
  guarded true true all few = few refl

  few_among : (names : List A) (name : ℕ) →
      IfSome (place_among sheet class (map class_in names) name owner) (λ n. n < sum_by count names)
  few_among [] name = tt
  few_among (x ∷ names) zero =
      let place = place_among sheet class (class_in x ∷ []) 0 owner in
      subst (λ all. IfSome place (λ n. n < all)) (sym (sum_by-cons count x names))
      (guarded (class_eq (class_in x) class) (nat_lt owner (count x)) (count x + sum_by count names)
      (λ is. let less : owner < count x = ltb-true owner (count x) is in omega (arith, less)))
  few_among (x ∷ names) (suc name) =
      let place = place_among sheet class (map class_in names) name owner in
      subst (λ all. IfSome (option_map (λ n. count x + n) place) (λ n. n < all)) (sym (sum_by-cons count x names))
      (later (count x) (sum_by count names) place (few_among names name))

  within : (all most : ℕ) (place : Option ℕ) → all ≤ most →
      IfSome place (λ n. n < all) → IfSome place (λ n. n ≤ most)
  within all most None few there = tt
  within all most (Some n) few there = omega (arith, few, there)

  pub few_places : (names : List A) (name most : ℕ) → sum_by count names ≤ most →
      IfSome (place_among sheet class (map class_in names) name owner) (λ n. n ≤ most)
  few_places names name most few =
      within (sum_by count names) most (place_among sheet class (map class_in names) name owner) few
      (few_among names name)
