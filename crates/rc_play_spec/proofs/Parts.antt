-- A function that keeps faces, on the parts of values.
use Rattle.std.proofs.Common.{◌≡◌, ℕ, ◌+◌, true, false, Bool, cond, if◌then◌else◌, List, [], ◌∷◌, ◌++◌, map, ℤ, Option, Some, None, ◌&&◌, ◌||◌, refl, ap, ap₂, ◌∙◌}
use Rattle.std.specs.Prelude.{filter, filter_map, option_map}
use Rattle.std.specs.List.{list_any, list_all, cons_option, best_of as first_best}
use Rattle.rc_play_spec.specs.Value.{Bind, player_bound, card_bound, group_bound, player_of, card_of, group_of, last_of, first_of, best_of, beats}
use Rattle.rc_play_spec.specs.Menu.{from_each}

module _ {C D : Type 0} (f : C → D) where
  -- a variable's value, card by card
  abbrev pub bind_map : Bind C → Bind D
  bind_map (player_bound n) = player_bound n
  bind_map (card_bound c) = card_bound (f c)
  bind_map (group_bound cards) = group_bound (map f cards)

  pub player_map : (o : Option (Bind C)) → player_of (option_map bind_map o) ≡ player_of o
  player_map None = refl
  player_map (Some (player_bound n)) = refl
  player_map (Some (card_bound c)) = refl
  player_map (Some (group_bound cards)) = refl

  pub card_map : (o : Option (Bind C)) → card_of (option_map bind_map o) ≡ option_map f (card_of o)
  card_map None = refl
  card_map (Some (player_bound n)) = refl
  card_map (Some (card_bound c)) = refl
  card_map (Some (group_bound cards)) = refl

  pub group_map : (o : Option (Bind C)) → group_of (option_map bind_map o) ≡ map f (group_of o)
  group_map None = refl
  group_map (Some (player_bound n)) = refl
  group_map (Some (card_bound c)) = refl
  group_map (Some (group_bound cards)) = refl

  pub last_map : (xs : List C) → last_of (map f xs) ≡ option_map f (last_of xs)
  last_map [] = refl
  last_map (x ∷ []) = refl
  last_map (x ∷ y ∷ xs) = last_map (y ∷ xs)

  pub first_map : (xs : List C) → first_of (map f xs) ≡ option_map f (first_of xs)
  first_map [] = refl
  first_map (x ∷ xs) = refl

  if_map : (b : Bool) (x y : C) → (if b then f x else f y) ≡ f (if b then x else y)
  if_map true x y = refl
  if_map false x y = refl

  pub first_best_map : (better : ℤ → ℤ → Bool) (w : D → ℤ) (x : C) (xs : List C) →
      first_best (beats better w) (f x) (map f xs) ≡ f (first_best (beats better (λ c. w (f c))) x xs)
  first_best_map better w x [] = refl
  first_best_map better w x (y ∷ xs) =
      ap (λ z. first_best (beats better w) z (map f xs)) (if_map (better (w (f y)) (w (f x))) y x)
      ∙ first_best_map better w (if better (w (f y)) (w (f x)) then y else x) xs

  pub best_map : (better : ℤ → ℤ → Bool) (w : D → ℤ) (xs : List C) →
      best_of better w (map f xs) ≡ option_map f (best_of better (λ c. w (f c)) xs)
  best_map better w [] = refl
  best_map better w (x ∷ xs) = ap Some (first_best_map better w x xs)

  pub map_twice : {E : Type 0} (h : D → E) (xs : List C) → map h (map f xs) ≡ map (λ c. h (f c)) xs
  map_twice h [] = refl
  map_twice h (x ∷ xs) = ap (λ ys. h (f x) ∷ ys) (map_twice h xs)

  pub filter_map_map : {E : Type 0} (h : D → Option E) (xs : List C) → filter_map h (map f xs) ≡ filter_map (λ c. h (f c)) xs
  filter_map_map h [] = refl
  filter_map_map h (x ∷ xs) = ap (cons_option (h (f x))) (filter_map_map h xs)

  keep_map : (b : Bool) (x : C) (xs : List C) → cond b (f x ∷ map f xs) (map f xs) ≡ map f (cond b (x ∷ xs) xs)
  keep_map true x xs = refl
  keep_map false x xs = refl

  -- a filter, by tests that answer alike
  pub filter_same : (p : C → Bool) (q : D → Bool) → ((c : C) → q (f c) ≡ p c) → (xs : List C) → filter q (map f xs) ≡ map f (filter p xs)
  filter_same p q same [] = refl
  filter_same p q same (x ∷ xs) =
      ap₂ (λ b ys. cond b (f x ∷ ys) ys) (same x) (filter_same p q same xs) ∙ keep_map (p x) x (filter p xs)

-- tests of all and of any, and what each gives in a menu, by functions that answer alike
pub all_same : {M N : Type 0} (g : M → N) (p : M → Bool) (q : N → Bool) → ((m : M) → q (g m) ≡ p m) → (xs : List M) → list_all q (map g xs) ≡ list_all p xs
all_same g p q same [] = refl
all_same g p q same (x ∷ xs) = ap₂ ◌&&◌ (same x) (all_same g p q same xs)

pub any_same : {M N : Type 0} (g : M → N) (p : M → Bool) (q : N → Bool) → ((m : M) → q (g m) ≡ p m) → (xs : List M) → list_any q (map g xs) ≡ list_any p xs
any_same g p q same [] = refl
any_same g p q same (x ∷ xs) = ap₂ ◌||◌ (same x) (any_same g p q same xs)

pub from_each_same : {M N : Type 0} (g : M → N) (p : M → List (List ℕ)) (q : N → List (List ℕ)) → ((m : M) → q (g m) ≡ p m) → (n : ℕ) (xs : List M) →
    from_each q n (map g xs) ≡ from_each p n xs
from_each_same g p q same n [] = refl
from_each_same g p q same n (x ∷ xs) =
    ap₂ (λ ys zs. map (λ spots. n ∷ spots) ys ++ zs) (same x) (from_each_same g p q same (n + 1) xs)
