-- Going over a list one by one, where one that passes is enough, or all are to pass.
use Rattle.std.proofs.Common.{◌≡◌, ℕ, ◌+◌, ◌<◌, ◌≤◌, ◌&&◌, ◌||◌, not, cond, Bool, true, false, List, [], ◌∷◌, length, drop, map, get_or, Option, refl, sym, ap, ◌∙◌}
use mathlib.Core.Bool.{beq}
use mathlib.Core.Path.{fun_ext}
use Rattle.std.specs.List.{list_any, list_all}
use Rattle.std.proofs.lemmas.List.{drop_all}
use Rattle.rc_deck.proofs.EachLemmas.{any-map}
use Rattle.rc_rules.proofs.Elements.{drop_here}
use Rattle.rc_play_spec.specs.Value.{both, nat_same}
use Rattle.rc_value.specs.Over.{over}
use Rattle.rc_value.specs.Wanted.{compares}

all-map : {X Y : Type 0} (P : Y → Bool) (f : X → Y) (xs : List X) → list_all P (map f xs) ≡ list_all (λ x. P (f x)) xs
all-map P f [] = refl
all-map P f (x ∷ xs) = ap (λ b. P (f x) && b) (all-map P f xs)

pub over-map : {X Y : Type 0} (any : Bool) (P : Y → Bool) (f : X → Y) (xs : List X) → over any P (map f xs) ≡ over any (λ x. P (f x)) xs
over-map true P f xs = any-map P f xs
over-map false P f xs = all-map P f xs

-- what is the same of each is the same of all of them, and of one
pub over_alike : {X Y : Type 0} (any : Bool) (P : X → Bool) (Q : Y → Bool) (f : X → Y) (xs : List X) → ((x : X) → Q (f x) ≡ P x) →
    over any P xs ≡ over any Q (map f xs)
over_alike any P Q f xs same = ap (λ g. over any g xs) (fun_ext (λ x. sym (same x))) ∙ sym (over-map any Q f xs)

-- the first settles it, or the others do
pub over_first : {X : Type 0} (any v : Bool) (P : X → Bool) (x : X) (xs : List X) → v ≡ P x → over any P (x ∷ xs) ≡ cond (beq v any) any (over any P xs)
over_first true true P x xs e = ap (λ u. u || list_any P xs) (sym e)
over_first true false P x xs e = ap (λ u. u || list_any P xs) (sym e)
over_first false true P x xs e = ap (λ u. u && list_all P xs) (sym e)
over_first false false P x xs e = ap (λ u. u && list_all P xs) (sym e)

pub over_none : {X : Type 0} (any : Bool) (P : X → Bool) → not any ≡ over any P []
over_none true P = refl
over_none false P = refl

module _ {X : Type 0} (any : Bool) (P : X → Bool) (xs : List X) (i : ℕ) where
  over_here : (x : X) (v : Bool) (whole : Bool) → i < length xs → x ≡ get_or xs i x → v ≡ P x → over any P (drop i xs) ≡ whole →
      cond (beq v any) any (over any P (drop (i + 1) xs)) ≡ whole
  over_here x v whole lt is value told =
      sym (over_first any v P x (drop (i + 1) xs) value) ∙ ap (over any P) (sym (drop_here xs i x lt is)) ∙ told

  pub over_stop : (x : X) (v : Bool) (whole : Bool) → i < length xs → x ≡ get_or xs i x → v ≡ P x → beq v any ≡ true →
      over any P (drop i xs) ≡ whole → any ≡ whole
  over_stop x v whole lt is value stops told =
      ap (λ e. cond e any (over any P (drop (i + 1) xs))) (sym stops) ∙ over_here x v whole lt is value told

  pub over_on : (x : X) (v : Bool) (whole : Bool) → i < length xs → x ≡ get_or xs i x → v ≡ P x → beq v any ≡ false →
      over any P (drop i xs) ≡ whole → over any P (drop (i + 1) xs) ≡ whole
  over_on x v whole lt is value goes told =
      ap (λ e. cond e any (over any P (drop (i + 1) xs))) (sym goes) ∙ over_here x v whole lt is value told

  pub over_end : (whole : Bool) → length xs ≤ i → over any P (drop i xs) ≡ whole → not any ≡ whole
  over_end whole le told = over_none any P ∙ ap (over any P) (sym (drop_all i xs le)) ∙ told

-- whether a value settles it, told by the opposite of how it is wanted
is_true : (b : Bool) → b ≡ beq b true
is_true true = refl
is_true false = refl

is_false : (b : Bool) → not b ≡ beq b false
is_false true = refl
is_false false = refl

is_opposite : (b : Bool) → b ≡ beq (not b) false
is_opposite true = refl
is_opposite false = refl

pub settled : (equal any : Bool) (wanted value : Option ℕ) → compares (beq equal any) wanted value ≡ beq (compares equal wanted value) any
settled true true wanted value = is_true (both nat_same value wanted)
settled true false wanted value = is_false (both nat_same value wanted)
settled false true wanted value = is_true (not (both nat_same value wanted))
settled false false wanted value = is_opposite (both nat_same value wanted)
