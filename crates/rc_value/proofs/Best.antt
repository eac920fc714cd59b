-- Sums and bests, card by card.
use Rattle.std.proofs.Common.{◌≡◌, ℕ, ◌+◌, ◌<◌, ◌≤◌, Bool, cond, List, [], ◌∷◌, ◌++◌, length, get_or, take, drop, map, ℤ, pos, ◌+ℤ◌, sym, ap, ◌∙◌}
use Rattle.std.specs.List.{fold}
use Rattle.std.proofs.lemmas.List.{take_more, take_all, map-append}
use Rattle.std.proofs.lemmas.List.Sums.{fold-append}
use Rattle.std.specs.List.{best_of as first_best}
use Rattle.rc_play_spec.specs.Value.{beats}
use Rattle.rc_rules.proofs.Elements.{drop_here}

pub sum_more : {C : Type 0} (f : C → ℤ) (cards : List C) (i : ℕ) (c : C) → i < length cards → c ≡ get_or cards i c →
    fold ◌+ℤ◌ (pos 0) (map f (take (i + 1) cards)) ≡ fold ◌+ℤ◌ (pos 0) (map f (take i cards)) +ℤ f c
sum_more f cards i c lt is =
    ap (λ xs. fold ◌+ℤ◌ (pos 0) (map f xs)) (take_more cards i c lt ∙ ap (λ x. take i cards ++ x ∷ []) (sym is))
    ∙ ap (fold ◌+ℤ◌ (pos 0)) (map-append f (take i cards) (c ∷ [])) ∙ fold-append ◌+ℤ◌ (pos 0) (map f (take i cards)) (f c ∷ [])

pub sum_all : {C : Type 0} (f : C → ℤ) (cards : List C) (i : ℕ) → length cards ≤ i →
    fold ◌+ℤ◌ (pos 0) (map f (take i cards)) ≡ fold ◌+ℤ◌ (pos 0) (map f cards)
sum_all f cards i le = ap (λ xs. fold ◌+ℤ◌ (pos 0) (map f xs)) (take_all i cards le)

module _ {C : Type 0} (better : ℤ → ℤ → Bool) (worth : C → ℤ) where
  pub best_step : (cards : List C) (i : ℕ) (found next c whole : C) → i < length cards → c ≡ get_or cards i c →
      next ≡ cond (better (worth c) (worth found)) c found → first_best (beats better worth) found (drop i cards) ≡ whole →
      first_best (beats better worth) next (drop (i + 1) cards) ≡ whole
  best_step cards i found next c whole lt is chosen told =
      ap (λ x. first_best (beats better worth) x (drop (i + 1) cards)) chosen
      ∙ ap (first_best (beats better worth) found) (sym (drop_here cards i c lt is)) ∙ told
