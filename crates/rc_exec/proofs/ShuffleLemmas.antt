-- States of a dealer that shuffles lead to.
use Rattle.std.proofs.Common.{◌≡◌, ℕ, List, [], ◌∷◌, ◌++◌, refl, sym, ap, ◌∙◌}
use Rattle.rc_play_spec.specs.Effects.{Dealing}
use Rattle.rc_rules.specs.Dealer.{state_behind, HasShuffled}

pub not_shuffled : (dealing : Dealing ℕ) (state : ℕ) → HasShuffled dealing state state
not_shuffled dealing state = ([], refl)

pub one_shuffle : (dealing : Dealing ℕ) (before after size : ℕ) → after ≡ dealing.next before size → HasShuffled dealing before after
one_shuffle dealing before after size next = (size ∷ [], next)

behind_both : (dealing : Dealing ℕ) (state : ℕ) (sizes more : List ℕ) →
    state_behind dealing state (sizes ++ more) ≡ state_behind dealing (state_behind dealing state sizes) more
behind_both dealing state [] more = refl
behind_both dealing state (size ∷ sizes) more = behind_both dealing (dealing.next state size) sizes more

pub shuffled_then : (dealing dealing' : Dealing ℕ) (a b c : ℕ) → dealing' ≡ dealing → HasShuffled dealing a b → HasShuffled dealing' b c →
    HasShuffled dealing a c
shuffled_then dealing dealing' a b c same first second = (
  first.0 ++ second.0,
  second.1 ∙ ap (λ (d : Dealing ℕ). state_behind d b second.0) same ∙ ap (λ s. state_behind dealing s second.0) first.1
      ∙ sym (behind_both dealing a first.0 second.0),
)
