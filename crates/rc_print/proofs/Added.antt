-- What is printed in several steps.
use Rattle.std.proofs.Common.{◌≡◌, ℕ, List, [], ◌++◌, Result, OnOk, sym, ap, ◌∙◌, append_assoc, append-nil}
use Rattle.rc_deck.proofs.EachLemmas.{on_ok}

-- these bytes are added
pub record Adds (old new bytes : List ℕ) : Type 0 where
  pub is : new ≡ old ++ bytes

-- none
pub start : (old : List ℕ) → Adds old old []
start old = record { is = sym (append-nil old) }

-- and more
pub then : {old new newer bytes : List ℕ} (more : List ℕ) → Adds old new bytes → newer ≡ new ++ more
    → Adds old newer (bytes ++ more)
then {old = old} {bytes = bytes} more adds is =
    record { is = is ∙ ap (λ text. text ++ more) adds.is ∙ append_assoc old bytes more }

-- and last, where nothing fails
pub last : {A E : Type 0} {old new bytes : List ℕ} (newer more total : List ℕ) (result : Result A E) → Adds old new bytes
    → OnOk result (newer ≡ new ++ more) → bytes ++ more ≡ total → OnOk result (newer ≡ old ++ total)
last {old = old} newer more total result adds is whole =
    on_ok result is (λ added. (then more adds added).is ∙ ap (λ bytes. old ++ bytes) whole)
