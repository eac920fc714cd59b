-- Words are equal where their bytes are.
use Rattle.std.proofs.Common.{◌≡◌, ℕ, Bool, List, [], ◌∷◌, refl}
use Rattle.std.specs.List.{list_any}
use Rattle.std.specs.Str.{bytes_eq}
use Rattle.rc_base.specs.contracts.word.WordPartialEq.TheImpl.{eq-value}

pub word_eq : (a b : List ℕ) → eq-value.it a b ≡ bytes_eq a b
word_eq a b = refl

-- tests that answer alike
list_any-alike : {X : Type 0} (p q : X → Bool) → ((x : X) → p x ≡ q x) → (xs : List X) → list_any p xs ≡ list_any q xs
list_any-alike p q alike [] = refl
list_any-alike p q alike (x ∷ xs) = rw (alike x, list_any-alike p q alike xs) refl

-- the look-ups of a set of words, by their bytes
pub list_any_word : (word : List ℕ) (words : List (List ℕ)) → list_any (eq-value.it word) words ≡ list_any (bytes_eq word) words
list_any_word word words = list_any-alike _ _ (word_eq word) words
