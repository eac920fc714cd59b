-- Lists of different words.
use Rattle.std.proofs.Common.{◌≡◌, ℕ, ◌+◌, Bool, true, false, cond, ◌||◌, List, [], ◌∷◌, ◌++◌, length, refl, sym, ap, ◌∙◌, arith, length-append}
use Rattle.std.specs.List.{fold}
use Rattle.std.specs.Str.{bytes_eq}
use Rattle.std.proofs.Math.Bool.{or-true, or_comm}
use Rattle.std.proofs.lemmas.List.Folds.{list_any-append}
use Rattle.std.proofs.lemmas.List.Sums.{fold-append}
use Rattle.std.proofs.lemmas.Slice.Eq.{bytes_eq-Decides}
use Rattle.rc_base.specs.Words.{different_from, with_word}
use Rattle.rc_check.specs.SecondNames.{is_named, different_count}
use Rattle.rc_check.specs.Summary.{new_words}

-- nothing more
pub or-false : (a : Bool) → (a || false) ≡ a
or-false true = refl
or-false false = refl

-- a word behind others, of which it is one
named_already : (word other : List ℕ) (words : List (List ℕ)) (same : Bool) → bytes_eq word other ≡ same
    → is_named other words ≡ true
    → is_named word words ≡ (is_named word words || same)
named_already word other words true equal is =
    ap (λ w. is_named w words) ((bytes_eq-Decides word other).0 equal) ∙ is ∙ sym (or-true (is_named word words))
named_already word other words false equal is = sym (or-false (is_named word words))

-- whether a word is named among some and one more
named_choice : (word other : List ℕ) (words : List (List ℕ)) (b : Bool) → is_named other words ≡ b
    → is_named word (cond b words (words ++ other ∷ [])) ≡ (is_named word words || bytes_eq word other)
named_choice word other words true is = named_already word other words (bytes_eq word other) refl is
named_choice word other words false is =
    list_any-append (bytes_eq word) words (other ∷ []) ∙ ap (λ b. is_named word words || b) (or-false (bytes_eq word other))

-- the same of a list with one more
named_with : (word other : List ℕ) (words : List (List ℕ))
    → is_named word (with_word words other) ≡ (is_named word words || bytes_eq word other)
named_with word other words = named_choice word other words (is_named other words) refl

-- of three
or_assoc : (a b c : Bool) → ((a || b) || c) ≡ (a || (b || c))
or_assoc true b c = refl
or_assoc false b c = refl

-- a word is among different words just where it is among all
pub named_fold : (word : List ℕ) (words more : List (List ℕ))
    → is_named word (fold with_word words more) ≡ (is_named word words || is_named word more)
named_fold word words [] = sym (or-false (is_named word words))
named_fold word words (other ∷ more) =
    named_fold word (with_word words other) more
    ∙ ap (λ b. b || is_named word more) (named_with word other words)
    ∙ or_assoc (is_named word words) (bytes_eq word other) (is_named word more)

-- two lists of the same words
abbrev SameWords : List (List ℕ) → List (List ℕ) → Type 0
SameWords words seen = (word : List ℕ) → is_named word words ≡ is_named word seen

-- the same of one more
SameWords-more : (words seen : List (List ℕ)) (more : List ℕ) → SameWords words seen
    → SameWords (words ++ more ∷ []) (more ∷ seen)
SameWords-more words seen more same word =
    list_any-append (bytes_eq word) words (more ∷ [])
    ∙ ap (λ b. is_named word words || b) (or-false (bytes_eq word more))
    ∙ or_comm (is_named word words) (bytes_eq word more)
    ∙ ap (λ b. bytes_eq word more || b) (same word)

-- there are as many different words behind these
abbrev CountsAll : List (List ℕ) → Type 0
CountsAll more =
    (words seen : List (List ℕ)) → SameWords words seen
    → length (fold with_word words more) ≡ length words + length (different_from seen more)

-- a word that is new or not, and then more
counts_choice : (word : List ℕ) (more words seen : List (List ℕ)) (a b : Bool) → SameWords words seen → a ≡ b → CountsAll more
    → length (fold with_word (cond a words (words ++ word ∷ [])) more)
    ≡ length words + length (cond b (different_from seen more) (word ∷ different_from (word ∷ seen) more))
counts_choice word more words seen true true same equal counts = counts words seen same
counts_choice word more words seen false false same equal counts =
    let step = counts (words ++ word ∷ []) (word ∷ seen) (SameWords-more words seen word same) in
    let last = length-append words (word ∷ []) in omega arith
counts_choice word more words seen true false same equal counts = absurd cc
counts_choice word more words seen false true same equal counts = absurd cc

-- so all are counted
counts_fold : (more : List (List ℕ)) → CountsAll more
counts_fold [] words seen same = omega arith
counts_fold (word ∷ more) words seen same =
    counts_choice word more words seen (is_named word words) (is_named word seen) same (same word) (counts_fold more)

-- the different words are as many
pub counts_different : (words : List (List ℕ)) → length (fold with_word [] words) ≡ different_count words
counts_different words = let counts = counts_fold words [] [] (λ word. refl) in omega arith

-- one more word is a new one or none
length_with : (word : List ℕ) (words : List (List ℕ)) (b : Bool)
    → length (cond b words (words ++ word ∷ [])) ≡ length words + cond b 0 1
length_with word words true = omega arith
length_with word words false = length-append words (word ∷ [])

-- how many there are with one more
pub counts_one_more : (words : List (List ℕ)) (word : List ℕ)
    → different_count (words ++ word ∷ []) ≡ different_count words + new_words word (fold with_word [] words)
counts_one_more words word =
    sym (counts_different (words ++ word ∷ []))
    ∙ ap length (fold-append with_word [] words (word ∷ []))
    ∙ length_with word (fold with_word [] words) (is_named word (fold with_word [] words))
    ∙ ap (λ n. n + new_words word (fold with_word [] words)) (counts_different words)
