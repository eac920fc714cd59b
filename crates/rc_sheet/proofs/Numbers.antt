-- Words that are numbered by their first places.
use Rattle.std.proofs.Common.{◌≡◌, ℕ, ◌+◌, ◌<◌, Bool, true, false, cond, List, [], ◌∷◌, ◌++◌, length, bytes_eq, Option, Some, None, IfSome, is_some, refl, sym, ap, ◌∙◌, arith}
use Rattle.std.specs.List.{position, position_from}
use Rattle.std.specs.BTreeMap.{BTreeMap, get, get_by, is_at}
use Rattle.std.specs.Cmp.Lexicographic.{slice_cmp, texts_ties, nat_list_eq_equiv}
use Rattle.std.specs.declared.cmp.Ordering.{Ordering}
use Rattle.std.specs.Ordering.{nat_cmp, is_eq}
use Rattle.std.specs.Option.{option_or}
use Rattle.std.proofs.lemmas.Bool.{false≢true}
use Rattle.std.proofs.lemmas.Iterator.Adapters.{position_from-zero}
use Rattle.std.proofs.lemmas.List.Quantifiers.{position-Some}
use Rattle.std.proofs.lemmas.Slice.Eq.{bytes_eq-Decides}
use Rattle.rc_sheet.specs.Reader.{Numbers}

-- how words are ordered in the index
abbrev pub order : List ℕ → List ℕ → Ordering
order = slice_cmp nat_cmp

pub found : (words : List (List ℕ)) (numbers : BTreeMap (List ℕ) ℕ) → Numbers words numbers → (word : List ℕ)
    → get_by (order word) numbers ≡ position (bytes_eq word) words
found words numbers are word = are word

-- a number that is found is that of a place
pub within : (words : List (List ℕ)) (word : List ℕ) (number : Option ℕ) → number ≡ position (bytes_eq word) words
    → IfSome number (λ place. place < length words)
within words word None is = tt
within words word (Some place) is = (position-Some (bytes_eq word) words place [] (sym is)).0

-- one more entry, and one more word
cond_or : (here : Bool) (number : ℕ) (rest whole more : Option ℕ) → whole ≡ option_or rest more
    → cond here (Some number) whole ≡ option_or (cond here (Some number) rest) more
cond_or true number rest whole more is = refl
cond_or false number rest whole more is = is

position_from_push : (p : List ℕ → Bool) (i : ℕ) (words : List (List ℕ)) (word : List ℕ) →
    position_from p i (words ++ word ∷ []) ≡ option_or (position_from p i words) (cond (p word) (Some (i + length words)) None)
position_from_push p i [] word = let same : i ≡ i + 0 = omega arith in ap (λ n. cond (p word) (Some n) None) same
position_from_push p i (first ∷ words) word =
    let same : i + 1 + length words ≡ i + length (first ∷ words) = omega arith in
    cond_or (p first) i _ _ _
    (position_from_push p (i + 1) words word
    ∙ ap (λ n. option_or (position_from p (i + 1) words) (cond (p word) (Some n) None)) same)

position_push : (p : List ℕ → Bool) (words : List (List ℕ)) (word : List ℕ) →
    position p (words ++ word ∷ []) ≡ option_or (position p words) (cond (p word) (Some (length words)) None)
position_push p words word =
    let none : 0 + length words ≡ length words = omega arith in
    position_from-zero p (words ++ word ∷ [])
    ∙ position_from_push p 0 words word
    ∙ ap (λ n. option_or (position_from p 0 words) (cond (p word) (Some n) None)) none
    ∙ sym (ap (λ found. option_or found (cond (p word) (Some (length words)) None)) (position_from-zero p words))

-- words tie in the order where their bytes are the same
ties : (word other : List ℕ) → is_eq (order word other) ≡ bytes_eq other word
ties word other = sym (texts_ties word other) ∙ nat_list_eq_equiv.symm word other

-- a number stands in for none
chosen : (here : Bool) (number : ℕ) (found : Option ℕ) → (here ≡ true → is_some found ≡ false)
    → cond here (Some number) found ≡ option_or found (cond here (Some number) None)
chosen true number (Some n) free = absurd (false≢true (sym (free refl)))
chosen true number None free = refl
chosen false number (Some n) free = refl
chosen false number None free = refl

-- a new word has the next number
pub one_more : (words : List (List ℕ)) (old new : BTreeMap (List ℕ) ℕ) (word : List ℕ) (number : ℕ) → Numbers words old
    → number ≡ length words → is_some (get order old word) ≡ false
    → ((other : List ℕ) → get order new other ≡ cond (is_at (order word) other) (Some number) (get order old other))
    → Numbers (words ++ word ∷ []) new
one_more words old new word number are is free updates other =
    let place : List ℕ → Option ℕ = λ bytes. position (bytes_eq bytes) words in
    updates other
    ∙ ap (λ here. cond here (Some number) (get order old other)) (ties word other)
    ∙ ap (λ found. cond (bytes_eq other word) (Some number) found) (are other)
    ∙ chosen (bytes_eq other word) number (place other)
    (λ same. ap (λ bytes. is_some (place bytes)) ((bytes_eq-Decides other word).0 same) ∙ sym (ap is_some (are word)) ∙ free)
    ∙ ap (λ n. option_or (place other) (cond (bytes_eq other word) (Some n) None)) is
    ∙ sym (position_push (bytes_eq other) words word)

-- a word that is there already adds no number
or_same : (found : Option ℕ) (same : Bool) (number : ℕ) → (same ≡ true → is_some found ≡ true)
    → found ≡ option_or found (cond same (Some number) None)
or_same (Some n) same number there = refl
or_same None true number there = absurd (false≢true (there refl))
or_same None false number there = refl

pub one_again : (words : List (List ℕ)) (numbers : BTreeMap (List ℕ) ℕ) (word : List ℕ) → Numbers words numbers
    → is_some (get order numbers word) ≡ true → Numbers (words ++ word ∷ []) numbers
one_again words numbers word are there other =
    let known : is_some (position (bytes_eq word) words) ≡ true = sym (ap is_some (are word)) ∙ there in
    are other
    ∙ or_same (position (bytes_eq other) words) (bytes_eq other word) (length words)
    (λ same. ap (λ bytes. is_some (position (bytes_eq bytes) words)) ((bytes_eq-Decides other word).0 same) ∙ known)
    ∙ sym (position_push (bytes_eq other) words word)
