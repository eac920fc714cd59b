-- Words by their bytes.
use Rattle.std.proofs.Common.{◌≡◌, ℕ, Bool, true, false, nat_eq, List, [], ◌∷◌, ◌++◌, take, cond, append_assoc, refl, ap, ◌∙◌}
use Rattle.std.specs.Borrow.{Bor}
use Rattle.std.specs.Str.{bytes_eq}
use Rattle.std.specs.Cmp.Lexicographic.{pointwise}
use Rattle.std.proofs.lemmas.List.{take-map, map-append}
use Rattle.rc_base.specs.Firsts.{has_key, with_first}
use Rattle.rc_check.specs.Seen.{words_seen, entries_seen}
use Rattle.rc_check.specs.SecondNames.{is_named}
use Rattle.rc_base.specs.Words.{with_word}

-- the first words
pub take_words : (n : ℕ) (words : List (Bor (List ℕ))) → take n (words_seen words) ≡ words_seen (take n words)
take_words n words = take-map (λ word. word.now) n words

-- the equality of slices is that of bytes
bytes_alike : (a b : List ℕ) → pointwise nat_eq a b ≡ bytes_eq a b
bytes_alike a b = refl

-- slices are the same where their bytes are
abbrev same_slice : Bor (List ℕ) → Bor (List ℕ) → Bool
same_slice a b = pointwise nat_eq a.now b.now

-- the look-up of a word among entries
pub named_entries : {V : Type 0} (word : Bor (List ℕ)) (entries : List (Bor (List ℕ) × V))
    → has_key same_slice word entries ≡ is_named word.now (entries_seen entries)
named_entries word [] = refl
named_entries word (entry ∷ entries) = rw (bytes_alike word.now entry.0.now, named_entries word entries) refl

-- the words of these entries, or of these and one more
words_chosen : {V : Type 0} (known : Bool) (entry : Bor (List ℕ) × V) (entries : List (Bor (List ℕ) × V))
    → entries_seen (cond known entries (entries ++ entry ∷ []))
    ≡ cond known (entries_seen entries) (entries_seen entries ++ entry.0.now ∷ [])
words_chosen true entry entries = refl
words_chosen false entry entries = map-append (λ other. other.0.now) entries (entry ∷ [])

-- the words of entries with the first one of a word
pub words_inserted : {V : Type 0} (word : Bor (List ℕ)) (value : V) (entries : List (Bor (List ℕ) × V))
    → entries_seen (with_first same_slice entries word value) ≡ with_word (entries_seen entries) word.now
words_inserted word value entries =
    let words = entries_seen entries in
    words_chosen (has_key same_slice word entries) (word, value) entries
    ∙ ap (λ known. cond known words (words ++ word.now ∷ [])) (named_entries word entries)

-- these, those and more
pub attach : (these those more : List (List ℕ)) → (these ++ those) ++ more ≡ these ++ (those ++ more)
attach these those more = append_assoc these those more
