-- Names that are added one by one are the different ones, in the order of their first mention.
use Rattle.std.proofs.Common.{◌≡◌, ℕ, Bool, true, false, ◌||◌, cond, List, [], ◌∷◌, ◌++◌, inl, inr, map, bytes_eq, refl, sym, ap, ◌∙◌, append_assoc}
use Rattle.std.specs.List.{list_any}
use Rattle.std.proofs.lemmas.Bool.{cases_Bool, cond-true, cond-false}
use Rattle.std.proofs.lemmas.List.{append-nil, map-append, map-id}
use Rattle.std.proofs.lemmas.List.Folds.{list_any-append}
use Rattle.rc_base.specs.Words.{different, different_from}
use Rattle.rc_deck.proofs.EachLemmas.{any-map}
use Rattle.rc_check.specs.SecondNames.{firsts_from, OwnedMention}
use Rattle.rc_resolve.specs.Known.{with_firsts, with_words, with_mentions}

module _ {X : Type 0} (name : X → List ℕ) where
  -- those whose names aren't among the seen ones, the first of each name alone
  abbrev firsts : List (List ℕ) → List X → List X
  firsts seen [] = []
  firsts seen (x ∷ xs) = cond (list_any (bytes_eq (name x)) seen) (firsts seen xs) (x ∷ firsts (name x ∷ seen) xs)

  -- it matters only which names were seen
  alike : (seen other : List (List ℕ)) → ((word : List ℕ) → list_any (bytes_eq word) seen ≡ list_any (bytes_eq word) other)
      → (xs : List X) → firsts seen xs ≡ firsts other xs
  alike seen other same [] = refl
  alike seen other same (x ∷ xs) =
      rw (
        same (name x),
        alike seen other same xs,
        alike (name x ∷ seen) (name x ∷ other) (λ word. ap (λ b. bytes_eq word (name x) || b) (same word)) xs,
      ) refl

  swap : (a b : Bool) → (b || (a || false)) ≡ (a || b)
  swap true true = refl
  swap true false = refl
  swap false true = refl
  swap false false = refl

  -- one more that is known
  more : (known : List X) (x : X) (xs : List X) →
      firsts (map name (known ++ x ∷ [])) xs ≡ firsts (name x ∷ map name known) xs
  more known x xs =
      alike (map name (known ++ x ∷ [])) (name x ∷ map name known)
      (λ word. ap (list_any (bytes_eq word)) (map-append name known (x ∷ []))
      ∙ list_any-append (bytes_eq word) (map name known) (name x ∷ [])
      ∙ swap (bytes_eq word (name x)) (list_any (bytes_eq word) (map name known)))
      xs

  -- those that are added stand behind the known ones
  added : (known xs : List X) → with_firsts name known xs ≡ known ++ firsts (map name known) xs
  added known [] = sym (append-nil known)
  added known (x ∷ xs) =
      let among : list_any (bytes_eq (name x)) (map name known) ≡ list_any (λ other. bytes_eq (name x) (name other)) known =
      any-map (bytes_eq (name x)) name known in
      elim (cases_Bool (list_any (λ other. bytes_eq (name x) (name other)) known)) [
        | inl is ↦
            rw (is, among ∙ is) (added known xs)
        | inr new ↦
            rw (new, among ∙ new) (
            added (known ++ x ∷ []) xs ∙ append_assoc known (x ∷ []) (firsts (map name (known ++ x ∷ [])) xs)
            ∙ ap (λ rest. known ++ x ∷ rest) (more known x xs)
            )
      ]

  -- their names are the different ones
  different_names : (seen : List (List ℕ)) (xs : List X) → map name (firsts seen xs) ≡ different_from seen (map name xs)
  different_names seen [] = refl
  different_names seen (x ∷ xs) =
      elim (cases_Bool (list_any (bytes_eq (name x)) seen)) [
        | inl is ↦ rw (is) (different_names seen xs)
        | inr new ↦ rw (new) (ap (λ rest. name x ∷ rest) (different_names (name x ∷ seen) xs))
      ]

  pub names_added : (xs : List X) → map name (with_firsts name [] xs) ≡ different (map name xs)
  names_added xs = ap (map name) (added [] xs) ∙ different_names [] xs

firsts_are : (seen : List (List ℕ)) (mentions : List OwnedMention) →
    firsts (λ mention. mention.name) seen mentions ≡ firsts_from seen mentions
firsts_are seen [] = refl
firsts_are seen (mention ∷ mentions) =
    rw (firsts_are seen mentions, firsts_are (mention.name ∷ seen) mentions) refl

-- words, and mentions
pub words_added : (words : List (List ℕ)) → with_words [] words ≡ different words
words_added words =
    sym (map-id (with_words [] words)) ∙ names_added (λ bytes. bytes) words ∙ ap different (map-id words)

pub mentions_added : (mentions : List OwnedMention) → with_mentions [] mentions ≡ firsts_from [] mentions
mentions_added mentions = added (λ mention. mention.name) [] mentions ∙ firsts_are [] mentions

-- what is seen of those that are added
pub seen_added : {X Y : Type 0} (f : X → Y) (name : Y → List ℕ) (known xs : List X) →
    map f (with_firsts (λ x. name (f x)) known xs) ≡ with_firsts name (map f known) (map f xs)
seen_added f name known [] = refl
seen_added f name known (x ∷ xs) =
    let among : list_any (λ other. bytes_eq (name (f x)) (name other)) (map f known)
    ≡ list_any (λ other. bytes_eq (name (f x)) (name (f other))) known =
    any-map (λ other. bytes_eq (name (f x)) (name other)) f known in
    elim (cases_Bool (list_any (λ other. bytes_eq (name (f x)) (name (f other))) known)) [
      | inl is ↦
          ap (λ all. map f (with_firsts (λ y. name (f y)) all xs)) (cond-true _ _ _ is)
          ∙ seen_added f name known xs
          ∙ sym (ap (λ all. with_firsts name all (map f xs)) (cond-true _ _ _ (among ∙ is)))
      | inr new ↦
          ap (λ all. map f (with_firsts (λ y. name (f y)) all xs)) (cond-false _ _ _ new)
          ∙ seen_added f name (known ++ x ∷ []) xs
          ∙ ap (λ all. with_firsts name all (map f xs)) (map-append f known (x ∷ []))
          ∙ sym (ap (λ all. with_firsts name all (map f xs)) (cond-false _ _ _ (among ∙ new)))
    ]
