-- Names that are numbered one by one are numbered by their first mention.
use Rattle.std.proofs.Common.{◌≡◌, ◌≢◌, ℕ, ◌+◌, ◌≤◌, ◌<◌, true, false, List, [], ◌∷◌, inl, inr, ⊎_elim, length, get_or, drop, map, bytes_eq, nat_lt, sym, ap, ◌∙◌, subst, arith}
use Rattle.std.specs.List.{list_any, AllPairs}
use Rattle.std.proofs.lemmas.Bool.{cond-true, cond-false, lt-ltb, le-ltb, or_left, or_right, or_from, false_from_ne_true, cases_lt}
use Rattle.std.proofs.lemmas.List.{at_drop_more, drop_all}
use Rattle.std.proofs.lemmas.Slice.Eq.{bytes_eq-Decides}
use Rattle.rc_base.specs.Words.{different, different_from}
use Rattle.rc_sheet_spec.specs.Numbering.{Extends}

-- there are no fewer names behind mentions than before them
pub Extends-le : (before : ℕ) (ns : List ℕ) (after : ℕ) → Extends before ns after → before ≤ after
Extends-le before [] after is = omega (arith, is)
Extends-le before (n ∷ ns) after (inl old) = Extends-le before ns after old.1
Extends-le before (n ∷ ns) after (inr new) = let le = Extends-le (before + 1) ns after new.1 in omega arith

module _ (words : List (List ℕ)) (apart : AllPairs ◌≢◌ words) where
  abbrev word_at : ℕ → List ℕ
  word_at n = get_or words n []

  -- among those seen are the words of the numbers below n
  abbrev AreSeen : ℕ → List (List ℕ) → Type 0
  AreSeen n seen = (k : ℕ) → k < length words → list_any (bytes_eq (word_at k)) seen ≡ nat_lt k n

  same : (k n : ℕ) → k ≡ n → bytes_eq (word_at k) (word_at n) ≡ true
  same k n is = (bytes_eq-Decides (word_at k) (word_at n)).1 (ap word_at is)

  other : (k n : ℕ) → n < k → k < length words → bytes_eq (word_at k) (word_at n) ≡ false
  other k n lt within =
      false_from_ne_true _ (λ e. apart n k [] lt within (sym ((bytes_eq-Decides (word_at k) (word_at n)).0 e)))

  -- and one more
  AreSeen-next : (n : ℕ) (seen : List (List ℕ)) → AreSeen n seen → AreSeen (n + 1) (word_at n ∷ seen)
  AreSeen-next n seen are k within =
      ⊎_elim
      (λ (lt : k < n). or_right _ _ (are k within ∙ lt-ltb k n lt) ∙ sym (lt-ltb k (n + 1) (omega arith)))
      (λ (le : n ≤ k). ⊎_elim
      (λ (lt : n < k).
      or_from _ _ (other k n lt within) (are k within ∙ le-ltb k n le) ∙ sym (le-ltb k (n + 1) (omega arith)))
      (λ (ge : k ≤ n). or_left _ _ (same k n (omega arith)) ∙ sym (lt-ltb k (n + 1) (omega arith)))
      (cases_lt n k))
      (cases_lt k n)

  -- the words that are left
  different_are : (n : ℕ) (seen : List (List ℕ)) (ns : List ℕ) → AreSeen n seen → Extends n ns (length words) →
      different_from seen (map word_at ns) ≡ drop n words
  different_are n seen [] are is = sym (drop_all n words (omega (arith, is)))
  different_are n seen (m ∷ ns) are (inl old) =
      let le = Extends-le n ns (length words) old.1 in
      cond-true _ _ _ (are m (omega (arith, old.0)) ∙ lt-ltb m n old.0) ∙ different_are n seen ns are old.1
  different_are n seen (m ∷ ns) are (inr new) =
      let le = Extends-le (n + 1) ns (length words) new.1 in
      let next : AreSeen (n + 1) (word_at m ∷ seen) =
      subst (λ k. AreSeen (n + 1) (word_at k ∷ seen)) (sym new.0) (AreSeen-next n seen are) in
      cond-false _ _ _ (are m (omega (arith, new.0)) ∙ le-ltb m n (omega (arith, new.0)))
      ∙ ap (λ rest. word_at m ∷ rest) (different_are (n + 1) (word_at m ∷ seen) ns next new.1)
      ∙ ap (λ k. word_at k ∷ drop (n + 1) words) new.0
      ∙ sym (at_drop_more (λ rest. rest) words n [] (omega arith))

  pub different_words : (ns : List ℕ) → Extends 0 ns (length words) → words ≡ different (map word_at ns)
  different_words ns is = sym (different_are 0 [] ns (λ k within. sym (le-ltb k 0 (omega arith))) is)
