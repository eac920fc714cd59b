-- The forms that a whole text spells it spells with more behind it too, if an LF is between; and what is behind begins there.
use Rattle.std.proofs.Common.{◌≡◌, ℕ, suc, ◌+◌, ◌<◌, Bool, true, false, ◌||◌, ◌==◌, if◌then◌else◌, List, [], ◌∷◌, ◌++◌, inl, flat_map, length, drop, refl, sym, ap, ap₂, ◌∙◌, subst, append_assoc, append-nil, arith}
use Rattle.std.specs.List.{AllByRecursion}
use Rattle.std.proofs.lemmas.Bool.{cond-true}
use Rattle.rc_base.specs.Token.{Token, opening, closing, atom, odd, offset_of, is_blank, is_part, atom_front, LexerState, between, in_atom, in_comment, state_behind, token_with, token_at, tokens_from, tokens}
use Rattle.rc_base.specs.Tree.{Tree, spelling}
use Rattle.rc_base.specs.Spelled.{next_offset, Spelled}
use Rattle.rc_deck.proofs.EachLemmas.{append_each}

-- ---- tokens before an LF and behind it

same_front : (text more : List ℕ) → atom_front (text ++ 10 ∷ more) ≡ atom_front text
same_front [] more = refl
same_front (b ∷ text) more = ap (λ front. if is_part b then b ∷ front else []) (same_front text more)

same_with : (at b : ℕ) (text more : List ℕ) → token_with at b (text ++ 10 ∷ more) ≡ token_with at b text
same_with at b text more =
    ap (λ front. if is_part b then atom at (b ∷ front) ∷ []
    else (if b == 40 then opening at ∷ []
    else (if b == 41 then closing at ∷ [] else (if is_blank b || b == 59 then [] else odd at ∷ []))))
    (same_front text more)

same_token : (place : LexerState) (at b : ℕ) (text more : List ℕ) → token_at place at b (text ++ 10 ∷ more) ≡ token_at place at b text
same_token between at b text more = same_with at b text more
same_token in_atom at b text more = ap (λ found. if is_part b then [] else found) (same_with at b text more)
same_token in_comment at b text more = refl

-- whatever a text ends with, behind the LF tokens begin anew
tokens_behind : (place : LexerState) (at : ℕ) (text more : List ℕ) →
    tokens_from place at (text ++ 10 ∷ more) ≡ tokens_from place at text ++ tokens_from between (at + length text + 1) more
tokens_behind between at [] more = let same : at + 1 ≡ at + 0 + 1 = omega arith in ap (λ k. tokens_from between k more) same
tokens_behind in_atom at [] more = let same : at + 1 ≡ at + 0 + 1 = omega arith in ap (λ k. tokens_from between k more) same
tokens_behind in_comment at [] more = let same : at + 1 ≡ at + 0 + 1 = omega arith in ap (λ k. tokens_from between k more) same
tokens_behind place at (b ∷ text) more =
    let next = state_behind place b in
    let same : at + 1 + length text + 1 ≡ at + length (b ∷ text) + 1 = omega arith in
    ap₂ ◌++◌ (same_token place at b text more)
    (tokens_behind next (at + 1) text more ∙ ap (λ k. tokens_from next (at + 1) text ++ tokens_from between k more) same)
    ∙ sym (append_assoc (token_at place at b text) (tokens_from next (at + 1) text) (tokens_from between (at + length (b ∷ text) + 1) more))

-- ---- each token begins within its text

abbrev IsBefore : ℕ → Token → Type 0
IsBefore end token = offset_of token < end

module _ (at end : ℕ) (less : at < end) where
  by_tests : (part open' close' nothing : Bool) (word : List ℕ) →
      AllByRecursion (IsBefore end)
      (if part then atom at word ∷ []
      else (if open' then opening at ∷ [] else (if close' then closing at ∷ [] else (if nothing then [] else odd at ∷ []))))
  by_tests true open' close' nothing word = (less, tt)
  by_tests false true close' nothing word = (less, tt)
  by_tests false false true nothing word = (less, tt)
  by_tests false false false true word = tt
  by_tests false false false false word = (less, tt)

  unless_part : (part : Bool) (found : List Token) → AllByRecursion (IsBefore end) found → AllByRecursion (IsBefore end) (if part then [] else found)
  unless_part true found all = tt
  unless_part false found all = all

  token_before : (place : LexerState) (b : ℕ) (bytes : List ℕ) →
      AllByRecursion (IsBefore end) (token_at place at b bytes)
  token_before in_comment b bytes = tt
  token_before between b bytes = by_tests (is_part b) (b == 40) (b == 41) (is_blank b || b == 59) (b ∷ atom_front bytes)
  token_before in_atom b bytes =
      unless_part (is_part b) (token_with at b bytes)
      (by_tests (is_part b) (b == 40) (b == 41) (is_blank b || b == 59) (b ∷ atom_front bytes))

tokens_before : (place : LexerState) (at end : ℕ) (text : List ℕ) → at + length text ≡ end → AllByRecursion (IsBefore end) (tokens_from place at text)
tokens_before place at end [] is = tt
tokens_before place at end (b ∷ text) is =
    append_each (IsBefore end) (token_at place at b text) (tokens_from (state_behind place b) (at + 1) text)
    (token_before at end (omega (arith, is)) place b text)
    (tokens_before (state_behind place b) (at + 1) end text (omega (arith, is)))

back_each : {A : Type 0} (P : A → Type 0) (xs ys : List A) → AllByRecursion P (xs ++ ys) → AllByRecursion P ys
back_each P [] ys all = all
back_each P (x ∷ xs) ys all = back_each P xs ys all.1

-- where the rest begins at the end, no token is left
none_left : (later : List Token) (end : ℕ) → AllByRecursion (IsBefore end) later → end ≡ next_offset later end → later ≡ []
none_left [] end all is = refl
none_left (token ∷ later) end all is = let less = all.0 in absurd (omega (arith, less, is))

-- ---- what stands behind

first_offset : (at end b : ℕ) (bytes : List ℕ) → is_part b ≡ true → at ≡ next_offset (tokens_from between at (b ∷ bytes)) end
first_offset at end b bytes is =
    ap (λ found. next_offset (found ++ tokens_from (state_behind between b) (at + 1) bytes) end) (sym (cond-true (is_part b) _ _ is))

pub spelled_behind : (source : List ℕ) (want : ℕ) (forms : List Tree) (b : ℕ) (bytes : List ℕ) → Spelled source want forms (length source) →
    length forms ≡ want → is_part b ≡ true → Spelled (source ++ 10 ∷ b ∷ bytes) want forms (length source + 1)
spelled_behind source want forms b bytes spelled count is =
    let at = length source + 1 in
    let behind = tokens_from between at (b ∷ bytes) in
    let all =
    back_each (IsBefore (length source)) (flat_map spelling forms) spelled.later
    (subst (AllByRecursion (IsBefore (length source))) spelled.spells (tokens_before between 0 (length source) source (omega arith))) in
    let whole : tokens source ≡ flat_map spelling forms =
    spelled.spells ∙ ap (λ later. flat_map spelling forms ++ later) (none_left spelled.later (length source) all spelled.behind)
    ∙ append-nil (flat_map spelling forms) in
    let same : 0 + length source + 1 ≡ at = omega arith in
    record {
      later = behind;
      spells = tokens_behind between 0 source (b ∷ bytes) ∙ ap (λ k. tokens source ++ tokens_from between k (b ∷ bytes)) same
          ∙ ap (λ front. front ++ behind) whole;
      sound = spelled.sound;
      enough = inl count;
      behind = first_offset at (length (source ++ 10 ∷ b ∷ bytes)) b bytes is;
    }

pub dropped_behind : (source bytes : List ℕ) → drop (length source + 1) (source ++ 10 ∷ bytes) ≡ bytes
dropped_behind [] bytes = refl
dropped_behind (b ∷ source) bytes =
    let same : length (b ∷ source) + 1 ≡ suc (length source + 1) = omega arith in
    ap (λ k. drop k (b ∷ (source ++ 10 ∷ bytes))) same ∙ dropped_behind source bytes
