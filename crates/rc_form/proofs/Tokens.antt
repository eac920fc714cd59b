-- Which token begins at a byte of a text, and which tokens follow it.
use Rattle.std.proofs.Common.{◌≡◌, ℕ, ◌+◌, ◌-◌, ◌<◌, ◌≢◌, Bool, true, false, cond, IsTrue, List, [], ◌∷◌, length, take, drop, slice_index, refl, ap, ◌∙◌, arith, rules, ◌⊎◌, inl, inr, eqb, not, ◌||◌, suc}
use Rattle.std.specs.List.{list_all}
use Rattle.std.proofs.lemmas.List.{drop_more}
use Rattle.std.proofs.lemmas.List.{drop-drop}
use Rattle.std.proofs.lemmas.Bool.{cases_Bool, ne_eqb, or_parts}
use Rattle.rc_base.specs.Token.{opening, closing, atom, odd, is_part, atom_front, tokens_from, between, in_atom, is_blank}
use Rattle.rc_form.specs.Lexer.{tokens_at, begins_token}

-- the front of parts is a front of the bytes
take-length-atom_front : (bytes : List ℕ) → take (length (atom_front bytes)) bytes ≡ atom_front bytes
take-length-atom_front [] = refl
take-length-atom_front (b ∷ bytes) =
    elim (is_part b) as (λ p. take (length (cond p (b ∷ atom_front bytes) [])) (b ∷ bytes) ≡ cond p (b ∷ atom_front bytes) []) [
      | true ↦ ap (λ rest. b ∷ rest) (take-length-atom_front bytes)
      | false ↦ refl
    ]

-- the bytes up to where the front ends are the front
pub taken_front : (bytes : List ℕ) (from to : ℕ) → to ≡ from + length (atom_front bytes)
    → take (to - from) bytes ≡ atom_front bytes
taken_front bytes from to reach =
    let count : to - from ≡ length (atom_front bytes) = omega arith in
    ap (λ n. take n bytes) count ∙ take-length-atom_front bytes

-- each byte of the front is a part
pub parts-atom_front : (bytes : List ℕ) → IsTrue (list_all is_part (atom_front bytes))
parts-atom_front [] = search rules
parts-atom_front (b ∷ bytes) = by_class (parts-atom_front bytes) (cases_Bool (is_part b))
  where
    by_class : IsTrue (list_all is_part (atom_front bytes)) → (is_part b ≡ true) ⊎ (is_part b ≡ false)
        → IsTrue (list_all is_part (atom_front (b ∷ bytes)))
    by_class rest (inl part) = rw (part, part) rest
    by_class rest (inr no_part) = rw no_part (search rules)

-- the tokens at a byte that stands behind no atom and in no comment
tokens_at-more : (text : List ℕ) (at byte : ℕ) → at < length text → slice_index text at ≡ byte
    → tokens_at text at ≡ tokens_from between at (byte ∷ drop (at + 1) text)
tokens_at-more text at byte inside is =
    ap (tokens_from between at) (drop_more text at 0 inside ∙ ap (λ b. b ∷ drop (at + 1) text) is)

-- a `(` is a token
pub tokens_at-opening : (text : List ℕ) (at : ℕ) → at < length text → slice_index text at ≡ 40
    → tokens_at text at ≡ opening at ∷ tokens_at text (at + 1)
tokens_at-opening text at inside is = tokens_at-more text at 40 inside is

-- a `)` is a token
pub tokens_at-closing : (text : List ℕ) (at : ℕ) → at < length text → slice_index text at ≡ 41
    → tokens_at text at ≡ closing at ∷ tokens_at text (at + 1)
tokens_at-closing text at inside is = tokens_at-more text at 41 inside is

-- what isn't true is false
by_not : (b : Bool) → IsTrue (not b) → b ≡ false
by_not true holds = search rules
by_not false holds = refl

-- the bytes of an atom behind its first give no tokens of their own
pub tokens_from-in_atom : (at : ℕ) (bytes : List ℕ)
    → tokens_from in_atom at bytes ≡ tokens_from between (at + length (atom_front bytes)) (drop (length (atom_front bytes)) bytes)
tokens_from-in_atom at [] = refl
tokens_from-in_atom at (b ∷ bytes) = by_class (tokens_from-in_atom (at + 1) bytes) (cases_Bool (is_part b))
  where
    by_class : tokens_from in_atom (at + 1) bytes ≡ tokens_from between (at + 1 + length (atom_front bytes)) (drop (length (atom_front bytes)) bytes)
        → (is_part b ≡ true) ⊎ (is_part b ≡ false)
        → tokens_from in_atom at (b ∷ bytes) ≡ tokens_from between (at + length (atom_front (b ∷ bytes))) (drop (length (atom_front (b ∷ bytes))) (b ∷ bytes))
    by_class rest (inl part) =
        let end : at + suc (length (atom_front bytes)) ≡ at + 1 + length (atom_front bytes) = omega arith in
        rw (part, end) rest
    by_class rest (inr no_part) =
        let nothing_more : at + 0 ≡ at = omega arith in
        rw (no_part, nothing_more, no_part)

-- the bytes from a part on are an atom
pub tokens_at-atom : (text : List ℕ) (at : ℕ) → at < length text → IsTrue (is_part (slice_index text at))
    → tokens_at text at ≡ atom at (atom_front (drop at text)) ∷ tokens_at text (at + length (atom_front (drop at text)))
tokens_at-atom text at inside part =
    let byte = slice_index text at in
    let rest = drop (at + 1) text in
    let whole : drop at text ≡ byte ∷ rest = drop_more text at 0 inside in
    let front : atom_front (drop at text) ≡ byte ∷ atom_front rest = rw (whole, part) in
    let first : tokens_at text at ≡ atom at (byte ∷ atom_front rest) ∷ tokens_from in_atom (at + 1) rest = rw (whole, part) in
    let behind : tokens_from in_atom (at + 1) rest ≡ tokens_at text (at + 1 + length (atom_front rest)) =
    tokens_from-in_atom (at + 1) rest ∙ ap (tokens_from between (at + 1 + length (atom_front rest))) (drop-drop (length (atom_front rest)) (at + 1) text) in
    let end : at + suc (length (atom_front rest)) ≡ at + 1 + length (atom_front rest) = omega arith in
    rw (front, end) (first ∙ ap (λ tokens. atom at (byte ∷ atom_front rest) ∷ tokens) behind)

-- any other byte that begins a token may stand in comments alone
pub tokens_at-odd : (text : List ℕ) (at : ℕ) → at < length text → IsTrue (begins_token (slice_index text at))
    → is_part (slice_index text at) ≡ false → slice_index text at ≢ 40 → slice_index text at ≢ 41
    → tokens_at text at ≡ odd at ∷ tokens_at text (at + 1)
tokens_at-odd text at inside begins no_part no_opening no_closing =
    let byte = slice_index text at in
    let rest = drop (at + 1) text in
    let whole : drop at text ≡ byte ∷ rest = drop_more text at 0 inside in
    let unlike_opening : eqb byte 40 ≡ false = ne_eqb byte 40 no_opening in
    let unlike_closing : eqb byte 41 ≡ false = ne_eqb byte 41 no_closing in
    let no_gap : (is_blank byte || eqb byte 59) ≡ false = by_not (is_blank byte || eqb byte 59) begins in
    let no_comment : eqb byte 59 ≡ false = (or_parts (is_blank byte) (eqb byte 59) no_gap).1 in
    rw (whole, no_part, unlike_opening, unlike_closing, no_gap, no_comment)
