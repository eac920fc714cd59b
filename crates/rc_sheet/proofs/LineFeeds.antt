-- A text spells the same with an LF behind it.
use Rattle.std.proofs.Common.{◌≡◌, ℕ, ◌+◌, ◌||◌, ◌==◌, List, [], ◌∷◌, ◌++◌, if◌then◌else◌, length, refl, sym, ap, ap₂, ◌∙◌}
use Rattle.rc_base.specs.Token.{opening, closing, atom, odd, is_blank, is_part, atom_front, LexerState, between, in_atom, in_comment, state_behind, token_with, token_at, tokens_from}
use Rattle.rc_base.specs.Tree.{Tree}
use Rattle.rc_base.specs.Spelled.{next_offset, Spelled}
use Rattle.rc_base.specs.Transcript.{line}

-- the atom that a text begins with
same_front : (text : List ℕ) → atom_front (line text) ≡ atom_front text
same_front [] = refl
same_front (b ∷ text) = ap (λ front. if is_part b then b ∷ front else []) (same_front text)

-- the token that begins with a byte
same_with : (at b : ℕ) (text : List ℕ) → token_with at b (line text) ≡ token_with at b text
same_with at b text =
    ap (λ front. if is_part b then atom at (b ∷ front) ∷ []
    else (if b == 40 then opening at ∷ []
    else (if b == 41 then closing at ∷ [] else (if is_blank b || b == 59 then [] else odd at ∷ []))))
    (same_front text)

same_token : (place : LexerState) (at b : ℕ) (text : List ℕ) →
    token_at place at b (line text) ≡ token_at place at b text
same_token between at b text = same_with at b text
same_token in_atom at b text = ap (λ found. if is_part b then [] else found) (same_with at b text)
same_token in_comment at b text = refl

-- all tokens
same_tokens : (place : LexerState) (at : ℕ) (text : List ℕ) →
    tokens_from place at (line text) ≡ tokens_from place at text
same_tokens between at [] = refl
same_tokens in_atom at [] = refl
same_tokens in_comment at [] = refl
same_tokens place at (b ∷ text) = ap₂ ◌++◌ (same_token place at b text) (same_tokens (state_behind place b) (at + 1) text)

pub with_feed : (text : List ℕ) (want : ℕ) (forms : List Tree) (rest : ℕ) → Spelled text want forms rest
    → (rest : ℕ) × Spelled (line text) want forms rest
with_feed text want forms rest spelled = (
  next_offset spelled.later (length (line text)),
  record {
    later = spelled.later;
    spells = same_tokens between 0 text ∙ spelled.spells;
    sound = spelled.sound;
    enough = spelled.enough;
    behind = refl;
  },
)

pub without_feed : (text : List ℕ) (want : ℕ) (forms : List Tree) (rest : ℕ) → Spelled (line text) want forms rest
    → (rest : ℕ) × Spelled text want forms rest
without_feed text want forms rest spelled = (
  next_offset spelled.later (length text),
  record {
    later = spelled.later;
    spells = sym (same_tokens between 0 text) ∙ spelled.spells;
    sound = spelled.sound;
    enough = spelled.enough;
    behind = refl;
  },
)
