-- What a text is cut into. White space and comments give no token.
use Rattle.std.specs.Prelude.{ℕ, ◌+◌, Bool, not, ◌&&◌, ◌||◌, ◌==◌, nat_le, List, [], ◌∷◌, ◌++◌, if◌then◌else◌}

-- A token, with the offset of its first byte. An `odd` byte may stand in comments alone.
pub data Token : Type 0 where
  opening : (offset : ℕ) → Token
  closing : (offset : ℕ) → Token
  atom : (offset : ℕ) (word : List ℕ) → Token
  odd : (offset : ℕ) → Token

-- where a token begins
abbrev pub offset_of : Token → ℕ
offset_of (opening offset) = offset
offset_of (closing offset) = offset
offset_of (atom offset word) = offset
offset_of (odd offset) = offset

-- white space: tab, LF, CR, space and comma
abbrev pub is_blank : ℕ → Bool
is_blank b = b == 9 || b == 10 || b == 13 || b == 32 || b == 44

-- may stand in an atom: a visible byte that is none of `(`, `)`, `;` and comma
abbrev pub is_part : ℕ → Bool
is_part b = nat_le 33 b && nat_le b 126 && not (b == 40 || b == 41 || b == 59 || b == 44)

-- the atom that bytes begin with: their longest front of parts
abbrev pub atom_front : List ℕ → List ℕ
atom_front [] = []
atom_front (b ∷ bytes) = if is_part b then b ∷ atom_front bytes else []

-- where a byte stands: between tokens, in an atom behind its first byte, or in a comment
pub data LexerState : Type 0 where
  between : LexerState
  in_atom : LexerState
  in_comment : LexerState

-- where the byte behind b stands: a comment opens with `;` and runs to the next LF
abbrev pub state_behind : LexerState → ℕ → LexerState
state_behind in_comment b = if b == 10 then between else in_comment
state_behind between b = if is_part b then in_atom else (if b == 59 then in_comment else between)
state_behind in_atom b = if is_part b then in_atom else (if b == 59 then in_comment else between)

-- the token that begins with b, where b stands behind no atom and in no comment
abbrev pub token_with : ℕ → ℕ → List ℕ → List Token
token_with offset b bytes =
    if is_part b then atom offset (b ∷ atom_front bytes) ∷ []
    else (if b == 40 then opening offset ∷ []
    else (if b == 41 then closing offset ∷ []
    else (if is_blank b || b == 59 then [] else odd offset ∷ [])))

-- the token that begins with b, if one does
abbrev pub token_at : LexerState → ℕ → ℕ → List ℕ → List Token
token_at in_comment offset b bytes = []
token_at between offset b bytes = token_with offset b bytes
token_at in_atom offset b bytes = if is_part b then [] else token_with offset b bytes

-- the tokens of bytes that begin at this offset and in this place
abbrev pub tokens_from : LexerState → ℕ → List ℕ → List Token
tokens_from place offset [] = []
tokens_from place offset (b ∷ bytes) =
    token_at place offset b bytes ++ tokens_from (state_behind place b) (offset + 1) bytes

-- the tokens of a text
abbrev pub tokens : List ℕ → List Token
tokens text = tokens_from between 0 text
