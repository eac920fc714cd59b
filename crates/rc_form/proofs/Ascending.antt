-- The tokens of a text stand in the order of their offsets.
use Rattle.std.proofs.Common.{ℕ, ◌+◌, ◌≤◌, Bool, true, false, cond, eqb, ◌||◌, List, [], ◌∷◌, ◌++◌, length, arith}
use Rattle.rc_base.specs.Token.{Token, opening, closing, atom, odd, offset_of, LexerState, between, in_atom, in_comment, is_part, is_blank, atom_front, token_with, token_at, tokens_from, state_behind}

-- the offsets rise from the first number on, and stay below the second
abbrev pub Ascends : ℕ → ℕ → List Token → Type 0
Ascends low high [] = low ≤ high
Ascends low high (token ∷ tokens) = (low ≤ offset_of token) × Ascends (offset_of token + 1) high tokens

-- what isn't below an offset isn't below a lower one
pub Ascends-lower : (low from high : ℕ) (tokens : List Token) → low ≤ from → Ascends from high tokens → Ascends low high tokens
Ascends-lower low from high [] below ascends = omega arith
Ascends-lower low from high (token ∷ tokens) below ascends = (let above = ascends.0 in omega arith, ascends.1)

-- there is no room but between the two numbers
pub Ascends-room : (low high : ℕ) (tokens : List Token) → Ascends low high tokens → low ≤ high
Ascends-room low high [] ascends = ascends
Ascends-room low high (token ∷ tokens) ascends =
    let above = ascends.0 in
    let behind = Ascends-room (offset_of token + 1) high tokens ascends.1 in
    omega arith

-- whichever tokens a test chooses
Ascends-cond : (low high : ℕ) (b : Bool) (xs ys tokens : List Token) → Ascends low high (xs ++ tokens)
    → Ascends low high (ys ++ tokens) → Ascends low high (cond b xs ys ++ tokens)
Ascends-cond low high true xs ys tokens first second = first
Ascends-cond low high false xs ys tokens first second = second

-- the token of a byte, and those behind it
Ascends-token_with : (at high b : ℕ) (bytes : List ℕ) (tokens : List Token) → Ascends (at + 1) high tokens
    → Ascends at high (token_with at b bytes ++ tokens)
Ascends-token_with at high b bytes tokens behind =
    let here : at ≤ at = omega arith in
    let none : Ascends at high tokens = Ascends-lower at (at + 1) high tokens (omega arith) behind in
    Ascends-cond at high (is_part b) (atom at (b ∷ atom_front bytes) ∷ []) _ tokens (here, behind)
    (Ascends-cond at high (eqb b 40) (opening at ∷ []) _ tokens (here, behind)
    (Ascends-cond at high (eqb b 41) (closing at ∷ []) _ tokens (here, behind)
    (Ascends-cond at high (is_blank b || eqb b 59) [] (odd at ∷ []) tokens none (here, behind))))

-- the same in any place
Ascends-token_at : (place : LexerState) (at high b : ℕ) (bytes : List ℕ) (tokens : List Token) →
    Ascends (at + 1) high tokens
    → Ascends at high (token_at place at b bytes ++ tokens)
Ascends-token_at in_comment at high b bytes tokens behind = Ascends-lower at (at + 1) high tokens (omega arith) behind
Ascends-token_at between at high b bytes tokens behind = Ascends-token_with at high b bytes tokens behind
Ascends-token_at in_atom at high b bytes tokens behind =
    Ascends-cond at high (is_part b) [] (token_with at b bytes) tokens (Ascends-lower at (at + 1) high tokens (omega arith) behind) (Ascends-token_with at high b bytes tokens behind)

-- tokens begin where their bytes stand
pub Ascends-tokens_from : (place : LexerState) (at high : ℕ) (bytes : List ℕ) → at + length bytes ≤ high
    → Ascends at high (tokens_from place at bytes)
Ascends-tokens_from place at high [] room = omega arith
Ascends-tokens_from place at high (b ∷ bytes) room =
    Ascends-token_at place at high b bytes (tokens_from (state_behind place b) (at + 1) bytes) (Ascends-tokens_from (state_behind place b) (at + 1) high bytes (omega arith))
