-- The first fault of a text, said of the whole list of its tokens.
use Rattle.std.specs.Prelude.{◌≡◌, ℕ, ◌+◌, ◌-◌, ◌<◌, ◌≤◌, ◌⊎◌, ◌==◌, List, [], ◌∷◌, ◌++◌, length, if◌then◌else◌}
use Rattle.rc_base.specs.Token.{Token, opening, closing, atom, odd, offset_of, tokens}
use Rattle.rc_base.specs.Tree.{Tree}
use Rattle.rc_base.specs.Spelled.{Spelled}
use Rattle.rc_form.specs.declared.fault.FormKind.{FormKind}
use Rattle.rc_form.specs.declared.fault.FormKind.TheVariants.{BadByte, Stray, TooDeep, AtomLong, Unclosed}
use Rattle.rc_form.specs.declared.fault.FormFault.{FormFault}
use Rattle.rc_form.specs.declared.fault.FormFail.{FormFail}
use Rattle.rc_form.specs.declared.fault.FormFail.TheVariants.{Fault, Memory}

-- how many lists are open behind a token, where `deep` are open before it
abbrev pub open_behind : ℕ → Token → ℕ
open_behind deep (opening at) = deep + 1
open_behind deep (closing at) = deep - 1
open_behind deep (atom at word) = deep
open_behind deep (odd at) = deep

-- how many top-level lists a token completes: one where it closes the only open list
abbrev pub completed_by : ℕ → Token → ℕ
completed_by deep (opening at) = 0
completed_by deep (closing at) = if deep == 1 then 1 else 0
completed_by deep (atom at word) = 0
completed_by deep (odd at) = 0

-- how many lists are open behind these tokens, where `deep` are open before them
abbrev pub depth_from : ℕ → List Token → ℕ
depth_from deep [] = deep
depth_from deep (token ∷ tokens) = depth_from (open_behind deep token) tokens

-- how many top-level lists these tokens complete, where `deep` lists are open before them
abbrev pub lists_from : ℕ → List Token → ℕ
lists_from deep [] = 0
lists_from deep (token ∷ tokens) = completed_by deep token + lists_from (open_behind deep token) tokens

-- how many lists are open behind the tokens that a text begins with
abbrev pub depth : List Token → ℕ
depth before = depth_from 0 before

-- how many top-level lists are complete behind them
abbrev pub lists : List Token → ℕ
lists before = lists_from 0 before

-- The token that stands behind these is faulty: a byte that may stand in comments alone, a `)` or an atom outside all
-- lists, a `(` where 64 lists are open, or inside a list an atom of more than 64 bytes.
abbrev pub IsFaulty : List Token → Token → FormKind → Type 0
IsFaulty before (odd at) kind = kind ≡ BadByte
IsFaulty before (closing at) kind = (kind ≡ Stray) × (depth before ≡ 0)
IsFaulty before (opening at) kind = (kind ≡ TooDeep) × (64 ≤ depth before)
IsFaulty before (atom at word) kind =
    ((kind ≡ Stray) × (depth before ≡ 0)) ⊎ ((kind ≡ AtomLong) × (0 < depth before) × (64 < length word))

-- The token behind `before` is faulty and begins at this offset, and there a wanted list is still missing.
pub record IsFaultyBehind (want : ℕ) (all before : List Token) (kind : FormKind) (at : ℕ) : Type 0 where
  pub token : Token
  pub behind : List Token
  pub cut : all ≡ before ++ token ∷ behind
  pub wanted : lists before < want
  pub faulty : IsFaulty before token kind
  pub begins : at ≡ offset_of token

-- none of the first `count` tokens is faulty
abbrev pub NoneFaultyBelow : ℕ → List Token → ℕ → Type 0
NoneFaultyBelow want all count =
    (before : List Token) (kind : FormKind) (at : ℕ) → length before < count →
    IsFaultyBehind want all before kind at → ⊥

-- the first faulty token has this kind and this offset
pub record IsFirstFaulty (want : ℕ) (all : List Token) (kind : FormKind) (at : ℕ) : Type 0 where
  pub before : List Token
  pub here : IsFaultyBehind want all before kind at
  pub first : NoneFaultyBelow want all (length before)

-- more than `low` lists are open at each place from here to the end of the tokens, where `deep` are open before them
abbrev pub StayOpen : ℕ → ℕ → List Token → Type 0
StayOpen low deep [] = low < deep
StayOpen low deep (token ∷ tokens) = (low < deep) × StayOpen low (open_behind deep token) tokens

-- The last `(` that is still open begins at this offset: its list stays open to the end, and no list behind it does.
pub record IsLastOpen (all : List Token) (at : ℕ) : Type 0 where
  pub before : List Token
  pub behind : List Token
  pub cut : all ≡ before ++ opening at ∷ behind
  pub stays : StayOpen (depth before) (depth before + 1) behind
  pub last : depth all ≡ depth before + 1

-- no token is faulty, a wanted list is missing at the end, and the last `(` that is still open begins at this offset
pub record IsUnclosed (want : ℕ) (all : List Token) (at : ℕ) : Type 0 where
  pub none : NoneFaultyBelow want all (length all)
  pub missing : lists all < want
  pub last_open : IsLastOpen all at

-- the first fault of these tokens, where so many lists are wanted
abbrev pub IsFirstFault : ℕ → List Token → FormKind → ℕ → Type 0
IsFirstFault want all kind at = IsFirstFaulty want all kind at ⊎ ((kind ≡ Unclosed) × IsUnclosed want all at)

-- the first fault of a text, where so many lists are wanted
abbrev pub IsFormFault : List ℕ → ℕ → FormKind → ℕ → Type 0
IsFormFault text want kind at = IsFirstFault want (tokens text) kind at

-- the text spells the wanted lists, or it has a first fault
abbrev pub IsSpelledOrFaulty : List ℕ → ℕ → Type 0
IsSpelledOrFaulty text want =
    ((forms : List Tree) × (rest : ℕ) × Spelled text want forms rest)
    ⊎ ((kind : FormKind) × (at : ℕ) × IsFormFault text want kind at)

-- what holds of the fault; nothing is said where memory ran out
abbrev pub IfFormFault : FormFail → (FormFault → Type 0) → Type 0
IfFormFault Memory P = Unit {0}
IfFormFault (Fault fault) P = P fault
