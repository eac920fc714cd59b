-- What reading tokens from left to right gives: the wanted lists, or the first fault.
use Rattle.std.specs.Prelude.{ℕ, ◌+◌, nat_lt, nat_le, List, [], ◌∷◌, ◌++◌, length, Result, Ok, Err, if◌then◌else◌}
use Rattle.rc_base.specs.Token.{Token, opening, closing, atom, odd}
use Rattle.rc_base.specs.Tree.{Tree, word, list}
use Rattle.rc_form.specs.Form.{packed}
use Rattle.rc_form.specs.declared.fault.FormKind.{FormKind}
use Rattle.rc_form.specs.declared.fault.FormKind.TheVariants.{BadByte, Stray, TooDeep, AtomLong, Unclosed}
use Rattle.rc_form.specs.declared.fault.FormFault.{FormFault}

-- a list that is still open: where its `(` stands, and its parts so far
pub record Pending : Type 0 where
  pub from : ℕ
  pub parts : List Tree

-- the list with one more part
abbrev pub with_part : Pending → Tree → Pending
with_part pending tree = record { from = pending.from; parts = pending.parts ++ tree ∷ [] }

-- the list that a `)` at this offset closes
abbrev pub closed : Pending → ℕ → Tree
closed pending at = list (packed pending.parts) pending.from (at + 1)

-- the lists that are read, and the tokens behind them; or the first fault
abbrev pub Reading : Type 0
Reading = Result (List Tree × List Token) FormFault

-- reading stops at this token
abbrev pub fault : FormKind → ℕ → Reading
fault kind at = Err (record { kind = kind; at = at })

-- Reads on, with the lists that are complete (`done`) and those that are open, the innermost first. Outside all lists
-- it stops once so many are complete as are wanted.
abbrev pub read : ℕ → List Tree → List Pending → List Token → Reading
read want done [] [] = Ok (done, [])
read want done [] (opening at ∷ tokens) =
    if nat_lt (length done) want then read want done (record { from = at; parts = [] } ∷ []) tokens
    else Ok (done, opening at ∷ tokens)
read want done [] (closing at ∷ tokens) =
    if nat_lt (length done) want then fault Stray at else Ok (done, closing at ∷ tokens)
read want done [] (atom at bytes ∷ tokens) =
    if nat_lt (length done) want then fault Stray at else Ok (done, atom at bytes ∷ tokens)
read want done [] (odd at ∷ tokens) =
    if nat_lt (length done) want then fault BadByte at else Ok (done, odd at ∷ tokens)
read want done (inner ∷ outer) [] = fault Unclosed inner.from
read want done (inner ∷ outer) (opening at ∷ tokens) =
    if nat_lt (length outer) 63 then read want done (record { from = at; parts = [] } ∷ inner ∷ outer) tokens
    else fault TooDeep at
read want done (inner ∷ []) (closing at ∷ tokens) = read want (done ++ closed inner at ∷ []) [] tokens
read want done (inner ∷ next ∷ outer) (closing at ∷ tokens) =
    read want done (with_part next (closed inner at) ∷ outer) tokens
read want done (inner ∷ outer) (atom at bytes ∷ tokens) =
    if nat_le (length bytes) 64 then read want done (with_part inner (word bytes at (at + length bytes)) ∷ outer) tokens
    else fault AtomLong at
read want done (inner ∷ outer) (odd at ∷ tokens) = fault BadByte at

-- Reads on, with one more form: in the innermost open list, or where none is open among the complete lists.
abbrev pub read_with : ℕ → List Tree → List Pending → Tree → List Token → Reading
read_with want done [] tree tokens = read want (done ++ tree ∷ []) [] tokens
read_with want done (inner ∷ outer) tree tokens = read want done (with_part inner tree ∷ outer) tokens
