-- What reading gives at a token that closes a list or is a part of one.
use Rattle.std.proofs.Common.{◌≡◌, ℕ, ◌+◌, ◌<◌, ◌≤◌, List, [], ◌∷◌, length, refl, arith, leb, ltb, true, false, IsTrue, nat_lt, ◌||◌}
use Rattle.std.proofs.lemmas.Bool.{le-leb, lt-leb, lt-ltb, le-ltb}
use Rattle.rc_base.specs.Token.{Token, opening, closing, atom, odd}
use Rattle.rc_base.specs.Tree.{Tree, word}
use Rattle.rc_form.specs.Read.{Pending, read, read_with, closed, fault}
use Rattle.rc_form.specs.declared.fault.FormKind.TheVariants.{AtomLong, BadByte, TooDeep}

-- a `)` makes the innermost open list a form of what is around it
pub read_closing : (want : ℕ) (done : List Tree) (inner : Pending) (outer : List Pending) (at : ℕ) (tokens : List Token)
    → read want done (inner ∷ outer) (closing at ∷ tokens) ≡ read_with want done outer (closed inner at) tokens
read_closing want done inner [] at tokens = refl
read_closing want done inner (next ∷ outer) at tokens = refl

-- a short atom inside a list is a form of it
pub read_atom : (want : ℕ) (done : List Tree) (stack : List Pending) (at : ℕ) (bytes : List ℕ) (tokens : List Token)
    → 0 < length stack → length bytes ≤ 64
    → read want done stack (atom at bytes ∷ tokens) ≡ read_with want done stack (word bytes at (at + length bytes)) tokens
read_atom want done [] at bytes tokens inside short = absurd (omega arith)
read_atom want done (inner ∷ outer) at bytes tokens inside short =
    let is_short : leb (length bytes) 64 ≡ true = le-leb _ _ short in
    rw is_short

-- a long one is a fault
pub read_atom_long : (want : ℕ) (done : List Tree) (stack : List Pending) (at : ℕ) (bytes : List ℕ)
    (tokens : List Token) → 0 < length stack → 64 < length bytes → read want done stack (atom at bytes ∷ tokens) ≡ fault AtomLong at
read_atom_long want done [] at bytes tokens inside long = absurd (omega arith)
read_atom_long want done (inner ∷ outer) at bytes tokens inside long =
    let is_long : leb (length bytes) 64 ≡ false = lt-leb _ _ long in
    rw is_long

-- a `(` opens a list wherever more is wanted and few are open
pub read_opening : (want : ℕ) (done : List Tree) (stack : List Pending) (at : ℕ) (tokens : List Token)
    → IsTrue (nat_lt 0 (length stack) || nat_lt (length done) want) → length stack < 64
    → read want done stack (opening at ∷ tokens) ≡ read want done (record { from = at; parts = [] } ∷ stack) tokens
read_opening want done [] at tokens wanted few = rw wanted
read_opening want done (inner ∷ outer) at tokens wanted few =
    let is_few : ltb (length outer) 63 ≡ true = lt-ltb _ _ (omega arith) in
    rw is_few

-- the 65th open list is a fault
pub read_too_deep : (want : ℕ) (done : List Tree) (stack : List Pending) (at : ℕ) (tokens : List Token)
    → 64 ≤ length stack → read want done stack (opening at ∷ tokens) ≡ fault TooDeep at
read_too_deep want done [] at tokens many = absurd (omega arith)
read_too_deep want done (inner ∷ outer) at tokens many =
    let is_many : ltb (length outer) 63 ≡ false = le-ltb _ _ (omega arith) in
    rw is_many

-- a byte that may stand in comments alone is a fault wherever more is wanted
pub read_odd : (want : ℕ) (done : List Tree) (stack : List Pending) (at : ℕ) (tokens : List Token)
    → IsTrue (nat_lt 0 (length stack) || nat_lt (length done) want)
    → read want done stack (odd at ∷ tokens) ≡ fault BadByte at
read_odd want done [] at tokens wanted = rw wanted
read_odd want done (inner ∷ outer) at tokens wanted = refl
