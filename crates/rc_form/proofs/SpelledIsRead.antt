-- What a text spells is what reading gives.
use Rattle.std.proofs.Common.{◌≡◌, ℕ, suc, ◌+◌, ◌-◌, ◌<◌, ◌≤◌, true, false, leb, ltb, List, [], ◌∷◌, ◌++◌, length, append_assoc, length-append, Ok, ◌⊎◌, inl, inr, refl, sym, ap, subst, ◌∙◌, arith}
use Rattle.std.specs.List.{flat_map}
use Rattle.std.proofs.lemmas.Bool.{le-leb, lt-ltb, le-ltb}
use Rattle.std.proofs.lemmas.List.{append-nil}
use Rattle.rc_base.specs.Token.{Token, opening, closing, atom, odd}
use Rattle.rc_base.specs.Tree.{Tree, word, list, Trees, nil, cons, spelling, spellings, IsSound, AreSound}
use Rattle.rc_base.specs.Spelled.{AreTopLists}
use Rattle.rc_form.specs.Form.{packed}
use Rattle.rc_form.specs.Read.{Pending, read, read_with, with_part, closed}
use Rattle.rc_form.proofs.ReadSteps.{read_closing}

-- the parts of a list, one by one
abbrev unpacked : Trees → List Tree
unpacked nil = []
unpacked (cons tree trees) = tree ∷ unpacked trees

-- taken apart and packed, trees are what they were
packed-unpacked : (trees : Trees) → packed (unpacked trees) ≡ trees
packed-unpacked nil = refl
packed-unpacked (cons tree trees) = ap (cons tree) (packed-unpacked trees)

-- the list with these parts more
abbrev with_parts : Pending → List Tree → Pending
with_parts pending trees = record { from = pending.from; parts = pending.parts ++ trees }

-- a list whose `(` stands here, without parts
abbrev opened : ℕ → Pending
opened from = record { from = from; parts = [] }

-- a `(` with room for it
read-opening : (want : ℕ) (done : List Tree) (inner : Pending) (outer : List Pending) (from : ℕ) (tokens : List Token)
    → length outer < 63
    → read want done (inner ∷ outer) (opening from ∷ tokens) ≡ read want done (opened from ∷ inner ∷ outer) tokens
read-opening want done inner outer from tokens fits =
    let has_room : ltb (length outer) 63 ≡ true = lt-ltb _ _ fits in
    rw has_room

-- a short atom is a part
read-atom : (want : ℕ) (done : List Tree) (inner : Pending) (outer : List Pending) (bytes : List ℕ) (from to : ℕ) (tokens : List Token)
    → length bytes ≤ 64 → to ≡ from + length bytes
    → read want done (inner ∷ outer) (atom from bytes ∷ tokens) ≡ read want done (with_part inner (word bytes from to) ∷ outer) tokens
read-atom want done inner outer bytes from to tokens short end =
    let is_short : leb (length bytes) 64 ≡ true = le-leb _ _ short in
    rw (is_short, end)

-- a `)` behind the parts that stand in its list
closed-opened : (parts : Trees) (from to : ℕ) → from < to
    → closed (with_parts (opened from) (unpacked parts)) (to - 1) ≡ list parts from to
closed-opened parts from to ordered =
    let end : to - 1 + 1 ≡ to = omega arith in
    ap (λ n. list (packed (unpacked parts)) from n) end ∙ ap (λ trees. list trees from to) (packed-unpacked parts)

-- a list whose parts are read is a form of what is around it
closes : (want : ℕ) (done : List Tree) (outer : List Pending) (parts : Trees) (from to : ℕ) (tokens : List Token)
    → from < to
    → read want done (opened from ∷ outer) (spellings parts ++ (closing (to - 1) ∷ tokens)) ≡ read want done (with_parts (opened from) (unpacked parts) ∷ outer) (closing (to - 1) ∷ tokens)
    → read want done (opened from ∷ outer) (spellings parts ++ closing (to - 1) ∷ [] ++ tokens) ≡ read_with want done outer (list parts from to) tokens
closes want done outer parts from to tokens ordered parts_read =
    ap (read want done (opened from ∷ outer)) (append_assoc (spellings parts) (closing (to - 1) ∷ []) tokens)
    ∙ parts_read
    ∙ read_closing want done (with_parts (opened from) (unpacked parts)) outer (to - 1) tokens
    ∙ ap (λ tree. read_with want done outer tree tokens) (closed-opened parts from to ordered)

mutual
  -- the tokens of a tree make it a part of the innermost open list
  read-spelling : (want : ℕ) (done : List Tree) (inner : Pending) (outer : List Pending) (room : ℕ) (tree : Tree) (tokens : List Token)
      → room + length outer ≡ 63 → IsSound room tree
      → read want done (inner ∷ outer) (spelling tree ++ tokens) ≡ read want done (with_part inner tree ∷ outer) tokens
  read-spelling want done inner outer room (word bytes from to) tokens fits sound = read-atom want done inner outer bytes from to tokens sound.0 sound.1
  read-spelling want done inner outer room (list parts from to) tokens fits sound =
      let some : 0 < room = sound.0 in
      let deeper : room - 1 + suc (length outer) ≡ 63 = omega arith in
      let fits_in : length outer < 63 = omega arith in
      let parts_read = read-spellings want done (opened from) (inner ∷ outer) (room - 1) parts (closing (to - 1) ∷ tokens) deeper sound.2 in
      read-opening want done inner outer from (spellings parts ++ closing (to - 1) ∷ [] ++ tokens) fits_in
      ∙ closes want done (inner ∷ outer) parts from to tokens sound.1 parts_read

  -- the tokens of trees make them parts of the innermost open list
  read-spellings : (want : ℕ) (done : List Tree) (inner : Pending) (outer : List Pending) (room : ℕ) (trees : Trees) (tokens : List Token)
      → room + length outer ≡ 63 → AreSound room trees
      → read want done (inner ∷ outer) (spellings trees ++ tokens) ≡ read want done (with_parts inner (unpacked trees) ∷ outer) tokens
  read-spellings want done inner outer room nil tokens fits sound =
      ap (λ parts. read want done (record { from = inner.from; parts = parts } ∷ outer) tokens) (sym (append-nil inner.parts))
  read-spellings want done inner outer room (cons tree trees) tokens fits sound =
      ap (read want done (inner ∷ outer)) (append_assoc (spelling tree) (spellings trees) tokens)
      ∙ read-spelling want done inner outer room tree (spellings trees ++ tokens) fits sound.0
      ∙ read-spellings want done (with_part inner tree) outer room trees tokens fits sound.1
      ∙ ap (λ parts. read want done (record { from = inner.from; parts = parts } ∷ outer) tokens) (append_assoc inner.parts (tree ∷ []) (unpacked trees))

-- as many lists as are wanted, or fewer where nothing follows them
abbrev pub AreEnough : ℕ → ℕ → List Token → Type 0
AreEnough want count later = (count ≡ want) ⊎ ((count < want) × (later ≡ []))

-- where all wanted lists are complete, what follows is left
read-complete : (want : ℕ) (done : List Tree) (later : List Token) → want ≤ length done
    → read want done [] later ≡ Ok (done, later)
read-complete want done [] complete = refl
read-complete want done (opening at ∷ later) complete = let full : ltb (length done) want ≡ false = le-ltb _ _ complete in rw full
read-complete want done (closing at ∷ later) complete = let full : ltb (length done) want ≡ false = le-ltb _ _ complete in rw full
read-complete want done (atom at bytes ∷ later) complete = let full : ltb (length done) want ≡ false = le-ltb _ _ complete in rw full
read-complete want done (odd at ∷ later) complete = let full : ltb (length done) want ≡ false = le-ltb _ _ complete in rw full

-- where the complete lists are enough, nothing more is read
read-end : (want : ℕ) (done : List Tree) (later : List Token) → AreEnough want (length done) later
    → read want done [] later ≡ Ok (done, later)
read-end want done later (inl full) = read-complete want done later (omega arith)
read-end want done later (inr few) = ap (read want done []) few.1 ∙ ap (λ tokens. Ok (done, tokens)) (sym few.1)

-- another list is wanted where more than these are enough
wants_more : (want count more : ℕ) (later : List Token) → AreEnough want (count + suc more) later → count < want
wants_more want count more later (inl full) = omega arith
wants_more want count more later (inr few) = let below : count + suc more < want = few.0 in omega arith

-- the tokens of lists make them complete
pub read-lists : (want : ℕ) (done forms : List Tree) (later : List Token) → AreTopLists forms
    → AreEnough want (length done + length forms) later
    → read want done [] (flat_map spelling forms ++ later) ≡ Ok (done ++ forms, later)
read-lists want done [] later sound enough =
    let count : length done + 0 ≡ length done = omega arith in
    read-end want done later (subst (λ n. AreEnough want n later) count enough) ∙ ap (λ forms. Ok (forms, later)) (sym (append-nil done))
read-lists want done (word bytes from to ∷ forms) later sound enough = absurd sound.0
read-lists want done (list parts from to ∷ forms) later sound enough =
    let tree = list parts from to in
    let rest = flat_map spelling forms ++ later in
    let wanted : ltb (length done) want ≡ true = lt-ltb _ _ (wants_more want (length done) (length forms) later enough) in
    let parts_read = read-spellings want done (opened from) [] 63 parts (closing (to - 1) ∷ rest) refl sound.0.2 in
    let count : length done + suc (length forms) ≡ length (done ++ tree ∷ []) + length forms = omega (arith, length-append done (tree ∷ [])) in
    let others = read-lists want (done ++ tree ∷ []) forms later sound.1 (subst (λ n. AreEnough want n later) count enough) in
    ap (read want done []) (append_assoc (spelling tree) (flat_map spelling forms) later)
    ∙ rw wanted (closes want done [] parts from to rest sound.0.1 parts_read)
    ∙ others
    ∙ ap (λ forms. Ok (forms, later)) (append_assoc done (tree ∷ []) forms)
