-- What reading gives is what a text spells.
use Rattle.std.proofs.Common.{◌≡◌, ℕ, suc, ◌+◌, ◌-◌, ◌<◌, ◌≤◌, Bool, true, false, cond, leb, ltb, List, [], ◌∷◌, ◌++◌, length, append_assoc, length-append, Ok, Err, ◌⊎◌, inl, inr, refl, sym, ap, subst, ◌∙◌, arith}
use Rattle.std.specs.List.{flat_map}
use Rattle.std.specs.Result.{IfOk}
use Rattle.std.proofs.lemmas.Bool.{leb-true, ltb-true, ltb-false, cases_lt}
use Rattle.std.proofs.lemmas.List.{append-nil}
use Rattle.std.proofs.lemmas.Grind.{flat_map-append}
use Rattle.rc_base.specs.Token.{Token, opening, closing, atom, odd}
use Rattle.rc_base.specs.Tree.{Tree, word, spelling, spellings, IsSound, AreSound}
use Rattle.rc_base.specs.Spelled.{IsTopList, AreTopLists}
use Rattle.rc_form.specs.Form.{packed}
use Rattle.rc_form.specs.Read.{Pending, Reading, read, with_part, closed}
use Rattle.rc_form.specs.declared.fault.FormFault.{FormFault}
use Rattle.rc_form.proofs.Ascending.{Ascends}
use Rattle.rc_form.proofs.SpelledIsRead.{AreEnough}

-- the tokens of lists that are still open, the innermost first
abbrev open_tokens : List Pending → List Token
open_tokens [] = []
open_tokens (inner ∷ outer) = open_tokens outer ++ (opening inner.from ∷ flat_map spelling inner.parts)

-- so many of the wanted lists are open: the outermost, if there is one
abbrev pub started : List Pending → ℕ
started [] = 0
started (inner ∷ outer) = 1

-- the open lists begin below this offset, and have at most 64 at one place
abbrev AreOpen : ℕ → List Pending → Type 0
AreOpen low [] = Unit {0}
AreOpen low (inner ∷ outer) =
    (inner.from < low) × (length outer < 64) × AreSound (63 - length outer) (packed inner.parts) × AreOpen low outer

-- what is read, what is open and what follows are all the tokens
abbrev whole : List Tree → List Pending → List Token → List Token
whole done stack tokens = flat_map spelling done ++ (open_tokens stack ++ tokens)

-- these tokens are those of the lists, and then others
pub record Spells (want : ℕ) (tokens : List Token) (forms : List Tree) (later : List Token) : Type 0 where
  pub spells : tokens ≡ flat_map spelling forms ++ later
  pub sound : AreTopLists forms
  pub enough : AreEnough want (length forms) later

-- what begins below an offset begins below a later one
AreOpen-later : (low high : ℕ) (stack : List Pending) → low ≤ high → AreOpen low stack → AreOpen high stack
AreOpen-later low high [] below are_open = tt
AreOpen-later low high (inner ∷ outer) below are_open =
    (let from = are_open.0 in omega arith, are_open.1, are_open.2, AreOpen-later low high outer below are_open.3)

-- a sound tree behind sound trees
AreSound-push : (room : ℕ) (trees : List Tree) (tree : Tree) → AreSound room (packed trees) → IsSound room tree
    → AreSound room (packed (trees ++ tree ∷ []))
AreSound-push room [] tree are_sound is_sound = (is_sound, tt)
AreSound-push room (first ∷ trees) tree are_sound is_sound = (are_sound.0, AreSound-push room trees tree are_sound.1 is_sound)

-- a list behind lists
AreTopLists-push : (forms : List Tree) (form : Tree) → AreTopLists forms → IsTopList form
    → AreTopLists (forms ++ form ∷ [])
AreTopLists-push [] form are_lists is_list = (is_list, tt)
AreTopLists-push (first ∷ forms) form are_lists is_list = (are_lists.0, AreTopLists-push forms form are_lists.1 is_list)

-- packed trees have the tokens of each
spellings-packed : (trees : List Tree) → spellings (packed trees) ≡ flat_map spelling trees
spellings-packed [] = refl
spellings-packed (tree ∷ trees) = ap (λ tokens. spelling tree ++ tokens) (spellings-packed trees)

-- the tokens of a list that closes here
spelling-closed : (inner : Pending) (at : ℕ) (tokens : List Token)
    → spelling (closed inner at) ++ tokens ≡ (opening inner.from ∷ flat_map spelling inner.parts) ++ (closing at ∷ tokens)
spelling-closed inner at tokens =
    let end : at + 1 - 1 ≡ at = omega arith in
    rw (end, spellings-packed inner.parts) (append_assoc (opening inner.from ∷ flat_map spelling inner.parts) (closing at ∷ []) tokens)

-- the tokens of one form more
flat_map-push : (forms : List Tree) (form : Tree)
    → flat_map spelling (forms ++ form ∷ []) ≡ flat_map spelling forms ++ spelling form
flat_map-push forms form = flat_map-append spelling forms (form ∷ []) ∙ ap (λ tokens. flat_map spelling forms ++ tokens) (append-nil (spelling form))

-- a complete list more
whole-done : (done : List Tree) (form : Tree) (tokens : List Token)
    → whole (done ++ form ∷ []) [] tokens ≡ flat_map spelling done ++ (spelling form ++ tokens)
whole-done done form tokens = ap (λ front. front ++ tokens) (flat_map-push done form) ∙ append_assoc (flat_map spelling done) (spelling form) tokens

-- a part more in the innermost open list
open_tokens-part : (inner : Pending) (outer : List Pending) (form : Tree) (tokens : List Token)
    → open_tokens (with_part inner form ∷ outer) ++ tokens ≡ open_tokens (inner ∷ outer) ++ (spelling form ++ tokens)
open_tokens-part inner outer form tokens =
    let front = opening inner.from ∷ flat_map spelling inner.parts in
    ap (λ parts. open_tokens outer ++ (opening inner.from ∷ parts) ++ tokens) (flat_map-push inner.parts form)
    ∙ ap (λ before. before ++ tokens) (sym (append_assoc (open_tokens outer) front (spelling form)))
    ∙ append_assoc (open_tokens outer ++ front) (spelling form) tokens

-- what holds of either reading holds of the one that a test chooses
IfOk-cond : (b : Bool) (x y : Reading) (P : List Tree × List Token → Type 0) → (b ≡ true → IfOk x P)
    → (b ≡ false → IfOk y P) → IfOk (cond b x y) P
IfOk-cond true x y P first second = first refl
IfOk-cond false x y P first second = second refl

-- what reading gives is spelled by the tokens
abbrev pub IsSpelled : ℕ → List Token → Reading → Type 0
IsSpelled want tokens reading = IfOk reading (λ r. Spells want tokens r.0 r.1)

-- equal tokens are spelled alike
IsSpelled-along : (want : ℕ) (tokens : List Token) (reading : Reading) {tokens' : List Token} → tokens ≡ tokens'
    → IsSpelled want tokens reading → IsSpelled want tokens' reading
IsSpelled-along want tokens reading same spelled = subst (λ ts. IsSpelled want ts reading) same spelled

-- where no token is left, what is read is enough
AreEnough-end : (want : ℕ) (done : List Tree) → length done + 0 ≤ want → AreEnough want (length done) []
AreEnough-end want done room = by_count (cases_lt (length done) want)
  where
    by_count : (length done < want) ⊎ (want ≤ length done) → AreEnough want (length done) []
    by_count (inl few) = inr (few, refl)
    by_count (inr complete) = inl (omega arith)

-- where all wanted lists are complete, reading stops
stops : (want : ℕ) (done : List Tree) (later : List Token) → AreTopLists done → length done + 0 ≤ want
    → ltb (length done) want ≡ false → Spells want (whole done [] later) done later
stops want done later sound room full =
    let complete : want ≤ length done = ltb-false _ _ full in
    record { spells = refl; sound = sound; enough = inl (omega arith) }

-- a token that is a fault until then
faulty : (want : ℕ) (done : List Tree) (later : List Token) (fault : FormFault) → AreTopLists done
    → length done + 0 ≤ want
    → IsSpelled want (whole done [] later) (cond (ltb (length done) want) (Err fault) (Ok (done, later)))
faulty want done later fault sound room =
    IfOk-cond (ltb (length done) want) (Err fault) (Ok (done, later)) _ (λ wanted. tt) (stops want done later sound room)

-- the list that closes is sound
IsSound-closed : (low at : ℕ) (inner : Pending) (outer : List Pending) → low ≤ at → AreOpen low (inner ∷ outer)
    → IsSound (64 - length outer) (closed inner at)
IsSound-closed low at inner outer above are_open =
    let room : 63 - length outer ≡ 64 - length outer - 1 = omega arith in
    (let fits = are_open.1 in omega arith, let from = are_open.0 in omega arith, subst (λ n. AreSound n (packed inner.parts)) room are_open.2)

-- a part more
AreOpen-part : (low high : ℕ) (inner : Pending) (outer : List Pending) (form : Tree) → low ≤ high
    → AreOpen low (inner ∷ outer) → IsSound (63 - length outer) form → AreOpen high (with_part inner form ∷ outer)
AreOpen-part low high inner outer form below are_open sound =
    (let from = are_open.0 in omega arith, are_open.1, AreSound-push (63 - length outer) inner.parts form are_open.2 sound, AreOpen-later low high outer below are_open.3)

-- what is read, of lists that are complete or open before, is spelled by all the tokens
pub read-spelled : (want low high : ℕ) (done : List Tree) (stack : List Pending) (tokens : List Token)
    → Ascends low high tokens → AreTopLists done → AreOpen low stack → length done + started stack ≤ want
    → IsSpelled want (whole done stack tokens) (read want done stack tokens)
read-spelled want low high done [] [] ascends sound are_open room = record { spells = refl; sound = sound; enough = AreEnough-end want done room }
read-spelled want low high done [] (opening at ∷ tokens) ascends sound are_open room =
    IfOk-cond (ltb (length done) want) (read want done (record { from = at; parts = [] } ∷ []) tokens) (Ok (done, opening at ∷ tokens)) _
    (λ wanted.
    let more : length done < want = ltb-true _ _ wanted in
    read-spelled want (at + 1) high done (record { from = at; parts = [] } ∷ []) tokens ascends.1 sound (omega arith, omega arith, tt, tt) (omega arith))
    (stops want done (opening at ∷ tokens) sound room)
read-spelled want low high done [] (closing at ∷ tokens) ascends sound are_open room = faulty want done (closing at ∷ tokens) _ sound room
read-spelled want low high done [] (atom at bytes ∷ tokens) ascends sound are_open room = faulty want done (atom at bytes ∷ tokens) _ sound room
read-spelled want low high done [] (odd at ∷ tokens) ascends sound are_open room = faulty want done (odd at ∷ tokens) _ sound room
read-spelled want low high done (inner ∷ outer) [] ascends sound are_open room = tt
read-spelled want low high done (inner ∷ outer) (opening at ∷ tokens) ascends sound are_open room =
    IfOk-cond (ltb (length outer) 63) (read want done (record { from = at; parts = [] } ∷ inner ∷ outer) tokens) (Err _) _ (λ has_room.
    let fits : length outer < 63 = ltb-true _ _ has_room in
    let above : low ≤ at = ascends.0 in
    let are_open' : AreOpen (at + 1) (record { from = at; parts = [] } ∷ inner ∷ outer) =
    (omega arith, omega arith, tt, AreOpen-later low (at + 1) (inner ∷ outer) (omega arith) are_open) in
    IsSpelled-along want _ (read want done (record { from = at; parts = [] } ∷ inner ∷ outer) tokens)
    (ap (λ ts. flat_map spelling done ++ ts) (append_assoc (open_tokens (inner ∷ outer)) (opening at ∷ []) tokens))
    (read-spelled want (at + 1) high done (record { from = at; parts = [] } ∷ inner ∷ outer) tokens ascends.1 sound are_open' room))
    (λ full. tt)
read-spelled want low high done (inner ∷ []) (closing at ∷ tokens) ascends sound are_open room =
    let form = closed inner at in
    let count : length (done ++ form ∷ []) + 0 ≤ want = omega (arith, length-append done (form ∷ [])) in
    IsSpelled-along want _ (read want (done ++ form ∷ []) [] tokens)
    (whole-done done form tokens ∙ ap (λ ts. flat_map spelling done ++ ts) (spelling-closed inner at tokens))
    (read-spelled want (at + 1) high (done ++ form ∷ []) [] tokens ascends.1 (AreTopLists-push done form sound (IsSound-closed low at inner [] ascends.0 are_open)) tt count)
read-spelled want low high done (inner ∷ next ∷ outer) (closing at ∷ tokens) ascends sound are_open room =
    let form = closed inner at in
    let above : low ≤ at = ascends.0 in
    let deep : 64 - suc (length outer) ≡ 63 - length outer = omega arith in
    let is_sound = subst (λ n. IsSound n form) deep (IsSound-closed low at inner (next ∷ outer) above are_open) in
    IsSpelled-along want _ (read want done (with_part next form ∷ outer) tokens)
    (ap (λ ts. flat_map spelling done ++ ts) (open_tokens-part next outer form tokens
    ∙ ap (λ ts. open_tokens (next ∷ outer) ++ ts) (spelling-closed inner at tokens)
    ∙ sym (append_assoc (open_tokens (next ∷ outer)) (opening inner.from ∷ flat_map spelling inner.parts) (closing at ∷ tokens))))
    (read-spelled want (at + 1) high done (with_part next form ∷ outer) tokens ascends.1 sound (AreOpen-part low (at + 1) next outer form (omega arith) are_open.3 is_sound) room)
read-spelled want low high done (inner ∷ outer) (atom at bytes ∷ tokens) ascends sound are_open room =
    IfOk-cond (leb (length bytes) 64) (read want done (with_part inner (word bytes at (at + length bytes)) ∷ outer) tokens) (Err _) _ (λ short.
    let form = word bytes at (at + length bytes) in
    let above : low ≤ at = ascends.0 in
    IsSpelled-along want _ (read want done (with_part inner form ∷ outer) tokens)
    (ap (λ ts. flat_map spelling done ++ ts) (open_tokens-part inner outer form tokens))
    (read-spelled want (at + 1) high done (with_part inner form ∷ outer) tokens ascends.1 sound (AreOpen-part low (at + 1) inner outer form (omega arith) are_open (leb-true _ _ short, refl)) room))
    (λ long. tt)
read-spelled want low high done (inner ∷ outer) (odd at ∷ tokens) ascends sound are_open room = tt
