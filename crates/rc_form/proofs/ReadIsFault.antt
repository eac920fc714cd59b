-- Where reading stops at a fault, it is the first fault of the tokens; elsewhere they have none.
use Rattle.std.proofs.Common.{◌≡◌, ℕ, suc, ◌+◌, ◌-◌, ◌<◌, ◌≤◌, Bool, true, false, cond, eqb, leb, ltb, List, [], ◌∷◌, ◌++◌, length, append_assoc, length-append, Ok, Err, ◌⊎◌, inl, inr, refl, sym, ap, subst, ◌∙◌, arith}
use Rattle.std.proofs.lemmas.Bool.{leb-true, leb-false, ltb-true, ltb-false, ne_eqb, cases_lt}
use Rattle.std.proofs.lemmas.List.{append-nil}
use Rattle.rc_base.specs.Token.{Token, opening, closing, atom, odd, offset_of, tokens}
use Rattle.rc_base.specs.Tree.{Tree, word}
use Rattle.rc_form.specs.FormFault.{open_behind, completed_by, depth_from, depth, lists, IsFaulty, IsFaultyBehind, NoneFaultyBelow, StayOpen, IsUnclosed, IsFirstFault, IsSpelledOrFaulty}
use Rattle.rc_form.specs.Read.{Pending, Reading, read, with_part, closed}
use Rattle.rc_form.specs.declared.fault.FormKind.{FormKind}
use Rattle.rc_form.specs.declared.fault.FormFault.{FormFault}
use Rattle.rc_form.specs.declared.fault.FormKind.TheVariants.{BadByte, Stray, TooDeep, AtomLong}
use Rattle.rc_form.proofs.ReadIsSpelled.{started}
use Rattle.rc_base.specs.Spelled.{next_offset}
use Rattle.rc_form.proofs.SpellingLaws.{Spelled-from_read}
use Rattle.rc_form.proofs.FaultLaws.{depth_from-append, lists_from-append, same_cut, HasNoFault, HasNoFault-none}

-- the list that begins here, behind `before`, is the innermost that is open behind the tokens, and `deep` lists are around it
record IsInnermost (deep from : ℕ) (before front : List Token) : Type 0 where
  behind : List Token
  cut : front ≡ before ++ opening from ∷ behind
  stays : StayOpen deep (deep + 1) behind
  last : depth front ≡ deep + 1

-- these lists are open behind the tokens, the innermost first
abbrev AreOpenBehind : List Pending → List Token → Type 0
AreOpenBehind [] front = depth front ≡ 0
AreOpenBehind (inner ∷ outer) front = (before : List Token) × IsInnermost (length outer) inner.from before front × AreOpenBehind outer before

-- as many lists are open as are listed
depth-open : (stack : List Pending) (front : List Token) → AreOpenBehind stack front → depth front ≡ length stack
depth-open [] front are_open = are_open
depth-open (inner ∷ outer) front are_open = let last = are_open.1.last in omega arith

-- what is open behind one more token
depth-more : (front : List Token) (token : Token) → depth (front ++ token ∷ []) ≡ open_behind (depth front) token
depth-more front token = depth_from-append 0 front (token ∷ [])

-- what is complete behind one more token
lists-more : (front : List Token) (token : Token) → lists (front ++ token ∷ []) ≡ lists front + completed_by (depth front) token
lists-more front token = omega (arith, lists_from-append 0 front (token ∷ []))

-- a `)` inside another list completes no top-level list
completed_by-deep : (deep at : ℕ) → 2 ≤ deep → completed_by deep (closing at) ≡ 0
completed_by-deep deep at inside =
    let unlike : eqb deep 1 ≡ false = ne_eqb deep 1 (λ same. omega arith) in
    rw unlike

-- what stays open over two runs of tokens, one after the other
StayOpen-append : (low deep : ℕ) (front back : List Token) → StayOpen low deep front → StayOpen low (depth_from deep front) back → StayOpen low deep (front ++ back)
StayOpen-append low deep [] back stays stays_on = stays_on
StayOpen-append low deep (token ∷ front) back stays stays_on = (stays.0, StayOpen-append low (open_behind deep token) front back stays.1 stays_on)

-- what stays above a depth stays above a smaller one
StayOpen-lower : (low high deep : ℕ) (tokens : List Token) → low ≤ high → StayOpen high deep tokens → StayOpen low deep tokens
StayOpen-lower low high deep [] below stays = omega arith
StayOpen-lower low high deep (token ∷ tokens) below stays = (let above = stays.0 in omega arith, StayOpen-lower low high (open_behind deep token) tokens below stays.1)

-- in its list as many lists are closed as opened
depth-behind : (deep from : ℕ) (before front : List Token) → depth before ≡ deep → (inner : IsInnermost deep from before front) → depth_from (deep + 1) inner.behind ≡ deep + 1
depth-behind deep from before front around inner =
    ap (λ n. depth_from (n + 1) inner.behind) (sym around) ∙ sym (depth_from-append 0 before (opening from ∷ inner.behind)) ∙ ap depth (sym inner.cut) ∙ inner.last

-- it stays the innermost behind tokens that close what they open
IsInnermost-append : (deep from : ℕ) (before front more : List Token) → depth before ≡ deep → IsInnermost deep from before front → StayOpen deep (deep + 1) more → depth_from (deep + 1) more ≡ deep + 1
    → IsInnermost deep from before (front ++ more)
IsInnermost-append deep from before front more around inner stays same =
    record {
      behind = inner.behind ++ more;
      cut = ap (λ tokens. tokens ++ more) inner.cut ∙ append_assoc before (opening from ∷ inner.behind) more;
      stays = StayOpen-append deep (deep + 1) inner.behind more inner.stays (subst (λ n. StayOpen deep n more) (sym (depth-behind deep from before front around inner)) stays);
      last = depth_from-append 0 front more ∙ ap (λ n. depth_from n more) inner.last ∙ same;
    }

-- a `(` opens an innermost list
AreOpenBehind-opening : (stack : List Pending) (front : List Token) (at : ℕ) → AreOpenBehind stack front → AreOpenBehind (record { from = at; parts = [] } ∷ stack) (front ++ opening at ∷ [])
AreOpenBehind-opening stack front at are_open =
    let around = depth-open stack front are_open in
    let more = depth-more front (opening at) in
    (front, record { behind = []; cut = refl; stays = omega arith; last = omega arith }, are_open)

-- an atom leaves the same lists open
AreOpenBehind-atom : (inner : Pending) (outer : List Pending) (front : List Token) (at : ℕ) (bytes : List ℕ) (tree : Tree) → AreOpenBehind (inner ∷ outer) front
    → AreOpenBehind (with_part inner tree ∷ outer) (front ++ atom at bytes ∷ [])
AreOpenBehind-atom inner outer front at bytes tree are_open =
    let around = depth-open outer are_open.0 are_open.2 in
    (are_open.0, IsInnermost-append (length outer) inner.from are_open.0 front (atom at bytes ∷ []) around are_open.1 (omega arith, omega arith) refl, are_open.2)

-- a `)` leaves the lists around the innermost open
AreOpenBehind-closing : (inner next : Pending) (outer : List Pending) (front : List Token) (at : ℕ) (tree : Tree) → AreOpenBehind (inner ∷ next ∷ outer) front
    → AreOpenBehind (with_part next tree ∷ outer) (front ++ closing at ∷ [])
AreOpenBehind-closing inner next outer front at tree are_open =
    let deep = length outer in
    let before = are_open.0 in
    let inside = are_open.1 in
    let outside = are_open.2 in
    let more = opening inner.from ∷ (inside.behind ++ closing at ∷ []) in
    let around = depth-open outer outside.0 outside.2 in
    let around_inner : depth before ≡ suc deep = depth-open (next ∷ outer) before outside in
    let deeper : suc deep + 1 ≡ deep + 1 + 1 = omega arith in
    let balanced : depth_from (deep + 1 + 1) inside.behind ≡ deep + 1 + 1 =
    subst (λ n. depth_from n inside.behind ≡ n) deeper (depth-behind (suc deep) inner.from before front around_inner inside) in
    let same : depth_from (deep + 1) more ≡ deep + 1 =
    depth_from-append (deep + 1 + 1) inside.behind (closing at ∷ []) ∙ ap (λ n. n - 1) balanced ∙ omega arith in
    let stays_in : StayOpen deep (deep + 1 + 1) inside.behind =
    StayOpen-lower deep (suc deep) (deep + 1 + 1) inside.behind (omega arith) (subst (λ n. StayOpen (suc deep) n inside.behind) deeper inside.stays) in
    let stays : StayOpen deep (deep + 1) more =
    (omega arith, StayOpen-append deep (deep + 1 + 1) inside.behind (closing at ∷ []) stays_in (omega (arith, balanced), omega (arith, balanced))) in
    let whole : before ++ more ≡ front ++ closing at ∷ [] =
    sym (append_assoc before (opening inner.from ∷ inside.behind) (closing at ∷ [])) ∙ ap (λ tokens. tokens ++ closing at ∷ []) (sym inside.cut) in
    (outside.0, subst (IsInnermost deep next.from outside.0) whole (IsInnermost-append deep next.from outside.0 before more around outside.1 stays same), outside.2)

-- Reading stands behind these tokens: none of them is faulty, and these lists are complete and these open.
record Passed (want : ℕ) (all front tokens : List Token) (done : List Tree) (stack : List Pending) : Type 0 where
  cut : all ≡ front ++ tokens
  none : NoneFaultyBelow want all (length front)
  complete : lists front ≡ length done
  are_open : AreOpenBehind stack front
  room : length done + started stack ≤ want

-- one more token that isn't faulty
NoneFaultyBelow-more : (want : ℕ) (all front tokens : List Token) (token : Token) → all ≡ front ++ token ∷ tokens → NoneFaultyBelow want all (length front) → ((kind : FormKind) → IsFaulty front token kind → ⊥)
    → NoneFaultyBelow want all (length (front ++ token ∷ []))
NoneFaultyBelow-more want all front tokens token cut none sound = λ before kind at below here. by_place before kind at here
    (let within : length before < length front + 1 = omega (arith, length-append front (token ∷ [])) in within) (cases_lt (length before) (length front))
  where
    by_place : (before : List Token) (kind : FormKind) (at : ℕ) → IsFaultyBehind want all before kind at → length before < length front + 1 → (length before < length front) ⊎ (length front ≤ length before) → ⊥
    by_place before kind at here below (inl early) = none before kind at early here
    by_place before kind at here below (inr late) =
        let same = same_cut before front here.token token here.behind tokens (omega arith) (sym here.cut ∙ cut) in
        sound kind (subst (λ b. IsFaulty b token kind) same.0 (subst (λ t. IsFaulty before t kind) same.1 here.faulty))

-- reading goes on behind one more token
Passed-more : (want : ℕ) (all front tokens : List Token) (token : Token) (done done' : List Tree) (stack stack' : List Pending) → Passed want all front (token ∷ tokens) done stack
    → ((kind : FormKind) → IsFaulty front token kind → ⊥) → lists (front ++ token ∷ []) ≡ length done' → AreOpenBehind stack' (front ++ token ∷ []) → length done' + started stack' ≤ want
    → Passed want all (front ++ token ∷ []) tokens done' stack'
Passed-more want all front tokens token done done' stack stack' passed sound complete are_open room =
    record {
      cut = passed.cut ∙ sym (append_assoc front (token ∷ []) tokens);
      none = NoneFaultyBelow-more want all front tokens token passed.cut passed.none sound;
      complete = complete;
      are_open = are_open;
      room = room;
    }

-- a short atom inside a list is not faulty
not_faulty : (front : List Token) (at : ℕ) (bytes : List ℕ) (kind : FormKind) → 0 < depth front → length bytes ≤ 64 → IsFaulty front (atom at bytes) kind → ⊥
not_faulty front at bytes kind inside short (inl stray) = let outside = stray.1 in omega arith
not_faulty front at bytes kind inside short (inr long) = let too_long = long.2 in omega arith

-- what reading gives says whether the tokens have a fault, and which is the first
abbrev Answers : ℕ → List Token → Reading → Type 0
Answers want all (Ok lists) = HasNoFault want all
Answers want all (Err fault) = IsFirstFault want all fault.kind fault.at

-- what each outcome of a test answers, the test answers
Answers-cond : (want : ℕ) (all : List Token) (b : Bool) (x y : Reading) → (b ≡ true → Answers want all x) → (b ≡ false → Answers want all y) → Answers want all (cond b x y)
Answers-cond want all true x y first second = first refl
Answers-cond want all false x y first second = second refl

-- the token behind the passed ones is faulty
faulty : (want : ℕ) (all front tokens : List Token) (token : Token) (done : List Tree) (stack : List Pending) (kind : FormKind) → Passed want all front (token ∷ tokens) done stack → length done < want
    → IsFaulty front token kind → IsFirstFault want all kind (offset_of token)
faulty want all front tokens token done stack kind passed wanted is_faulty =
    let complete = passed.complete in
    inl (record {
      before = front;
      here = record { token = token; behind = tokens; cut = passed.cut; wanted = omega arith; faulty = is_faulty; begins = refl };
      first = passed.none;
    })

-- the wanted lists are complete
stops : (want : ℕ) (all front tokens : List Token) (done : List Tree) → Passed want all front tokens done [] → ltb (length done) want ≡ false → HasNoFault want all
stops want all front tokens done passed full =
    let enough : want ≤ length done = ltb-false _ _ full in
    let complete = passed.complete in
    record { front = front; later = tokens; cut = passed.cut; none = passed.none; ends = inl (omega arith) }

-- the tokens end inside a list
unclosed : (want : ℕ) (all front : List Token) (done : List Tree) (inner : Pending) (outer : List Pending) → Passed want all front [] done (inner ∷ outer) → IsUnclosed want all inner.from
unclosed want all front done inner outer passed =
    let whole : front ≡ all = sym (append-nil front) ∙ sym passed.cut in
    let complete = passed.complete in
    let room = passed.room in
    let innermost = passed.are_open.1 in
    let around = depth-open outer passed.are_open.0 passed.are_open.2 in
    subst (λ tokens. IsUnclosed want tokens inner.from) whole (record {
      none = subst (λ tokens. NoneFaultyBelow want tokens (length front)) (sym whole) passed.none;
      missing = omega arith;
      last_open = record {
        before = passed.are_open.0;
        behind = innermost.behind;
        cut = innermost.cut;
        stays = subst (λ n. StayOpen n (n + 1) innermost.behind) (sym around) innermost.stays;
        last = innermost.last ∙ ap (λ n. n + 1) (sym around);
      };
    })

-- reading finds the first fault, or that there is none
read-answers : (want : ℕ) (all front : List Token) (done : List Tree) (stack : List Pending) (tokens : List Token) → Passed want all front tokens done stack → Answers want all (read want done stack tokens)
read-answers want all front done [] [] passed = record { front = front; later = []; cut = passed.cut; none = passed.none; ends = inr (refl, passed.are_open) }
read-answers want all front done [] (opening at ∷ tokens) passed =
    Answers-cond want all (ltb (length done) want) (read want done (record { from = at; parts = [] } ∷ []) tokens) (Ok (done, opening at ∷ tokens))
    (λ wanted.
    let more : length done < want = ltb-true _ _ wanted in
    let none_open = passed.are_open in
    let complete = passed.complete in
    read-answers want all (front ++ opening at ∷ []) done (record { from = at; parts = [] } ∷ []) tokens
    (Passed-more want all front tokens (opening at) done done [] (record { from = at; parts = [] } ∷ []) passed (λ kind is_faulty. let deep = is_faulty.1 in omega arith)
    (omega (arith, lists-more front (opening at))) (AreOpenBehind-opening [] front at passed.are_open) (omega arith)))
    (stops want all front (opening at ∷ tokens) done passed)
read-answers want all front done [] (closing at ∷ tokens) passed =
    Answers-cond want all (ltb (length done) want) (Err _) (Ok (done, closing at ∷ tokens))
    (λ wanted. faulty want all front tokens (closing at) done [] Stray passed (ltb-true _ _ wanted) (refl, passed.are_open))
    (stops want all front (closing at ∷ tokens) done passed)
read-answers want all front done [] (atom at bytes ∷ tokens) passed =
    Answers-cond want all (ltb (length done) want) (Err _) (Ok (done, atom at bytes ∷ tokens))
    (λ wanted. faulty want all front tokens (atom at bytes) done [] Stray passed (ltb-true _ _ wanted) (inl (refl, passed.are_open)))
    (stops want all front (atom at bytes ∷ tokens) done passed)
read-answers want all front done [] (odd at ∷ tokens) passed =
    Answers-cond want all (ltb (length done) want) (Err _) (Ok (done, odd at ∷ tokens))
    (λ wanted. faulty want all front tokens (odd at) done [] BadByte passed (ltb-true _ _ wanted) refl)
    (stops want all front (odd at ∷ tokens) done passed)
read-answers want all front done (inner ∷ outer) [] passed = inr (refl, unclosed want all front done inner outer passed)
read-answers want all front done (inner ∷ outer) (opening at ∷ tokens) passed =
    let around = depth-open (inner ∷ outer) front passed.are_open in
    let complete = passed.complete in
    let room = passed.room in
    Answers-cond want all (ltb (length outer) 63) (read want done (record { from = at; parts = [] } ∷ inner ∷ outer) tokens) (Err _)
    (λ has_room.
    let fits : length outer < 63 = ltb-true _ _ has_room in
    read-answers want all (front ++ opening at ∷ []) done (record { from = at; parts = [] } ∷ inner ∷ outer) tokens
    (Passed-more want all front tokens (opening at) done done (inner ∷ outer) (record { from = at; parts = [] } ∷ inner ∷ outer) passed (λ kind is_faulty. let deep = is_faulty.1 in omega arith)
    (omega (arith, lists-more front (opening at))) (AreOpenBehind-opening (inner ∷ outer) front at passed.are_open) (omega arith)))
    (λ full.
    let many : 63 ≤ length outer = ltb-false _ _ full in
    faulty want all front tokens (opening at) done (inner ∷ outer) TooDeep passed (omega arith) (refl, omega arith))
read-answers want all front done (inner ∷ []) (closing at ∷ tokens) passed =
    let around = depth-open (inner ∷ []) front passed.are_open in
    let tree = closed inner at in
    let room = passed.room in
    let count = length-append done (tree ∷ []) in
    let completes : lists (front ++ closing at ∷ []) ≡ length done + 1 = lists-more front (closing at) ∙ ap (λ n. lists front + completed_by n (closing at)) around ∙ ap (λ n. n + 1) passed.complete in
    read-answers want all (front ++ closing at ∷ []) (done ++ tree ∷ []) [] tokens
    (Passed-more want all front tokens (closing at) done (done ++ tree ∷ []) (inner ∷ []) [] passed (λ kind is_faulty. let none = is_faulty.1 in omega arith)
    (omega arith) (omega (arith, depth-more front (closing at))) (omega arith))
read-answers want all front done (inner ∷ next ∷ outer) (closing at ∷ tokens) passed =
    let around = depth-open (inner ∷ next ∷ outer) front passed.are_open in
    let tree = closed inner at in
    let room = passed.room in
    let completes : lists (front ++ closing at ∷ []) ≡ length done + 0 = lists-more front (closing at) ∙ ap (λ n. lists front + n) (completed_by-deep (depth front) at (omega arith)) ∙ ap (λ n. n + 0) passed.complete in
    read-answers want all (front ++ closing at ∷ []) done (with_part next tree ∷ outer) tokens
    (Passed-more want all front tokens (closing at) done done (inner ∷ next ∷ outer) (with_part next tree ∷ outer) passed (λ kind is_faulty. let none = is_faulty.1 in omega arith)
    (omega arith) (AreOpenBehind-closing inner next outer front at tree passed.are_open) room)
read-answers want all front done (inner ∷ outer) (atom at bytes ∷ tokens) passed =
    let around = depth-open (inner ∷ outer) front passed.are_open in
    let tree = word bytes at (at + length bytes) in
    let complete = passed.complete in
    let room = passed.room in
    Answers-cond want all (leb (length bytes) 64) (read want done (with_part inner tree ∷ outer) tokens) (Err _)
    (λ is_short.
    let short : length bytes ≤ 64 = leb-true _ _ is_short in
    read-answers want all (front ++ atom at bytes ∷ []) done (with_part inner tree ∷ outer) tokens
    (Passed-more want all front tokens (atom at bytes) done done (inner ∷ outer) (with_part inner tree ∷ outer) passed
    (λ kind is_faulty. not_faulty front at bytes kind (omega arith) short is_faulty)
    (omega (arith, lists-more front (atom at bytes))) (AreOpenBehind-atom inner outer front at bytes tree passed.are_open) room))
    (λ is_long.
    let long : 64 < length bytes = leb-false _ _ is_long in
    faulty want all front tokens (atom at bytes) done (inner ∷ outer) AtomLong passed (omega arith) (inr (refl, omega arith, long)))
read-answers want all front done (inner ∷ outer) (odd at ∷ tokens) passed =
    let room = passed.room in
    faulty want all front tokens (odd at) done (inner ∷ outer) BadByte passed (omega arith) refl

-- reading begins in front of all tokens
Passed-none : (want : ℕ) (tokens : List Token) → Passed want tokens [] tokens [] []
Passed-none want tokens = record { cut = refl; none = λ before kind at below here. omega arith; complete = refl; are_open = refl; room = omega arith }

-- the fault at which reading stops is the first
pub fault-from_read : (want : ℕ) (tokens : List Token) (fault : FormFault) → read want [] [] tokens ≡ Err fault → IsFirstFault want tokens fault.kind fault.at
fault-from_read want tokens fault is_read = subst (Answers want tokens) is_read (read-answers want tokens [] [] [] tokens (Passed-none want tokens))

-- where reading gives lists, there is no fault
pub no_fault-from_read : (want : ℕ) (tokens : List Token) (lists : List Tree) (later : List Token) → read want [] [] tokens ≡ Ok (lists, later) → (kind : FormKind) (at : ℕ) → IsFirstFault want tokens kind at → ⊥
no_fault-from_read want tokens lists later is_read kind at =
    HasNoFault-none want tokens kind at (subst (Answers want tokens) is_read (read-answers want tokens [] [] [] tokens (Passed-none want tokens)))

-- what reading gives is spelled, and where it stops there is a fault
pub spelled_or_faulty : (text : List ℕ) (want : ℕ) → IsSpelledOrFaulty text want
spelled_or_faulty text want = by_reading (read want [] [] (tokens text)) refl
  where
    by_reading : (reading : Reading) → read want [] [] (tokens text) ≡ reading → IsSpelledOrFaulty text want
    by_reading (Ok lists) is_read = inl (lists.0, next_offset lists.1 (length text), Spelled-from_read text want lists.0 lists.1 (next_offset lists.1 (length text)) is_read refl)
    by_reading (Err fault) is_read = inr (fault.kind, fault.at, fault-from_read want (tokens text) fault is_read)
