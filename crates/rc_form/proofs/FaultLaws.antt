-- A list of tokens has at most one first fault.
use Rattle.std.proofs.Common.{◌≡◌, ℕ, ◌+◌, ◌<◌, ◌≤◌, List, [], ◌∷◌, ◌++◌, length, append_assoc, length-append, ◌⊎◌, inl, inr, refl, sym, ap, subst, ◌∙◌, arith}
use Rattle.std.proofs.lemmas.Bool.{cases_lt}
use Rattle.std.proofs.lemmas.List.{append-nil}
use Rattle.rc_base.specs.Token.{Token, opening, closing, atom, odd, offset_of}
use Rattle.rc_form.specs.FormFault.{open_behind, depth_from, lists_from, depth, lists, IsFaulty, IsFaultyBehind, NoneFaultyBelow, IsFirstFaulty, StayOpen, IsLastOpen, IsUnclosed, IsFirstFault}
use Rattle.rc_form.specs.declared.fault.FormKind.{FormKind}

-- what is open behind two runs of tokens, one after the other
pub depth_from-append : (deep : ℕ) (front back : List Token) → depth_from deep (front ++ back) ≡ depth_from (depth_from deep front) back
depth_from-append deep [] back = refl
depth_from-append deep (token ∷ front) back = depth_from-append (open_behind deep token) front back

-- what two runs of tokens complete, one after the other
pub lists_from-append : (deep : ℕ) (front back : List Token) → lists_from deep (front ++ back) ≡ lists_from deep front + lists_from (depth_from deep front) back
lists_from-append deep [] back = omega arith
lists_from-append deep (token ∷ front) back =
    let rest = lists_from-append (open_behind deep token) front back in
    omega arith

-- more tokens complete no fewer lists
pub lists-most : (front back : List Token) → lists front ≤ lists (front ++ back)
lists-most front back = omega (arith, lists_from-append 0 front back)

-- two cuts at one place are the same
pub same_cut : (front front' : List Token) (token token' : Token) (back back' : List Token) → length front ≡ length front' → front ++ token ∷ back ≡ front' ++ token' ∷ back' → (front ≡ front') × (token ≡ token')
same_cut [] [] token token' back back' same cut = (refl, cc)
same_cut [] (next ∷ front') token token' back back' same cut = absurd (omega arith)
same_cut (first ∷ front) [] token token' back back' same cut = absurd (omega arith)
same_cut (first ∷ front) (next ∷ front') token token' back back' same cut =
    let same_rest : length front ≡ length front' = omega arith in
    let cut_rest : front ++ token ∷ back ≡ front' ++ token' ∷ back' = cc in
    let heads : first ≡ next = cc in
    let rest = same_cut front front' token token' back back' same_rest cut_rest in
    (cc, rest.1)

-- a cut further on is a cut of what stands behind the earlier one
pub later_cut : (front front' back back' : List Token) → length front ≤ length front' → front ++ back ≡ front' ++ back' → (between : List Token) × (front' ≡ front ++ between) × (back ≡ between ++ back')
later_cut [] front' back back' below cut = (front', refl, cut)
later_cut (first ∷ front) [] back back' below cut = absurd (omega arith)
later_cut (first ∷ front) (next ∷ front') back back' below cut =
    let below_rest : length front ≤ length front' = omega arith in
    let cut_rest : front ++ back ≡ front' ++ back' = cc in
    let heads : next ≡ first = cc in
    let rest = later_cut front front' back back' below_rest cut_rest in
    (rest.0, ap (λ token. token ∷ front') heads ∙ ap (λ tokens. first ∷ tokens) rest.1, rest.2)

-- a token has one kind of fault
IsFaulty-unique : (before : List Token) (token : Token) (kind other : FormKind) → IsFaulty before token kind → IsFaulty before token other → kind ≡ other
IsFaulty-unique before (odd at) kind other faulty faulty' = faulty ∙ sym faulty'
IsFaulty-unique before (closing at) kind other faulty faulty' = faulty.0 ∙ sym faulty'.0
IsFaulty-unique before (opening at) kind other faulty faulty' = faulty.0 ∙ sym faulty'.0
IsFaulty-unique before (atom at word) kind other (inl stray) (inl stray') = stray.0 ∙ sym stray'.0
IsFaulty-unique before (atom at word) kind other (inr long) (inr long') = long.0 ∙ sym long'.0
IsFaulty-unique before (atom at word) kind other (inl stray) (inr long) = let outside = stray.1 in let inside = long.1 in absurd (omega arith)
IsFaulty-unique before (atom at word) kind other (inr long) (inl stray) = let outside = stray.1 in let inside = long.1 in absurd (omega arith)

-- one place has one fault
IsFaultyBehind-unique : (want : ℕ) (all before before' : List Token) (kind other : FormKind) (at place : ℕ) → length before ≡ length before' → IsFaultyBehind want all before kind at → IsFaultyBehind want all before' other place → (kind ≡ other) × (at ≡ place)
IsFaultyBehind-unique want all before before' kind other at place same here there =
    let cut = same_cut before before' here.token there.token here.behind there.behind same (sym here.cut ∙ there.cut) in
    let faulty : IsFaulty before' there.token kind = subst (λ b. IsFaulty b there.token kind) cut.0 (subst (λ t. IsFaulty before t kind) cut.1 here.faulty) in
    (IsFaulty-unique before' there.token kind other faulty there.faulty, here.begins ∙ ap offset_of cut.1 ∙ sym there.begins)

-- there is one first faulty token
IsFirstFaulty-unique : (want : ℕ) (all : List Token) (kind other : FormKind) (at place : ℕ) → IsFirstFaulty want all kind at → IsFirstFaulty want all other place → (kind ≡ other) × (at ≡ place)
IsFirstFaulty-unique want all kind other at place one two = by_order (cases_lt (length one.before) (length two.before)) (cases_lt (length two.before) (length one.before))
  where
    by_order : (length one.before < length two.before) ⊎ (length two.before ≤ length one.before) → (length two.before < length one.before) ⊎ (length one.before ≤ length two.before) → (kind ≡ other) × (at ≡ place)
    by_order (inl earlier) order = absurd (two.first one.before kind at earlier one.here)
    by_order (inr above) (inl earlier) = absurd (one.first two.before other place earlier two.here)
    by_order (inr above) (inr below) = IsFaultyBehind-unique want all one.before two.before kind other at place (omega arith) one.here two.here

-- a token that is faulty stands within the tokens
IsFaultyBehind-within : (want : ℕ) (all before : List Token) (kind : FormKind) (at : ℕ) → IsFaultyBehind want all before kind at → length before < length all
IsFaultyBehind-within want all before kind at here = omega (arith, ap length here.cut, length-append before (here.token ∷ here.behind))

-- what stays open is open at each place on the way
StayOpen-behind : (low deep : ℕ) (front back : List Token) → StayOpen low deep (front ++ back) → low < depth_from deep front
StayOpen-behind low deep [] [] stays = stays
StayOpen-behind low deep [] (token ∷ back) stays = stays.0
StayOpen-behind low deep (token ∷ front) back stays = StayOpen-behind low (open_behind deep token) front back stays.1

-- no `(` behind the last open one is still open
IsLastOpen-last : (all : List Token) (at place : ℕ) → (one : IsLastOpen all at) → (two : IsLastOpen all place) → length one.before < length two.before → ⊥
IsLastOpen-last all at place one two below =
    let cut = later_cut (one.before ++ opening at ∷ []) two.before one.behind (opening place ∷ two.behind)
    (omega (arith, length-append one.before (opening at ∷ [])))
    (append_assoc one.before (opening at ∷ []) one.behind ∙ sym one.cut ∙ two.cut) in
    let deeper = StayOpen-behind (depth one.before) (depth one.before + 1) cut.0 (opening place ∷ two.behind) (subst (StayOpen (depth one.before) (depth one.before + 1)) cut.2 one.stays) in
    let opened = depth_from-append 0 one.before (opening at ∷ []) in
    let there : depth two.before ≡ depth_from (depth one.before + 1) cut.0 =
    ap depth cut.1 ∙ depth_from-append 0 (one.before ++ opening at ∷ []) cut.0 ∙ ap (λ deep. depth_from deep cut.0) opened in
    let first = one.last in
    let second = two.last in
    omega arith

-- a `(` stands at one offset
opening-offset : (at place : ℕ) → opening at ≡ opening place → at ≡ place
opening-offset at place same = cc

-- there is one last open `(`
IsLastOpen-unique : (all : List Token) (at place : ℕ) → IsLastOpen all at → IsLastOpen all place → at ≡ place
IsLastOpen-unique all at place one two = by_order (cases_lt (length one.before) (length two.before)) (cases_lt (length two.before) (length one.before))
  where
    by_order : (length one.before < length two.before) ⊎ (length two.before ≤ length one.before) → (length two.before < length one.before) ⊎ (length one.before ≤ length two.before) → at ≡ place
    by_order (inl earlier) order = absurd (IsLastOpen-last all at place one two earlier)
    by_order (inr above) (inl earlier) = absurd (IsLastOpen-last all place at two one earlier)
    by_order (inr above) (inr below) =
        opening-offset at place (same_cut one.before two.before (opening at) (opening place) one.behind two.behind (omega arith) (sym one.cut ∙ two.cut)).1

-- where no token is faulty, none is the first faulty one
IsUnclosed-not_faulty : (want : ℕ) (all : List Token) (kind : FormKind) (at place : ℕ) → IsFirstFaulty want all kind at → IsUnclosed want all place → ⊥
IsUnclosed-not_faulty want all kind at place faulty unclosed =
    unclosed.none faulty.before kind at (IsFaultyBehind-within want all faulty.before kind at faulty.here) faulty.here

-- there is one first fault
pub IsFirstFault-unique : (want : ℕ) (all : List Token) (kind other : FormKind) (at place : ℕ) → IsFirstFault want all kind at → IsFirstFault want all other place → (kind ≡ other) × (at ≡ place)
IsFirstFault-unique want all kind other at place (inl faulty) (inl faulty') = IsFirstFaulty-unique want all kind other at place faulty faulty'
IsFirstFault-unique want all kind other at place (inl faulty) (inr unclosed) = absurd (IsUnclosed-not_faulty want all kind at place faulty unclosed.1)
IsFirstFault-unique want all kind other at place (inr unclosed) (inl faulty) = absurd (IsUnclosed-not_faulty want all other place at faulty unclosed.1)
IsFirstFault-unique want all kind other at place (inr unclosed) (inr unclosed') =
    (unclosed.0 ∙ sym unclosed'.0, IsLastOpen-unique all at place unclosed.1.last_open unclosed'.1.last_open)

-- Tokens without a fault: the wanted lists are complete before any token is faulty, or no list is open at the end.
pub record HasNoFault (want : ℕ) (all : List Token) : Type 0 where
  pub front : List Token
  pub later : List Token
  pub cut : all ≡ front ++ later
  pub none : NoneFaultyBelow want all (length front)
  pub ends : (want ≤ lists front) ⊎ ((later ≡ []) × (depth front ≡ 0))

-- where the wanted lists are complete, none is missing further on
complete_on : (want : ℕ) (all front later before back : List Token) → all ≡ front ++ later → all ≡ before ++ back → length front ≤ length before → want ≤ lists front → lists before < want → ⊥
complete_on want all front later before back cut cut' above complete missing =
    let between = later_cut front before later back above (sym cut ∙ cut') in
    let more = lists-most front between.0 in
    let here = ap lists between.1 in
    omega arith

-- tokens without a fault have no first faulty token
HasNoFault-not_faulty : (want : ℕ) (all : List Token) (kind : FormKind) (at : ℕ) → HasNoFault want all → IsFirstFaulty want all kind at → ⊥
HasNoFault-not_faulty want all kind at clean faulty = by_place (cases_lt (length faulty.before) (length clean.front)) clean.ends
  where
    by_place : (length faulty.before < length clean.front) ⊎ (length clean.front ≤ length faulty.before) → (want ≤ lists clean.front) ⊎ ((clean.later ≡ []) × (depth clean.front ≡ 0)) → ⊥
    by_place (inl early) ends = clean.none faulty.before kind at early faulty.here
    by_place (inr above) (inl complete) =
        complete_on want all clean.front clean.later faulty.before (faulty.here.token ∷ faulty.here.behind) clean.cut faulty.here.cut above complete faulty.here.wanted
    by_place (inr above) (inr end) =
        let within = IsFaultyBehind-within want all faulty.before kind at faulty.here in
        let whole : all ≡ clean.front = clean.cut ∙ ap (λ later. clean.front ++ later) end.0 ∙ append-nil clean.front in
        omega (arith, ap length whole)

-- tokens without a fault leave no list open
HasNoFault-not_unclosed : (want : ℕ) (all : List Token) (at : ℕ) → HasNoFault want all → IsUnclosed want all at → ⊥
HasNoFault-not_unclosed want all at clean unclosed = by_end clean.ends
  where
    by_end : (want ≤ lists clean.front) ⊎ ((clean.later ≡ []) × (depth clean.front ≡ 0)) → ⊥
    by_end (inl complete) =
        let more = lists-most clean.front clean.later in
        let whole = ap lists clean.cut in
        let missing = unclosed.missing in
        omega arith
    by_end (inr end) =
        let whole : all ≡ clean.front = clean.cut ∙ ap (λ later. clean.front ++ later) end.0 ∙ append-nil clean.front in
        let still = unclosed.last_open.last in
        let none = end.1 in
        omega (arith, ap depth whole)

-- tokens without a fault have no first fault
pub HasNoFault-none : (want : ℕ) (all : List Token) (kind : FormKind) (at : ℕ) → HasNoFault want all → IsFirstFault want all kind at → ⊥
HasNoFault-none want all kind at clean (inl faulty) = HasNoFault-not_faulty want all kind at clean faulty
HasNoFault-none want all kind at clean (inr unclosed) = HasNoFault-not_unclosed want all at clean unclosed.1
