-- Judging goes line by line: where a row applies to a line it halts, and else it goes on behind it.
use Rattle.std.proofs.Common.{◌≡◌, ◌≢◌, ◌↔◌, ℕ, ◌+◌, ◌<◌, ◌==◌, ◌&&◌, Bool, true, false, if◌then◌else◌, List, [], ◌∷◌, map, drop, get_or, length, unwrap_or, Option, Some, None, Result, Ok, Err, IfOk, OnOk, IsErrAnd, refl, sym, ap, subst, ◌∙◌, eqb-true}
use Rattle.std.proofs.lemmas.List.{at_drop_more}
use Rattle.std.proofs.lemmas.Result.{err_from_is_err_and}
use Rattle.rc_base.specs.Transcript.{Pick, Record, Standing}
use Rattle.rc_play_spec.specs.About.{About}
use Rattle.rc_play_spec.specs.Effects.{Dealing}
use Rattle.rc_play_spec.specs.Step.{Config, Stop, decide, is_done, is_limit}
use Rattle.rc_play_spec.specs.Stop.{Stopped}
use Rattle.rc_play_spec.specs.Decision.{choose}
use Rattle.rc_play_spec.specs.Play.{stop_behind}
use Rattle.rc_play_spec.specs.Plan.{Plan, deal_at}
use Rattle.rc_play_spec.specs.Keyed.{dealing_of}
use Rattle.rc_play_spec.specs.Why.{Why as PureWhy, by_name, Illegal as PureIllegal}
use Rattle.rc_play_spec.specs.Rows.{◌or◌, unless, lacking_row, decision_row, stopped_row, named_row, chosen_row, shuffled_row, further_row}
use Rattle.rc_play_spec.specs.Judged.{at_line}
use Rattle.rc_play_spec.specs.Along.{Judging, Picked, on_row, and_then, told_along, standings_along, next_stop, picks_along, record_along, matches_along, marks_from}
use Rattle.rc_rules.specs.declared.bound.Bound.{Bound as Bound'}
use Rattle.rc_rules.specs.declared.bound.Bound.TheVariants.{Player, Card, Group}
use Rattle.rc_rules.specs.contracts.bound.BoundPartialEq.TheImpl.{eq-value}
use Rattle.rc_rules.specs.Bounds.{bound_seen}
use Rattle.rc_rules.specs.Machine.{IsWhereItStops, bounds_here}
use Rattle.rc_play_spec.specs.ItemBounds.{Bound as PureBound, bounds_at}
use Rattle.rc_play_spec.specs.Naming.{marks_by, marks_there}
use Rattle.rc_play_spec.specs.Bounds.{is_bound, are_bounds}
use Rattle.std.specs.Cmp.Lexicographic.{pointwise}
use Rattle.rc_play_spec.specs.HouseText.{NamedText as PureNamed, first_marks, later_marks}
use Rattle.rc_play_spec.specs.Legal.{IsLegal, IsLegalText}
use Rattle.rc_play_spec.proofs.LegalLemmas.{on_row_none, and_on, made_forth, made_goes_on, some_is}
use Rattle.rc_rules.specs.declared.record.Pick.{Pick as Pick'}
use Rattle.rc_rules.specs.Record.{pick_seen}
use Rattle.rc_judge.specs.declared.verdict.Halt.{Halt}
use Rattle.rc_judge.specs.declared.verdict.Halt.TheVariants.{Illegal, NoMemory}
use Rattle.rc_judge.specs.declared.verdict.Verdict.{Verdict}
use Rattle.rc_judge.specs.declared.verdict.Verdict.TheVariants.{Legal, Illegal as IllegalAt}
use Rattle.rc_judge.specs.declared.verdict.Named.{Named}
use Rattle.rc_judge.specs.declared.verdict.Named.TheVariants.{Legal as LegalWith, Illegal as IllegalThere}
use Rattle.std.specs.Prelude.{Vec, is_ok}
use Rattle.std.specs.Global.{Global}
use Rattle.arrayvec.specs.ArrayVec.{ArrayVec}
use Rattle.rc_judge.specs.Seen.{illegal_in, IfLegal, IsHalted, IsFound, Judges, Finds, verdict_seen, why_seen, marks_row}

-- the element at a place, and what is behind it
pub dropped : {X Y : Type 0} (view : X → Y) (xs : List X) (i : ℕ) (d : X) → i < length xs →
    map view (drop i xs) ≡ view (get_or xs i d) ∷ map view (drop (i + 1) xs)
dropped view xs i d lt = at_drop_more (map view) xs i d lt

-- no row applies
pub free : (n : ℕ) (row : Option PureWhy) → at_line n row None ≡ None → row ≡ None
free n None e = refl
free n (Some why) e = absurd cc

halt_is : {A : Type 0} (later : Judging A) (n : ℕ) (row : Option PureWhy) (x : PureIllegal) → at_line n row None ≡ Some x → on_row n row later ≡ Err x
halt_is later n None x e = absurd cc
halt_is later n (Some why) x e = ap (λ y. Err y) (some_is (record { line = n; why = why }) x e)

-- A row applies: what was seen of it is the definition's, and what is judged begins with it.
pub halts : {A : Type 0} (n : ℕ) (halt : Halt) (seen row : Option PureWhy) (later told : Judging A) → seen ≡ row → told ≡ on_row n row later →
    IsFound halt (at_line n seen None) → IsHalted halt told
halts n (Illegal line why) seen row later told is begins e =
    begins ∙ halt_is later n row (record { line = line; why = why_seen why }) (ap (λ r. at_line n r None) (sym is) ∙ e)
halts n NoMemory seen row later told is begins e = tt

-- what a `?` hands on
pub hands_on : {X A : Type 0} (seen : X → A) (r : Result X Halt) (halt : Halt) (told : Judging A) → IsErrAnd r (λ other. other ≡ halt)
    → IsHalted halt told → Judges seen r told
hands_on seen r halt told is halts =
    let passed = err_from_is_err_and r is in
    subst (λ r. Judges seen r told) (sym passed.1) (subst (λ halt. IsHalted halt told) (sym passed.2) halts)

pub hands_found : {X : Type 0} (r : Result X Halt) (halt : Halt) (told : Option PureIllegal) → IsErrAnd r (λ other. other ≡ halt)
    → IsFound halt told → Finds r told
hands_found r halt told is found =
    let passed = err_from_is_err_and r is in
    subst (λ r. Finds r told) (sym passed.1) (subst (λ halt. IsFound halt told) (sym passed.2) found)

-- what is judged first halts
pub halts_first : {A B : Type 0} (halt : Halt) (first : Judging A) (later : A → Judging B) → IsHalted halt first → IsHalted halt (and_then first later)
halts_first (Illegal line why) first later e = ap (λ x. and_then x later) e
halts_first NoMemory first later e = tt

-- the second of two rows
or_second : (a b : Option PureWhy) → a ≡ None → (a or b) ≡ b
or_second None b e = refl
or_second (Some v) b e = absurd cc

-- the row for what an item binds is that of a choose line, where the item may be taken
told_here : (about : About) (p : Pick) (stop : Stop) (c : Config) → IsWhereItStops about stop c → decision_row about p stop c ≡ None →
    marks_by about p.item stop c ≡ bounds_here about p.item c
told_here about p (decide seat site) c stands row = ap (λ s. bounds_at about (unwrap_or s 0) p.item c) (sym stands.decision.stands)
told_here about p is_done c stands row = absurd cc
told_here about p is_limit c stands row = absurd cc

named_is : (about : About) (at : Stopped ℕ) (p : Pick) (marks : Option (List PureBound)) (bounds : List PureBound) →
    marks_by about p.item at.stop at.config ≡ bounds → named_row about (Some at) p marks ≡ marks_row marks bounds
named_is about at p None bounds e = refl
named_is about at p (Some marks) bounds e = ap (λ b. unless (are_bounds marks b) by_name) e

pub marks_row_is : (about : About) (at : Stopped ℕ) (p : Pick) (marks : Option (List PureBound)) → IsWhereItStops about at.stop at.config →
    stopped_row about (Some at) p ≡ None → chosen_row about (Some at) p marks ≡ marks_row marks (bounds_here about p.item at.config)
marks_row_is about at p marks stands row =
    or_second (stopped_row about (Some at) p) (named_row about (Some at) p marks) row
    ∙ named_is about at p marks (bounds_here about p.item at.config) (told_here about p at.stop at.config stands row)

pub marks_noted : (about : About) (at : Stopped ℕ) (p : Pick) → IsWhereItStops about at.stop at.config → stopped_row about (Some at) p ≡ None →
    marks_there about (Some at) p ≡ bounds_here about p.item at.config
marks_noted about at p stands row = told_here about p at.stop at.config stands row

-- an item that may be taken leads to the next stop
pub next_is : (about about' : About) (plan : Plan) (m : ℕ) (at next : Stopped ℕ) (p : Pick) (dealing : Dealing ℕ) → about' ≡ about →
    dealing ≡ dealing_of (deal_at plan m).deal → stopped_row about (Some at) p ≡ None →
    stop_behind about' dealing (choose about' dealing at.dealer p.item at.config) ≡ Some next → next_stop about dealing_of plan m (Some at) p ≡ Some next
next_is about about' plan m at next p dealing same deals row leads =
    made_goes_on about (dealing_of (deal_at plan m).deal) p at.stop at.config at.dealer (made_forth about p at.stop at.config row)
    ∙ (λ i. stop_behind (sym same i) (sym deals i) (choose (sym same i) (sym deals i) at.dealer p.item at.config)) ∙ leads

-- a shuffles line
some_told : (told : ℕ) (none : Bool) → (told == 0) ≡ none → told ≢ 0 → none ≡ false
some_told told true e some = absurd (some (eqb-true told 0 e))
some_told told false e some = refl

pub told_line : (at : Option (Stopped ℕ)) (n told : ℕ) → told ≢ 0 → told_along n at told ≡ on_row n (shuffled_row at told) (Ok (n + 1))
told_line at n told some =
    ap (λ (none : Bool). if none then Ok n else on_row n (shuffled_row at told) (Ok (n + 1))) (some_told told (told == 0) refl some)

or_found : (later : Option PureIllegal) (n : ℕ) (row other : Option PureWhy) (x : PureIllegal) → at_line n row None ≡ Some x → at_line n (row or other) later ≡ Some x
or_found later n None other x e = absurd cc
or_found later n (Some why) other x e = e

-- the plan has a further match
pub further_found : (plan : Plan) (n : ℕ) (matches : List Record) (standings : List Standing) (halt : Halt) (seen : Option PureWhy) → standings ≢ [] →
    seen ≡ further_row plan matches → IsFound halt (at_line n seen None) → IsFound halt (standings_along plan n matches 0 standings)
further_found plan n matches [] halt seen some is e = absurd (some refl)
further_found plan n matches (s ∷ standings) (Illegal line why) seen some is e =
    or_found (standings_along plan (n + 1) matches 1 standings) n (further_row plan matches) _ (record { line = line; why = why_seen why })
    (ap (λ r. at_line n r None) (sym is) ∙ e)
further_found plan n matches (s ∷ standings) NoMemory seen some is e = tt

-- the first match of those that are judged, with its score lines
pub match_judged : (about : About) (plan : Plan) (m n n' : ℕ) (marks left : List (List PureBound)) (r : Record) (matches : List Record) →
    record_along about dealing_of plan m n marks r ≡ Ok (n', left) →
    lacking_row about r ≡ None → matches_along about dealing_of plan m n marks (r ∷ matches) ≡ matches_along about dealing_of plan (m + 1) n' left matches
match_judged about plan m n n' marks left r matches is row =
    and_on (record_along about dealing_of plan m n marks r)
    (λ next. on_row next.0 (lacking_row about r) (matches_along about dealing_of plan (m + 1) next.0 next.1 matches)) (n', left) is
    ∙ on_row_none n' (lacking_row about r) (matches_along about dealing_of plan (m + 1) n' left matches) row

-- a text is legal where no line is illegal
is_legal : (v : Verdict) (found : Option PureIllegal) (P : Type 0) → verdict_seen v ≡ found → ((found ≡ None) ↔ P) → ((v ≡ Legal) ↔ P)
is_legal Legal found P e iff = ((λ _. iff.0 (sym e)), (λ _. refl))
is_legal (IllegalAt line why) found P e iff = ((λ l. absurd cc), (λ p. let none = e ∙ iff.1 p in absurd cc))

pub legal_is : {E : Type 0} (r : Result Verdict E) (found : Option PureIllegal) (P : Type 0) → IfOk r (λ v. verdict_seen v ≡ found) → ((found ≡ None) ↔ P) →
    IfOk r (λ v. (v ≡ Legal) ↔ P)
legal_is (Ok v) found P e iff = is_legal v found P e iff
legal_is (Err e') found P e iff = tt

-- the same of a text that is named too
is_named_legal : (n : Named) (found : Option PureIllegal) (P : Type 0) → illegal_in n ≡ found → ((found ≡ None) ↔ P) → ((illegal_in n ≡ None) ↔ P)
is_named_legal n found P e iff = ((λ none. iff.0 (sym e ∙ none)), (λ p. e ∙ iff.1 p))

pub named_legal : {E : Type 0} (r : Result Named E) (found : Option PureIllegal) (P : Type 0) → IfOk r (λ n. illegal_in n ≡ found) → ((found ≡ None) ↔ P) →
    IfOk r (λ n. (illegal_in n ≡ None) ↔ P)
named_legal (Ok n) found P e iff = is_named_legal n found P e iff
named_legal (Err e') found P e iff = tt

-- what is true of the notes of a text that was judged is true of what it binds
pub noted_then : {E X F : Type 0} (r : Result Named E) (judged : Result X F) (notes : Vec (Vec (ArrayVec Bound') Global) Global)
    (P : Vec (Vec (ArrayVec Bound') Global) Global → Type 0) → IfOk r (λ n. IfLegal n (λ bounds. (bounds ≡ notes) × (is_ok judged ≡ true))) →
    OnOk judged (P notes) → IfOk r (λ n. IfLegal n P)
noted_then (Ok (LegalWith bounds)) (Ok x) notes P e on = subst P (sym e.0) on
noted_then (Ok (LegalWith bounds)) (Err f) notes P e on = absurd cc
noted_then (Ok (IllegalThere line why)) judged notes P e on = tt
noted_then (Err e') judged notes P e on = tt

-- a text without marks is legal where what it tells is
pub only_legal : (about : About) (plan : Plan) (n : PureNamed) {P : Type 0} → (P ↔ IsLegalText about dealing_of plan false n) → (P ↔ IsLegal about dealing_of plan n.text)
only_legal about plan n iff = ((λ p. (iff.0 p).0), (λ is. iff.1 (is, tt)))

-- a choice out of those that a text tells: a row applies to it
pub pick_halts : (about : About) (plan : Plan) (m n : ℕ) (at : Stopped ℕ) (marks : List (List PureBound)) (picks : List Pick') (i : ℕ) (d : Pick') (halt : Halt)
    (row : Option PureWhy) (told : Judging Picked) → i < length picks → row ≡ chosen_row about (Some at) (pick_seen (get_or picks i d)) (first_marks marks) →
    picks_along about dealing_of plan m n (Some at) marks (map pick_seen (drop i picks)) ≡ told → IsFound halt (at_line n row None) → IsHalted halt told
pick_halts about plan m n at marks picks i d halt row told lt is begins e =
    let pick = pick_seen (get_or picks i d) in
    halts n halt row (chosen_row about (Some at) pick (first_marks marks))
    (picks_along about dealing_of plan m (n + 1) (next_stop about dealing_of plan m (Some at) pick) (later_marks marks) (map pick_seen (drop (i + 1) picks))) told is
    (sym begins ∙ ap (picks_along about dealing_of plan m n (Some at) marks) (dropped pick_seen picks i d lt)) e

-- the first of its rows is found
pub first_found : (n : ℕ) (halt : Halt) (row other : Option PureWhy) → IsFound halt (at_line n row None) → IsFound halt (at_line n (row or other) None)
first_found n (Illegal line why) None other e = absurd cc
first_found n (Illegal line why) (Some w) other e = e
first_found n NoMemory row other e = tt

-- none applies, and it leads to the next stop
pub pick_leads : (about : About) (plan : Plan) (m n : ℕ) (at next : Stopped ℕ) (marks : List (List PureBound)) (picks : List Pick') (i : ℕ) (d : Pick') →
    i < length picks → chosen_row about (Some at) (pick_seen (get_or picks i d)) (first_marks marks) ≡ None →
    next_stop about dealing_of plan m (Some at) (pick_seen (get_or picks i d)) ≡ Some next →
    picks_along about dealing_of plan m n (Some at) marks (map pick_seen (drop i picks))
    ≡ picks_along about dealing_of plan m (n + 1) (Some next) (later_marks marks) (map pick_seen (drop (i + 1) picks))
pick_leads about plan m n at next marks picks i d lt row leads =
    let pick = pick_seen (get_or picks i d) in
    let rest = map pick_seen (drop (i + 1) picks) in
    ap (picks_along about dealing_of plan m n (Some at) marks) (dropped pick_seen picks i d lt)
    ∙ on_row_none n (chosen_row about (Some at) pick (first_marks marks))
    (picks_along about dealing_of plan m (n + 1) (next_stop about dealing_of plan m (Some at) pick) (later_marks marks) rest) row
    ∙ ap (λ o. picks_along about dealing_of plan m (n + 1) o (later_marks marks) rest) leads

-- what it binds is noted
pub pick_noted : (about : About) (plan : Plan) (m : ℕ) (at next : Stopped ℕ) (bounds : List PureBound) (picks : List Pick') (i : ℕ) (d : Pick') →
    i < length picks → marks_there about (Some at) (pick_seen (get_or picks i d)) ≡ bounds →
    next_stop about dealing_of plan m (Some at) (pick_seen (get_or picks i d)) ≡ Some next →
    marks_from about dealing_of plan m (Some at) (map pick_seen (drop i picks))
    ≡ bounds ∷ marks_from about dealing_of plan m (Some next) (map pick_seen (drop (i + 1) picks))
pick_noted about plan m at next bounds picks i d lt is leads =
    ap (marks_from about dealing_of plan m (Some at)) (dropped pick_seen picks i d lt)
    ∙ (λ j. is j ∷ marks_from about dealing_of plan m (leads j) (map pick_seen (drop (i + 1) picks)))

-- `==` compares marks as the definitions do
same_bound : (x y : Bound') → eq-value.it x y ≡ is_bound (bound_seen x) (bound_seen y)
same_bound (Player n) (Player m) = refl
same_bound (Player n) (Card m) = refl
same_bound (Player n) (Group m) = refl
same_bound (Card n) (Player m) = refl
same_bound (Card n) (Card m) = refl
same_bound (Card n) (Group m) = refl
same_bound (Group n) (Player m) = refl
same_bound (Group n) (Card m) = refl
same_bound (Group n) (Group m) = refl

pub same_marks : (xs ys : List Bound') → pointwise eq-value.it xs ys ≡ are_bounds (map bound_seen xs) (map bound_seen ys)
same_marks [] [] = refl
same_marks [] (y ∷ ys) = refl
same_marks (x ∷ xs) [] = refl
same_marks (x ∷ xs) (y ∷ ys) = (λ i. same_bound x y i && same_marks xs ys i)
