-- The grammar of lines: what is taken stands in a text, and each text is taken.
use Rattle.std.proofs.Common.{◌≡◌, ◌≢◌, ℕ, ◌≤◌, ◌==◌, Bool, true, false, if◌then◌else◌, List, [], ◌∷◌, ◌++◌, map, flat_map, Some, None, IfSome, pos, refl, sym, ap, ◌∙◌, subst, append_assoc, append-nil, arith, rules, eqb-true}
use Rattle.std.specs.List.{AllByRecursion}
use Rattle.std.proofs.lemmas.List.{map-append}
use Rattle.std.proofs.lemmas.List.Concat.{flat_map-append}
use Rattle.rc_base.specs.Transcript.{Pick, Ending, done, Score, Record, Standing}
use Rattle.rc_play_spec.specs.ItemBounds.{Bound}
use Rattle.rc_play_spec.specs.Lines.{Line, opening, chosen, shuffled, ending, scored, ranked, IsInRange, HasMarks}
use Rattle.rc_play_spec.specs.HouseText.{HouseText, NamedText, shuffles_told, played_lines, told_lines, ended_lines, record_lines, lines_of}
use Rattle.rc_play_spec.specs.LineGrammar.{run}
use Rattle.rc_play_spec.proofs.FieldLemmas.{bind_some, some_is}
use Rattle.rc_play_spec.specs.Reading.{Place, headed, playing, told, stopped, scoring, ranking, opened, with_pick, with_shuffles, with_end, with_score, take_line, whole_at}

-- the lines that a place stands behind
abbrev pub lines_at : Place → List Line
lines_at headed = []
lines_at (playing before r) = flat_map record_lines before ++ played_lines r
lines_at (told before r) = flat_map record_lines before ++ told_lines r
lines_at (stopped before r) = flat_map record_lines before ++ ended_lines r
lines_at (scoring before r) = flat_map record_lines before ++ record_lines r
lines_at (ranking matches standings) = flat_map record_lines matches ++ map ranked standings

abbrev pub HasScores : Record → Type 0
HasScores r = r.scores ≢ []

-- what holds there
abbrev pub IsGood : Place → Type 0
IsGood headed = Unit {0}
IsGood (playing before r) = AllByRecursion HasScores before × (r.scores ≡ []) × (r.shuffles ≡ 0)
IsGood (told before r) = AllByRecursion HasScores before × (r.scores ≡ [])
IsGood (stopped before r) = AllByRecursion HasScores before × (r.scores ≡ [])
IsGood (scoring before r) = AllByRecursion HasScores before × HasScores r
IsGood (ranking matches standings) = AllByRecursion HasScores matches × (matches ≢ []) × (standings ≢ [])

not_nil : {A : Type 0} (xs : List A) (x : A) → xs ++ x ∷ [] ≢ []
not_nil [] x e = absurd cc
not_nil (y ∷ xs) x e = absurd cc

scored_more : (before : List Record) (r : Record) → AllByRecursion HasScores before → HasScores r → AllByRecursion HasScores (before ++ r ∷ [])
scored_more [] r all has = (has, tt)
scored_more (x ∷ before) r all has = (all.0, scored_more before r all.1 has)

-- the records before, and one more
records_more : (before : List Record) (r : Record) → flat_map record_lines (before ++ r ∷ []) ≡ flat_map record_lines before ++ record_lines r
records_more before r = flat_map-append record_lines before (r ∷ []) ∙ ap (λ t. flat_map record_lines before ++ t) (append-nil (record_lines r))

-- one more line behind what stands behind a front
one_more : (front a b : List Line) (l : Line) → b ≡ a ++ l ∷ [] → front ++ b ≡ (front ++ a) ++ l ∷ []
one_more front a b l e = ap (λ t. front ++ t) e ∙ sym (append_assoc front a (l ∷ []))

map_more : {A : Type 0} (f : A → Line) (xs : List A) (x : A) → map f (xs ++ x ∷ []) ≡ map f xs ++ f x ∷ []
map_more f xs x = map-append f xs (x ∷ [])

told_cases : (none : Bool) (n : ℕ) → (n == 0) ≡ none → 1 ≤ n → (if none then [] else shuffled n ∷ []) ≡ shuffled n ∷ []
told_cases true n e some-n = let e' = eqb-true n 0 e in absurd (omega arith)
told_cases false n e some-n = refl

told_some : (n : ℕ) → 1 ≤ n → shuffles_told n ≡ shuffled n ∷ []
told_some n some-n = told_cases (n == 0) n refl some-n

abbrev Follows : Place → Line → Place → Type 0
Follows p l q = IsGood q × (lines_at q ≡ lines_at p ++ l ∷ [])

pub follows : (p : Place) (l : Line) → IsGood p → IsInRange l → IfSome (take_line p l) (Follows p l)
follows headed (opening n deal seats) good is = ((tt, refl, refl), refl)
follows headed (chosen p) good is = tt
follows headed (shuffled n) good is = tt
follows headed (ending e turn) good is = tt
follows headed (scored s) good is = tt
follows headed (ranked s) good is = tt
follows (playing before r) (opening n deal seats) good is = tt
follows (playing before r) (chosen p) good is = (
  (good.0, good.1, good.2),
  one_more (flat_map record_lines before) (played_lines r) (played_lines (with_pick r p)) (chosen p)
      (ap (λ (t : List Line). opening r.number r.deal r.seats ∷ t) (map_more chosen r.picks p)),
)
follows (playing before r) (shuffled n) good is = (
  (good.0, good.1),
  one_more (flat_map record_lines before) (played_lines r) (told_lines (with_shuffles r n)) (shuffled n)
      (ap (λ t. played_lines r ++ t) (told_some n is.0)),
)
follows (playing before r) (ending e turn) good is = (
  (good.0, good.1),
  one_more (flat_map record_lines before) (played_lines r) (ended_lines (with_end r e turn)) (ending e turn)
      (ap (λ k. (played_lines r ++ shuffles_told k) ++ ending e turn ∷ []) good.2 ∙ ap (λ t. t ++ ending e turn ∷ []) (append-nil (played_lines r))),
)
follows (playing before r) (scored s) good is = tt
follows (playing before r) (ranked s) good is = tt
follows (told before r) (opening n deal seats) good is = tt
follows (told before r) (chosen p) good is = tt
follows (told before r) (shuffled n) good is = tt
follows (told before r) (ending e turn) good is = (
  (good.0, good.1),
  one_more (flat_map record_lines before) (told_lines r) (ended_lines (with_end r e turn)) (ending e turn) refl,
)
follows (told before r) (scored s) good is = tt
follows (told before r) (ranked s) good is = tt
follows (stopped before r) (opening n deal seats) good is = tt
follows (stopped before r) (chosen p) good is = tt
follows (stopped before r) (shuffled n) good is = tt
follows (stopped before r) (ending e turn) good is = tt
follows (stopped before r) (scored s) good is = (
  (good.0, not_nil r.scores s),
  one_more (flat_map record_lines before) (ended_lines r) (record_lines (with_score r s)) (scored s)
      (ap (λ xs. ended_lines r ++ map scored (xs ++ s ∷ [])) good.1),
)
follows (stopped before r) (ranked s) good is = tt
follows (scoring before r) (opening n deal seats) good is = (
  (scored_more before r good.0 good.1, refl, refl),
  ap (λ t. t ++ opening n deal seats ∷ []) (records_more before r),
)
follows (scoring before r) (chosen p) good is = tt
follows (scoring before r) (shuffled n) good is = tt
follows (scoring before r) (ending e turn) good is = tt
follows (scoring before r) (scored s) good is = (
  (good.0, not_nil r.scores s),
  one_more (flat_map record_lines before) (record_lines r) (record_lines (with_score r s)) (scored s)
      (ap (λ t. ended_lines r ++ t) (map_more scored r.scores s) ∙ sym (append_assoc (ended_lines r) (map scored r.scores) (scored s ∷ []))),
)
follows (scoring before r) (ranked s) good is = (
  (scored_more before r good.0 good.1, not_nil before r, not_nil [] s),
  ap (λ t. t ++ ranked s ∷ []) (records_more before r),
)
follows (ranking matches standings) (opening n deal seats) good is = tt
follows (ranking matches standings) (chosen p) good is = tt
follows (ranking matches standings) (shuffled n) good is = tt
follows (ranking matches standings) (ending e turn) good is = tt
follows (ranking matches standings) (scored s) good is = tt
follows (ranking matches standings) (ranked s) good is = (
  (good.0, good.1, not_nil standings s),
  one_more (flat_map record_lines matches) (map ranked standings) (map ranked (standings ++ s ∷ [])) (ranked s) (map_more ranked standings s),
)

-- ---- runs

abbrev Reaches : Place → List Line → Place → Type 0
Reaches p ls q = IsGood q × (lines_at q ≡ lines_at p ++ ls)

pub run_good : (p : Place) (ls : List Line) (q : Place) → IsGood p → AllByRecursion IsInRange ls → run take_line p ls ≡ Some q → Reaches p ls q
run_good p [] q good all e = subst (Reaches p []) (some_is p q e) (good, sym (append-nil (lines_at p)))
run_good p (l ∷ ls) q good all e =
    let a = bind_some (take_line p l) (λ q. run take_line q ls) q e in
    let f : Follows p l a.0 = subst (λ o. IfSome o (Follows p l)) a.1 (follows p l good all.0) in
    let r = run_good a.0 ls q f.0 all.1 a.2 in
    (r.0, r.1 ∙ ap (λ t. t ++ ls) f.1 ∙ append_assoc (lines_at p) (l ∷ []) ls)

-- what is whole is a text
abbrev IsWhole : Place → HouseText → Type 0
IsWhole q t = AllByRecursion HasScores t.matches × (t.matches ≢ []) × (t.standings ≢ []) × (lines_of t ≡ lines_at q)

pub whole_good : (q : Place) (marks : List (List Bound)) (n : NamedText) → IsGood q → whole_at q marks ≡ Some n → IsWhole q n.text × (n.marks ≡ marks)
whole_good headed marks n good e = absurd cc
whole_good (playing before r) marks n good e = absurd cc
whole_good (told before r) marks n good e = absurd cc
whole_good (stopped before r) marks n good e = absurd cc
whole_good (scoring before r) marks n good e = absurd cc
whole_good (ranking matches standings) marks n good e =
    subst (λ (n : NamedText). IsWhole (ranking matches standings) n.text × (n.marks ≡ marks))
    (some_is (record { text = record { matches = matches; standings = standings }; marks = marks }) n e)
    ((good.0, good.1, good.2, refl), refl)

-- each place leads to a whole text
abbrev last_lines : List Line
last_lines =
    scored (record { player = 0; score = pos 0; points = 0 }) ∷ ranked (record { place = 1; strategy = 0; points = 0 }) ∷ []

abbrev end_lines : List Line
end_lines = ending done 0 ∷ last_lines

abbrev match_lines : List Line
match_lines = opening 0 0 0 ∷ end_lines

pub record Finishes (p : Place) : Type 0 where
  pub more : List Line
  pub matches : List Record
  pub standings : List Standing
  pub leads : run take_line p more ≡ Some (ranking matches standings)
  pub ranges : AllByRecursion (λ l. IsInRange l × HasMarks true l None) more

pub finishes : (p : Place) → Finishes p
finishes headed = record { more = match_lines; matches = _; standings = _; leads = refl; ranges = search rules }
finishes (playing before r) = record { more = end_lines; matches = _; standings = _; leads = refl; ranges = search rules }
finishes (told before r) = record { more = end_lines; matches = _; standings = _; leads = refl; ranges = search rules }
finishes (stopped before r) = record { more = last_lines; matches = _; standings = _; leads = refl; ranges = search rules }
finishes (scoring before r) = record { more = last_lines; matches = _; standings = _; leads = refl; ranges = search rules }
finishes (ranking matches standings) = record { more = []; matches = _; standings = _; leads = refl; ranges = search rules }

-- ---- each text is taken

abbrev pub add_picks : Record → List Pick → Record
add_picks r picks =
    record { number = r.number; deal = r.deal; seats = r.seats; picks = r.picks ++ picks; shuffles = r.shuffles; ending = r.ending; turn = r.turn; scores = r.scores }

abbrev pub add_scores : Record → List Score → Record
add_scores r scores =
    record { number = r.number; deal = r.deal; seats = r.seats; picks = r.picks; shuffles = r.shuffles; ending = r.ending; turn = r.turn; scores = r.scores ++ scores }

run_picks : (before : List Record) (r : Record) (picks : List Pick) (more : List Line) →
    run take_line (playing before r) (map chosen picks ++ more) ≡ run take_line (playing before (add_picks r picks)) more
run_picks before r [] more =
    ap (λ (ps : List Pick). run take_line (playing before (record { number = r.number; deal = r.deal; seats = r.seats; picks = ps; shuffles = r.shuffles; ending = r.ending; turn = r.turn; scores = r.scores })) more) (sym (append-nil r.picks))
run_picks before r (p ∷ picks) more =
    run_picks before (with_pick r p) picks more
    ∙ ap (λ (ps : List Pick). run take_line (playing before (record { number = r.number; deal = r.deal; seats = r.seats; picks = ps; shuffles = r.shuffles; ending = r.ending; turn = r.turn; scores = r.scores })) more) (append_assoc r.picks (p ∷ []) picks)

run_scores : (before : List Record) (r : Record) (scores : List Score) (more : List Line) →
    run take_line (scoring before r) (map scored scores ++ more) ≡ run take_line (scoring before (add_scores r scores)) more
run_scores before r [] more =
    ap (λ (xs : List Score). run take_line (scoring before (record { number = r.number; deal = r.deal; seats = r.seats; picks = r.picks; shuffles = r.shuffles; ending = r.ending; turn = r.turn; scores = xs })) more) (sym (append-nil r.scores))
run_scores before r (s ∷ scores) more =
    run_scores before (with_score r s) scores more
    ∙ ap (λ (xs : List Score). run take_line (scoring before (record { number = r.number; deal = r.deal; seats = r.seats; picks = r.picks; shuffles = r.shuffles; ending = r.ending; turn = r.turn; scores = xs })) more) (append_assoc r.scores (s ∷ []) scores)

run_standings : (matches : List Record) (standings more : List Standing) →
    run take_line (ranking matches standings) (map ranked more) ≡ Some (ranking matches (standings ++ more))
run_standings matches standings [] = ap (λ t. Some (ranking matches t)) (sym (append-nil standings))
run_standings matches standings (s ∷ more) =
    run_standings matches (standings ++ s ∷ []) more ∙ ap (λ t. Some (ranking matches t)) (append_assoc standings (s ∷ []) more)

run_first_score : (before : List Record) (r : Record) (scores : List Score) (more : List Line) → r.scores ≡ [] → scores ≢ [] →
    run take_line (stopped before r) (map scored scores ++ more) ≡ run take_line (scoring before (add_scores r scores)) more
run_first_score before r [] more none has = absurd (has refl)
run_first_score before r (s ∷ scores) more none has =
    run_scores before (with_score r s) scores more
    ∙ ap (λ (xs : List Score). run take_line (scoring before (record { number = r.number; deal = r.deal; seats = r.seats; picks = r.picks; shuffles = r.shuffles; ending = r.ending; turn = r.turn; scores = xs })) more) (append_assoc r.scores (s ∷ []) scores)

run_told : (none : Bool) (before : List Record) (r : Record) (n : ℕ) (e : Ending) (turn : ℕ) (more : List Line) → (n == 0) ≡ none → r.shuffles ≡ 0 →
    run take_line (playing before r) ((if none then [] else shuffled n ∷ []) ++ ending e turn ∷ more) ≡ run take_line (stopped before (with_end (with_shuffles r n) e turn)) more
run_told true before r n e turn more is zero-told =
    ap (λ k. run take_line (stopped before (with_end (with_shuffles r k) e turn)) more) (zero-told ∙ sym (eqb-true n 0 is))
run_told false before r n e turn more is zero-told = refl

run_record : (before : List Record) (r : Record) (more : List Line) → HasScores r →
    run take_line (playing before (opened r.number r.deal r.seats)) (map chosen r.picks ++ (shuffles_told r.shuffles ++ (ending r.ending r.turn ∷ (map scored r.scores ++ more))))
    ≡ run take_line (scoring before r) more
run_record before r more has =
    let o = opened r.number r.deal r.seats in
    let p = add_picks o r.picks in
    let q = with_end (with_shuffles p r.shuffles) r.ending r.turn in
    run_picks before o r.picks (shuffles_told r.shuffles ++ (ending r.ending r.turn ∷ (map scored r.scores ++ more)))
    ∙ run_told (r.shuffles == 0) before p r.shuffles r.ending r.turn (map scored r.scores ++ more) refl refl
    ∙ run_first_score before q r.scores more refl has

pub record_apart : (r : Record) (more : List Line) →
    record_lines r ++ more
    ≡ opening r.number r.deal r.seats ∷ (map chosen r.picks ++ (shuffles_told r.shuffles ++ (ending r.ending r.turn ∷ (map scored r.scores ++ more))))
record_apart r more =
    append_assoc (ended_lines r) (map scored r.scores) more
    ∙ append_assoc (told_lines r) (ending r.ending r.turn ∷ []) (map scored r.scores ++ more)
    ∙ append_assoc (played_lines r) (shuffles_told r.shuffles) (ending r.ending r.turn ∷ (map scored r.scores ++ more))

run_matches : (before : List Record) (r : Record) (matches : List Record) (s : Standing) (more : List Line) → AllByRecursion HasScores matches →
    run take_line (scoring before r) (flat_map record_lines matches ++ (ranked s ∷ more)) ≡ run take_line (ranking ((before ++ r ∷ []) ++ matches) (s ∷ [])) more
run_matches before r [] s more all = ap (λ t. run take_line (ranking t (s ∷ [])) more) (sym (append-nil (before ++ r ∷ [])))
run_matches before r (r' ∷ matches) s more all =
    ap (run take_line (scoring before r)) (append_assoc (record_lines r') (flat_map record_lines matches) (ranked s ∷ more) ∙ record_apart r' (flat_map record_lines matches ++ (ranked s ∷ more)))
    ∙ run_record (before ++ r ∷ []) r' (flat_map record_lines matches ++ (ranked s ∷ more)) all.0
    ∙ run_matches (before ++ r ∷ []) r' matches s more all.1
    ∙ ap (λ t. run take_line (ranking t (s ∷ [])) more) (append_assoc (before ++ r ∷ []) (r' ∷ []) matches)

run_text : (matches : List Record) (standings : List Standing) → matches ≢ [] → standings ≢ [] → AllByRecursion HasScores matches →
    run take_line headed (lines_of (record { matches = matches; standings = standings })) ≡ Some (ranking matches standings)
run_text [] standings ne ne' all = absurd (ne refl)
run_text (r ∷ matches) [] ne ne' all = absurd (ne' refl)
run_text (r ∷ matches) (s ∷ standings) ne ne' all =
    ap (run take_line headed) (append_assoc (record_lines r) (flat_map record_lines matches) (map ranked (s ∷ standings)) ∙ record_apart r (flat_map record_lines matches ++ map ranked (s ∷ standings)))
    ∙ run_record [] r (flat_map record_lines matches ++ map ranked (s ∷ standings)) all.0
    ∙ run_matches [] r matches s (map ranked standings) all.1
    ∙ run_standings (r ∷ matches) (s ∷ []) standings

pub text_taken : (t : HouseText) → t.matches ≢ [] → t.standings ≢ [] → AllByRecursion HasScores t.matches → run take_line headed (lines_of t) ≡ Some (ranking t.matches t.standings)
text_taken t some some' scores = run_text t.matches t.standings some some' scores
