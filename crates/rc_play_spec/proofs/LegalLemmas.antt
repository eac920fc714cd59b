-- A text has no illegal line exactly where it is legal: by the rows, and then by the parts of a text.
use Rattle.std.proofs.Common.{◌≡◌, ◌≢◌, ℕ, zero, suc, ◌+◌, ◌<◌, ◌≤◌, ◌==◌, nat_lt, Bool, true, false, not, if◌then◌else◌, ◌&&◌, ◌||◌, List, [], ◌∷◌, ◌++◌, append_assoc, append-nil, length, slice_get, Option, Some, None, Ok, Err, refl, sym, ap, ◌∙◌, subst, arith, eqb-true, ltb-true, ltb-false}
use Rattle.std.specs.Ordering.{int_eq}
use Rattle.std.proofs.lemmas.Bool.{eq-eqb, lt-ltb, le-ltb, and_from}
use Rattle.std.proofs.lemmas.Bool.Decides.{Decides-int_eq}
use Rattle.std.proofs.lemmas.List.{length-append}
use Rattle.std.proofs.lemmas.List.FromFn.{length-map-range_with_len}
use Rattle.rc_base.specs.Transcript.{Pick, Ending, done, limit, Score, Record, Standing}
use Rattle.rc_play_spec.specs.ItemBounds.{Bound}
use Rattle.rc_play_spec.specs.Bounds.{are_bounds}
use Rattle.rc_play_spec.specs.Naming.{marks_there}
use Rattle.rc_play_spec.specs.HouseText.{NamedText, first_marks, later_marks, IsText}
use Rattle.rc_play_spec.specs.Control.{Control}
use Rattle.rc_play_spec.specs.Table.{Table}
use Rattle.rc_play_spec.specs.About.{About, menu_at}
use Rattle.rc_play_spec.specs.Effects.{Dealing}
use Rattle.rc_play_spec.specs.Step.{Part, turn, Config, Stop, decide, is_done, is_limit, start}
use Rattle.rc_play_spec.specs.Stop.{Stopped, stop_of}
use Rattle.rc_play_spec.specs.Decision.{choose, choose_first}
use Rattle.rc_play_spec.specs.Play.{from_stop, stop_behind, follow, pick_at, stop_for}
use Rattle.rc_play_spec.specs.Scores.{scores_of, score_at}
use Rattle.rc_play_spec.specs.Plan.{Plan, deal_at}
use Rattle.rc_play_spec.specs.House.{standings_of}
use Rattle.rc_play_spec.proofs.StopLemmas.{comes_to_stop}
use Rattle.rc_play_spec.proofs.Faces.{both_true}
use Rattle.rc_play_spec.proofs.ChoiceLemmas.{choice_goes}
use Rattle.rc_play_spec.specs.Why.{Why, Illegal, by_match, by_shuffle, by_seat, by_menu, by_item, by_name, by_end, by_score, by_standing}
use Rattle.rc_play_spec.specs.Rows.{unless, ◌or◌, has_ended, is_ending, lacking_row, opening_row, decision_row, stopped_row, named_row, chosen_row, shuffled_row, ending_row, is_score, is_the_score, scores_at, scored_row, is_standing, is_the_standing, further_row, ranked_row, end_row}
use Rattle.rc_play_spec.specs.Judged.{at_line, play_after}
use Rattle.rc_play_spec.specs.Along.{Judging, Picked, on_row, and_then, or_illegal, told_along, scores_along, end_along, standings_along, next_stop, picks_along, body_along, record_along, matches_along, judged, marks_from, marks_over}
use Rattle.rc_play_spec.specs.Legal.{IsMade, Leads, IsRecordOfPlay, AreRecords, IsLegal, HasItsMarks, IsLegalText}
use Rattle.rc_play_spec.proofs.FieldLemmas.{ok_is, if_true}
pub use Rattle.rc_play_spec.proofs.FieldLemmas.{some_is}
use Rattle.rc_play_spec.proofs.Marks.{bounds_are, bounds_themselves}
use Rattle.rc_play_spec.proofs.Fitting.{picks_in, enough_marks, no_more_marks, never_marks}
use Rattle.rc_play_spec.proofs.WhyRows.{unless_none, or_none, on_row_ok, and_ok, or_ok, at_line_none}

-- ---- where no row applies, judging goes on

unless_true : (b : Bool) (w : Why) → b ≡ true → unless b w ≡ None
unless_true true w e = refl
unless_true false w e = absurd cc

pub neither : (a b : Option Why) → a ≡ None → b ≡ None → (a or b) ≡ None
neither None b e f = f
neither (Some w) b e f = absurd cc

pub on_row_none : {A : Type 0} (n : ℕ) (o : Option Why) (later : Judging A) → o ≡ None → on_row n o later ≡ later
on_row_none n None later e = refl
on_row_none n (Some w) later e = absurd cc

pub and_on : {A B : Type 0} (x : Judging A) (f : A → Judging B) (z : A) → x ≡ Ok z → and_then x f ≡ f z
and_on (Ok y) f z e = ap f (ok_is y z e)
and_on (Err w) f z e = absurd cc

pub or_on : {A : Type 0} (x : Judging A) (f : A → Option Illegal) (z : A) → x ≡ Ok z → or_illegal x f ≡ f z
or_on (Ok y) f z e = ap f (ok_is y z e)
or_on (Err w) f z e = absurd cc

pub at_line_on : (n : ℕ) (o : Option Why) (later : Option Illegal) → o ≡ None → at_line n o later ≡ later
at_line_on n None later e = refl
at_line_on n (Some w) later e = absurd cc

not_less : (a b : ℕ) → not (nat_lt a b) ≡ true → b ≤ a
not_less a b e = ltb-false a b (turned (nat_lt a b) e)
  where
    turned : (b : Bool) → not b ≡ true → b ≡ false
    turned true e = absurd cc
    turned false e = refl

less_not : (a b : ℕ) → b ≤ a → not (nat_lt a b) ≡ true
less_not a b le = ap not (le-ltb a b le)

-- ---- what stands at each place of a list from the k-th on

abbrev StandAt : {A : Type 0} → List A → ℕ → List A → Type 0
StandAt all k [] = Unit {0}
StandAt all k (x ∷ xs) = (slice_get all k ≡ Some x) × StandAt all (k + 1) xs

-- what is behind the first k
abbrev rest_of : {A : Type 0} → ℕ → List A → List A
rest_of zero all = all
rest_of (suc k) [] = []
rest_of (suc k) (x ∷ all) = rest_of k all

no_rest : {A : Type 0} (k : ℕ) (all : List A) → length all ≤ k → rest_of k all ≡ []
no_rest zero [] le = refl
no_rest zero (x ∷ all) le = absurd (omega (arith, le))
no_rest (suc k) [] le = refl
no_rest (suc k) (x ∷ all) le = no_rest k all (omega (arith, le))

one_of_rest : {A : Type 0} (all : List A) (k : ℕ) (x : A) → slice_get all k ≡ Some x → rest_of k all ≡ x ∷ rest_of (k + 1) all
one_of_rest [] k x e = absurd cc
one_of_rest (y ∷ all) zero x e = ap (λ z. z ∷ all) (some_is y x e)
one_of_rest (y ∷ all) (suc k) x e =
    let same : suc (k + 1) ≡ suc k + 1 = omega arith in
    one_of_rest all k x e ∙ ap (λ i. x ∷ rest_of i (y ∷ all)) same

-- up to the end it is the whole rest
whole_rest : {A : Type 0} (all : List A) (k : ℕ) (xs : List A) → StandAt all k xs → length all ≤ k + length xs → rest_of k all ≡ xs
whole_rest all k [] are le = no_rest k all (omega (arith, le))
whole_rest all k (x ∷ xs) are le = one_of_rest all k x are.0 ∙ ap (λ t. x ∷ t) (whole_rest all (k + 1) xs are.1 (omega (arith, le)))

one_later : {A : Type 0} (y : A) (all : List A) (k : ℕ) (xs : List A) → StandAt all k xs → StandAt (y ∷ all) (suc k) xs
one_later y all k [] are = tt
one_later y all k (x ∷ xs) are =
    let same : suc (k + 1) ≡ suc k + 1 = omega arith in
    (are.0, subst (λ i. StandAt (y ∷ all) i xs) same (one_later y all (k + 1) xs are.1))

stand_there : {A : Type 0} (xs : List A) → StandAt xs 0 xs
stand_there [] = tt
stand_there (x ∷ xs) = (refl, one_later x xs 0 xs (stand_there xs))

-- ---- lines that tell what they should

score_is : (s t : Score) → is_score s t ≡ true → t ≡ s
score_is s t e =
    let a = both_true (s.player == t.player && int_eq s.score t.score) (s.points == t.points) e in
    let b = both_true (s.player == t.player) (int_eq s.score t.score) a.0 in
    let player : s.player ≡ t.player = eqb-true s.player t.player b.0 in
    let score : s.score ≡ t.score = (Decides-int_eq s.score t.score).0 b.1 in
    let points : s.points ≡ t.points = eqb-true s.points t.points a.1 in
    sym (λ i. record { player = player i; score = score i; points = points i })

score_itself : (s : Score) → is_score s s ≡ true
score_itself s =
    and_from (s.player == s.player && int_eq s.score s.score) (s.points == s.points)
    (and_from (s.player == s.player) (int_eq s.score s.score) (eq-eqb s.player s.player refl) ((Decides-int_eq s.score s.score).1 refl))
    (eq-eqb s.points s.points refl)

the_score : (s : Score) (o : Option Score) → is_the_score s o ≡ true → o ≡ Some s
the_score s None e = absurd cc
the_score s (Some t) e = ap (λ x. Some x) (score_is s t e)

score_there : (s : Score) (o : Option Score) → o ≡ Some s → is_the_score s o ≡ true
score_there s o e = ap (is_the_score s) e ∙ score_itself s

standing_is : (s t : Standing) → is_standing s t ≡ true → t ≡ s
standing_is s t e =
    let a = both_true (s.place == t.place && s.strategy == t.strategy) (s.points == t.points) e in
    let b = both_true (s.place == t.place) (s.strategy == t.strategy) a.0 in
    let place : s.place ≡ t.place = eqb-true s.place t.place b.0 in
    let strategy : s.strategy ≡ t.strategy = eqb-true s.strategy t.strategy b.1 in
    let points : s.points ≡ t.points = eqb-true s.points t.points a.1 in
    sym (λ i. record { place = place i; strategy = strategy i; points = points i })

standing_itself : (s : Standing) → is_standing s s ≡ true
standing_itself s =
    and_from (s.place == s.place && s.strategy == s.strategy) (s.points == s.points)
    (and_from (s.place == s.place) (s.strategy == s.strategy) (eq-eqb s.place s.place refl) (eq-eqb s.strategy s.strategy refl))
    (eq-eqb s.points s.points refl)

the_standing : (s : Standing) (o : Option Standing) → is_the_standing s o ≡ true → o ≡ Some s
the_standing s None e = absurd cc
the_standing s (Some t) e = ap (λ x. Some x) (standing_is s t e)

standing_there : (s : Standing) (o : Option Standing) → o ≡ Some s → is_the_standing s o ≡ true
standing_there s o e = ap (is_the_standing s) e ∙ standing_itself s

-- ---- score lines

scores_forth : (about : About) (n k : ℕ) (at : Stopped ℕ) (scores : List Score) (x : ℕ) → scores_along about n (Some at) k scores ≡ Ok x →
    StandAt (scores_at about at.config) k scores
scores_forth about n k at [] x e = tt
scores_forth about n k at (s ∷ scores) x e =
    let r = on_row_ok n (scored_row about (Some at) k s) (scores_along about (n + 1) (Some at) (k + 1) scores) x e in
    (the_score s (slice_get (scores_at about at.config) k) (unless_none _ by_score r.0), scores_forth about (n + 1) (k + 1) at scores x r.1)

scores_back : (about : About) (n k : ℕ) (at : Stopped ℕ) (scores : List Score) → StandAt (scores_at about at.config) k scores →
    (x : ℕ) × (scores_along about n (Some at) k scores ≡ Ok x)
scores_back about n k at [] are = (n, refl)
scores_back about n k at (s ∷ scores) are =
    let later = scores_back about (n + 1) (k + 1) at scores are.1 in (
      later.0,
      on_row_none n (scored_row about (Some at) k s) (scores_along about (n + 1) (Some at) (k + 1) scores)
          (unless_true _ by_score (score_there s (slice_get (scores_at about at.config) k) are.0)) ∙ later.1,
    )

-- ---- shuffles and end lines

ending_is : (e : Ending) (stop : Stop) → is_ending e stop ≡ true → stop ≡ stop_for e
ending_is e (decide seat site) is = absurd cc
ending_is done is_done is = refl
ending_is done is_limit is = absurd cc
ending_is limit is_done is = absurd cc
ending_is limit is_limit is = refl

ending_itself : (e : Ending) → (has_ended (stop_for e) ≡ true) × (is_ending e (stop_for e) ≡ true)
ending_itself done = (refl, refl)
ending_itself limit = (refl, refl)

told_forth : (none : Bool) (n k : ℕ) (at : Stopped ℕ) (x : ℕ) → (k == 0) ≡ none →
    (if none then Ok n else on_row n (shuffled_row (Some at) k) (Ok (n + 1))) ≡ Ok x → (not none || at.dealer == 0) ≡ true → k ≡ at.dealer
told_forth true n k at x is e there = eqb-true k 0 is ∙ sym (eqb-true at.dealer 0 there)
told_forth false n k at x is e there =
    let r = on_row_ok n (shuffled_row (Some at) k) (Ok (n + 1)) x e in
    eqb-true k at.dealer (unless_none _ by_shuffle (or_none (unless (has_ended at.stop) by_end) (unless (k == at.dealer) by_shuffle) r.0).1)

told_back : (none : Bool) (n k : ℕ) (at : Stopped ℕ) → has_ended at.stop ≡ true → k ≡ at.dealer →
    (x : ℕ) × ((if none then Ok n else on_row n (shuffled_row (Some at) k) (Ok (n + 1))) ≡ Ok x)
told_back true n k at ended same = (n, refl)
told_back false n k at ended same = (
  n + 1,
  on_row_none n (shuffled_row (Some at) k) (Ok (n + 1))
      (neither (unless (has_ended at.stop) by_end) (unless (k == at.dealer) by_shuffle) (unless_true _ by_end ended) (unless_true _ by_shuffle (eq-eqb k at.dealer same))),
)

either : (b : Bool) → (not b || b) ≡ true
either true = refl
either false = refl

told_same : (told k : ℕ) → told ≡ k → (not (told == 0) || k == 0) ≡ true
told_same told k e = subst (λ k. (not (told == 0) || k == 0) ≡ true) e (either (told == 0))

-- what a record tells behind its choices
record Tells (about : About) (at : Stopped ℕ) (r : Record) : Type 0 where
  stop : at.stop ≡ stop_for r.ending
  shuffles : r.shuffles ≡ at.dealer
  turn : r.turn ≡ at.config.control.turn
  scores : StandAt (scores_at about at.config) 0 r.scores

end_forth : (about : About) (n : ℕ) (at : Stopped ℕ) (r : Record) (x : ℕ) → end_along about n (Some at) r ≡ Ok x → Tells about at r
end_forth about n at r x e =
    let scores : ℕ → Judging ℕ = λ n'. scores_along about (n' + 1) (Some at) 0 r.scores in
    let row = ending_row (Some at) r.shuffles r.ending r.turn in
    let told = and_ok (told_along n (Some at) r.shuffles) (λ n'. on_row n' row (scores n')) x e in
    let end = on_row_ok told.0 row (scores told.0) x told.2 in
    let a = or_none (unless (has_ended at.stop) by_end or unless (not (r.shuffles == 0) || at.dealer == 0) by_shuffle)
    (unless (is_ending r.ending at.stop && r.turn == at.config.control.turn) by_end) end.0 in
    let b = or_none (unless (has_ended at.stop) by_end) (unless (not (r.shuffles == 0) || at.dealer == 0) by_shuffle) a.0 in
    let c = both_true (is_ending r.ending at.stop) (r.turn == at.config.control.turn) (unless_none _ by_end a.1) in
    record {
      stop = ending_is r.ending at.stop c.0;
      shuffles = told_forth (r.shuffles == 0) n r.shuffles at told.0 refl told.1 (unless_none _ by_shuffle b.1);
      turn = eqb-true r.turn at.config.control.turn c.1;
      scores = scores_forth about (told.0 + 1) 0 at r.scores x end.1;
    }

end_back : (about : About) (n : ℕ) (at : Stopped ℕ) (r : Record) → Tells about at r → (x : ℕ) × (end_along about n (Some at) r ≡ Ok x)
end_back about n at r tells =
    let scores : ℕ → Judging ℕ = λ n'. scores_along about (n' + 1) (Some at) 0 r.scores in
    let row = ending_row (Some at) r.shuffles r.ending r.turn in
    let itself = ending_itself r.ending in
    let ended : has_ended at.stop ≡ true = ap has_ended tells.stop ∙ itself.0 in
    let told = told_back (r.shuffles == 0) n r.shuffles at ended tells.shuffles in
    let later = scores_back about (told.0 + 1) 0 at r.scores tells.scores in
    let none : row ≡ None =
    neither (unless (has_ended at.stop) by_end or unless (not (r.shuffles == 0) || at.dealer == 0) by_shuffle)
    (unless (is_ending r.ending at.stop && r.turn == at.config.control.turn) by_end)
    (neither (unless (has_ended at.stop) by_end) (unless (not (r.shuffles == 0) || at.dealer == 0) by_shuffle)
    (unless_true _ by_end ended) (unless_true _ by_shuffle (told_same r.shuffles at.dealer tells.shuffles)))
    (unless_true _ by_end
    (and_from (is_ending r.ending at.stop) (r.turn == at.config.control.turn) (ap (is_ending r.ending) tells.stop ∙ itself.1) (eq-eqb r.turn at.config.control.turn tells.turn))) in (
      later.0,
      and_on (told_along n (Some at) r.shuffles) (λ n'. on_row n' row (scores n')) told.0 told.1
          ∙ on_row_none told.0 row (scores told.0) none ∙ later.1,
    )

-- ---- standing lines

standings_forth : (plan : Plan) (n : ℕ) (matches : List Record) (k : ℕ) (standings : List Standing) → standings_along plan n matches k standings ≡ None →
    StandAt (standings_of plan matches) k standings × (length (standings_of plan matches) ≤ k + length standings)
standings_forth plan n matches k [] e =
    let r = at_line_none n (end_row plan matches k) None e in
    (tt, omega (arith, not_less k (length (standings_of plan matches)) (unless_none _ by_standing r.0)))
standings_forth plan n matches k (s ∷ standings) e =
    let r = at_line_none n (ranked_row plan matches k s) (standings_along plan (n + 1) matches (k + 1) standings) e in
    let row = or_none (further_row plan matches) (unless (is_the_standing s (slice_get (standings_of plan matches) k)) by_standing) r.0 in
    let later = standings_forth plan (n + 1) matches (k + 1) standings r.1 in
    ((the_standing s (slice_get (standings_of plan matches) k) (unless_none _ by_standing row.1), later.0), omega (arith, later.1))

further_forth : (plan : Plan) (n : ℕ) (matches : List Record) (k : ℕ) (standings : List Standing) → standings ≢ [] →
    standings_along plan n matches k standings ≡ None → length plan.matches ≤ length matches
further_forth plan n matches k [] some e = absurd (some refl)
further_forth plan n matches k (s ∷ standings) some e =
    let r = at_line_none n (ranked_row plan matches k s) (standings_along plan (n + 1) matches (k + 1) standings) e in
    let row = or_none (further_row plan matches) (unless (is_the_standing s (slice_get (standings_of plan matches) k)) by_standing) r.0 in
    not_less (length matches) (length plan.matches) (unless_none _ by_match row.0)

standings_back : (plan : Plan) (n : ℕ) (matches : List Record) (k : ℕ) (standings : List Standing) → length plan.matches ≤ length matches →
    StandAt (standings_of plan matches) k standings → length (standings_of plan matches) ≤ k + length standings →
    standings_along plan n matches k standings ≡ None
standings_back plan n matches k [] all are le =
    at_line_on n (end_row plan matches k) None (unless_true _ by_standing (less_not k (length (standings_of plan matches)) (omega (arith, le))))
standings_back plan n matches k (s ∷ standings) all are le =
    at_line_on n (ranked_row plan matches k s) (standings_along plan (n + 1) matches (k + 1) standings)
    (neither (further_row plan matches) (unless (is_the_standing s (slice_get (standings_of plan matches) k)) by_standing)
    (unless_true _ by_match (less_not (length matches) (length plan.matches) all))
    (unless_true _ by_standing (standing_there s (slice_get (standings_of plan matches) k) are.0)))
    ∙ standings_back plan (n + 1) matches (k + 1) standings all are.1 (omega (arith, le))

-- ---- match lines

opening_forth : (plan : Plan) (m : ℕ) (r : Record) → opening_row plan m r.number r.deal r.seats ≡ None →
    (m < length plan.matches) × (r.number ≡ m) × (r.deal ≡ (deal_at plan m).deal) × (r.seats ≡ (deal_at plan m).seats)
opening_forth plan m r e =
    let a = both_true (nat_lt m (length plan.matches) && r.number == m && r.deal == (deal_at plan m).deal) (r.seats == (deal_at plan m).seats) (unless_none _ by_match e) in
    let b = both_true (nat_lt m (length plan.matches) && r.number == m) (r.deal == (deal_at plan m).deal) a.0 in
    let c = both_true (nat_lt m (length plan.matches)) (r.number == m) b.0 in
    (ltb-true m (length plan.matches) c.0, eqb-true r.number m c.1, eqb-true r.deal (deal_at plan m).deal b.1, eqb-true r.seats (deal_at plan m).seats a.1)

opening_back : (plan : Plan) (m : ℕ) (r : Record) → m < length plan.matches → r.number ≡ m → r.deal ≡ (deal_at plan m).deal → r.seats ≡ (deal_at plan m).seats →
    opening_row plan m r.number r.deal r.seats ≡ None
opening_back plan m r lt number deal seats =
    unless_true _ by_match
    (and_from (nat_lt m (length plan.matches) && r.number == m && r.deal == (deal_at plan m).deal) (r.seats == (deal_at plan m).seats)
    (and_from (nat_lt m (length plan.matches) && r.number == m) (r.deal == (deal_at plan m).deal)
    (and_from (nat_lt m (length plan.matches)) (r.number == m) (lt-ltb m (length plan.matches) lt) (eq-eqb r.number m number))
    (eq-eqb r.deal (deal_at plan m).deal deal))
    (eq-eqb r.seats (deal_at plan m).seats seats))

-- ---- choose lines

goes_behind : (about : About) (d : Dealing ℕ) (k x : ℕ) (left : List Part) (table : Table) (control : Control) →
    (next : Stopped ℕ) × (stop_behind about d (choose_first about d k x left table control) ≡ Some next)
goes_behind about d k x left table control =
    let g = choice_goes about d k x left table control in
    let s = comes_to_stop about d g.0 g.1 in
    (s.0, ap (stop_behind about d) g.2 ∙ s.1)

pub nothing_more : (about : About) (d : Dealing ℕ) (o : Option (Stopped ℕ)) → from_stop (follow about d []) o ≡ o
nothing_more about d None = refl
nothing_more about d (Some at) = refl

-- where an item of the menu is taken, the play goes on behind it
goes_on_there : (about : About) (d : Dealing ℕ) (p : Pick) (seat site : ℕ) (c : Config) (k : ℕ) → p.item < length (menu_at about site c.table c.control) →
    follow about d (p.item ∷ []) (decide seat site) c k ≡ stop_behind about d (choose about d k p.item c)
goes_on_there about d p seat site c k lt =
    if_true (nat_lt p.item (length (menu_at about site c.table c.control))) _ None (lt-ltb p.item (length (menu_at about site c.table c.control)) lt)
    ∙ nothing_more about d (stop_behind about d (choose about d k p.item c))

pub made_forth : (about : About) (p : Pick) (stop : Stop) (c : Config) → decision_row about p stop c ≡ None → IsMade about p stop c
made_forth about p is_done c e = absurd cc
made_forth about p is_limit c e = absurd cc
made_forth about p (decide seat site) c e =
    let size = length (menu_at about site c.table c.control) in
    let a = or_none (unless (p.seat == seat && p.site == site) by_seat or unless (p.size == size) by_menu) (unless (nat_lt p.item p.size) by_item) e in
    let b = or_none (unless (p.seat == seat && p.site == site) by_seat) (unless (p.size == size) by_menu) a.0 in
    let s = both_true (p.seat == seat) (p.site == site) (unless_none _ by_seat b.0) in
    let seat-is : p.seat ≡ seat = eqb-true p.seat seat s.0 in
    let site-is : p.site ≡ site = eqb-true p.site site s.1 in
    let size-is : p.size ≡ size = eqb-true p.size size (unless_none _ by_menu b.1) in
    let below = unless_none (nat_lt p.item p.size) by_item a.1 in
    let same : p ≡ pick_at about seat site p.item c = λ i. record { seat = seat-is i; site = site-is i; item = p.item; size = size-is i } in
    (same, ltb-true p.item p.size below)

made_back : (about : About) (p : Pick) (stop : Stop) (c : Config) → IsMade about p stop c → decision_row about p stop c ≡ None
made_back about p is_done c made = absurd made
made_back about p is_limit c made = absurd made
made_back about p (decide seat site) c made =
    let size = length (menu_at about site c.table c.control) in
    let seat-is : p.seat ≡ seat = ap (λ (p : Pick). p.seat) made.0 in
    let site-is : p.site ≡ site = ap (λ (p : Pick). p.site) made.0 in
    let size-is : p.size ≡ size = ap (λ (p : Pick). p.size) made.0 in
    neither (unless (p.seat == seat && p.site == site) by_seat or unless (p.size == size) by_menu) (unless (nat_lt p.item p.size) by_item)
    (neither (unless (p.seat == seat && p.site == site) by_seat) (unless (p.size == size) by_menu)
    (unless_true _ by_seat (and_from (p.seat == seat) (p.site == site) (eq-eqb p.seat seat seat-is) (eq-eqb p.site site site-is)))
    (unless_true _ by_menu (eq-eqb p.size size size-is)))
    (unless_true _ by_item (lt-ltb p.item p.size made.1))

pub made_goes_on : (about : About) (d : Dealing ℕ) (p : Pick) (stop : Stop) (c : Config) (k : ℕ) → IsMade about p stop c →
    follow about d (p.item ∷ []) stop c k ≡ stop_behind about d (choose about d k p.item c)
made_goes_on about d p is_done c k made = absurd made
made_goes_on about d p is_limit c k made = absurd made
made_goes_on about d p (decide seat site) c k made =
    goes_on_there about d p seat site c k (subst (λ n. p.item < n) (ap (λ (p : Pick). p.size) made.0) made.1)

module _ (about : About) (dealing : ℕ → Dealing ℕ) (plan : Plan) where
  -- ---- marks

  -- What choices take off marks: each takes the first, which are its own; where none are left it takes nothing.
  abbrev pub Uses : (m : ℕ) → Option (Stopped ℕ) → List Pick → List (List Bound) → List (List Bound) → Type 0
  Uses m at [] marks left = marks ≡ left
  Uses m at (p ∷ picks) [] left = Uses m (next_stop about dealing plan m at p) picks [] left
  Uses m at (p ∷ picks) (k ∷ marks) left = (k ≡ marks_there about at p) × Uses m (next_stop about dealing plan m at p) picks marks left

  uses_forth : (m : ℕ) (at : Option (Stopped ℕ)) (p : Pick) (picks : List Pick) (marks left : List (List Bound)) → named_row about at p (first_marks marks) ≡ None →
      Uses m (next_stop about dealing plan m at p) picks (later_marks marks) left → Uses m at (p ∷ picks) marks left
  uses_forth m at p picks [] left row more = more
  uses_forth m at p picks (k ∷ marks) left row more = (bounds_are k (marks_there about at p) (unless_none _ by_name row), more)

  uses_back : (m : ℕ) (at : Option (Stopped ℕ)) (p : Pick) (picks : List Pick) (marks left : List (List Bound)) → Uses m at (p ∷ picks) marks left →
      (named_row about at p (first_marks marks) ≡ None) × Uses m (next_stop about dealing plan m at p) picks (later_marks marks) left
  uses_back m at p picks [] left uses = (refl, uses)
  uses_back m at p picks (k ∷ marks) left uses =
      (unless_true _ by_name (subst (λ k. are_bounds k (marks_there about at p) ≡ true) (sym uses.0) (bounds_themselves (marks_there about at p))), uses.1)

  uses_none : (m : ℕ) (at : Option (Stopped ℕ)) (picks : List Pick) → Uses m at picks [] []
  uses_none m at [] = refl
  uses_none m at (p ∷ picks) = uses_none m (next_stop about dealing plan m at p) picks

  uses_own : (m : ℕ) (at : Option (Stopped ℕ)) (picks : List Pick) (left : List (List Bound)) → Uses m at picks (marks_from about dealing plan m at picks ++ left) left
  uses_own m at [] left = refl
  uses_own m at (p ∷ picks) left = (refl, uses_own m (next_stop about dealing plan m at p) picks left)

  own_used : (m : ℕ) (at : Option (Stopped ℕ)) (picks : List Pick) (marks left : List (List Bound)) → length picks ≤ length marks → Uses m at picks marks left →
      marks ≡ marks_from about dealing plan m at picks ++ left
  own_used m at [] marks left le uses = uses
  own_used m at (p ∷ picks) [] left le uses = absurd (omega (arith, le))
  own_used m at (p ∷ picks) (k ∷ marks) left le uses =
      let more = own_used m (next_stop about dealing plan m at p) picks marks left (omega (arith, le)) uses.1 in
      let own = uses.0 in
      λ i. own i ∷ more i

  pub one_each : (m : ℕ) (at : Option (Stopped ℕ)) (picks : List Pick) → length (marks_from about dealing plan m at picks) ≡ length picks
  one_each m at [] = refl
  one_each m at (p ∷ picks) = omega (arith, one_each m (next_stop about dealing plan m at p) picks)

  -- and what matches take
  abbrev pub AllUse : (m : ℕ) → List Record → List (List Bound) → List (List Bound) → Type 0
  AllUse m [] marks left = marks ≡ left
  AllUse m (r ∷ matches) marks left =
      (next : List (List Bound)) × Uses m (play_after about dealing plan m []) r.picks marks next × AllUse (m + 1) matches next left

  all_none : (m : ℕ) (matches : List Record) → AllUse m matches [] []
  all_none m [] = refl
  all_none m (r ∷ matches) = ([], uses_none m (play_after about dealing plan m []) r.picks, all_none (m + 1) matches)

  all_own : (m : ℕ) (matches : List Record) (left : List (List Bound)) → AllUse m matches (marks_over about dealing plan m matches ++ left) left
  all_own m [] left = refl
  all_own m (r ∷ matches) left =
      let at = play_after about dealing plan m [] in
      let own = marks_from about dealing plan m at r.picks in
      let more = marks_over about dealing plan (m + 1) matches in
      (more ++ left, subst (λ marks. Uses m at r.picks marks (more ++ left)) (sym (append_assoc own more left)) (uses_own m at r.picks (more ++ left)), all_own (m + 1) matches left)

  own_all : (m : ℕ) (matches : List Record) (marks left : List (List Bound)) → picks_in matches ≤ length marks → AllUse m matches marks left →
      marks ≡ marks_over about dealing plan m matches ++ left
  own_all m [] marks left le uses = uses
  own_all m (r ∷ matches) marks left le uses =
      let at = play_after about dealing plan m [] in
      let own = marks_from about dealing plan m at r.picks in
      let one : marks ≡ own ++ uses.0 = own_used m at r.picks marks uses.0 (omega (arith, le)) uses.1 in
      let a = ap length one in
      let b = length-append own uses.0 in
      let c = one_each m at r.picks in
      let more = own_all (m + 1) matches uses.0 left (omega (arith, le, a, b, c)) uses.2 in
      one ∙ ap (λ t. own ++ t) more ∙ sym (append_assoc own (marks_over about dealing plan (m + 1) matches) left)

  pub each_over : (m : ℕ) (matches : List Record) → length (marks_over about dealing plan m matches) ≡ picks_in matches
  each_over m [] = refl
  each_over m (r ∷ matches) =
      let at = play_after about dealing plan m [] in
      let a = length-append (marks_from about dealing plan m at r.picks) (marks_over about dealing plan (m + 1) matches) in
      let b = one_each m at r.picks in
      let c = each_over (m + 1) matches in
      omega (arith, a, b, c)

  -- ---- choices

  picks_forth : (m n : ℕ) (at : Stopped ℕ) (marks : List (List Bound)) (picks : List Pick) (x : Picked) →
      picks_along about dealing plan m n (Some at) marks picks ≡ Ok x →
      (end : Stopped ℕ) × Leads about (dealing (deal_at plan m).deal) picks at end × (x.1 ≡ Some end) × Uses m (Some at) picks marks x.2
  picks_forth m n at marks [] x e =
      let same = ok_is (n, Some at, marks) x e in
      (at, refl, sym (ap (λ (x : Picked). x.1) same), ap (λ (x : Picked). x.2) same)
  picks_forth m n at marks (p ∷ picks) x e =
      let d = dealing (deal_at plan m).deal in
      let stop = next_stop about dealing plan m (Some at) p in
      let r = on_row_ok n (chosen_row about (Some at) p (first_marks marks)) (picks_along about dealing plan m (n + 1) stop (later_marks marks) picks) x e in
      let rows = or_none (stopped_row about (Some at) p) (named_row about (Some at) p (first_marks marks)) r.0 in
      let made = made_forth about p at.stop at.config rows.0 in
      let next = goes_behind about d at.dealer p.item at.config.left at.config.table at.config.control in
      let there : stop ≡ Some next.0 = made_goes_on about d p at.stop at.config at.dealer made ∙ next.1 in
      let later = picks_forth m (n + 1) next.0 (later_marks marks) picks x
      (ap (λ o. picks_along about dealing plan m (n + 1) o (later_marks marks) picks) (sym there) ∙ r.1) in
      let uses = subst (λ o. Uses m o picks (later_marks marks) x.2) (sym there) later.3 in
      (later.0, (made, next.0, next.1, later.1), later.2, uses_forth m (Some at) p picks marks x.2 rows.1 uses)

  picks_back : (m n : ℕ) (at end : Stopped ℕ) (marks left : List (List Bound)) (picks : List Pick) → Leads about (dealing (deal_at plan m).deal) picks at end →
      Uses m (Some at) picks marks left →
      (x : ℕ) × (picks_along about dealing plan m n (Some at) marks picks ≡ Ok (x, Some end, left))
  picks_back m n at end marks left [] leads uses = (n, λ i. Ok (n, Some (leads i), uses i))
  picks_back m n at end marks left (p ∷ picks) leads uses =
      let d = dealing (deal_at plan m).deal in
      let stop = next_stop about dealing plan m (Some at) p in
      let there : stop ≡ Some leads.1 = made_goes_on about d p at.stop at.config at.dealer leads.0 ∙ leads.2 in
      let one = uses_back m (Some at) p picks marks left uses in
      let later = picks_back m (n + 1) leads.1 end (later_marks marks) left picks leads.3 (subst (λ o. Uses m o picks (later_marks marks) left) there one.1) in (
        later.0,
        on_row_none n (chosen_row about (Some at) p (first_marks marks)) (picks_along about dealing plan m (n + 1) stop (later_marks marks) picks)
            (neither (stopped_row about (Some at) p) (named_row about (Some at) p (first_marks marks)) (made_back about p at.stop at.config leads.0) one.0)
            ∙ ap (λ o. picks_along about dealing plan m (n + 1) o (later_marks marks) picks) there ∙ later.1,
      )

  -- ---- records

  long_scores : (c : Config) → length (scores_at about c) ≡ about.sheet.players
  long_scores c = length-map-range_with_len (score_at about (scores_of about c.table c.control)) 0 about.sheet.players

  opens : (m : ℕ) (first : Stopped ℕ) → stop_of about (dealing (deal_at plan m).deal) 0 (start about) ≡ Some first → play_after about dealing plan m [] ≡ Some first
  opens m first e = nothing_more about (dealing (deal_at plan m).deal) (stop_of about (dealing (deal_at plan m).deal) 0 (start about)) ∙ e

  record_forth : (m n : ℕ) (marks : List (List Bound)) (r : Record) (x : ℕ × List (List Bound)) → record_along about dealing plan m n marks r ≡ Ok x →
      lacking_row about r ≡ None →
      IsRecordOfPlay about dealing plan m r × (m < length plan.matches) × Uses m (play_after about dealing plan m []) r.picks marks x.1
  record_forth m n marks r x e whole =
      let d = dealing (deal_at plan m).deal in
      let first = comes_to_stop about d 0 (start about) in
      let after = play_after about dealing plan m [] in
      let row = on_row_ok n (opening_row plan m r.number r.deal r.seats) (body_along about dealing plan m (n + 1) after marks r) x e in
      let opens_as = opening_forth plan m r row.0 in
      let body : body_along about dealing plan m (n + 1) (Some first.0) marks r ≡ Ok x =
      ap (λ o. body_along about dealing plan m (n + 1) o marks r) (sym (opens m first.0 first.1)) ∙ row.1 in
      let played = and_ok (picks_along about dealing plan m (n + 1) (Some first.0) marks r.picks)
      (λ played. and_then (end_along about played.0 played.1 r) (λ n'. Ok (n', played.2))) x body in
      let picks = picks_forth m (n + 1) first.0 marks r.picks played.0 played.1 in
      let told = and_ok (end_along about played.0.0 played.0.1 r) (λ n'. Ok (n', played.0.2)) x played.2 in
      let left : played.0.2 ≡ x.1 = ap (λ (x : ℕ × List (List Bound)). x.1) (ok_is (told.0, played.0.2) x told.2) in
      let tells = end_forth about played.0.0 picks.0 r told.0 (ap (λ o. end_along about played.0.0 o r) (sym picks.2) ∙ told.1) in
      let enough = not_less (length r.scores) about.sheet.players (unless_none _ by_score whole) in
      let scores : r.scores ≡ scores_at about picks.0.config =
      sym (whole_rest (scores_at about picks.0.config) 0 r.scores tells.scores (omega (arith, enough, long_scores picks.0.config))) in (
        record {
          first = first.0;
          end = picks.0;
          begins = first.1;
          leads = picks.1;
          stop = tells.stop;
          tells = λ i. record { number = opens_as.1 i; deal = opens_as.2 i; seats = opens_as.3 i; picks = r.picks; shuffles = tells.shuffles i; ending = r.ending; turn = tells.turn i; scores = scores i };
        },
        opens_as.0,
        subst (λ o. Uses m o r.picks marks x.1) (sym (opens m first.0 first.1)) (subst (λ left. Uses m (Some first.0) r.picks marks left) left picks.3),
      )

  record_back : (m n : ℕ) (marks left : List (List Bound)) (r : Record) → IsRecordOfPlay about dealing plan m r → m < length plan.matches →
      Uses m (play_after about dealing plan m []) r.picks marks left →
      (x : ℕ) × (record_along about dealing plan m n marks r ≡ Ok (x, left)) × (lacking_row about r ≡ None)
  record_back m n marks left r is lt uses =
      let scores : r.scores ≡ scores_at about is.end.config = ap (λ (r : Record). r.scores) is.tells in
      let tells : Tells about is.end r = record {
        stop = is.stop;
        shuffles = ap (λ (r : Record). r.shuffles) is.tells;
        turn = ap (λ (r : Record). r.turn) is.tells;
        scores = subst (λ all. StandAt all 0 r.scores) scores (stand_there r.scores);
      } in
      let there : play_after about dealing plan m [] ≡ Some is.first = opens m is.first is.begins in
      let picks = picks_back m (n + 1) is.first is.end marks left r.picks is.leads (subst (λ o. Uses m o r.picks marks left) there uses) in
      let end = end_back about picks.0 is.end r tells in
      let body : body_along about dealing plan m (n + 1) (Some is.first) marks r ≡ Ok (end.0, left) =
      and_on (picks_along about dealing plan m (n + 1) (Some is.first) marks r.picks)
      (λ played. and_then (end_along about played.0 played.1 r) (λ n'. Ok (n', played.2))) (picks.0, Some is.end, left) picks.1
      ∙ and_on (end_along about picks.0 (Some is.end) r) (λ n'. Ok (n', left)) end.0 end.1 in
      let row = opening_back plan m r lt (ap (λ (r : Record). r.number) is.tells) (ap (λ (r : Record). r.deal) is.tells) (ap (λ (r : Record). r.seats) is.tells) in (
        end.0,
        on_row_none n (opening_row plan m r.number r.deal r.seats) (body_along about dealing plan m (n + 1) (play_after about dealing plan m []) marks r) row
            ∙ ap (λ o. body_along about dealing plan m (n + 1) o marks r) there ∙ body,
        unless_true _ by_score (less_not (length r.scores) about.sheet.players (omega (arith, ap length scores, long_scores is.end.config))),
      )

  matches_forth : (m n : ℕ) (marks : List (List Bound)) (matches : List Record) (x : ℕ) → matches_along about dealing plan m n marks matches ≡ Ok x →
      AreRecords about dealing plan m matches × (m ≤ length plan.matches → m + length matches ≤ length plan.matches)
      × (left : List (List Bound)) × AllUse m matches marks left
  matches_forth m n marks [] x e = (tt, (λ le. omega (arith, le)), marks, refl)
  matches_forth m n marks (r ∷ matches) x e =
      let one = and_ok (record_along about dealing plan m n marks r) (λ next. on_row next.0 (lacking_row about r) (matches_along about dealing plan (m + 1) next.0 next.1 matches)) x e in
      let row = on_row_ok one.0.0 (lacking_row about r) (matches_along about dealing plan (m + 1) one.0.0 one.0.1 matches) x one.2 in
      let is = record_forth m n marks r one.0 one.1 row.0 in
      let later = matches_forth (m + 1) one.0.0 one.0.1 matches x row.1 in
      ((is.0, later.0), (λ le. let all = later.1 (omega (arith, is.1)) in omega (arith, all)), later.2, (one.0.1, is.2, later.3))

  matches_back : (m n : ℕ) (marks left : List (List Bound)) (matches : List Record) → AreRecords about dealing plan m matches →
      m + length matches ≤ length plan.matches → AllUse m matches marks left →
      (x : ℕ) × (matches_along about dealing plan m n marks matches ≡ Ok x)
  matches_back m n marks left [] are le uses = (n, refl)
  matches_back m n marks left (r ∷ matches) are le uses =
      let one = record_back m n marks uses.0 r are.0 (omega (arith, le)) uses.1 in
      let later = matches_back (m + 1) one.0 uses.0 left matches are.1 (omega (arith, le)) uses.2 in (
        later.0,
        and_on (record_along about dealing plan m n marks r) (λ next. on_row next.0 (lacking_row about r) (matches_along about dealing plan (m + 1) next.0 next.1 matches)) (one.0, uses.0) one.1
            ∙ on_row_none one.0 (lacking_row about r) (matches_along about dealing plan (m + 1) one.0 uses.0 matches) one.2 ∙ later.1,
      )

  -- ---- whole texts

  -- what is used is all there is, where there is one of each choice
  its_marks : (named : Bool) (n : NamedText) (left : List (List Bound)) → IsText named n → AllUse 0 n.text.matches n.marks left → HasItsMarks about dealing plan named n
  its_marks false n left is uses = tt
  its_marks true n left is uses =
      let few = no_more_marks true n is in
      let own = own_all 0 n.text.matches n.marks left (enough_marks n is) uses in
      let a = ap length own in
      let b = length-append (marks_over about dealing plan 0 n.text.matches) left in
      let c = each_over 0 n.text.matches in
      let none : length left ≡ 0 = omega (arith, few, a, b, c) in
      own ∙ ap (λ t. marks_over about dealing plan 0 n.text.matches ++ t) (empty left none) ∙ append-nil (marks_over about dealing plan 0 n.text.matches)
    where
      empty : (xs : List (List Bound)) → length xs ≡ 0 → xs ≡ []
      empty [] e = refl
      empty (x ∷ xs) e = absurd (omega (arith, e))

  uses_its : (named : Bool) (n : NamedText) → IsText named n → HasItsMarks about dealing plan named n → AllUse 0 n.text.matches n.marks []
  uses_its false n is has = subst (λ marks. AllUse 0 n.text.matches marks []) (sym (never_marks n is)) (all_none 0 n.text.matches)
  uses_its true n is has =
      subst (λ marks. AllUse 0 n.text.matches marks []) (append-nil (marks_over about dealing plan 0 n.text.matches) ∙ sym has) (all_own 0 n.text.matches [])

  pub legal_forth : (named : Bool) (head : ℕ) (n : NamedText) → IsText named n → judged about dealing plan head n ≡ None → IsLegalText about dealing plan named n
  legal_forth named head n is e =
      let t = n.text in
      let r = or_ok (matches_along about dealing plan 0 (head + 1) n.marks t.matches) (λ at. standings_along plan at t.matches 0 t.standings) e in
      let matches = matches_forth 0 (head + 1) n.marks t.matches r.0 r.1 in
      let all = further_forth plan r.0 t.matches 0 t.standings is.standings r.2 in
      let no_more = matches.1 (omega arith) in
      let standings = standings_forth plan r.0 t.matches 0 t.standings r.2 in (
        record {
          count = omega (arith, all, no_more);
          records = matches.0;
          standings = sym (whole_rest (standings_of plan t.matches) 0 t.standings standings.0 standings.1);
        },
        its_marks named n matches.2 is matches.3,
      )

  -- where the marks are used up by the choices
  pub legal_used : (head : ℕ) (n : NamedText) → IsLegal about dealing plan n.text → AllUse 0 n.text.matches n.marks [] → judged about dealing plan head n ≡ None
  legal_used head n legal uses =
      let t = n.text in
      let le = legal.count in
      let r = matches_back 0 (head + 1) n.marks [] t.matches legal.records (omega (arith, le)) uses in
      or_on (matches_along about dealing plan 0 (head + 1) n.marks t.matches) (λ at. standings_along plan at t.matches 0 t.standings) r.0 r.1
      ∙ standings_back plan r.0 t.matches 0 t.standings (omega (arith, le))
      (subst (λ all. StandAt all 0 t.standings) legal.standings (stand_there t.standings)) (omega (arith, ap length legal.standings))

  pub legal_back : (named : Bool) (head : ℕ) (n : NamedText) → IsText named n → IsLegalText about dealing plan named n → judged about dealing plan head n ≡ None
  legal_back named head n is legal = legal_used head n legal.0 (uses_its named n is legal.1)

  pub none_used : (matches : List Record) → AllUse 0 matches [] []
  none_used matches = all_none 0 matches

  pub own_used_up : (matches : List Record) → AllUse 0 matches (marks_over about dealing plan 0 matches) []
  own_used_up matches = subst (λ marks. AllUse 0 matches marks []) (append-nil (marks_over about dealing plan 0 matches)) (all_own 0 matches [])
