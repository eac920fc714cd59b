-- One pass finds the first illegal line.
use Rattle.std.proofs.Common.{◌≡◌, ◌≢◌, ℕ, ◌+◌, ◌==◌, Bool, true, false, if◌then◌else◌, List, [], ◌∷◌, ◌++◌, map, flat_map, length, Option, Some, None, IfSome, Ok, Err, refl, sym, ap, ◌∙◌, subst, append_assoc, append-nil, eqb-true}
use Rattle.std.specs.List.{AllByRecursion}
use Rattle.std.proofs.lemmas.List.{map-append, length-append}
use Rattle.rc_base.specs.Transcript.{Pick, Ending, Score, Record, Standing}
use Rattle.rc_play_spec.specs.Fields.{◌>>=◌}
use Rattle.rc_play_spec.specs.Lines.{Line, opening, chosen, shuffled, ending, scored, ranked}
use Rattle.rc_play_spec.specs.ItemBounds.{Bound}
use Rattle.rc_play_spec.specs.HouseText.{NamedText, first_marks, later_marks, marks_of, left_of, marked, shuffles_told, record_lines, lines_of, IsText}
use Rattle.rc_play_spec.specs.Reading.{Place, headed, playing, told, stopped, scoring, ranking, opened, with_pick, with_shuffles, with_end, with_score, take_line}
use Rattle.rc_play_spec.specs.LineGrammar.{run}
use Rattle.rc_play_spec.proofs.FieldLemmas.{bind_some, bind_is}
use Rattle.rc_play_spec.proofs.LineGrammars.{run_append}
use Rattle.rc_play_spec.proofs.Grammar.{text_taken, add_picks, add_scores, record_apart, HasScores}
use Rattle.rc_play_spec.specs.About.{About}
use Rattle.rc_play_spec.specs.Effects.{Dealing}
use Rattle.rc_play_spec.specs.Stop.{Stopped}
use Rattle.rc_play_spec.specs.Play.{items_of, reached}
use Rattle.rc_play_spec.specs.Plan.{Plan, deal_at}
use Rattle.rc_play_spec.specs.Why.{Why, Illegal}
use Rattle.rc_play_spec.specs.Rows.{◌or◌, lacking_row, opening_row, chosen_row, shuffled_row, ending_row, scored_row, ranked_row}
use Rattle.rc_play_spec.specs.Judged.{at_line, play_after, play_at, row_at, end_at, row_of, first_from, first_illegal}
use Rattle.rc_play_spec.specs.Along.{next_stop, stop_along, along_from, Judging, Picked, end_along, on_row, and_then, picks_along, told_along, scores_along, body_along, record_along, matches_along, standings_along, or_illegal, judged}
use Rattle.rc_play_spec.proofs.GoesOn.{reached_append}

module _ (about : About) (dealing : ℕ → Dealing ℕ) (plan : Plan) where
  -- ---- the play goes on as if started anew

  goes_on : (p : Place) (l : Line) → IfSome (take_line p l) (λ q. stop_along about dealing plan p (play_at about dealing plan p) l ≡ play_at about dealing plan q)
  goes_on headed (opening n deal seats) = refl
  goes_on headed (chosen p) = tt
  goes_on headed (shuffled n) = tt
  goes_on headed (ending e turn) = tt
  goes_on headed (scored s) = tt
  goes_on headed (ranked s) = tt
  goes_on (playing before r) (opening n deal seats) = tt
  goes_on (playing before r) (chosen p) = sym (ap (λ items. reached about (dealing (deal_at plan (length before)).deal) items 0) (map-append (λ (p : Pick). p.item) r.picks (p ∷ [])) ∙ reached_append about (dealing (deal_at plan (length before)).deal) (items_of r.picks) (p.item ∷ []) 0)
  goes_on (playing before r) (shuffled n) = refl
  goes_on (playing before r) (ending e turn) = refl
  goes_on (playing before r) (scored s) = tt
  goes_on (playing before r) (ranked s) = tt
  goes_on (told before r) (opening n deal seats) = tt
  goes_on (told before r) (chosen p) = tt
  goes_on (told before r) (shuffled n) = tt
  goes_on (told before r) (ending e turn) = refl
  goes_on (told before r) (scored s) = tt
  goes_on (told before r) (ranked s) = tt
  goes_on (stopped before r) (opening n deal seats) = tt
  goes_on (stopped before r) (chosen p) = tt
  goes_on (stopped before r) (shuffled n) = tt
  goes_on (stopped before r) (ending e turn) = tt
  goes_on (stopped before r) (scored s) = refl
  goes_on (stopped before r) (ranked s) = tt
  goes_on (scoring before r) (opening n deal seats) = ap (λ m. play_after about dealing plan m []) (sym (length-append before (r ∷ [])))
  goes_on (scoring before r) (chosen p) = tt
  goes_on (scoring before r) (shuffled n) = tt
  goes_on (scoring before r) (ending e turn) = tt
  goes_on (scoring before r) (scored s) = refl
  goes_on (scoring before r) (ranked s) = refl
  goes_on (ranking matches standings) (opening n deal seats) = tt
  goes_on (ranking matches standings) (chosen p) = tt
  goes_on (ranking matches standings) (shuffled n) = tt
  goes_on (ranking matches standings) (ending e turn) = tt
  goes_on (ranking matches standings) (scored s) = tt
  goes_on (ranking matches standings) (ranked s) = refl

  along_anew : (n : ℕ) (front ls : List Line) (marks : List (List Bound)) (p q : Place) (at : Option (Stopped ℕ)) → run take_line headed front ≡ Some p → at ≡ play_at about dealing plan p → run take_line p ls ≡ Some q →
      along_from about dealing plan n p at marks ls ≡ first_from about dealing plan n front (marked marks ls)
  along_anew n front [] marks p q at is there e = ap (λ o. at_line n (o >>= end_at plan) None) (sym is)
  along_anew n front (l ∷ ls) marks p q at is there e =
      let a = bind_some (take_line p l) (λ q. run take_line q ls) q e in
      let told = marks_of l marks in
      let left = left_of l marks in
      let row : row_at about dealing plan p at l told ≡ row_of about dealing plan front (l, told) =
      ap (λ at. row_at about dealing plan p at l told) there ∙ ap (λ o. o >>= λ place. row_at about dealing plan place (play_at about dealing plan place) l told) (sym is) in
      let front' : run take_line headed (front ++ l ∷ []) ≡ Some a.0 =
      run_append take_line headed front (l ∷ []) ∙ bind_is (run take_line headed front) (λ q. run take_line q (l ∷ [])) p (Some a.0) is (ap (λ o. o >>= λ q. Some q) a.1) in
      let stop : stop_along about dealing plan p (play_at about dealing plan p) l ≡ play_at about dealing plan a.0 =
      subst (λ o. IfSome o (λ q. stop_along about dealing plan p (play_at about dealing plan p) l ≡ play_at about dealing plan q)) a.1 (goes_on p l) in
      ap (λ o. at_line n (row_at about dealing plan p at l told) (o >>= λ next. along_from about dealing plan (n + 1) next (stop_along about dealing plan p at l) left ls)) a.1
      ∙ (λ i. at_line n (row i) (along_anew (n + 1) (front ++ l ∷ []) ls left a.0 q (stop_along about dealing plan p at l) front'
      (ap (λ at. stop_along about dealing plan p at l) there ∙ stop) a.2 i))

  -- ---- over the parts of a text

  abbrev Along : ℕ → Place → Option (Stopped ℕ) → List (List Bound) → List Line → Option Illegal
  Along = along_from about dealing plan

  on_row_is : {A : Type 0} (n : ℕ) (o : Option Why) (later : Judging A) (f : A → Option Illegal) → at_line n o (or_illegal later f) ≡ or_illegal (on_row n o later) f
  on_row_is n None later f = refl
  on_row_is n (Some w) later f = refl

  on_either : (n : ℕ) (a b : Option Why) (later : Option Illegal) → at_line n (a or b) later ≡ at_line n a (at_line n b later)
  on_either n None b later = refl
  on_either n (Some w) b later = refl

  and_is : {A B : Type 0} (x : Judging A) (g : A → Judging B) (f : B → Option Illegal) → or_illegal x (λ y. or_illegal (g y) f) ≡ or_illegal (and_then x g) f
  and_is (Ok x) g f = refl
  and_is (Err e) g f = refl

  or_same : {A : Type 0} (x : Judging A) (f g : A → Option Illegal) → ((y : A) → f y ≡ g y) → or_illegal x f ≡ or_illegal x g
  or_same (Ok x) f g same = same x
  or_same (Err e) f g same = refl

  along_picks : (n : ℕ) (before : List Record) (r : Record) (at : Option (Stopped ℕ)) (marks : List (List Bound)) (picks : List Pick) (more : List Line) →
      Along n (playing before r) at marks (map chosen picks ++ more)
      ≡ or_illegal (picks_along about dealing plan (length before) n at marks picks) (λ played. Along played.0 (playing before (add_picks r picks)) played.1 played.2 more)
  along_picks n before r at marks [] more =
      ap (λ (ps : List Pick). Along n (playing before (record { number = r.number; deal = r.deal; seats = r.seats; picks = ps; shuffles = r.shuffles; ending = r.ending; turn = r.turn; scores = r.scores })) at marks more) (sym (append-nil r.picks))
  along_picks n before r at marks (p ∷ picks) more =
      let row = chosen_row about at p (first_marks marks) in
      let later = picks_along about dealing plan (length before) (n + 1) (next_stop about dealing plan (length before) at p) (later_marks marks) picks in
      ap (at_line n row) (along_picks (n + 1) before (with_pick r p) (next_stop about dealing plan (length before) at p) (later_marks marks) picks more
      ∙ ap (λ (ps : List Pick). or_illegal later (λ played. Along played.0 (playing before (record { number = r.number; deal = r.deal; seats = r.seats; picks = ps; shuffles = r.shuffles; ending = r.ending; turn = r.turn; scores = r.scores })) played.1 played.2 more)) (append_assoc r.picks (p ∷ []) picks))
      ∙ on_row_is n row later (λ played. Along played.0 (playing before (add_picks r (p ∷ picks))) played.1 played.2 more)

  along_told : (none : Bool) (n : ℕ) (before : List Record) (r : Record) (at : Option (Stopped ℕ)) (marks : List (List Bound)) (k : ℕ) (e : Ending) (turn : ℕ) (more : List Line) → (k == 0) ≡ none → r.shuffles ≡ 0 →
      Along n (playing before r) at marks ((if none then [] else shuffled k ∷ []) ++ ending e turn ∷ more)
      ≡ or_illegal (if none then Ok n else on_row n (shuffled_row at k) (Ok (n + 1)))
      (λ n'. at_line n' (ending_row at k e turn) (Along (n' + 1) (stopped before (with_end (with_shuffles r k) e turn)) at marks more))
  along_told true n before r at marks k e turn more is zero-told =
      ap (λ k. at_line n (ending_row at k e turn) (Along (n + 1) (stopped before (with_end (with_shuffles r k) e turn)) at marks more)) (zero-told ∙ sym (eqb-true k 0 is))
  along_told false n before r at marks k e turn more is zero-told =
      on_row_is n (shuffled_row at k) (Ok (n + 1)) (λ n'. at_line n' (ending_row at k e turn) (Along (n' + 1) (stopped before (with_end (with_shuffles r k) e turn)) at marks more))

  along_scores : (n : ℕ) (before : List Record) (r : Record) (at : Option (Stopped ℕ)) (marks : List (List Bound)) (scores : List Score) (more : List Line) →
      Along n (scoring before r) at marks (map scored scores ++ more)
      ≡ or_illegal (scores_along about n at (length r.scores) scores) (λ n'. Along n' (scoring before (add_scores r scores)) at marks more)
  along_scores n before r at marks [] more =
      ap (λ (xs : List Score). Along n (scoring before (record { number = r.number; deal = r.deal; seats = r.seats; picks = r.picks; shuffles = r.shuffles; ending = r.ending; turn = r.turn; scores = xs })) at marks more) (sym (append-nil r.scores))
  along_scores n before r at marks (s ∷ scores) more =
      let f : ℕ → Option Illegal = λ n'. Along n' (scoring before (add_scores r (s ∷ scores))) at marks more in
      let row = scored_row about at (length r.scores) s in
      ap (at_line n row) (along_scores (n + 1) before (with_score r s) at marks scores more
      ∙ ap (λ (xs : List Score). or_illegal (scores_along about (n + 1) at (length (r.scores ++ s ∷ [])) scores) (λ n'. Along n' (scoring before (record { number = r.number; deal = r.deal; seats = r.seats; picks = r.picks; shuffles = r.shuffles; ending = r.ending; turn = r.turn; scores = xs })) at marks more)) (append_assoc r.scores (s ∷ []) scores)
      ∙ ap (λ k. or_illegal (scores_along about (n + 1) at k scores) f) (length-append r.scores (s ∷ [])))
      ∙ on_row_is n row (scores_along about (n + 1) at (length r.scores + 1) scores) f

  along_first : (n : ℕ) (before : List Record) (r : Record) (at : Option (Stopped ℕ)) (marks : List (List Bound)) (scores : List Score) (more : List Line) → r.scores ≡ [] → scores ≢ [] →
      Along n (stopped before r) at marks (map scored scores ++ more)
      ≡ or_illegal (scores_along about n at 0 scores) (λ n'. Along n' (scoring before (add_scores r scores)) at marks more)
  along_first n before r at marks [] more none has = absurd (has refl)
  along_first n before r at marks (s ∷ scores) more none has =
      ap (λ (xs : List Score). at_line n (scored_row about at (length xs) s) (Along (n + 1) (scoring before (with_score r s)) at marks (map scored scores ++ more))) none
      ∙ ap (at_line n (scored_row about at 0 s)) (along_scores (n + 1) before (with_score r s) at marks scores more
      ∙ ap (λ (xs : List Score). or_illegal (scores_along about (n + 1) at (length (r.scores ++ s ∷ [])) scores) (λ n'. Along n' (scoring before (record { number = r.number; deal = r.deal; seats = r.seats; picks = r.picks; shuffles = r.shuffles; ending = r.ending; turn = r.turn; scores = xs })) at marks more)) (append_assoc r.scores (s ∷ []) scores)
      ∙ ap (λ (xs : List Score). or_illegal (scores_along about (n + 1) at (length (xs ++ s ∷ [])) scores) (λ n'. Along n' (scoring before (add_scores r (s ∷ scores))) at marks more)) none)
      ∙ on_row_is n (scored_row about at 0 s) (scores_along about (n + 1) at 1 scores) (λ n'. Along n' (scoring before (add_scores r (s ∷ scores))) at marks more)

  along_standings : (n : ℕ) (matches : List Record) (standings more : List Standing) (at : Option (Stopped ℕ)) (marks : List (List Bound)) →
      Along n (ranking matches standings) at marks (map ranked more) ≡ standings_along plan n matches (length standings) more
  along_standings n matches standings [] at marks = refl
  along_standings n matches standings (s ∷ more) at marks =
      ap (at_line n (ranked_row plan matches (length standings) s)) (along_standings (n + 1) matches (standings ++ s ∷ []) more at marks
      ∙ ap (λ k. standings_along plan (n + 1) matches k more) (length-append standings (s ∷ [])))

  -- a match behind its line, where what follows doesn't ask for its play
  along_body : (n : ℕ) (before : List Record) (r : Record) (at : Option (Stopped ℕ)) (marks : List (List Bound)) (more : List Line)
      (f : ℕ × List (List Bound) → Option Illegal) → HasScores r →
      ((n : ℕ) (at : Option (Stopped ℕ)) (marks : List (List Bound)) → Along n (scoring before r) at marks more ≡ f (n, marks)) →
      Along n (playing before (opened r.number r.deal r.seats)) at marks
      (map chosen r.picks ++ (shuffles_told r.shuffles ++ (ending r.ending r.turn ∷ (map scored r.scores ++ more))))
      ≡ or_illegal (body_along about dealing plan (length before) n at marks r) f
  along_body n before r at marks more f has next =
      let o = opened r.number r.deal r.seats in
      let p = add_picks o r.picks in
      let q = with_end (with_shuffles p r.shuffles) r.ending r.turn in
      let picks = picks_along about dealing plan (length before) n at marks r.picks in
      let scores = λ (n : ℕ) (at : Option (Stopped ℕ)). scores_along about n at 0 r.scores in
      let told-on = λ (at : Option (Stopped ℕ)) (n : ℕ). on_row n (ending_row at r.shuffles r.ending r.turn) (scores (n + 1) at) in
      let end : Picked → Judging (ℕ × List (List Bound)) = λ played. and_then (end_along about played.0 played.1 r) (λ n'. Ok (n', played.2)) in
      along_picks n before o at marks r.picks (shuffles_told r.shuffles ++ (ending r.ending r.turn ∷ (map scored r.scores ++ more)))
      ∙ or_same picks _ (λ played. or_illegal (end played) f)
      (λ played.
      let f' : ℕ → Option Illegal = λ n'. f (n', played.2) in
      along_told (r.shuffles == 0) played.0 before p played.1 played.2 r.shuffles r.ending r.turn (map scored r.scores ++ more) refl refl
      ∙ or_same (told_along played.0 played.1 r.shuffles) _ (λ n'. or_illegal (told-on played.1 n') f')
      (λ n'.
      ap (at_line n' (ending_row played.1 r.shuffles r.ending r.turn))
      (along_first (n' + 1) before q played.1 played.2 r.scores more refl has
      ∙ or_same (scores (n' + 1) played.1) _ f' (λ n''. next n'' played.1 played.2))
      ∙ on_row_is n' (ending_row played.1 r.shuffles r.ending r.turn) (scores (n' + 1) played.1) f')
      ∙ and_is (told_along played.0 played.1 r.shuffles) (told-on played.1) f'
      ∙ and_is (end_along about played.0 played.1 r) (λ n'. Ok (n', played.2)) f)
      ∙ and_is picks end f

  -- the matches behind a match, and the standings
  along_matches : (n : ℕ) (before : List Record) (r : Record) (at : Option (Stopped ℕ)) (marks : List (List Bound)) (matches : List Record) (s : Standing) (more : List Standing) →
      AllByRecursion HasScores matches →
      Along n (scoring before r) at marks (flat_map record_lines matches ++ map ranked (s ∷ more))
      ≡ or_illegal (on_row n (lacking_row about r) (matches_along about dealing plan (length before + 1) n marks matches))
      (λ n'. standings_along plan n' ((before ++ r ∷ []) ++ matches) 0 (s ∷ more))
  along_matches n before r at marks [] s more all =
      let f : List Record → ℕ → Option Illegal = λ t n'. standings_along plan n' t 0 (s ∷ more) in
      ap (at_line n (lacking_row about r or ranked_row plan (before ++ r ∷ []) 0 s)) (along_standings (n + 1) (before ++ r ∷ []) (s ∷ []) more None marks)
      ∙ on_either n (lacking_row about r) (ranked_row plan (before ++ r ∷ []) 0 s) (standings_along plan (n + 1) (before ++ r ∷ []) 1 more)
      ∙ ap (λ (t : List Record). at_line n (lacking_row about r) (f t n)) (sym (append-nil (before ++ r ∷ [])))
      ∙ on_row_is n (lacking_row about r) (Ok n) (f ((before ++ r ∷ []) ++ []))
  along_matches n before r at marks (r' ∷ matches) s more all =
      let before' = before ++ r ∷ [] in
      let m = length before + 1 in
      let tail = flat_map record_lines matches ++ map ranked (s ∷ more) in
      let f : List Record → ℕ → Option Illegal = λ t n'. standings_along plan n' t 0 (s ∷ more) in
      let rest : ℕ → ℕ × List (List Bound) → Judging ℕ = λ m next. on_row next.0 (lacking_row about r') (matches_along about dealing plan (m + 1) next.0 next.1 matches) in
      let row = opening_row plan m r'.number r'.deal r'.seats in
      let len : length before' ≡ m = length-append before (r ∷ []) in
      let body = along_body (n + 1) before' r' (play_after about dealing plan m []) marks tail (λ next. or_illegal (rest m next) (f (before' ++ (r' ∷ matches)))) all.0
      (λ n' at' marks'. along_matches n' before' r' at' marks' matches s more all.1
      ∙ (λ i. or_illegal (rest (len i) (n', marks')) (f (append_assoc before' (r' ∷ []) matches i)))) in
      ap (Along n (scoring before r) at marks) (append_assoc (record_lines r') (flat_map record_lines matches) (map ranked (s ∷ more)) ∙ record_apart r' tail)
      ∙ on_either n (lacking_row about r) row _
      ∙ ap (λ x. at_line n (lacking_row about r) (at_line n row x)) (body
      ∙ ap (λ k. or_illegal (body_along about dealing plan k (n + 1) (play_after about dealing plan m []) marks r') (λ next. or_illegal (rest m next) (f (before' ++ (r' ∷ matches))))) len)
      ∙ ap (at_line n (lacking_row about r))
      (on_row_is n row (body_along about dealing plan m (n + 1) (play_after about dealing plan m []) marks r') (λ next. or_illegal (rest m next) (f (before' ++ (r' ∷ matches))))
      ∙ and_is (record_along about dealing plan m n marks r') (rest m) (f (before' ++ (r' ∷ matches))))
      ∙ on_row_is n (lacking_row about r) (matches_along about dealing plan m n marks (r' ∷ matches)) (f (before' ++ (r' ∷ matches)))

  along_text : (n : ℕ) (marks : List (List Bound)) (matches : List Record) (standings : List Standing) → matches ≢ [] → standings ≢ [] → AllByRecursion HasScores matches →
      Along n headed None marks (flat_map record_lines matches ++ map ranked standings)
      ≡ or_illegal (matches_along about dealing plan 0 n marks matches) (λ n'. standings_along plan n' matches 0 standings)
  along_text n marks [] standings ne ne' all = absurd (ne refl)
  along_text n marks (r ∷ matches) [] ne ne' all = absurd (ne' refl)
  along_text n marks (r ∷ matches) (s ∷ standings) ne ne' all =
      let tail = flat_map record_lines matches ++ map ranked (s ∷ standings) in
      let row = opening_row plan 0 r.number r.deal r.seats in
      let f : ℕ → Option Illegal = λ n'. standings_along plan n' (r ∷ matches) 0 (s ∷ standings) in
      let rest : ℕ × List (List Bound) → Judging ℕ = λ next. on_row next.0 (lacking_row about r) (matches_along about dealing plan 1 next.0 next.1 matches) in
      ap (Along n headed None marks) (append_assoc (record_lines r) (flat_map record_lines matches) (map ranked (s ∷ standings)) ∙ record_apart r tail)
      ∙ ap (at_line n row) (along_body (n + 1) [] r (play_after about dealing plan 0 []) marks tail (λ next. or_illegal (rest next) f) all.0
      (λ n' at' marks'. along_matches n' [] r at' marks' matches s standings all.1))
      ∙ on_row_is n row (body_along about dealing plan 0 (n + 1) (play_after about dealing plan 0 []) marks r) (λ next. or_illegal (rest next) f)
      ∙ and_is (record_along about dealing plan 0 n marks r) rest f

  pub one_pass : (named : Bool) (head : ℕ) (n : NamedText) → IsText named n → judged about dealing plan head n ≡ first_illegal about dealing plan head n
  one_pass named head n is =
      sym (along_text (head + 1) n.marks n.text.matches n.text.standings is.matches is.standings is.scores)
      ∙ along_anew (head + 1) [] (lines_of n.text) n.marks headed (ranking n.text.matches n.text.standings) None refl refl (text_taken n.text is.matches is.standings is.scores)
