-- The grammar of a format is that of its texts.
use Rattle.std.proofs.Common.{◌≡◌, ℕ, Bool, true, List, [], ◌∷◌, ◌++◌, map, flat_map, Option, Some, None, refl, sym, ap, ◌∙◌, subst, append-nil, append_assoc}
use Rattle.std.specs.List.{AllByRecursion}
use Rattle.std.proofs.lemmas.List.{map-append}
use Rattle.std.proofs.lemmas.List.Concat.{flat_map-append}
use Rattle.rc_deck.proofs.EachLemmas.{append_each}
use Rattle.rc_play_spec.specs.Fields.{behind, last}
use Rattle.rc_play_spec.specs.ItemBounds.{Bound}
use Rattle.rc_play_spec.specs.Lines.{Line, opening, chosen, shuffled, ending, scored, ranked, IsInRange, Marked, bare, marked_text, HasMarks, IsMarkedInRange, line_of}
use Rattle.rc_play_spec.specs.HouseText.{Format, NamedText, IsHead, lines_of, marked, left_behind, ended_text, text_in, text_lines, IsText}
use Rattle.rc_play_spec.specs.Reading.{Place, headed, ranking, Stand, outside, inside, before, noted, take_line, take_marked, take_bytes, whole_at, whole, grammar}
use Rattle.rc_play_spec.specs.TextLaws.{Begins}
use Rattle.rc_play_spec.specs.LineGrammar.{run}
use Rattle.rc_play_spec.proofs.FieldLemmas.{bind_some, bind_is, some_is, behind_only, behind_again, last-only}
use Rattle.rc_play_spec.proofs.LineLemmas.{line-only, line-again}
use Rattle.rc_play_spec.proofs.LineCuts.{with_end_byte}
use Rattle.rc_play_spec.proofs.SameTexts.{joined_head, text_spelled, text_one}
use Rattle.rc_play_spec.proofs.Grammar.{run_good, whole_good, finishes, text_taken}
use Rattle.rc_play_spec.proofs.LineGrammars.{IsGrammarOf, run_append}
use Rattle.rc_play_spec.proofs.LineFaults.{fewer}
use Rattle.rc_play_spec.proofs.Threaded.{lines_in_all, onto_marks, marks_told, same_lines, same_marks, threaded, line_ranges}

-- ---- lines behind the head

-- one mark more is told
more_told : (marks : List (List Bound)) (o : Option (List Bound)) (more : List (List Bound)) → noted marks o ++ more ≡ marks ++ onto_marks o more
more_told marks None more = refl
more_told marks (Some m) more = append_assoc marks (m ∷ []) more

-- lines that are taken are texts of lines
record Spells (named : Bool) (p : Place) (marks : List (List Bound)) (lines : List (List ℕ)) (s : Stand) : Type 0 where
  place : Place
  told : List Marked
  stands : s ≡ inside place (marks ++ marks_told told)
  texts : lines ≡ map marked_text told
  ranges : AllByRecursion (IsMarkedInRange named) told
  leads : run take_line p (lines_in_all told) ≡ Some place

spelled : (named : Bool) (p : Place) (marks : List (List Bound)) (lines : List (List ℕ)) (s : Stand) → run (take_bytes named) (inside p marks) lines ≡ Some s →
    Spells named p marks lines s
spelled named p marks [] s e =
    record { place = p; told = []; stands = sym (some_is (inside p marks) s e) ∙ ap (inside p) (sym (append-nil marks)); texts = refl; ranges = tt; leads = refl }
spelled named p marks (line ∷ lines) s e =
    let a = bind_some (take_bytes named (inside p marks) line) (λ q. run (take_bytes named) q lines) s e in
    let b = bind_some (line_of named line) (take_marked p marks) a.0 a.1 in
    let c = bind_some (take_line p b.0.0) (λ next. Some (inside next (noted marks b.0.1))) a.0 b.2 in
    let l = line-only named line b.0 b.1 in
    let there : run (take_bytes named) (inside c.0 (noted marks b.0.1)) lines ≡ Some s =
    ap (λ q. run (take_bytes named) q lines) (some_is (inside c.0 (noted marks b.0.1)) a.0 c.2) ∙ a.2 in
    let r = spelled named c.0 (noted marks b.0.1) lines s there in
    record {
      place = r.place;
      told = b.0 ∷ r.told;
      stands = r.stands ∙ ap (inside r.place) (more_told marks b.0.1 (marks_told r.told));
      texts = ap (λ x. x ∷ lines) l.1 ∙ ap (λ xs. marked_text b.0 ∷ xs) r.texts;
      ranges = (l.0, r.ranges);
      leads = bind_is (take_line p b.0.0) (λ q. run take_line q (lines_in_all r.told)) c.0 (Some r.place) c.1 r.leads;
    }

bytes_run : (named : Bool) (p : Place) (marks : List (List Bound)) (ms : List Marked) (q : Place) → AllByRecursion (IsMarkedInRange named) ms →
    run take_line p (lines_in_all ms) ≡ Some q → run (take_bytes named) (inside p marks) (map marked_text ms) ≡ Some (inside q (marks ++ marks_told ms))
bytes_run named p marks [] q all e = ap (λ q. Some (inside q marks)) (some_is p q e) ∙ ap (λ marks. Some (inside q marks)) (sym (append-nil marks))
bytes_run named p marks (m ∷ ms) q all e =
    let a = bind_some (take_line p m.0) (λ q. run take_line q (lines_in_all ms)) q e in
    let next = inside a.0 (noted marks m.1) in
    bind_is (take_bytes named (inside p marks) (marked_text m)) (λ q. run (take_bytes named) q (map marked_text ms)) next (Some (inside q (marks ++ onto_marks m.1 (marks_told ms))))
    (bind_is (line_of named (marked_text m)) (take_marked p marks) m (Some next) (line-again named m all.0)
    (bind_is (take_line p m.0) (λ next. Some (inside next (noted marks m.1))) a.0 (Some next) a.1 refl))
    (bytes_run named a.0 (noted marks m.1) ms q all.1 a.2 ∙ ap (λ marks. Some (inside q marks)) (more_told marks m.1 (marks_told ms)))

-- ---- the head

head_run : (named : Bool) (head lines : List (List ℕ)) → run (take_bytes named) (before head) (head ++ lines) ≡ run (take_bytes named) (inside headed []) lines
head_run named [] lines = refl
head_run named (h ∷ head) lines =
    bind_is (take_bytes named (outside h head) h) (λ q. run (take_bytes named) q (head ++ lines)) (before head) (run (take_bytes named) (inside headed []) lines)
    (bind_is (behind h h) (last (before head)) [] (Some (before head)) (ap (behind h) (sym (append-nil h)) ∙ behind_again h []) refl)
    (head_run named head lines)

-- lines of the head were taken, and these are left; or all of it was, and lines behind it
data HeadTaken (named : Bool) (head lines : List (List ℕ)) (s : Stand) : Type 0 where
  within : (first : List ℕ) (later : List (List ℕ)) → s ≡ outside first later → head ≡ lines ++ first ∷ later → HeadTaken named head lines s
  beyond : (rest : List (List ℕ)) → lines ≡ head ++ rest → run (take_bytes named) (inside headed []) rest ≡ Some s → HeadTaken named head lines s

one_taken : (named : Bool) (h : List ℕ) (head lines : List (List ℕ)) (s : Stand) → HeadTaken named head lines s → HeadTaken named (h ∷ head) (h ∷ lines) s
one_taken named h head lines s (within first later is e) = within first later is (ap (λ t. h ∷ t) e)
one_taken named h head lines s (beyond rest e is) = beyond rest (ap (λ t. h ∷ t) e) is

head_taken : (named : Bool) (head lines : List (List ℕ)) (s : Stand) → run (take_bytes named) (before head) lines ≡ Some s → HeadTaken named head lines s
head_taken named [] lines s e = beyond lines refl e
head_taken named (h ∷ head) [] s e = within h head (sym (some_is (outside h head) s e)) refl
head_taken named (h ∷ head) (line ∷ lines) s e =
    let a = bind_some (take_bytes named (outside h head) line) (λ q. run (take_bytes named) q lines) s e in
    let b = bind_some (behind h line) (last (before head)) a.0 a.1 in
    let z = last-only (before head) b.0 a.0 b.2 in
    let same : line ≡ h = behind_only h line b.0 b.1 ∙ ap (λ t. h ++ t) z.1 ∙ append-nil h in
    let more = head_taken named head lines s (ap (λ q. run (take_bytes named) q lines) z.0 ∙ a.2) in
    subst (λ line. HeadTaken named (h ∷ head) (line ∷ lines) s) (sym same) (one_taken named h head lines s more)

-- ---- each text is taken, and what is taken and whole is one

-- the lines of a text lead to it
text_run : (f : Format) (n : NamedText) → IsText f.named n →
    run (take_bytes f.named) (before f.head) (text_lines f n) ≡ Some (inside (ranking n.text.matches n.text.standings) n.marks)
text_run f n is =
    let ms = marked n.marks (lines_of n.text) in
    head_run f.named f.head (map marked_text ms)
    ∙ bytes_run f.named headed [] ms (ranking n.text.matches n.text.standings) is.ranges
    (ap (run take_line headed) (same_lines n.marks (lines_of n.text)) ∙ text_taken n.text is.matches is.standings is.scores)
    ∙ ap (λ marks. Some (inside (ranking n.text.matches n.text.standings) marks)) (same_marks n.marks (lines_of n.text) is.whole)

-- What is taken behind the head, and is whole, is a text with its marks.
record IsTaken (named : Bool) (n : NamedText) (told : List Marked) : Type 0 where
  is : IsText named n
  same : marked n.marks (lines_of n.text) ≡ told

whole_taken : (named : Bool) (q : Place) (told : List Marked) (n : NamedText) → AllByRecursion (IsMarkedInRange named) told → run take_line headed (lines_in_all told) ≡ Some q →
    whole_at q (marks_told told) ≡ Some n → IsTaken named n told
whole_taken named q told n ranges leads ends =
    let g = run_good headed (lines_in_all told) q tt (line_ranges named told ranges) leads in
    let w = whole_good q (marks_told told) n g.0 ends in
    let t = threaded named told ranges in
    let lines : lines_of n.text ≡ lines_in_all told = w.0.3 ∙ g.1 in
    let same : marked n.marks (lines_of n.text) ≡ told = (λ i. marked (w.1 i) (lines i)) ∙ t.0 in
    record {
      is = record {
        ranges = subst (AllByRecursion (IsMarkedInRange named)) (sym same) ranges;
        whole = (λ i. left_behind (w.1 i) (lines i)) ∙ t.1;
        matches = w.0.1;
        scores = w.0.0;
        standings = w.0.2;
      };
      same = same;
    }

taken_only : (f : Format) (lines : List (List ℕ)) (q : Stand) (n : NamedText) → HeadTaken f.named f.head lines q → whole q ≡ Some n → IsText f.named n × (text_lines f n ≡ lines)
taken_only f lines q n (within first later is e) ends = let out = ap whole is in absurd cc
taken_only f lines q n (beyond rest e is) ends =
    let s = spelled f.named headed [] rest q is in
    let taken = whole_taken f.named s.place s.told n s.ranges s.leads (sym (ap whole s.stands) ∙ ends) in
    (taken.is, ap (λ ms. f.head ++ map marked_text ms) taken.same ∙ sym (e ∙ ap (λ t. f.head ++ t) s.texts))

pub text_only : (f : Format) (lines : List (List ℕ)) (q : Stand) (n : NamedText) → run (take_bytes f.named) (before f.head) lines ≡ Some q → whole q ≡ Some n →
    IsText f.named n × (text_lines f n ≡ lines)
text_only f lines q n e ends = taken_only f lines q n (head_taken f.named f.head lines q e) ends

-- ---- which texts begin with what was taken

-- lines without choices, which have no marks
bares_again : (ls : List Line) → lines_in_all (map bare ls) ≡ ls
bares_again [] = refl
bares_again (l ∷ ls) = ap (λ t. l ∷ t) (bares_again ls)

others : (named : Bool) (ls : List Line) → AllByRecursion (λ l. IsInRange l × HasMarks true l None) ls → AllByRecursion (IsMarkedInRange named) (map bare ls)
others named [] all = tt
others named (l ∷ ls) all = ((all.0.0, other named l all.0.1), others named ls all.1)
  where
    other : (named : Bool) (l : Line) → HasMarks true l None → HasMarks named l None
    other named (chosen p) is = absurd is
    other named (opening n deal seats) is = tt
    other named (shuffled n) is = tt
    other named (ending e turn) is = tt
    other named (scored s) is = tt
    other named (ranked s) is = tt

-- a text goes on behind the lines of its head and these
goes_on : (f : Format) (told : List Marked) (q : Place) → AllByRecursion (IsMarkedInRange f.named) told → run take_line headed (lines_in_all told) ≡ Some q →
    Begins f (f.head ++ map marked_text told)
goes_on f told q ranges leads =
    let end = finishes q in
    let more = map bare end.more in
    let all = append_each (IsMarkedInRange f.named) told more ranges (others f.named end.more end.ranges) in
    let there : run take_line headed (lines_in_all (told ++ more)) ≡ Some (ranking end.matches end.standings) =
    ap (run take_line headed) (map-append (λ m. m.0) told more ∙ ap (λ t. lines_in_all told ++ t) (bares_again end.more))
    ∙ run_append take_line headed (lines_in_all told) end.more ∙ bind_is (run take_line headed (lines_in_all told)) (λ q. run take_line q end.more) q (Some (ranking end.matches end.standings)) leads end.leads in
    let n : NamedText = record { text = record { matches = end.matches; standings = end.standings }; marks = marks_told (told ++ more) } in
    let w = whole_taken f.named (ranking end.matches end.standings) (told ++ more) n all there refl in (
      n,
      flat_map ended_text more,
      w.is,
      ap (λ ms. flat_map with_end_byte f.head ++ flat_map ended_text ms) w.same
          ∙ ap (λ t. flat_map with_end_byte f.head ++ t) (flat_map-append ended_text told more)
          ∙ sym (append_assoc (flat_map with_end_byte f.head) (flat_map ended_text told) (flat_map ended_text more))
          ∙ ap (λ t. t ++ flat_map ended_text more) (sym (joined_head f.head told)),
    )

begins_taken : (f : Format) (lines : List (List ℕ)) (q : Stand) → HeadTaken f.named f.head lines q → Begins f lines
begins_taken f lines q (within first later is e) =
    fewer (IsText f.named) (text_in f) lines (first ∷ later) (subst (Begins f) (append-nil f.head ∙ e) (goes_on f [] headed tt refl))
begins_taken f lines q (beyond rest e is) =
    let s = spelled f.named headed [] rest q is in
    subst (Begins f) (sym (e ∙ ap (λ t. f.head ++ t) s.texts)) (goes_on f s.told s.place s.ranges s.leads)

pub is_grammar : (f : Format) → IsHead f.head → IsGrammarOf (grammar f) (IsText f.named) (text_in f) (text_lines f)
is_grammar f good =
    record {
      spelled = text_spelled f;
      one = λ n is. text_one f n good is;
      taken = λ n is. (inside (ranking n.text.matches n.text.standings) n.marks, text_run f n is, refl);
      only = text_only f;
      goes_on = λ lines q e. begins_taken f lines q (head_taken f.named f.head lines q e);
    }
