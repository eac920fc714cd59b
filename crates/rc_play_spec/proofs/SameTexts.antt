-- The text without marks is that of its lines, and each text falls into its lines.
use Rattle.std.proofs.Common.{◌≡◌, ℕ, ◌+◌, ◌≤◌, ◌==◌, Bool, true, false, if◌then◌else◌, List, [], ◌∷◌, ◌++◌, map, flat_map, refl, sym, ap, ◌∙◌, append_assoc, subst, length, arith}
use Rattle.std.proofs.lemmas.List.{length-append, length-map}
use Rattle.std.proofs.lemmas.List.Concat.{flat_map-append}
use Rattle.std.specs.List.{AllByRecursion}
use Rattle.rc_base.specs.Transcript.{shuffles_line, Pick, Ending, done, limit, Score, Record, Standing, choose_line, score_line, standing_line, match_line, end_line, record_text}
use Rattle.rc_deck.proofs.EachLemmas.{append_each}
use Rattle.rc_play_spec.specs.ItemBounds.{Bound}
use Rattle.rc_play_spec.specs.Lines.{Line, opening, chosen, shuffled, ending, scored, ranked, Marked, IsInRange, Marked, bare, marked_text, IsMarkedInRange}
use Rattle.rc_play_spec.specs.HouseText.{HouseText, first_marks, later_marks, Format, plain, NamedText, unmarked, IsOneLine, IsHead, shuffles_told, record_lines, lines_of, marked, ended_text, text_of, text_in, text_lines, IsText, IsHouseText}
use Rattle.rc_play_spec.specs.TextParts.{picks_text, left_for, record_told, matches_told}
use Rattle.rc_play_spec.specs.LineGrammar.{lines_in}
use Rattle.rc_play_spec.proofs.Grammar.{record_apart}
use Rattle.rc_play_spec.proofs.LineCuts.{with_end_byte, cut_lines, texts_one, joined_texts}
use Rattle.rc_play_spec.proofs.Threaded.{same_lines, bare_lines, bare_ranges, nothing_left, line_ranges}

-- ---- lines that end

scored_same : (s : Score) → ended_text (bare (scored s)) ≡ score_line s
scored_same s = simp append_assoc refl

ranked_same : (s : Standing) → ended_text (bare (ranked s)) ≡ standing_line s
ranked_same s = simp append_assoc refl

opening_same : (r : Record) → ended_text (bare (opening r.number r.deal r.seats)) ≡ match_line r
opening_same r = simp append_assoc refl

ending_same : (e : Ending) (turn : ℕ) → ended_text (bare (ending e turn)) ≡ end_line e turn
ending_same done turn = simp append_assoc refl
ending_same limit turn = simp append_assoc refl

-- ---- parts of a text, with the marks from there on

abbrev told : List (List Bound) → List Line → List ℕ
told marks ls = flat_map ended_text (marked marks ls)

picks_apart : (marks : List (List Bound)) (picks : List Pick) (more : List Line) →
    told marks (map chosen picks ++ more) ≡ picks_text marks picks ++ told (left_for picks marks) more
picks_apart marks [] more = refl
picks_apart marks (p ∷ picks) more =
    let one = ended_text (chosen p, first_marks marks) in
    ap (λ t. one ++ t) (picks_apart (later_marks marks) picks more)
    ∙ sym (append_assoc one (picks_text (later_marks marks) picks) (told (left_for picks (later_marks marks)) more))

told_apart : (none : Bool) (n : ℕ) (marks : List (List Bound)) (more : List Line) →
    told marks ((if none then [] else shuffled n ∷ []) ++ more) ≡ (if none then [] else ended_text (bare (shuffled n))) ++ told marks more
told_apart true n marks more = refl
told_apart false n marks more = refl

scores_apart : (marks : List (List Bound)) (scores : List Score) (more : List Line) → told marks (map scored scores ++ more) ≡ flat_map score_line scores ++ told marks more
scores_apart marks [] more = refl
scores_apart marks (s ∷ scores) more =
    (λ i. scored_same s i ++ scores_apart marks scores more i) ∙ sym (append_assoc (score_line s) (flat_map score_line scores) (told marks more))

standings_apart : (marks : List (List Bound)) (standings : List Standing) → told marks (map ranked standings) ≡ flat_map standing_line standings
standings_apart marks [] = refl
standings_apart marks (s ∷ standings) = λ i. ranked_same s i ++ standings_apart marks standings i

record_parts : (marks : List (List Bound)) (r : Record) (more : List Line) →
    told marks (record_lines r ++ more) ≡ record_told marks r ++ told (left_for r.picks marks) more
record_parts marks r more =
    let left = left_for r.picks marks in
    let rest = told left more in
    let end = end_line r.ending r.turn in
    let scores = flat_map score_line r.scores in
    let picks = picks_text marks r.picks in
    let shuffles = shuffles_line r.shuffles in
    ap (told marks) (record_apart r more)
    ∙ (λ i. opening_same r i ++ picks_apart marks r.picks (shuffles_told r.shuffles ++ (ending r.ending r.turn ∷ (map scored r.scores ++ more))) i)
    ∙ ap (λ t. match_line r ++ (picks ++ t))
    (told_apart (r.shuffles == 0) r.shuffles left (ending r.ending r.turn ∷ (map scored r.scores ++ more))
    ∙ ap (λ t. shuffles ++ t) (λ i. ending_same r.ending r.turn i ++ scores_apart left r.scores more i))
    ∙ sym (joined_parts (match_line r) picks shuffles end scores rest)
  where
    joined_parts : (a b c d e f : List ℕ) → (a ++ b ++ c ++ d ++ e) ++ f ≡ a ++ (b ++ (c ++ (d ++ (e ++ f))))
    joined_parts a b c d e f = simp append_assoc refl

matches_apart : (marks : List (List Bound)) (matches : List Record) (standings : List Standing) →
    told marks (flat_map record_lines matches ++ map ranked standings) ≡ matches_told marks matches ++ flat_map standing_line standings
matches_apart marks [] standings = standings_apart marks standings
matches_apart marks (r ∷ matches) standings =
    let rest = left_for r.picks marks in
    ap (told marks) (append_assoc (record_lines r) (flat_map record_lines matches) (map ranked standings))
    ∙ record_parts marks r (flat_map record_lines matches ++ map ranked standings)
    ∙ ap (λ t. record_told marks r ++ t) (matches_apart rest matches standings)
    ∙ sym (append_assoc (record_told marks r) (matches_told rest matches) (flat_map standing_line standings))

pub text_apart : (f : Format) (n : NamedText) →
    text_in f n ≡ flat_map with_end_byte f.head ++ (matches_told n.marks n.text.matches ++ flat_map standing_line n.text.standings)
text_apart f n = ap (λ t. flat_map with_end_byte f.head ++ t) (matches_apart n.marks n.text.matches n.text.standings)

-- ---- without marks

chosen_same : (p : Pick) → ended_text (bare (chosen p)) ≡ choose_line p
chosen_same p = simp append_assoc refl

bare_picks : (picks : List Pick) → picks_text [] picks ≡ flat_map choose_line picks
bare_picks [] = refl
bare_picks (p ∷ picks) = λ i. chosen_same p i ++ bare_picks picks i

pub none_left : (picks : List Pick) → left_for picks [] ≡ []
none_left [] = refl
none_left (p ∷ picks) = none_left picks

pub bare_record : (r : Record) → record_told [] r ≡ record_text r
bare_record r = ap (λ t. match_line r ++ t ++ shuffles_line r.shuffles ++ end_line r.ending r.turn ++ flat_map score_line r.scores) (bare_picks r.picks)

pub bare_matches : (matches : List Record) → matches_told [] matches ≡ flat_map record_text matches
bare_matches [] = refl
bare_matches (r ∷ matches) = (λ i. bare_record r i ++ matches_told (none_left r.picks i) matches) ∙ ap (λ t. record_text r ++ t) (bare_matches matches)

pub text_same : (t : HouseText) → text_of t ≡ text_in plain (unmarked t)
text_same t =
    sym (text_apart plain (unmarked t) ∙ ap (λ x. flat_map with_end_byte plain.head ++ (x ++ flat_map standing_line t.standings)) (bare_matches t.matches))

pub plain_is : (t : HouseText) → IsHouseText t → IsText plain.named (unmarked t)
plain_is t is =
    record {
      ranges = subst (AllByRecursion (IsMarkedInRange false)) (sym (bare_lines (lines_of t))) (bare_ranges (lines_of t) is.ranges);
      whole = nothing_left (lines_of t);
      matches = is.matches;
      scores = is.scores;
      standings = is.standings;
    }

pub house_is : (named : Bool) (n : NamedText) → IsText named n → IsHouseText n.text
house_is named n is =
    record {
      ranges = subst (AllByRecursion IsInRange) (same_lines n.marks (lines_of n.text)) (line_ranges named (marked n.marks (lines_of n.text)) is.ranges);
      matches = is.matches;
      scores = is.scores;
      standings = is.standings;
    }

pub joined_head : (head : List (List ℕ)) (ms : List Marked) → flat_map with_end_byte (head ++ map marked_text ms) ≡ flat_map with_end_byte head ++ flat_map ended_text ms
joined_head head ms = flat_map-append with_end_byte head (map marked_text ms) ∙ ap (λ t. flat_map with_end_byte head ++ t) (joined_texts ms)

pub text_spelled : (f : Format) (n : NamedText) → text_in f n ≡ flat_map with_end_byte (text_lines f n)
text_spelled f n = sym (joined_head f.head (marked n.marks (lines_of n.text)))

pub text_one : (f : Format) (n : NamedText) → IsHead f.head → IsText f.named n → AllByRecursion IsOneLine (text_lines f n)
text_one f n good is = let ms = marked n.marks (lines_of n.text) in append_each IsOneLine f.head (map marked_text ms) good (texts_one f.named ms is.ranges)

pub text_cut : (f : Format) (n : NamedText) → IsHead f.head → IsText f.named n →
    lines_in (text_in f n) ≡ (text_lines f n, [])
text_cut f n good is = ap lines_in (text_spelled f n) ∙ cut_lines (text_lines f n) (text_one f n good is)

few_head : (head : List (List ℕ)) → length head ≤ length (flat_map with_end_byte head)
few_head [] = omega arith
few_head (h ∷ head) = omega (arith, few_head head, length-append (with_end_byte h) (flat_map with_end_byte head), length-append h (10 ∷ []))

few : (ms : List Marked) → length ms ≤ length (flat_map ended_text ms)
few [] = omega arith
few (m ∷ ms) = omega (arith, few ms, length-append (ended_text m) (flat_map ended_text ms), length-append (marked_text m) (10 ∷ []))

pub lines_few : (f : Format) (n : NamedText) → length f.head + length (lines_of n.text) ≤ length (text_in f n)
lines_few f n =
    let ms = marked n.marks (lines_of n.text) in
    let a = few_head f.head in
    let b = few ms in
    let c = length-append (flat_map with_end_byte f.head) (flat_map ended_text ms) in
    let d = length-map ms (λ m. m.0) in
    let e = ap length (same_lines n.marks (lines_of n.text)) in
    omega (arith, a, b, c, d, e)
