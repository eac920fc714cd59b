-- A text has marks for each of its choices, or none.
use Rattle.std.proofs.Common.{◌≡◌, ℕ, suc, ◌+◌, ◌≤◌, ◌==◌, Bool, true, false, if◌then◌else◌, List, [], ◌∷◌, ◌++◌, map, flat_map, length, refl, sym, ap, ◌∙◌, arith, append_assoc}
use Rattle.std.specs.List.{AllByRecursion}
use Rattle.rc_base.specs.Transcript.{Pick, Score, Record, Standing}
use Rattle.rc_play_spec.specs.ItemBounds.{Bound}
use Rattle.rc_play_spec.specs.Lines.{Line, opening, chosen, shuffled, ending, scored, ranked, IsMarkedInRange}
use Rattle.rc_play_spec.specs.HouseText.{NamedText, marked, left_behind, shuffles_told, record_lines, lines_of, IsText}
use Rattle.rc_play_spec.proofs.Grammar.{record_apart}
use Rattle.rc_play_spec.proofs.Threaded.{no_marks, same_marks}

-- how many choices there are in lines, and in matches
abbrev pub choices_in : List Line → ℕ
choices_in [] = 0
choices_in (chosen p ∷ ls) = suc (choices_in ls)
choices_in (opening n deal seats ∷ ls) = choices_in ls
choices_in (shuffled n ∷ ls) = choices_in ls
choices_in (ending e turn ∷ ls) = choices_in ls
choices_in (scored s ∷ ls) = choices_in ls
choices_in (ranked s ∷ ls) = choices_in ls

abbrev pub picks_in : List Record → ℕ
picks_in [] = 0
picks_in (r ∷ matches) = length r.picks + picks_in matches

-- ---- choices of lines are those of matches

choices_of_picks : (picks : List Pick) (more : List Line) → choices_in (map chosen picks ++ more) ≡ length picks + choices_in more
choices_of_picks [] more = omega arith
choices_of_picks (p ∷ picks) more = let e = choices_of_picks picks more in omega (arith, e)

choices_told : (none : Bool) (n : ℕ) (more : List Line) → choices_in ((if none then [] else shuffled n ∷ []) ++ more) ≡ choices_in more
choices_told true n more = refl
choices_told false n more = refl

choices_scored : (scores : List Score) (more : List Line) → choices_in (map scored scores ++ more) ≡ choices_in more
choices_scored [] more = refl
choices_scored (s ∷ scores) more = choices_scored scores more

choices_ranked : (standings : List Standing) → choices_in (map ranked standings) ≡ 0
choices_ranked [] = refl
choices_ranked (s ∷ standings) = choices_ranked standings

choices_of_record : (r : Record) (more : List Line) → choices_in (record_lines r ++ more) ≡ length r.picks + choices_in more
choices_of_record r more =
    ap choices_in (record_apart r more)
    ∙ choices_of_picks r.picks (shuffles_told r.shuffles ++ (ending r.ending r.turn ∷ (map scored r.scores ++ more)))
    ∙ ap (λ n. length r.picks + n)
    (choices_told (r.shuffles == 0) r.shuffles (ending r.ending r.turn ∷ (map scored r.scores ++ more)) ∙ choices_scored r.scores more)

pub choices_of_matches : (matches : List Record) (standings : List Standing) → choices_in (flat_map record_lines matches ++ map ranked standings) ≡ picks_in matches
choices_of_matches [] standings = choices_ranked standings
choices_of_matches (r ∷ matches) standings =
    ap choices_in (append_assoc (record_lines r) (flat_map record_lines matches) (map ranked standings))
    ∙ choices_of_record r (flat_map record_lines matches ++ map ranked standings)
    ∙ ap (λ n. length r.picks + n) (choices_of_matches matches standings)

-- ---- how many marks there are

enough_for : (marks : List (List Bound)) (ls : List Line) → AllByRecursion (IsMarkedInRange true) (marked marks ls) → choices_in ls ≤ length marks
enough_for marks [] all = omega arith
enough_for [] (chosen p ∷ ls) all = absurd all.0.1
enough_for (m ∷ marks) (chosen p ∷ ls) all = let le = enough_for marks ls all.1 in omega (arith, le)
enough_for marks (opening n deal seats ∷ ls) all = enough_for marks ls all.1
enough_for marks (shuffled n ∷ ls) all = enough_for marks ls all.1
enough_for marks (ending e turn ∷ ls) all = enough_for marks ls all.1
enough_for marks (scored s ∷ ls) all = enough_for marks ls all.1
enough_for marks (ranked s ∷ ls) all = enough_for marks ls all.1

few_for : (marks : List (List Bound)) (ls : List Line) → length marks ≤ choices_in ls + length (left_behind marks ls)
few_for marks [] = omega arith
few_for [] (chosen p ∷ ls) = omega arith
few_for (m ∷ marks) (chosen p ∷ ls) = let le = few_for marks ls in omega (arith, le)
few_for marks (opening n deal seats ∷ ls) = few_for marks ls
few_for marks (shuffled n ∷ ls) = few_for marks ls
few_for marks (ending e turn ∷ ls) = few_for marks ls
few_for marks (scored s ∷ ls) = few_for marks ls
few_for marks (ranked s ∷ ls) = few_for marks ls

pub enough_marks : (n : NamedText) → IsText true n → picks_in n.text.matches ≤ length n.marks
enough_marks n is =
    let a = enough_for n.marks (lines_of n.text) is.ranges in
    let b = choices_of_matches n.text.matches n.text.standings in
    omega (arith, a, b)

pub no_more_marks : (named : Bool) (n : NamedText) → IsText named n → length n.marks ≤ picks_in n.text.matches
no_more_marks named n is =
    let a = few_for n.marks (lines_of n.text) in
    let b = choices_of_matches n.text.matches n.text.standings in
    let c = ap length is.whole in
    omega (arith, a, b, c)

pub never_marks : (n : NamedText) → IsText false n → n.marks ≡ []
never_marks n is = sym (same_marks n.marks (lines_of n.text) is.whole) ∙ no_marks (marked n.marks (lines_of n.text)) is.ranges
