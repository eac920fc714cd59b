-- Lines with their marks, and marks one after the other.
use Rattle.std.proofs.Common.{◌≡◌, Bool, true, false, List, [], ◌∷◌, map, Option, Some, None, refl, sym, ap, ◌∙◌}
use Rattle.std.specs.List.{AllByRecursion}
use Rattle.rc_play_spec.specs.ItemBounds.{Bound}
use Rattle.rc_play_spec.specs.Lines.{Line, opening, chosen, shuffled, ending, scored, ranked, IsInRange, Marked, bare, IsMarkedInRange}
use Rattle.rc_play_spec.specs.HouseText.{first_marks, later_marks, marks_of, left_of, marked, left_behind}

abbrev pub lines_in_all : List Marked → List Line
lines_in_all ms = map (λ m. m.0) ms

-- the marks that are told, in order
abbrev pub onto_marks : Option (List Bound) → List (List Bound) → List (List Bound)
onto_marks None marks = marks
onto_marks (Some m) marks = m ∷ marks

abbrev pub marks_told : List Marked → List (List Bound)
marks_told [] = []
marks_told (m ∷ ms) = onto_marks m.1 (marks_told ms)

-- ---- what is threaded through lines comes back

pub same_lines : (marks : List (List Bound)) (ls : List Line) → lines_in_all (marked marks ls) ≡ ls
same_lines marks [] = refl
same_lines marks (l ∷ ls) = ap (λ t. l ∷ t) (same_lines (left_of l marks) ls)

one_back : (l : Line) (marks more : List (List Bound)) → more ≡ left_of l marks → onto_marks (marks_of l marks) more ≡ marks
one_back (opening n deal seats) marks more e = e
one_back (chosen p) [] more e = e
one_back (chosen p) (m ∷ marks) more e = ap (λ t. m ∷ t) e
one_back (shuffled n) marks more e = e
one_back (ending e' turn) marks more e = e
one_back (scored s) marks more e = e
one_back (ranked s) marks more e = e

pub same_marks : (marks : List (List Bound)) (ls : List Line) → left_behind marks ls ≡ [] → marks_told (marked marks ls) ≡ marks
same_marks marks [] e = sym e
same_marks marks (l ∷ ls) e = one_back l marks (marks_told (marked (left_of l marks) ls)) (same_marks (left_of l marks) ls e)

-- ---- what is read in order is threaded

pub no_marks : (ms : List Marked) → AllByRecursion (IsMarkedInRange false) ms → marks_told ms ≡ []
no_marks [] all = refl
no_marks (m ∷ ms) all = none m all.0 ∙ no_marks ms all.1
  where
    none : (m : Marked) → IsMarkedInRange false m → onto_marks m.1 (marks_told ms) ≡ marks_told ms
    none (l, None) is = refl
    none (chosen p, Some marks) is = absurd is.1
    none (opening n deal seats, Some marks) is = absurd is.1
    none (shuffled n, Some marks) is = absurd is.1
    none (ending e turn, Some marks) is = absurd is.1
    none (scored s, Some marks) is = absurd is.1
    none (ranked s, Some marks) is = absurd is.1

-- a line's marks are the first of those from there on
abbrev Threads : Marked → List (List Bound) → Type 0
Threads m more = (marks_of m.0 (onto_marks m.1 more) ≡ m.1) × (left_of m.0 (onto_marks m.1 more) ≡ more)

threads : (named : Bool) (m : Marked) (more : List (List Bound)) → IsMarkedInRange named m → (named ≡ false → more ≡ []) → Threads m more
threads false (chosen p, None) more is none = (ap first_marks (none refl), ap later_marks (none refl) ∙ sym (none refl))
threads true (chosen p, None) more is none = absurd is.1
threads false (chosen p, Some marks) more is none = absurd is.1
threads true (chosen p, Some marks) more is none = (refl, refl)
threads named (opening n deal seats, None) more is none = (refl, refl)
threads named (opening n deal seats, Some marks) more is none = absurd is.1
threads named (shuffled n, None) more is none = (refl, refl)
threads named (shuffled n, Some marks) more is none = absurd is.1
threads named (ending e turn, None) more is none = (refl, refl)
threads named (ending e turn, Some marks) more is none = absurd is.1
threads named (scored s, None) more is none = (refl, refl)
threads named (scored s, Some marks) more is none = absurd is.1
threads named (ranked s, None) more is none = (refl, refl)
threads named (ranked s, Some marks) more is none = absurd is.1

none_where : (named : Bool) (ms : List Marked) → AllByRecursion (IsMarkedInRange named) ms → named ≡ false → marks_told ms ≡ []
none_where false ms all e = no_marks ms all
none_where true ms all e = absurd cc

abbrev pub AreThreaded : List Marked → Type 0
AreThreaded ms = (marked (marks_told ms) (lines_in_all ms) ≡ ms) × (left_behind (marks_told ms) (lines_in_all ms) ≡ [])

pub threaded : (named : Bool) (ms : List Marked) → AllByRecursion (IsMarkedInRange named) ms → AreThreaded ms
threaded named [] all = (refl, refl)
threaded named (m ∷ ms) all =
    let t = threads named m (marks_told ms) all.0 (none_where named ms all.1) in
    let r = threaded named ms all.1 in (
      (λ i. (m.0, t.0 i) ∷ marked (t.1 i) (lines_in_all ms)) ∙ ap (λ ms. m ∷ ms) r.0,
      ap (λ marks. left_behind marks (lines_in_all ms)) t.1 ∙ r.1,
    )

-- ---- without marks

pub bare_lines : (ls : List Line) → marked [] ls ≡ map bare ls
bare_lines [] = refl
bare_lines (opening n deal seats ∷ ls) = ap (λ t. bare (opening n deal seats) ∷ t) (bare_lines ls)
bare_lines (chosen p ∷ ls) = ap (λ t. bare (chosen p) ∷ t) (bare_lines ls)
bare_lines (shuffled n ∷ ls) = ap (λ t. bare (shuffled n) ∷ t) (bare_lines ls)
bare_lines (ending e turn ∷ ls) = ap (λ t. bare (ending e turn) ∷ t) (bare_lines ls)
bare_lines (scored s ∷ ls) = ap (λ t. bare (scored s) ∷ t) (bare_lines ls)
bare_lines (ranked s ∷ ls) = ap (λ t. bare (ranked s) ∷ t) (bare_lines ls)

pub nothing_left : (ls : List Line) → left_behind [] ls ≡ []
nothing_left [] = refl
nothing_left (opening n deal seats ∷ ls) = nothing_left ls
nothing_left (chosen p ∷ ls) = nothing_left ls
nothing_left (shuffled n ∷ ls) = nothing_left ls
nothing_left (ending e turn ∷ ls) = nothing_left ls
nothing_left (scored s ∷ ls) = nothing_left ls
nothing_left (ranked s ∷ ls) = nothing_left ls

bare_in_range : (l : Line) → IsInRange l → IsMarkedInRange false (bare l)
bare_in_range (opening n deal seats) is = (is, tt)
bare_in_range (chosen p) is = (is, tt)
bare_in_range (shuffled n) is = (is, tt)
bare_in_range (ending e turn) is = (is, tt)
bare_in_range (scored s) is = (is, tt)
bare_in_range (ranked s) is = (is, tt)

pub bare_ranges : (ls : List Line) → AllByRecursion IsInRange ls → AllByRecursion (IsMarkedInRange false) (map bare ls)
bare_ranges [] all = tt
bare_ranges (l ∷ ls) all = (bare_in_range l all.0, bare_ranges ls all.1)

pub line_ranges : (named : Bool) (ms : List Marked) → AllByRecursion (IsMarkedInRange named) ms → AllByRecursion IsInRange (lines_in_all ms)
line_ranges named [] all = tt
line_ranges named (m ∷ ms) all = (all.0.0, line_ranges named ms all.1)
