-- House texts as values, in either format: their lines, their text, and which of them there are.
use Rattle.std.specs.Prelude.{◌≡◌, ℕ, ◌==◌, Bool, true, false, if◌then◌else◌, List, [], ◌∷◌, ◌++◌, map, flat_map, codes, Option, Some, None}
use Rattle.std.specs.Prelude.{◌≢◌}
use Rattle.std.specs.List.{AllByRecursion}
use Rattle.rc_base.specs.Transcript.{Record, Standing, line, house_text}
use Rattle.rc_play_spec.specs.ItemBounds.{Bound}
use Rattle.rc_play_spec.specs.Lines.{Line, opening, chosen, shuffled, ending, scored, ranked, IsInRange, Marked, marked_text, IsMarkedInRange}

pub record HouseText : Type 0 where
  pub matches : List Record
  pub standings : List Standing

-- the line of the shuffles, which is left out where there were none
abbrev pub shuffles_told : ℕ → List Line
shuffles_told n = if n == 0 then [] else shuffled n ∷ []

-- the lines of a match: up to its last choice
abbrev pub played_lines : Record → List Line
played_lines r = opening r.number r.deal r.seats ∷ map chosen r.picks

-- up to its shuffles
abbrev pub told_lines : Record → List Line
told_lines r = played_lines r ++ shuffles_told r.shuffles

-- up to its end
abbrev pub ended_lines : Record → List Line
ended_lines r = told_lines r ++ ending r.ending r.turn ∷ []

-- and all of them
abbrev pub record_lines : Record → List Line
record_lines r = ended_lines r ++ map scored r.scores

-- the lines of the whole text behind its head
abbrev pub lines_of : HouseText → List Line
lines_of t = flat_map record_lines t.matches ++ map ranked t.standings

-- the bytes of the whole text in the format that tells no marks
abbrev pub text_of : HouseText → List ℕ
text_of t = house_text t.matches t.standings

-- ---- the formats

-- how a text is told: the lines of its head, and whether it names what items bind
pub record Format : Type 0 where
  pub head : List (List ℕ)
  pub named : Bool

abbrev pub plain : Format
plain = record { head = codes "house 1" ∷ []; named = false }

-- with the lines of a legend
abbrev pub naming : List (List ℕ) → Format
naming legend = record { head = codes "house 2" ∷ legend; named = true }

-- no LF
abbrev pub IsOneLine : List ℕ → Type 0
IsOneLine [] = Unit {0}
IsOneLine (b ∷ bytes) = ((b == 10) ≡ false) × IsOneLine bytes

abbrev pub IsHead : List (List ℕ) → Type 0
IsHead head = AllByRecursion IsOneLine head

-- A text with the marks of its choices, one after the other over all matches. A text without marks has none.
pub record NamedText : Type 0 where
  pub text : HouseText
  pub marks : List (List Bound)

abbrev pub first_marks : List (List Bound) → Option (List Bound)
first_marks [] = None
first_marks (m ∷ marks) = Some m

abbrev pub later_marks : List (List Bound) → List (List Bound)
later_marks [] = []
later_marks (m ∷ marks) = marks

-- the marks of a line, where these are the marks from there on; and those that are left behind it
abbrev pub marks_of : Line → List (List Bound) → Option (List Bound)
marks_of (chosen p) marks = first_marks marks
marks_of (opening n deal seats) marks = None
marks_of (shuffled n) marks = None
marks_of (ending e turn) marks = None
marks_of (scored s) marks = None
marks_of (ranked s) marks = None

abbrev pub left_of : Line → List (List Bound) → List (List Bound)
left_of (chosen p) marks = later_marks marks
left_of (opening n deal seats) marks = marks
left_of (shuffled n) marks = marks
left_of (ending e turn) marks = marks
left_of (scored s) marks = marks
left_of (ranked s) marks = marks

-- the lines with their marks, and what is left of these behind them
abbrev pub marked : List (List Bound) → List Line → List Marked
marked marks [] = []
marked marks (l ∷ ls) = (l, marks_of l marks) ∷ marked (left_of l marks) ls

abbrev pub left_behind : List (List Bound) → List Line → List (List Bound)
left_behind marks [] = marks
left_behind marks (l ∷ ls) = left_behind (left_of l marks) ls

-- a line's bytes, with its LF
abbrev pub ended_text : Marked → List ℕ
ended_text m = line (marked_text m)

-- the bytes of a text in a format
abbrev pub text_in : Format → NamedText → List ℕ
text_in f n = flat_map line f.head ++ flat_map ended_text (marked n.marks (lines_of n.text))

-- its lines, each without its LF
abbrev pub text_lines : Format → NamedText → List (List ℕ)
text_lines f n = f.head ++ map marked_text (marked n.marks (lines_of n.text))

-- Numbers in their ranges, marks for each choice or for none, as the format has them; one or more matches, each with one or more scores,
-- and one or more standings.
pub record IsText (named : Bool) (n : NamedText) : Type 0 where
  pub ranges : AllByRecursion (IsMarkedInRange named) (marked n.marks (lines_of n.text))
  pub whole : left_behind n.marks (lines_of n.text) ≡ []
  pub matches : n.text.matches ≢ []
  pub scores : AllByRecursion (λ r. r.scores ≢ []) n.text.matches
  pub standings : n.text.standings ≢ []

-- ---- the format without marks

abbrev pub unmarked : HouseText → NamedText
unmarked t = record { text = t; marks = [] }

-- numbers in their ranges, one or more matches, each with one or more scores, and one or more standings
pub record IsHouseText (t : HouseText) : Type 0 where
  pub ranges : AllByRecursion IsInRange (lines_of t)
  pub matches : t.matches ≢ []
  pub scores : AllByRecursion (λ r. r.scores ≢ []) t.matches
  pub standings : t.standings ≢ []
