-- The lines of a transcript behind its head, as values: the text of each, and what is read from a text.
use Rattle.std.specs.Prelude.{ℕ, ◌≤◌, Bool, true, false, List, ◌++◌, flat_map, codes, decimal, Option, Some, None}
use Rattle.std.specs.Fmt.{signed_decimal}
use Rattle.rc_base.specs.Clamp.{IsWithinClamp, largest_number}
use Rattle.rc_base.specs.Limits.{largest_seed, most_turns, most_items}
use Rattle.rc_base.specs.Transcript.{Pick, Ending, done, limit, Score, Standing}
use Rattle.rc_play_spec.specs.Fields.{◌>>=◌, number, counted, integer, last, ◌or_else◌}
use Rattle.rc_play_spec.specs.ItemBounds.{Bound}
use Rattle.rc_play_spec.specs.Bounds.{mark_text, AreMarks, marks_in}

pub data Line : Type 0 where
  opening : (number deal seats : ℕ) → Line
  chosen : Pick → Line
  shuffled : ℕ → Line
  ending : Ending → ℕ → Line
  scored : Score → Line
  ranked : Standing → Line

abbrev pub end_text : Ending → ℕ → List ℕ
end_text done turn = codes "end done " ++ decimal turn
end_text limit turn = codes "end limit " ++ decimal turn

-- the text of a line, without its LF
abbrev pub line_text : Line → List ℕ
line_text (opening n deal seats) = codes "match " ++ (decimal n ++ (codes " deal " ++ (decimal deal ++ (codes " seats " ++ decimal seats))))
line_text (chosen p) =
    codes "choose " ++ (decimal p.seat ++ (codes " " ++ (decimal p.site ++ (codes " " ++ (decimal p.item ++ (codes " " ++ decimal p.size))))))
line_text (shuffled n) = codes "shuffles " ++ decimal n
line_text (ending e turn) = end_text e turn
line_text (scored s) = codes "score " ++ (decimal s.player ++ (codes " " ++ (signed_decimal s.score ++ (codes " " ++ decimal s.points))))
line_text (ranked s) =
    codes "standing " ++ (decimal s.place ++ (codes " strategy " ++ (decimal s.strategy ++ (codes " points " ++ decimal s.points))))

-- its numbers are in their ranges
abbrev pub IsInRange : Line → Type 0
IsInRange (opening n deal seats) = (n ≤ 4095) × (deal ≤ largest_seed) × (seats ≤ largest_seed)
IsInRange (chosen p) = (p.seat ≤ 7) × (p.site ≤ 63) × (p.item ≤ 255) × (1 ≤ p.size) × (p.size ≤ most_items)
IsInRange (shuffled n) = (1 ≤ n) × (n ≤ 4294967295)
IsInRange (ending e turn) = turn ≤ most_turns
IsInRange (scored s) = (s.player ≤ 7) × IsWithinClamp s.score × (s.points ≤ 14)
IsInRange (ranked s) = (1 ≤ s.place) × (s.place ≤ 8) × (s.strategy ≤ 7) × (s.points ≤ 57344)

-- ---- a line with what it tells beside its numbers: a choose line of a text that names what items bind tells that by marks

abbrev pub Marked : Type 0
Marked = Line × Option (List Bound)

-- a line that has no marks
abbrev pub bare : Line → Marked
bare l = (l, None)

abbrev pub marks_text : Option (List Bound) → List ℕ
marks_text None = codes ""
marks_text (Some marks) = flat_map mark_text marks

-- the text of a line with its marks, without its LF
abbrev pub marked_text : Marked → List ℕ
marked_text (l, None) = line_text l
marked_text (l, Some marks) = line_text l ++ flat_map mark_text marks

-- the marks of a choose line: there are any exactly where a text names what items bind
abbrev pub AreTold : (named : Bool) → Option (List Bound) → Type 0
AreTold false None = Unit {0}
AreTold false (Some marks) = ⊥
AreTold true None = ⊥
AreTold true (Some marks) = AreMarks marks

-- those of any line
abbrev pub HasMarks : (named : Bool) → Line → Option (List Bound) → Type 0
HasMarks named (chosen p) marks = AreTold named marks
HasMarks named (opening n deal seats) marks = AreTold false marks
HasMarks named (shuffled n) marks = AreTold false marks
HasMarks named (ending e turn) marks = AreTold false marks
HasMarks named (scored s) marks = AreTold false marks
HasMarks named (ranked s) marks = AreTold false marks

abbrev pub IsMarkedInRange : (named : Bool) → Marked → Type 0
IsMarkedInRange named m = IsInRange m.0 × HasMarks named m.0 m.1

-- ---- what each kind of line reads

abbrev pub opening_in : List ℕ → Option Line
opening_in bytes = do
  n ← number (codes "match ") 4095 bytes
  deal ← number (codes " deal ") largest_seed n.1
  seats ← number (codes " seats ") largest_seed deal.1
  last (opening n.0 deal.0 seats.0) seats.1

-- the marks behind the numbers of a choose line
abbrev pub told_in : (named : Bool) → List ℕ → Option (Option (List Bound))
told_in false bytes = last None bytes
told_in true bytes = do
  marks ← marks_in 4 bytes
  Some (Some marks)

abbrev pub chosen_in : (named : Bool) → List ℕ → Option Marked
chosen_in named bytes = do
  seat ← number (codes "choose ") 7 bytes
  site ← number (codes " ") 63 seat.1
  item ← number (codes " ") 255 site.1
  size ← counted (codes " ") most_items item.1
  marks ← told_in named size.1
  Some (chosen (record { seat = seat.0; site = site.0; item = item.0; size = size.0 }), marks)

abbrev pub shuffled_in : List ℕ → Option Line
shuffled_in bytes = do
  n ← counted (codes "shuffles ") 4294967295 bytes
  last (shuffled n.0) n.1

abbrev pub done_in : List ℕ → Option Line
done_in bytes = do
  turn ← number (codes "end done ") most_turns bytes
  last (ending done turn.0) turn.1

abbrev pub limit_in : List ℕ → Option Line
limit_in bytes = do
  turn ← number (codes "end limit ") most_turns bytes
  last (ending limit turn.0) turn.1

abbrev pub scored_in : List ℕ → Option Line
scored_in bytes = do
  player ← number (codes "score ") 7 bytes
  score ← integer (codes " ") largest_number player.1
  points ← number (codes " ") 14 score.1
  last (scored (record { player = player.0; score = score.0; points = points.0 })) points.1

abbrev pub ranked_in : List ℕ → Option Line
ranked_in bytes = do
  place ← counted (codes "standing ") 8 bytes
  strategy ← number (codes " strategy ") 7 place.1
  points ← number (codes " points ") 57344 strategy.1
  last (ranked (record { place = place.0; strategy = strategy.0; points = points.0 })) points.1

-- every other line
abbrev pub other_in : List ℕ → Option Line
other_in bytes =
    opening_in bytes or_else shuffled_in bytes or_else done_in bytes or_else limit_in bytes or_else scored_in bytes
    or_else ranked_in bytes

-- the line that bytes spell, in a text that names what items bind or in one that doesn't
abbrev pub line_of : (named : Bool) → List ℕ → Option Marked
line_of named bytes = chosen_in named bytes or_else (other_in bytes >>= λ l. Some (bare l))
