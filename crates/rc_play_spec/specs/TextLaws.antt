-- Statements of laws on house texts, of either format.
use Rattle.std.specs.Prelude.{◌≡◌, ℕ, ◌≤◌, ◌+◌, Bool, List, [], length, flat_map, Some, Ok, Err}
use Rattle.rc_base.specs.Transcript.{line}
use Rattle.rc_base.specs.Limits.{most_cards}
use Rattle.rc_sheet_spec.specs.Sheet.{Sheet}
use Rattle.rc_sheet_spec.specs.WellFormed.{HasWords}
use Rattle.rc_play_spec.specs.Shape.{Shape}
use Rattle.rc_play_spec.specs.Naming.{legend_of}
use Rattle.rc_play_spec.specs.Lines.{Marked, marked_text, IsMarkedInRange, line_of}
use Rattle.rc_play_spec.specs.HouseText.{HouseText, Format, plain, NamedText, unmarked, IsHead, lines_of, text_of, text_in, text_lines, IsText, IsHouseText}
use Rattle.rc_play_spec.specs.LineGrammar
use Rattle.rc_play_spec.specs.Reading.{lines_in, read_in}

-- the text of a line is read as that line, and what is read as a line is its text
abbrev pub LineIsRead : Type 0
LineIsRead = (named : Bool) (m : Marked) → IsMarkedInRange named m → line_of named (marked_text m) ≡ Some m

abbrev pub ReadIsLine : Type 0
ReadIsLine = (named : Bool) (bytes : List ℕ) (m : Marked) → line_of named bytes ≡ Some m →
    IsMarkedInRange named m × (bytes ≡ marked_text m)

-- the text without marks is that of its lines
abbrev pub PlainText : Type 0
PlainText = (t : HouseText) → text_of t ≡ text_in plain (unmarked t)

abbrev pub PlainIsText : Type 0
PlainIsText = (t : HouseText) → IsHouseText t → IsText plain.named (unmarked t)

-- cut at each LF, a text falls into its lines
abbrev pub TextIsCut : Type 0
TextIsCut = (f : Format) (n : NamedText) → IsHead f.head → IsText f.named n →
    lines_in (text_in f n) ≡ (text_lines f n, [])

-- the lines of a legend are cut at their LFs; words have none
abbrev pub LegendIsCut : Type 0
LegendIsCut = (sheet : Sheet) (shape : Shape) → HasWords sheet → length shape.faces ≤ most_cards →
    lines_in (flat_map line (legend_of sheet shape)) ≡ (legend_of sheet shape, [])

-- each line takes a byte at least
abbrev pub LinesAreFew : Type 0
LinesAreFew = (f : Format) (n : NamedText) → length f.head + length (lines_of n.text) ≤ length (text_in f n)

-- a text is read off its bytes, and what is read has the bytes as its text
abbrev pub TextIsRead : Type 0
TextIsRead = (f : Format) (n : NamedText) → IsHead f.head → IsText f.named n → read_in f (text_in f n) ≡ Ok n

abbrev pub ReadIsText : Type 0
ReadIsText = (f : Format) (bytes : List ℕ) (n : NamedText) → read_in f bytes ≡ Ok n →
    IsText f.named n × (bytes ≡ text_in f n)

-- what is read has its numbers in their ranges, whatever its marks are
abbrev pub TextIsHouseText : Type 0
TextIsHouseText = (named : Bool) (n : NamedText) → IsText named n → IsHouseText n.text

-- some text of a format begins with these lines
abbrev pub Begins : Format → List (List ℕ) → Type 0
Begins f lines = LineGrammar.Begins (IsText f.named) (text_in f) lines

-- the first line that no text of a format goes on with
abbrev pub IsFirstFault : Format → List ℕ → ℕ → Type 0
IsFirstFault f bytes n = LineGrammar.IsFirstFault (IsText f.named) (text_in f) bytes n

-- a fault is at the first faulty line, and at no other
abbrev pub FaultIsFirst : Type 0
FaultIsFirst = (f : Format) (bytes : List ℕ) (n : ℕ) → IsHead f.head → read_in f bytes ≡ Err n → IsFirstFault f bytes n

abbrev pub FirstIsFault : Type 0
FirstIsFault = (f : Format) (bytes : List ℕ) (n : ℕ) → IsHead f.head → IsFirstFault f bytes n → read_in f bytes ≡ Err n
