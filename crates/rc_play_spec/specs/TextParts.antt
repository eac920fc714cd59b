-- The text of a format, part by part: matches with their marks, one after the other.
use Rattle.std.specs.Prelude.{◌≡◌, ℕ, List, [], ◌∷◌, ◌++◌, flat_map}
use Rattle.rc_base.specs.Transcript.{Pick, Record, line, match_line, shuffles_line, end_line, score_line, standing_line}
use Rattle.rc_play_spec.specs.ItemBounds.{Bound}
use Rattle.rc_play_spec.specs.Lines.{chosen}
use Rattle.rc_play_spec.specs.HouseText.{Format, NamedText, first_marks, later_marks, ended_text, text_in}

-- choices, where these are the marks from there on
abbrev pub picks_text : List (List Bound) → List Pick → List ℕ
picks_text marks [] = []
picks_text marks (p ∷ picks) = ended_text (chosen p, first_marks marks) ++ picks_text (later_marks marks) picks

-- the marks that are left behind them
abbrev pub left_for : List Pick → List (List Bound) → List (List Bound)
left_for [] marks = marks
left_for (p ∷ picks) marks = left_for picks (later_marks marks)

abbrev pub record_told : List (List Bound) → Record → List ℕ
record_told marks r =
    match_line r ++ picks_text marks r.picks ++ shuffles_line r.shuffles ++ end_line r.ending r.turn
    ++ flat_map score_line r.scores

abbrev pub matches_told : List (List Bound) → List Record → List ℕ
matches_told marks [] = []
matches_told marks (r ∷ matches) = record_told marks r ++ matches_told (left_for r.picks marks) matches

-- it is the text
abbrev pub TextIsOfParts : Type 0
TextIsOfParts = (f : Format) (n : NamedText) →
    text_in f n
    ≡ flat_map line f.head ++ (matches_told n.marks n.text.matches ++ flat_map standing_line n.text.standings)
