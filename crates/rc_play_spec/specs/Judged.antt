-- The first illegal line of a house text, of either format. For each line the play of its match is started anew.
use Rattle.std.specs.Prelude.{ℕ, ◌+◌, List, [], ◌∷◌, ◌++◌, length, Option, Some, None}
use Rattle.rc_base.specs.Transcript.{Pick}
use Rattle.rc_play_spec.specs.Fields.{◌>>=◌}
use Rattle.rc_play_spec.specs.ItemBounds.{Bound}
use Rattle.rc_play_spec.specs.Lines.{Line, opening, chosen, shuffled, ending, scored, ranked, Marked}
use Rattle.rc_play_spec.specs.HouseText.{NamedText, lines_of, marked}
use Rattle.rc_play_spec.specs.Reading.{Place, headed, playing, told, stopped, scoring, ranking, take_line}
use Rattle.rc_play_spec.specs.LineGrammar.{run}
use Rattle.rc_play_spec.specs.About.{About}
use Rattle.rc_play_spec.specs.Effects.{Dealing}
use Rattle.rc_play_spec.specs.Stop.{Stopped}
use Rattle.rc_play_spec.specs.Play.{items_of, reached}
use Rattle.rc_play_spec.specs.Plan.{Plan, deal_at}
use Rattle.rc_play_spec.specs.Why.{Why, Illegal}
use Rattle.rc_play_spec.specs.Rows.{◌or◌, lacking_row, opening_row, chosen_row, shuffled_row, ending_row, scored_row, ranked_row, end_row}

-- the n-th line where a row applies to it, else what is found later
abbrev pub at_line : ℕ → Option Why → Option Illegal → Option Illegal
at_line n None later = later
at_line n (Some why) later = Some (record { line = n; why = why })

-- the row of the end of a text
abbrev pub end_at : Plan → Place → Option Why
end_at plan (ranking matches standings) = end_row plan matches (length standings)
end_at plan _ = None

abbrev pub end_of : Plan → List Line → Option Why
end_of plan front = run take_line headed front >>= end_at plan

module _ (about : About) (dealing : ℕ → Dealing ℕ) (plan : Plan) where
  -- the play of match m after these choices
  abbrev pub play_after : ℕ → List Pick → Option (Stopped ℕ)
  play_after m picks = reached about (dealing (deal_at plan m).deal) (items_of picks) 0

  -- the play of the match in which a place is
  abbrev pub play_at : Place → Option (Stopped ℕ)
  play_at (playing before r) = play_after (length before) r.picks
  play_at (told before r) = play_after (length before) r.picks
  play_at (stopped before r) = play_after (length before) r.picks
  play_at (scoring before r) = play_after (length before) r.picks
  play_at _ = None

  -- The row that applies to a line with its marks at a place, where the play stands at a stop. The table has no rows for lines that
  -- can't stand there by the grammar.
  abbrev pub row_at : Place → Option (Stopped ℕ) → Line → Option (List Bound) → Option Why
  row_at headed at (opening n deal seats) marks = opening_row plan 0 n deal seats
  row_at (scoring before r) at (opening n deal seats) marks =
      lacking_row about r or opening_row plan (length before + 1) n deal seats
  row_at (playing before r) at (chosen p) marks = chosen_row about at p marks
  row_at (playing before r) at (shuffled n) marks = shuffled_row at n
  row_at (playing before r) at (ending e turn) marks = ending_row at r.shuffles e turn
  row_at (told before r) at (ending e turn) marks = ending_row at r.shuffles e turn
  row_at (stopped before r) at (scored s) marks = scored_row about at (length r.scores) s
  row_at (scoring before r) at (scored s) marks = scored_row about at (length r.scores) s
  row_at (scoring before r) at (ranked s) marks = lacking_row about r or ranked_row plan (before ++ r ∷ []) 0 s
  row_at (ranking matches standings) at (ranked s) marks = ranked_row plan matches (length standings) s
  row_at _ at _ marks = None

  -- the row that applies to a line with its marks behind these lines
  abbrev pub row_of : List Line → Marked → Option Why
  row_of front m = run take_line headed front >>= λ place. row_at place (play_at place) m.0 m.1

  -- the first line from the n-th on, behind the lines before it, to which a row applies
  abbrev pub first_from : ℕ → List Line → List Marked → Option Illegal
  first_from n front [] = at_line n (end_of plan front) None
  first_from n front (m ∷ ms) = at_line n (row_of front m) (first_from (n + 1) (front ++ m.0 ∷ []) ms)

  -- The first illegal line of a text behind a head of so many lines. There is none exactly where the text is legal, by the law
  -- LegalExactly of JudgeLaws.antt.
  abbrev pub first_illegal : (head : ℕ) → NamedText → Option Illegal
  first_illegal head n = first_from (head + 1) [] (marked n.marks (lines_of n.text))
