-- The first illegal line, found in one pass: the play goes on from line to line. That it is the one of first_illegal in Judged.antt is
-- a law.
use Rattle.std.specs.Prelude.{ℕ, ◌+◌, ◌==◌, if◌then◌else◌, List, [], ◌∷◌, ◌++◌, length, Option, Some, None, Result, Ok, Err}
use Rattle.rc_base.specs.Transcript.{Pick, Score, Record, Standing}
use Rattle.rc_play_spec.specs.Fields.{◌>>=◌}
use Rattle.rc_play_spec.specs.ItemBounds.{Bound}
use Rattle.rc_play_spec.specs.Lines.{Line, opening, chosen, ranked}
use Rattle.rc_play_spec.specs.Naming.{marks_there}
use Rattle.rc_play_spec.specs.HouseText.{HouseText, NamedText, first_marks, later_marks, marks_of, left_of}
use Rattle.rc_play_spec.specs.Reading.{Place, headed, playing, scoring, take_line}
use Rattle.rc_play_spec.specs.About.{About}
use Rattle.rc_play_spec.specs.Effects.{Dealing}
use Rattle.rc_play_spec.specs.Stop.{Stopped}
use Rattle.rc_play_spec.specs.Play.{from_stop, follow}
use Rattle.rc_play_spec.specs.Plan.{Plan, deal_at}
use Rattle.rc_play_spec.specs.Why.{Why, Illegal}
use Rattle.rc_play_spec.specs.Rows.{lacking_row, opening_row, chosen_row, shuffled_row, ending_row, scored_row, ranked_row, end_row}
use Rattle.rc_play_spec.specs.Judged.{at_line, play_after, row_at, end_at}

-- what judging gives, or the first illegal line
abbrev pub Judging : Type 0 → Type 0
Judging A = Result A Illegal

-- the n-th line where a row applies to it, else what is judged later
abbrev pub on_row : {A : Type 0} → ℕ → Option Why → Judging A → Judging A
on_row n None later = later
on_row n (Some why) later = Err (record { line = n; why = why })

abbrev pub and_then : {A B : Type 0} → Judging A → (A → Judging B) → Judging B
and_then (Ok x) f = f x
and_then (Err e) f = Err e

abbrev pub or_illegal : {A : Type 0} → Judging A → (A → Option Illegal) → Option Illegal
or_illegal (Ok x) later = later x
or_illegal (Err e) later = Some e

-- a shuffles line, which is left out where the number is 0: the line behind it
abbrev pub told_along : ℕ → Option (Stopped ℕ) → (shuffles : ℕ) → Judging ℕ
told_along n at shuffles = if shuffles == 0 then Ok n else on_row n (shuffled_row at shuffles) (Ok (n + 1))

-- the score lines of a match from the k-th on: the line behind them
abbrev pub scores_along : About → ℕ → Option (Stopped ℕ) → (k : ℕ) → List Score → Judging ℕ
scores_along about n at k [] = Ok n
scores_along about n at k (s ∷ scores) =
    on_row n (scored_row about at k s) (scores_along about (n + 1) at (k + 1) scores)

-- what a record tells behind its choices, where the play stands at a stop: the line behind it
abbrev pub end_along : About → ℕ → Option (Stopped ℕ) → Record → Judging ℕ
end_along about n at r =
    and_then (told_along n at r.shuffles) (λ n'.
    on_row n' (ending_row at r.shuffles r.ending r.turn) (scores_along about (n' + 1) at 0 r.scores))

-- the standing lines from the k-th on, and the end behind them
abbrev pub standings_along : Plan → ℕ → List Record → (k : ℕ) → List Standing → Option Illegal
standings_along plan n matches k [] = at_line n (end_row plan matches k) None
standings_along plan n matches k (s ∷ standings) =
    at_line n (ranked_row plan matches k s) (standings_along plan (n + 1) matches (k + 1) standings)

-- behind some choices: the line there, where the play stands, and the marks that are left
abbrev pub Picked : Type 0
Picked = ℕ × Option (Stopped ℕ) × List (List Bound)

module _ (about : About) (dealing : ℕ → Dealing ℕ) (plan : Plan) where
  -- one choice more in match m
  abbrev pub next_stop : ℕ → Option (Stopped ℕ) → Pick → Option (Stopped ℕ)
  next_stop m at p = from_stop (follow about (dealing (deal_at plan m).deal) (p.item ∷ [])) at

  -- where the play stands behind a line
  abbrev pub stop_along : Place → Option (Stopped ℕ) → Line → Option (Stopped ℕ)
  stop_along headed at (opening n deal seats) = play_after about dealing plan 0 []
  stop_along (scoring before r) at (opening n deal seats) = play_after about dealing plan (length before + 1) []
  stop_along (playing before r) at (chosen p) = next_stop (length before) at p
  stop_along (scoring before r) at (ranked s) = None
  stop_along _ at _ = at

  -- the first line to which a row applies, from the n-th on; what is told behind choices is taken off as they come
  abbrev pub along_from : ℕ → Place → Option (Stopped ℕ) → List (List Bound) → List Line → Option Illegal
  along_from n place at marks [] = at_line n (end_at plan place) None
  along_from n place at marks (l ∷ lines) =
      at_line n (row_at about dealing plan place at l (marks_of l marks))
      (take_line place l >>= λ next. along_from (n + 1) next (stop_along place at l) (left_of l marks) lines)

  -- ---- the same over the parts of a text

  -- the choices of match m from the n-th line on
  abbrev pub picks_along : (m n : ℕ) → Option (Stopped ℕ) → List (List Bound) → List Pick → Judging Picked
  picks_along m n at marks [] = Ok (n, at, marks)
  picks_along m n at marks (p ∷ picks) =
      on_row n (chosen_row about at p (first_marks marks))
      (picks_along m (n + 1) (next_stop m at p) (later_marks marks) picks)

  -- match m behind its first line: the line behind it, and the marks that are left
  abbrev pub body_along : (m n : ℕ) → Option (Stopped ℕ) → List (List Bound) → Record → Judging (ℕ × List (List Bound))
  body_along m n at marks r =
      and_then (picks_along m n at marks r.picks)
      (λ played. and_then (end_along about played.0 played.1 r) (λ n'. Ok (n', played.2)))

  -- match m: the same
  abbrev pub record_along : (m n : ℕ) → List (List Bound) → Record → Judging (ℕ × List (List Bound))
  record_along m n marks r =
      on_row n (opening_row plan m r.number r.deal r.seats)
      (body_along m (n + 1) (play_after about dealing plan m []) marks r)

  -- the matches from match m on; whether a match lacks score lines is asked at the line behind it
  abbrev pub matches_along : (m n : ℕ) → List (List Bound) → List Record → Judging ℕ
  matches_along m n marks [] = Ok n
  matches_along m n marks (r ∷ matches) =
      and_then (record_along m n marks r)
      (λ next. on_row next.0 (lacking_row about r) (matches_along (m + 1) next.0 next.1 matches))

  -- the whole text behind a head of so many lines
  abbrev pub judged : (head : ℕ) → NamedText → Option Illegal
  judged head n =
      or_illegal (matches_along 0 (head + 1) n.marks n.text.matches)
      (λ at. standings_along plan at n.text.matches 0 n.text.standings)

  -- ---- the marks of a text

  -- those of the choices of match m from a stop on
  abbrev pub marks_from : (m : ℕ) → Option (Stopped ℕ) → List Pick → List (List Bound)
  marks_from m at [] = []
  marks_from m at (p ∷ picks) = marks_there about at p ∷ marks_from m (next_stop m at p) picks

  -- those of the matches from match m on
  abbrev pub marks_over : (m : ℕ) → List Record → List (List Bound)
  marks_over m [] = []
  marks_over m (r ∷ matches) = marks_from m (play_after about dealing plan m []) r.picks ++ marks_over (m + 1) matches

  -- those of all matches of a text
  abbrev pub marks_of_text : HouseText → List (List Bound)
  marks_of_text t = marks_over 0 t.matches
