-- What the judge finds as the definitions have it, and where a play stands.
use Rattle.std.specs.Prelude.{◌≡◌, ℕ, ◌+◌, List, [], ◌∷◌, ◌++◌, length, map, flat_map, Vec, Option, Some, None, Result, Ok, Err}
use Rattle.std.specs.Global.{Global}
use Rattle.arrayvec.specs.ArrayVec.{ArrayVec}
use Rattle.rc_base.specs.Transcript.{Record}
use Rattle.rc_play_spec.specs.About.{About}
use Rattle.rc_play_spec.specs.Effects.{Dealing}
use Rattle.rc_play_spec.specs.ItemBounds.{Bound as PureBound}
use Rattle.rc_play_spec.specs.Plan.{Plan}
use Rattle.rc_play_spec.specs.Step.{Config}
use Rattle.rc_play_spec.specs.Stop.{Stopped}
use Rattle.rc_rules.specs.declared.control.Stop.{Stop}
use Rattle.rc_rules.specs.declared.record.MatchRecord.{MatchRecord}
use Rattle.rc_rules.specs.declared.bound.Bound.{Bound}
use Rattle.rc_rules.specs.Bounds.{bounds_seen, match_bounds}
use Rattle.rc_rules.specs.Control.{stop_seen}
use Rattle.rc_rules.specs.Record.{record_seen}
use Rattle.rc_play_spec.specs.HouseText.{record_lines}
use Rattle.rc_play_spec.specs.Why.{Why as PureWhy, by_match, by_shuffle, by_seat, by_menu, by_item, by_name, by_end, by_score, by_standing, Illegal as PureIllegal}
use Rattle.rc_play_spec.specs.Along.{Judging, marks_from}
use Rattle.rc_play_spec.specs.Bounds.{are_bounds}
use Rattle.rc_play_spec.specs.Judged.{play_after}
use Rattle.rc_play_spec.specs.Rows.{unless}
use Rattle.rc_text.specs.BoundSeen.{all_bounds}
use Rattle.rc_judge.specs.declared.verdict.Why.{Why}
use Rattle.rc_judge.specs.declared.verdict.Why.TheVariants.{Match, Shuffle, Seat, Menu, Item, Named as NamedOtherwise, End, Score, Standing}
use Rattle.rc_judge.specs.declared.verdict.Verdict.{Verdict}
use Rattle.rc_judge.specs.declared.verdict.Verdict.TheVariants.{Legal, Illegal as IllegalAt}
use Rattle.rc_judge.specs.declared.verdict.Named.{Named}
use Rattle.rc_judge.specs.declared.verdict.Named.TheVariants.{Legal as LegalWith, Illegal as IllegalThere}
use Rattle.rc_judge.specs.declared.verdict.Halt.{Halt}
use Rattle.rc_judge.specs.declared.verdict.Halt.TheVariants.{Illegal, NoMemory}

abbrev pub why_seen : Why → PureWhy
why_seen Match = by_match
why_seen Shuffle = by_shuffle
why_seen Seat = by_seat
why_seen Menu = by_menu
why_seen Item = by_item
why_seen NamedOtherwise = by_name
why_seen End = by_end
why_seen Score = by_score
why_seen Standing = by_standing

abbrev pub row_seen : Option Why → Option PureWhy
row_seen None = None
row_seen (Some why) = Some (why_seen why)

-- a legal text has no first illegal line
abbrev pub verdict_seen : Verdict → Option PureIllegal
verdict_seen Legal = None
verdict_seen (IllegalAt line why) = Some (record { line = line; why = why_seen why })

-- Judging stops at this illegal line, or memory ran out.
abbrev pub IsHalted : {A : Type 0} → Halt → Judging A → Type 0
IsHalted (Illegal line why) told = told ≡ Err (record { line = line; why = why_seen why })
IsHalted NoMemory told = Unit {0}

-- What judging gives is what its definition gives, unless memory ran out.
abbrev pub Judges : {X A : Type 0} → (X → A) → Result X Halt → Judging A → Type 0
Judges seen (Ok x) told = told ≡ Ok (seen x)
Judges seen (Err halt) told = IsHalted halt told

abbrev pub IsFound : Halt → Option PureIllegal → Type 0
IsFound (Illegal line why) told = told ≡ Some (record { line = line; why = why_seen why })
IsFound NoMemory told = Unit {0}

-- The first illegal line that is found, if there is one, is that of the definition, unless memory ran out.
abbrev pub Finds : {X : Type 0} → Result X Halt → Option PureIllegal → Type 0
Finds (Ok x) told = told ≡ None
Finds (Err halt) told = IsFound halt told

-- how many lines a record has
abbrev pub lines_in : MatchRecord → ℕ
lines_in r = length (record_lines (record_seen r))

abbrev pub lines_in_all : List MatchRecord → ℕ
lines_in_all matches = length (flat_map record_lines (map record_seen matches))

-- ---- what stands beside choose lines

-- the row for what an item is told to bind, where that is told
abbrev pub marks_row : Option (List PureBound) → List PureBound → Option PureWhy
marks_row None bounds = None
marks_row (Some marks) bounds = unless (are_bounds marks bounds) by_name

-- the marks of a match and of those behind it, one after the other
abbrev pub marks_left : List (ArrayVec Bound) → List (Vec (ArrayVec Bound) Global) → List (List PureBound)
marks_left here later = map bounds_seen here ++ all_bounds later

-- lists of marks, match by match
abbrev pub lists_seen : List (Vec (ArrayVec Bound) Global) → List (List (List PureBound))
lists_seen lists = map match_bounds lists

module _ (about : About) (dealing : ℕ → Dealing ℕ) (plan : Plan) where
  -- what the choices of the matches from match m on bind, match by match
  abbrev pub lists_over : (m : ℕ) → List Record → List (List (List PureBound))
  lists_over m [] = []
  lists_over m (r ∷ matches) =
      marks_from about dealing plan m (play_after about dealing plan m []) r.picks ∷ lists_over (m + 1) matches

-- ---- a text that is judged and named

-- the first illegal line, if there is one
abbrev pub illegal_in : Named → Option PureIllegal
illegal_in (LegalWith bounds) = None
illegal_in (IllegalThere line why) = Some (record { line = line; why = why_seen why })

-- where it is legal, this is true of what its items bind
abbrev pub IfLegal : Named → (Vec (Vec (ArrayVec Bound) Global) Global → Type 0) → Type 0
IfLegal (LegalWith bounds) P = P bounds
IfLegal (IllegalThere line why) P = Unit {0}
