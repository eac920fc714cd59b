-- Statements of laws: what a plan's keys make of its matches is a house text, is read back off its bytes, and is legal.
use Rattle.std.specs.Prelude.{◌≡◌, ℕ, ◌+◌, ◌≤◌, Bool, false, List, ◌∷◌, ◌++◌, length, drop, None, Ok}
use Rattle.rc_base.specs.Limits.{most_cards}
use Rattle.rc_base.specs.Spelled.{Spelled}
use Rattle.rc_base.specs.Tree.{Tree}
use Rattle.rc_sheet_spec.specs.Sight.{IsInSight}
use Rattle.rc_sheet_spec.specs.WellFormed.{IsWellFormed}
use Rattle.rc_play_spec.specs.Shape.{shape_of}
use Rattle.rc_play_spec.specs.About.{About}
use Rattle.rc_play_spec.specs.Plan.{Plan}
use Rattle.rc_play_spec.specs.Keyed.{dealing_of, keyed_house_text}
use Rattle.rc_play_spec.specs.Limits.{IsWithinLimits}
use Rattle.rc_play_spec.specs.HouseText.{plain, NamedText, unmarked, IsText, IsHouseText}
use Rattle.rc_play_spec.specs.Reading.{read_in}
use Rattle.rc_play_spec.specs.Judged.{first_illegal}
use Rattle.rc_play_spec.specs.Legal.{IsLegalText}
use Rattle.rc_play_spec.specs.PlayedLaws.{played_text, told_in, format_by, house_text_in}

-- A well formed sheet that keeps the sight rule, and a plan within the limits that has a strategy for each of its players.
pub record IsPlayable (about : About) (plan : Plan) : Type 0 where
  pub shape : about.shape ≡ shape_of about.sheet
  pub well : IsWellFormed about.sheet
  pub sight : IsInSight about.sheet
  pub turns : about.turns ≡ plan.turns
  pub within : IsWithinLimits plan
  pub seats : length plan.strategies ≡ about.sheet.players

-- what is played is in the ranges of house texts
abbrev pub PlayedIsHouseText : Type 0
PlayedIsHouseText = (about : About) (plan : Plan) → IsPlayable about plan → IsHouseText (played_text about plan)

-- and is read back off its bytes
abbrev pub PlayedIsRead : Type 0
PlayedIsRead = (about : About) (plan : Plan) → IsPlayable about plan →
    read_in plain (keyed_house_text about plan) ≡ Ok (unmarked (played_text about plan))

-- What is read off the bytes of a plan's house text is legal, and no line of it is illegal.
abbrev pub PlayedIsJudgedLegal : Type 0
PlayedIsJudgedLegal =
    (about : About) (plan : Plan) → IsPlayable about plan → (n : NamedText) →
    read_in plain (keyed_house_text about plan) ≡ Ok n →
    IsLegalText about dealing_of plan false n × (first_illegal about dealing_of plan 1 n ≡ None)

-- A source of so many forms and nothing else, with an LF and a house text behind it, is read as the same forms, and its rest is that
-- house text.
abbrev pub PlayedStandsBehind : Type 0
PlayedStandsBehind =
    (about : About) (plan : Plan) (source : List ℕ) (want : ℕ) (forms : List Tree) →
    Spelled source want forms (length source) → length forms ≡ want →
    Spelled (source ++ 10 ∷ keyed_house_text about plan) want forms (length source + 1)
    × (drop (length source + 1) (source ++ 10 ∷ keyed_house_text about plan) ≡ keyed_house_text about plan)

-- In either format what is played has a text, is read back off its bytes, and no line of it is illegal.
pub record IsToldBack (named : Bool) (about : About) (plan : Plan) : Type 0 where
  pub text : IsText named (told_in named about plan (played_text about plan))
  pub read : read_in (format_by named about) (house_text_in named about plan)
      ≡ Ok (told_in named about plan (played_text about plan))
  pub passed : first_illegal about dealing_of plan (length (format_by named about).head)
      (told_in named about plan (played_text about plan)) ≡ None

abbrev pub PlayedIsToldBack : Type 0
PlayedIsToldBack =
    (named : Bool) (about : About) (plan : Plan) → IsPlayable about plan → length about.shape.faces ≤ most_cards →
    IsToldBack named about plan
