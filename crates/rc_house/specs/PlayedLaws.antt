-- Statements of laws: what is answered to what was played. That this is legal as a value says PlayedLaws.antt of
-- rc_play_spec.
use Rattle.std.specs.Prelude.{◌≡◌, ℕ, Bool, List, [], ◌∷◌, ◌++◌, drop}
use Rattle.rc_base.specs.Tree.{Tree}
use Rattle.rc_sheet_spec.specs.Sheet.{Sheet}
use Rattle.rc_play_spec.specs.About.{about_of}
use Rattle.rc_play_spec.specs.Plan.{Plan}
use Rattle.rc_play_spec.specs.PlayedLaws.{house_text_in, played_text}
use Rattle.rc_sheet.specs.Accepted.{IsAccepted}
use Rattle.rc_house.specs.declared.options.Options.{Options}
use Rattle.rc_house.specs.declared.options.Format.TheVariants.{Named}
use Rattle.rc_house.specs.declared.task.Task.TheVariants.{Play, Check, Migrate, Measure}
use Rattle.rc_house.specs.declared.transcript.Judging.TheVariants as judging
use Rattle.rc_house.specs.Task.{wanted}
use Rattle.rc_house.specs.AcceptedPlan.{IsPlanAccepted, IsPlanRead}
use Rattle.rc_house.specs.Reading.{Reading, IsAcceptedWith}
use Rattle.rc_house.specs.Answer.{text, called_legal, measured, transcript_answer, HasAnswer}

-- The house text of an accepted sheet and plan is judged legal, in either format.
abbrev pub PlayedIsLegal : Type 0
PlayedIsLegal =
    (named : Bool) (form : Tree) (sheet : Sheet) (others : List Tree) (plan : Plan) → IsAccepted form sheet →
    IsPlanRead sheet.players others plan →
    transcript_answer judging.Check (about_of sheet plan.turns) plan
    (house_text_in named (about_of sheet plan.turns) plan)
    ≡ called_legal

-- Behind the sheet stands a plan, and from here on the source is the house text of both, in this format.
abbrev pub IsPlayedBehind : (named : Bool) → List ℕ → ℕ → Sheet → List Tree → Type 0
IsPlayedBehind named source rest sheet others =
    (plan : Plan) × IsPlanRead sheet.players others plan
    × (drop rest source ≡ house_text_in named (about_of sheet plan.turns) plan)

-- To an accepted sheet and plan with their house text behind them `check` answers that it is legal.
abbrev pub PlayedIsAnsweredLegal : Type 0
PlayedIsAnsweredLegal =
    (named : Bool) (source : List ℕ) (read : Reading source (wanted Check)) →
    IsAcceptedWith (IsPlayedBehind named source read.rest) read.lists →
    HasAnswer Check source called_legal

-- What `play` writes for a source, by whatever options, `check` answers to be legal where it stands behind that source
-- and an LF. It is said of answers, and so whatever the lengths are: how much `check` takes is a part of how it ends.
abbrev pub PlayedIsChecked : Type 0
PlayedIsChecked =
    (options : Options) (source bytes note : List ℕ) (playouts : ℕ) →
    HasAnswer (Play options) source (text bytes note playouts) →
    HasAnswer Check (source ++ 10 ∷ bytes) called_legal

-- To the same `migrate` answers what `play` writes for that source in format 2.
abbrev pub PlayedIsMigrated : Type 0
PlayedIsMigrated =
    (options others : Options) (source bytes bytes' note note' : List ℕ) (playouts playouts' : ℕ) →
    others.format ≡ Named →
    HasAnswer (Play options) source (text bytes note playouts) →
    HasAnswer (Play others) source (text bytes' note' playouts') →
    HasAnswer Migrate (source ++ 10 ∷ bytes) (text bytes' [] 0)

-- Behind this sheet the source has a plan that is accepted, and to the source with these bytes behind it in a new line
-- `measure` answers the measures of the matches that are played by them.
abbrev pub IsMeasuredBehind : List ℕ → ℕ → List ℕ → Sheet → List Tree → Type 0
IsMeasuredBehind source rest bytes sheet others =
    (plan : Plan) × IsPlanAccepted source sheet.players others rest plan
    × HasAnswer Measure (source ++ 10 ∷ bytes) (measured plan (played_text (about_of sheet plan.turns) plan))

-- It does so where `play` writes these bytes for the source, by whatever options.
abbrev pub PlayedIsMeasured : Type 0
PlayedIsMeasured =
    (options : Options) (source bytes note : List ℕ) (playouts : ℕ) →
    HasAnswer (Play options) source (text bytes note playouts) →
    (read : Reading source 2) × IsAcceptedWith (IsMeasuredBehind source read.rest bytes) read.lists
