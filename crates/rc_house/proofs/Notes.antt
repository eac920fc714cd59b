-- What is noted behind a text is as the command notes.
use Rattle.std.proofs.Common.{◌≡◌, ℕ, Bool, true, false, nat_lt, if◌then◌else◌, List, [], ◌∷◌, length, drop, Option, Some, None, Result, Ok, Err, sym}
use Rattle.rc_base.specs.Tree.{Tree}
use Rattle.rc_sheet_spec.specs.Sheet as sheets
use Rattle.rc_play_spec.specs.About.{About, about_of}
use Rattle.rc_play_spec.specs.Keyed.{dealing_of}
use Rattle.rc_play_spec.specs.Plan.{Plan}
use Rattle.rc_log_spec.specs.Views.{log_of}
use Rattle.rc_series.specs.Series.{looks_of}
use Rattle.rc_play_spec.specs.Rivals.{rival_house_text}
use Rattle.rc_house.specs.declared.rival.Rival.{Rival as NamedRival}
use Rattle.rc_play_spec.specs.HouseText.{HouseText, NamedText}
use Rattle.rc_play_spec.specs.Judged.{first_illegal}
use Rattle.rc_play_spec.specs.PlayedLaws.{format_by}
use Rattle.rc_play_spec.specs.Reading.{read_in}
use Rattle.rc_play_spec.specs.Why.{Illegal}
use Rattle.rc_house.specs.declared.task.Task.{Task}
use Rattle.rc_house.specs.declared.task.Task.TheVariants.{Play, Check, Sheet, Migrate, Watch, Measure, Rival}
use Rattle.rc_house.specs.declared.refusal.Refusal.TheVariants as refusal
use Rattle.rc_house.specs.declared.transcript.Judging.{Judging}
use Rattle.rc_house.specs.declared.transcript.Judging.TheVariants as judging
use Rattle.rc_house.specs.Answer.{text, answer_in, judged_as, legal_answer, read_answer, refused, tells_bounds, is_there, rivalled, searching, watched, IsAnswered, HasAnswer, form_faulty, sheet_faulty, plan_faulty, accepted}
use Rattle.rc_house.specs.Reading.{IsAcceptedWith}
use Rattle.rc_house.specs.Task.{IsNoteOf}

-- nothing is noted where a transcript is legal
judged_note : (asked : Judging) (about : About) (plan : Plan) (told : HouseText) (found : Option Illegal) (bytes note : List ℕ) (playouts : ℕ)
    → judged_as (legal_answer asked about plan told) found ≡ text bytes note playouts → note ≡ []
judged_note judging.Check about plan told None bytes note playouts same = cc
judged_note judging.Migrate about plan told None bytes note playouts same = cc
judged_note judging.Measure about plan told None bytes note playouts same = cc
judged_note asked about plan told (Some illegal) bytes note playouts same = absurd cc

read_note : (asked : Judging) (named : Bool) (about : About) (plan : Plan) (read : Result NamedText ℕ) (bytes note : List ℕ) (playouts : ℕ)
    → read_answer asked named about plan read ≡ text bytes note playouts → note ≡ []
read_note asked named about plan (Err line) bytes note playouts same = absurd cc
read_note asked named about plan (Ok told) bytes note playouts same =
    judged_note asked about plan told.text (first_illegal about dealing_of plan (length (format_by named about).head) told) bytes note playouts same

transcript_note : (asked : Judging) (about : About) (plan : Plan) (transcript bytes note : List ℕ) (playouts : ℕ)
    → answer_in asked (tells_bounds transcript) about plan transcript ≡ text bytes note playouts → note ≡ []
transcript_note asked about plan transcript bytes note playouts same =
    let named = tells_bounds transcript in
    read_note asked named about plan (read_in (format_by named about) transcript) bytes note playouts same

-- nothing is noted where a seat watches
watched_note : (seat number : ℕ) (about : About) (plan : Plan) (bytes note : List ℕ) (playouts : ℕ)
    → watched seat number about plan ≡ text bytes note playouts → note ≡ []
watched_note seat number about plan bytes note playouts same = by (is_there about plan seat number) same
  where
    by : (there : Bool) → (if there then text (log_of about plan number seat) [] 0 else refused refusal.Absent) ≡ text bytes note playouts
        → note ≡ []
    by true same = cc
    by false same = absurd cc

-- and where a search plays
rivalled_note : (rival : NamedRival) (about : About) (plan : Plan) (bytes note : List ℕ) (playouts : ℕ)
    → rivalled rival about plan ≡ text bytes note playouts → note ≡ []
rivalled_note rival about plan bytes note playouts same = by (nat_lt rival.strategy (length plan.strategies)) same
  where
    by : (there : Bool)
        → (if there then text (rival_house_text about (searching rival) plan) [] 0 else refused refusal.Absent) ≡ text bytes note playouts
        → note ≡ []
    by true same = cc
    by false same = absurd cc

-- what is answered for an accepted sheet is noted as the command notes
note_of_sheet : (task : Task) (source : List ℕ) (sheet : sheets.Sheet) (others : List Tree) (rest : ℕ) (bytes note : List ℕ) (playouts : ℕ)
    → IsAnswered task source sheet others rest (text bytes note playouts) → IsNoteOf task note
note_of_sheet (Play options) source sheet others rest bytes note playouts has =
    let same = has.2.2 in (length (looks_of (about_of sheet has.0.turns) has.0), has.2.0, cc)
note_of_sheet Check source sheet others rest bytes note playouts has =
    transcript_note judging.Check (about_of sheet has.0.turns) has.0 (drop rest source) bytes note playouts (sym has.2)
note_of_sheet Sheet source sheet others rest bytes note playouts has = cc
note_of_sheet Migrate source sheet others rest bytes note playouts has =
    transcript_note judging.Migrate (about_of sheet has.0.turns) has.0 (drop rest source) bytes note playouts (sym has.2)
note_of_sheet (Watch seat number) source sheet others rest bytes note playouts has =
    watched_note seat number (about_of sheet has.0.turns) has.0 bytes note playouts (sym has.2)
note_of_sheet Measure source sheet others rest bytes note playouts has =
    transcript_note judging.Measure (about_of sheet has.0.turns) has.0 (drop rest source) bytes note playouts (sym has.2)
note_of_sheet (Rival rival) source sheet others rest bytes note playouts has =
    rivalled_note rival (about_of sheet has.0.turns) has.0 bytes note playouts (sym has.2)

-- and so is what is answered to a source
pub note_of_text : (task : Task) (source bytes note : List ℕ) (playouts : ℕ) → HasAnswer task source (text bytes note playouts) → IsNoteOf task note
note_of_text task source bytes note playouts (form_faulty kind at has is) = absurd cc
note_of_text task source bytes note playouts (sheet_faulty read kind at has is) = absurd cc
note_of_text task source bytes note playouts (plan_faulty read kind at has is) = absurd cc
note_of_text task source bytes note playouts (accepted read has) = by read.lists has
  where
    by : (lists : List Tree) → IsAcceptedWith (λ sheet others. IsAnswered task source sheet others read.rest (text bytes note playouts)) lists
        → IsNoteOf task note
    by [] is = absurd is
    by (form ∷ others) is = note_of_sheet task source is.0 others read.rest bytes note playouts is.2
