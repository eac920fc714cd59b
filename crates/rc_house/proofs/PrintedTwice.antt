-- What is printed for the sheet of a source is printed for that text too.
use Rattle.std.proofs.Common.{◌≡◌, ℕ, List, [], ◌∷◌, sym, subst, ap}
use Rattle.rc_base.specs.Spelled.{Spelled}
use Rattle.rc_base.specs.Tree.{Tree}
use Rattle.rc_base.specs.Transcript.{line}
use Rattle.rc_sheet_spec.specs.Sheet.{Sheet}
use Rattle.rc_sheet_spec.specs.Printing.{printed_sheet}
use Rattle.rc_sheet.proofs.PrintedAgain.{line_spelled, line_reads_back}
use Rattle.rc_house.specs.declared.task.Task.TheVariants as task
use Rattle.rc_sheet.specs.Accepted.{IsSheetOf, IsAccepted}
use Rattle.rc_house.specs.Reading.{IsAcceptedWith}
use Rattle.rc_house.specs.Answer.{text, HasAnswer, form_faulty, sheet_faulty, plan_faulty, accepted}

-- a sheet in sight is printed again for the text that is written for it
line_again : (form : Tree) (sheet : Sheet) → IsAccepted form sheet
    → HasAnswer task.Sheet (line (printed_sheet sheet)) (text (line (printed_sheet sheet)) [] 0)
line_again form sheet is =
    let written = line (printed_sheet sheet) in
    let spelled = line_spelled sheet is.of_form.well in
    let back = line_reads_back sheet is.of_form.well spelled.0 spelled.1 spelled.2 in
    let read = subst (λ lists. Spelled written 1 lists spelled.1) back.only spelled.2 in
    let again : IsSheetOf back.form back.again = record { faultless = back.fine; stands = back.stands; well = back.well } in
    accepted (record { lists = back.form ∷ []; rest = spelled.1; spelled = read })
    (back.again, record { of_form = again; sight = back.seen is.sight }, ap (λ sheet. text (line sheet) [] 0) (sym back.printed_again))

-- the bytes of a text
bytes_are : (bytes other : List ℕ) → text bytes [] 0 ≡ text other [] 0 → bytes ≡ other
bytes_are bytes other same = cc

pub printed_twice : (source bytes : List ℕ) → HasAnswer task.Sheet source (text bytes [] 0) → HasAnswer task.Sheet bytes (text bytes [] 0)
printed_twice source bytes (form_faulty kind at has is) = absurd cc
printed_twice source bytes (sheet_faulty read kind at has is) = absurd cc
printed_twice source bytes (plan_faulty read kind at has is) = absurd cc
printed_twice source bytes (accepted read has) = by read.lists has
  where
    by : (lists : List Tree) → IsAcceptedWith (λ sheet others. text bytes [] 0 ≡ text (line (printed_sheet sheet)) [] 0) lists
        → HasAnswer task.Sheet bytes (text bytes [] 0)
    by [] is = absurd is
    by (form ∷ others) is =
        subst (λ written. HasAnswer task.Sheet written (text written [] 0)) (sym (bytes_are bytes (line (printed_sheet is.0)) is.2)) (line_again form is.0 is.1)
