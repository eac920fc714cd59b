use Rattle.std.proofs.Common.{subst, sym}
use Rattle.rc_form.specs.Form.{tree_of}
use Rattle.rc_sheet_spec.specs.Sight.{IsInSight}
use Rattle.rc_ast.specs.Sheet.{sheet_seen}
use Rattle.rc_sheet.proofs.Accepted.{fits_in}
use Rattle.rc_sheet.specs.Accepted.{IsSheetOf}
use Rattle.rc_house.proofs.accepting.accept.Goals as goal

pub sheet_of-requires-clause-shallow : goal.sheet_of-requires-clause-shallow
sheet_of-requires-clause-shallow c = fits_in (tree_of c.args.form.now) c.requires.printable

pub returns-clause-accepted : goal.returns-clause-accepted
returns-clause-accepted c =
    let made = c.in_ok-sheet.ensures in
    let is : IsSheetOf (tree_of c.args.form.now) (sheet_seen c.in_ok-sheet.sheet) =
    record { faultless = made.fine; stands = made.stands; well = made.well } in
    record {
      of_form = subst (IsSheetOf (tree_of c.args.form.now)) (sym c.in_ok-checked.ensures.same) is;
      sight = subst IsInSight (sym c.in_ok-checked.ensures.same) c.in_ok-checked.ensures.sight;
    }
