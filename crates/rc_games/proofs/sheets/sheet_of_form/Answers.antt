use Rattle.rc_form.specs.Form.{tree_of}
use Rattle.rc_sheet.proofs.Accepted.{fits_in}
use Rattle.rc_games.proofs.sheets.sheet_of_form.Goals as goal

pub sheet_of-requires-clause-shallow : goal.sheet_of-requires-clause-shallow
sheet_of-requires-clause-shallow c = fits_in (tree_of c.args.form.now) c.requires.printable
