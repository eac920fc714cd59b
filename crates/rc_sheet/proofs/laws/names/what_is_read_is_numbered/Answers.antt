use Rattle.rc_sheet.proofs.Mentioned.Numbers.{read_with_names_of}
use Rattle.rc_sheet.proofs.laws.names.what_is_read_is_numbered.Goals as goal

pub returns : goal.returns
returns c tree sheet is = read_with_names_of tree sheet is
