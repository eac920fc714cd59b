use Rattle.rc_sheet.proofs.Fine.Counts.{few_stages, few_choices}
use Rattle.rc_sheet.proofs.Fine.Sheet.{sheet_finds}
use Rattle.rc_sheet.proofs.laws.limits.stages_and_choices_are_few.Goals as goal

pub returns-clause-stages : goal.returns-clause-stages
returns-clause-stages c = few_stages

-- What a sheet's form says is cited here so that it is checked.
pub returns-clause-choices : goal.returns-clause-choices
returns-clause-choices c = let cited = sheet_finds in few_choices
