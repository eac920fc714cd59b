use Rattle.rc_sheet.proofs.Mentioned.Common.{attrs, values, maps, locs, nums, vars}
use Rattle.rc_sheet.proofs.Mentioned.Sheet.{sheet_said}
use Rattle.rc_sheet.proofs.laws.names.mentions_stand.Goals as goal

pub returns-clause-attrs : goal.returns-clause-attrs
returns-clause-attrs c sheet tree stands = sheet_said attrs sheet tree stands

pub returns-clause-values : goal.returns-clause-values
returns-clause-values c sheet tree stands = sheet_said values sheet tree stands

pub returns-clause-maps : goal.returns-clause-maps
returns-clause-maps c sheet tree stands = sheet_said maps sheet tree stands

pub returns-clause-locations : goal.returns-clause-locations
returns-clause-locations c sheet tree stands = sheet_said locs sheet tree stands

pub returns-clause-numbers : goal.returns-clause-numbers
returns-clause-numbers c sheet tree stands = sheet_said nums sheet tree stands

pub returns-clause-variables : goal.returns-clause-variables
returns-clause-variables c sheet tree stands = sheet_said vars sheet tree stands
