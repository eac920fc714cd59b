use Rattle.rc_sheet.proofs.FewNames.{few_attributes, few_values, few_maps}
use Rattle.rc_sheet.proofs.FewOwned.{few_locations, few_numbers}
use Rattle.rc_sheet.proofs.laws.names.names_are_few.Goals as goal

pub returns-clause-attrs : goal.returns-clause-attrs
returns-clause-attrs c tree shaped sound = few_attributes tree shaped sound

pub returns-clause-values : goal.returns-clause-values
returns-clause-values c tree shaped sound = few_values tree shaped sound

pub returns-clause-maps : goal.returns-clause-maps
returns-clause-maps c tree shaped sound = few_maps tree shaped sound

pub returns-clause-locs : goal.returns-clause-locs
returns-clause-locs c tree shaped sound some many = few_locations tree shaped sound some many

pub returns-clause-nums : goal.returns-clause-nums
returns-clause-nums c tree shaped sound some many = few_numbers tree shaped sound some many
