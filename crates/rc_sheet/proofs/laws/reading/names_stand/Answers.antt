use Rattle.rc_sheet.specs.ReadNames.{name_at, binder_at, variable_in, owner_at, holder_at, loc_at, loc_parts, num_at}
use Rattle.rc_sheet.proofs.Means.{means_so}
use Rattle.rc_sheet.proofs.ReadOff.Names.{name_means, binder_means, variable_means, owner_means, holder_means, loc_means, loc_parts_mean, num_means}
use Rattle.rc_sheet.proofs.laws.reading.names_stand.Goals as goal

pub returns-clause-name : goal.returns-clause-name
returns-clause-name c words tree number is = means_so (name_at words tree) number (name_means words tree) is

pub returns-clause-binder : goal.returns-clause-binder
returns-clause-binder c naming scope tree bound is =
    means_so (binder_at naming.names.vars scope tree) bound (binder_means naming scope tree) is

pub returns-clause-variable : goal.returns-clause-variable
returns-clause-variable c scope sort bytes from to var is =
    means_so (variable_in scope sort bytes) var (variable_means scope sort bytes from to) is

pub returns-clause-owner : goal.returns-clause-owner
returns-clause-owner c scope tree who is = means_so (owner_at scope tree) who (owner_means scope tree) is

pub returns-clause-holder : goal.returns-clause-holder
returns-clause-holder c scope tree who is = means_so (holder_at scope tree) who (holder_means scope tree) is

pub returns-clause-location : goal.returns-clause-location
returns-clause-location c naming scope tree loc is = means_so (loc_at naming scope tree) loc (loc_means naming scope tree) is

pub returns-clause-location_parts : goal.returns-clause-location_parts
returns-clause-location_parts c naming scope parts from to loc is =
    means_so (loc_parts naming scope from parts) loc (loc_parts_mean naming scope from to parts) is

pub returns-clause-counter : goal.returns-clause-counter
returns-clause-counter c naming scope tree num is = means_so (num_at naming scope tree) num (num_means naming scope tree) is
