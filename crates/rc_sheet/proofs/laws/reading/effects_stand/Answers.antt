use Rattle.rc_sheet.specs.ReadEffects.{spot_at, effect_at, effects_at, domain_at, alt_at, alts_at}
use Rattle.rc_sheet.proofs.Means.{means_so}
use Rattle.rc_sheet.proofs.ReadOff.Effects.{spot_means, effect_means, effects_mean, domain_means, alt_means, alts_mean}
use Rattle.rc_sheet.proofs.laws.reading.effects_stand.Goals as goal

pub returns-clause-spot : goal.returns-clause-spot
returns-clause-spot c naming scope tree end loc is =
    means_so (spot_at naming scope tree) (end, loc) (spot_means naming scope tree) is

pub returns-clause-effect : goal.returns-clause-effect
returns-clause-effect c naming scope tree effect is =
    means_so (effect_at naming scope tree) effect (effect_means naming scope tree) is

pub returns-clause-effects : goal.returns-clause-effects
returns-clause-effects c naming scope trees all is =
    means_so (effects_at naming scope trees) all (effects_mean naming scope trees) is

pub returns-clause-domain : goal.returns-clause-domain
returns-clause-domain c naming scope tree domain is =
    means_so (domain_at naming scope tree) domain (domain_means naming scope tree) is

pub returns-clause-alternative : goal.returns-clause-alternative
returns-clause-alternative c naming scope tree alt is =
    means_so (alt_at naming scope tree) alt (alt_means naming scope tree) is

pub returns-clause-alternatives : goal.returns-clause-alternatives
returns-clause-alternatives c naming trees alts is = means_so (alts_at naming trees) alts (alts_mean naming trees) is
