use Rattle.rc_play_spec.proofs.SiteLemmas.{left_at_found, alts_at_found}
use Rattle.rc_play_spec.proofs.laws.paths.sites_fix_choices.Goals as goal

pub returns-clause-left : goal.returns-clause-left
returns-clause-left c = left_at_found

pub returns-clause-alternatives : goal.returns-clause-alternatives
returns-clause-alternatives c = alts_at_found
