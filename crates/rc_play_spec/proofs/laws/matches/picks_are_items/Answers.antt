use Rattle.std.proofs.Common.{ap}
use Rattle.rc_play_spec.proofs.FitLemmas.{keyed_fit, keyed_leads}
use Rattle.rc_play_spec.specs.Plan.{deal_at}
use Rattle.rc_play_spec.specs.Keyed.{dealing_of}
use Rattle.rc_play_spec.proofs.FrontLemmas.{front_reached}
use Rattle.rc_play_spec.proofs.laws.matches.picks_are_items.Goals as goal

pub returns-clause-item : goal.returns-clause-item
returns-clause-item c = λ about plan m p fits rule numbered is. keyed_fit about plan m (ap (λ s. s.places) fits) rule numbered p is

pub returns-clause-end : goal.returns-clause-end
returns-clause-end c = λ about plan m p fits rule numbered is. keyed_leads about plan m (ap (λ s. s.places) fits) rule numbered p is

pub returns-clause-fronts : goal.returns-clause-fronts
returns-clause-fronts c = λ about plan m p fits rule numbered is n lt.
    let end = keyed_leads about plan m (ap (λ s. s.places) fits) rule numbered p is in
    front_reached about (dealing_of (deal_at plan m).deal) p.picks 0 end.0 end.1 n lt
