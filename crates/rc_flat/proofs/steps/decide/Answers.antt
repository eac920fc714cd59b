use Rattle.std.proofs.Common.{◌<◌, ◌≤◌, subst}
use Rattle.rc_play_spec.specs.Menu.{alts_at}
use Rattle.rc_code.specs.Seen.{list_seen}
use Rattle.rc_flat.specs.State.{flat_of}
use Rattle.rc_flat.proofs.StepCases.{full_leads, decide_leads}
use Rattle.rc_flat.proofs.steps.decide.Goals as goal

pub returns-then-state-turns-clause-leads : goal.returns-then-state-turns-clause-leads
returns-then-state-turns-clause-leads c =
    let about = c.args.about.now in
    let m = flat_of about (list_seen c.args.code.now) c.args.state.now in
    let offered = c.requires.here.offered in
    λ dealing k.
    full_leads m dealing k c.args.site (alts_at about.sheet c.args.site) offered.blocks offered.inside offered.here offered.there offered.some
    (subst (λ n. n ≤ m.control.turn) c.turns.ensures c.if-state-turns.true)

pub returns-clause-leads : goal.returns-clause-leads
returns-clause-leads c =
    let about = c.args.about.now in
    let m = flat_of about (list_seen c.args.code.now) c.args.state.now in
    let offered = c.requires.here.offered in
    λ dealing k.
    decide_leads m dealing k c.args.site (alts_at about.sheet c.args.site) offered.blocks offered.inside offered.here offered.there
    c.args.seat offered.some (subst (λ n. m.control.turn < n) c.turns.ensures c.if-state-turns.false) c.requires.seat
