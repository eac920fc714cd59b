use Rattle.std.proofs.Common.{ap, ◌<◌, ◌≤◌, subst}
use Rattle.rc_play_spec.specs.Menu.{alts_at}
use Rattle.rc_play_spec.specs.Path.{stage_in}
use Rattle.rc_plain.specs.State.{plain_of}
use Rattle.rc_plain.proofs.PathLemmas.{not_round}
use Rattle.rc_plain.proofs.StepCases.{full_leads, decide_leads}
use Rattle.rc_plain.proofs.state.PlainState.decide.Goals as goal

pub returns-then-self-turns-clause-leads : goal.returns-then-self-turns-clause-leads
returns-then-self-turns-clause-leads c =
    let about = c.args.about.now in
    let m = plain_of about c.args.self.now in
    let offered = c.requires.here.offered in
    λ dealing k.
    full_leads m dealing k c.args.site (alts_at about.sheet c.args.site) (not_round about.sheet m.path c.requires.ready.play.stands (ap stage_in offered.there))
    offered.there offered.some (subst (λ n. n ≤ m.control.turn) c.turns.ensures c.if-self-turns.true)

pub returns-clause-leads : goal.returns-clause-leads
returns-clause-leads c =
    let about = c.args.about.now in
    let m = plain_of about c.args.self.now in
    let offered = c.requires.here.offered in
    λ dealing k.
    decide_leads m dealing k c.args.site c.args.self.now.current.player (alts_at about.sheet c.args.site)
    (not_round about.sheet m.path c.requires.ready.play.stands (ap stage_in offered.there))
    offered.there offered.some (subst (λ n. m.control.turn < n) c.turns.ensures c.if-self-turns.false)
    c.requires.ready.current.0
