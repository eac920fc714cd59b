use Rattle.std.proofs.Common.{◌<◌, length, sym, subst}
use Rattle.rc_rules.specs.Control.{stop_seen}
use Rattle.rc_rules.specs.Machine.{menu_here}
use Rattle.rc_rules.specs.Plan.{plan_seen}
use Rattle.rc_match.specs.Chosen.{IsChoice}
use Rattle.rc_match.specs.Lane.{phase_at}
use Rattle.rc_match.proofs.NamingLemmas.{chosen_offered}
use Rattle.rc_match.proofs.deciding.picked_at.Goals as goal

-- what is chosen is an item of the menu
pub note-requires-clause-offered : goal.note-requires-clause-offered
note-requires-clause-offered g c =
    let about = c.args.job.now.about.value in
    let plan = plan_seen c.args.job.now.plan.value in
    let m = c.args.job.now.number in
    let here = g.M.Machine.config c.args.machine.now in
    let item = c.in_ok-item-in-Decide.item in
    let asks = subst (λ stop. IsChoice (g.C.Chooser.serves c.args.chooser.now) (phase_at about plan m (stop_seen stop) here)) c.in-Decide.is c.requires.asks in
    subst (λ about. item < length (menu_here about here)) (sym c.requires.about)
    (chosen_offered about plan m c.in-Decide.seat here item asks.1 c.in_ok-item-in-Decide.ensures.chosen)
