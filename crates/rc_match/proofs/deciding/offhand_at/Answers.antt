use Rattle.std.proofs.Common.{length, ap, ◌∙◌, arith}
use Rattle.rc_play_spec.specs.Plan.{strategy_at, deal_at}
use Rattle.rc_play_spec.specs.View.{view_of}
use Rattle.rc_rules.specs.Plan.{plan_seen}
use Rattle.rc_rules.specs.Machine.{menu_here}
use Rattle.rc_match.proofs.OffhandLemmas.{offhand_chosen, same_offhand}
use Rattle.rc_match.proofs.deciding.offhand_at.Goals as goal

pub offhand_of-requires : goal.offhand_of-requires
offhand_of-requires g c =
    let here = g.M.Machine.config c.args.machine.now in
    let size = c.menu_size.ensures.count ∙ ap (λ a. length (menu_here a here)) c.requires.about in
    let some = c.requires.need.decision.some in
    let menu = c.requires.need.menu in
    omega (arith, size, some, menu)

pub returns : goal.returns
returns g c =
    let about = c.args.job.now.about.value in
    let plan = plan_seen c.args.job.now.plan.value in
    let m = c.args.job.now.number in
    let seat = c.args.seat in
    let here = g.M.Machine.config c.args.machine.now in
    offhand_chosen about (strategy_at plan m seat) (deal_at plan m).seats (length (menu_here about here))
    (view_of about.shape seat here.table here.control) c.offhand_of.result c.requires.need.menu
    (c.offhand_of.ensures.item ∙ same_offhand _ _ _ _ seat _ _ _ _
    (c.strategy_of.ensures ∙ ap (λ p. strategy_at (plan_seen p) m seat) c.deref-2.ensures)
    (ap (λ d. d.seats) c.deal_of.ensures ∙ ap (λ p. (deal_at (plan_seen p) m).seats) c.deref-3.ensures)
    c.control.ensures
    (c.menu_size.ensures.count ∙ ap (λ a. length (menu_here a here)) c.requires.about))
