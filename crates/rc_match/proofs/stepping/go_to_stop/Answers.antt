use Rattle.std.proofs.Common.{◌≡◌, ◌<◌, length, sym, subst, ap, ◌∙◌}
use Rattle.std.specs.Prelude.{IfSome}
use Rattle.rc_play_spec.specs.Play.{items_of}
use Rattle.rc_play_spec.specs.About.{About}
use Rattle.rc_play_spec.specs.Plan.{deal_at}
use Rattle.rc_play_spec.specs.Keyed.{dealing_of}
use Rattle.rc_rules.specs.Control.{stop_seen}
use Rattle.rc_rules.specs.Plan.{plan_seen}
use Rattle.rc_rules.specs.Record.{record_seen}
use Rattle.rc_rules.specs.Machine.{StopsAtDecision, IsWhereItStops, menu_here}
use Rattle.rc_match.specs.Lane.{noted, stopped_at, lane_at}
use Rattle.rc_match.specs.Way.{IsOnWay}
use Rattle.rc_match.proofs.WayLemmas.{checked_by, stops_next, decides_there, offers_there, leads_next, player_there, way_next}
use Rattle.rc_match.proofs.stepping.go_to_stop.Goals as goal

pub take_any-requires-clause-decides : goal.take_any-requires-clause-decides
take_any-requires-clause-decides g c =
    let about = c.args.job.now.about.value in
    let is = checked_by c.deref.result.now about c.deref.ensures c.sheet-sheet.ensures.shape c.sheet-sheet.ensures.well c.sheet-sheet.ensures.sight in
    let plan = plan_seen c.args.job.now.plan.value in
    let here = g.M.Machine.config c.args.machine.now in
    subst (λ (a : About). IfSome c.args.pick (λ item. StopsAtDecision a here)) (sym c.deref-2.ensures)
    (decides_there about plan c.args.job.now.number is.shape is.well is.sight
    c.args.pick here c.args.dealer.now.count (record_seen c.args.notes.now) c.requires.way)

pub take_any-requires-clause-offered : goal.take_any-requires-clause-offered
take_any-requires-clause-offered g c =
    let about = c.args.job.now.about.value in
    let is = checked_by c.deref.result.now about c.deref.ensures c.sheet-sheet.ensures.shape c.sheet-sheet.ensures.well c.sheet-sheet.ensures.sight in
    let plan = plan_seen c.args.job.now.plan.value in
    let here = g.M.Machine.config c.args.machine.now in
    subst (λ (a : About). IfSome c.args.pick (λ item. item < length (menu_here a here))) (sym c.deref-2.ensures)
    (offers_there about plan c.args.job.now.number is.shape is.well is.sight
    c.args.pick here c.args.dealer.now.count (record_seen c.args.notes.now) c.requires.way)

pub returns-clause-way : goal.returns-clause-way
returns-clause-way g c =
    let about = c.args.job.now.about.value in
    let is = checked_by c.deref.result.now about c.deref.ensures c.sheet-sheet.ensures.shape c.sheet-sheet.ensures.well c.sheet-sheet.ensures.sight in
    let plan = plan_seen c.args.job.now.plan.value in
    let m = c.args.job.now.number in
    let here = g.M.Machine.config c.args.machine.now in
    let there = g.M.Machine.config c.advance.new.self in
    let stop = stop_seen c.in_ok-stop.stop in
    let r = record_seen c.args.notes.now in
    let at = stopped_at stop there c.advance.new.dealer in
    let stops =
    stops_next about c.deref-2.result.now (g.M.Machine.about c.take_any.new.machine) (dealing_of (deal_at plan m).deal) (dealing_of c.args.dealer.now.deal)
    (dealing_of c.take_any.new.dealer.deal) c.args.pick here (g.M.Machine.config c.take_any.new.machine) c.args.dealer.now.count c.take_any.new.dealer.count at
    c.deref-2.ensures (c.in_ok-take_any.ensures.about ∙ c.deref-2.ensures) c.requires.deal (c.in_ok-take_any.ensures.deal ∙ c.requires.deal)
    c.in_ok-take_any.ensures.leads c.in_ok-stop.ensures.leads in
    let same : record_seen c.take_any.new.notes ≡ noted about here r c.args.pick =
    c.in_ok-take_any.ensures.noted ∙ ap (λ a. noted a here r c.args.pick) c.deref-2.ensures in
    let stands = subst (λ (a : About). IsWhereItStops a stop there) (c.in_ok-take_any.ensures.about ∙ c.deref-2.ensures) c.in_ok-stop.ensures.stands in
    subst (λ n. IsOnWay about plan m (lane_at about plan m n at)) (sym same)
    (way_next about plan m is.shape is.well is.sight c.args.pick here c.args.dealer.now.count r at c.requires.way stops stands)

pub returns-clause-plays : goal.returns-clause-plays
returns-clause-plays g c =
    let about = c.args.job.now.about.value in
    let is = checked_by c.deref.result.now about c.deref.ensures c.sheet-sheet.ensures.shape c.sheet-sheet.ensures.well c.sheet-sheet.ensures.sight in
    let plan = plan_seen c.args.job.now.plan.value in
    let m = c.args.job.now.number in
    let here = g.M.Machine.config c.args.machine.now in
    let there = g.M.Machine.config c.advance.new.self in
    let stop = stop_seen c.in_ok-stop.stop in
    let r = record_seen c.args.notes.now in
    let at = stopped_at stop there c.advance.new.dealer in
    let stops =
    stops_next about c.deref-2.result.now (g.M.Machine.about c.take_any.new.machine) (dealing_of (deal_at plan m).deal) (dealing_of c.args.dealer.now.deal)
    (dealing_of c.take_any.new.dealer.deal) c.args.pick here (g.M.Machine.config c.take_any.new.machine) c.args.dealer.now.count c.take_any.new.dealer.count at
    c.deref-2.ensures (c.in_ok-take_any.ensures.about ∙ c.deref-2.ensures) c.requires.deal (c.in_ok-take_any.ensures.deal ∙ c.requires.deal)
    c.in_ok-take_any.ensures.leads c.in_ok-stop.ensures.leads in
    player_there about plan m is.shape is.well is.sight (items_of (noted about here r c.args.pick).picks) at
    (leads_next about plan m is.shape is.well is.sight c.args.pick here c.args.dealer.now.count r c.requires.way ∙ stops)
