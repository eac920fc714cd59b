use Rattle.std.proofs.Common.{◌≡◌, length, sym, subst}
use Rattle.rc_play_spec.specs.Keyed.{dealing_of}
use Rattle.rc_rules.specs.Plan.{plan_seen}
use Rattle.rc_rules.specs.Record.{record_seen}
use Rattle.rc_log_spec.specs.Laws.{AllCount}
use Rattle.rc_log_spec.specs.Plays.{IsPlayOf}
use Rattle.rc_log_spec.specs.Views.{views_in}
use Rattle.rc_house.proofs.WatchedRecords.{watchable, views_count, each_viewed}
use Rattle.rc_house.proofs.watched_match.watched_alone.Goals as goal

pub log_of_record-requires-clause-play : goal.log_of_record-requires-clause-play
log_of_record-requires-clause-play g c =
    let about = c.args.about.now.value in
    let r = record_seen c.in_ok-played.played in
    let keeps = watchable about c.deref.result.now c.deref-2.result.now c.turns-turns.result c.deref.ensures c.deref-2.ensures c.sheet-sheet.ensures.shape
    c.sheet-sheet.ensures.well c.sheet-sheet.ensures.sight c.turns-turns.ensures c.turns-turns.type_inv in
    subst (λ about. IsPlayOf about (dealing_of r.deal) r.picks) (sym c.deref-3.ensures)
    (c.records_tell_views.ensures.plays about (plan_seen c.args.plan.now.value) c.args.number r keeps c.in_ok-played.ensures)

pub log_of_record-requires-clause-counts : goal.log_of_record-requires-clause-counts
log_of_record-requires-clause-counts g c =
    let about = c.args.about.now.value in
    let r = record_seen c.in_ok-played.played in
    let keeps = watchable about c.deref.result.now c.deref-2.result.now c.turns-turns.result c.deref.ensures c.deref-2.ensures c.sheet-sheet.ensures.shape
    c.sheet-sheet.ensures.well c.sheet-sheet.ensures.sight c.turns-turns.ensures c.turns-turns.type_inv in
    subst (λ about. AllCount about.shape c.args.seat (views_in about (dealing_of r.deal) c.args.seat r.picks)) (sym c.deref-3.ensures)
    (views_count about (plan_seen c.args.plan.now.value) c.args.number c.args.seat r keeps c.records_tell_views.ensures.views c.views_of_matches_count.ensures.all c.in_ok-played.ensures)

pub log_of_record-requires-clause-each : goal.log_of_record-requires-clause-each
log_of_record-requires-clause-each g c =
    let about = c.args.about.now.value in
    let r = record_seen c.in_ok-played.played in
    let keeps = watchable about c.deref.result.now c.deref-2.result.now c.turns-turns.result c.deref.ensures c.deref-2.ensures c.sheet-sheet.ensures.shape
    c.sheet-sheet.ensures.well c.sheet-sheet.ensures.sight c.turns-turns.ensures c.turns-turns.type_inv in
    subst (λ about. length (views_in about (dealing_of r.deal) c.args.seat r.picks) ≡ length r.picks) (sym c.deref-3.ensures)
    (each_viewed about (plan_seen c.args.plan.now.value) c.args.number c.args.seat r keeps c.records_tell_views.ensures.views c.views_of_matches_count.ensures.each c.in_ok-played.ensures)
