use Rattle.std.proofs.Common.{◌≡◌, ◌++◌, ℕ, map, sym, ap, ◌∙◌, ◌<◌, length, get_or, Some, subst, append-nil}
use Rattle.std.proofs.lemmas.List.{map_push, drop_all}
use Rattle.rc_play_spec.specs.About.{About}
use Rattle.rc_play_spec.specs.Keyed.{dealing_of}
use Rattle.rc_play_spec.specs.Step.{start}
use Rattle.rc_play_spec.specs.Stop.{Stopped, stop_of}
use Rattle.rc_play_spec.specs.Play.{stop_behind}
use Rattle.rc_play_spec.specs.Decision.{choose}
use Rattle.rc_play_spec.specs.View.{view_of}
use Rattle.rc_log_spec.specs.Views.{views_from}
use Rattle.rc_rules.specs.Control.{stop_seen}
use Rattle.rc_rules.specs.Record.{pick_seen}
use Rattle.rc_rules.specs.Machine.{StopsAtDecision, IsWhereItStops, menu_here}
use Rattle.rc_rules.specs.declared.record.Pick.{Pick}
use Rattle.rc_log_spec.specs.Plays.{IsPlayOf}
use Rattle.rc_view.specs.Seen.{view_seen}
use Rattle.rc_seatlog.proofs.PlayLemmas.{goes, stands_there, offered_there, begins, goes_on, sees_on}
use Rattle.rc_seatlog.proofs.views.views_at.Goals as goal

pub loop-pick-init : goal.loop-pick-init
loop-pick-init g c =
    let about = g.M.Machine.about c.args.machine in
    let deal = dealing_of c.args.deal in
    let picks = c.args.picks.now in
    let stop = stop_seen c.in_ok-advance.field-0 in
    let config = g.M.Machine.config c.advance.new.self in
    let k = c.advance.new.dealer.count in
    let d = sym c.new-dealer.ensures in
    let s = sym c.requires.start in
    let same : stop_of about deal 0 (start about) ≡ stop_of about (dealing_of c.new-dealer.result.deal) c.new-dealer.result.count (g.M.Machine.config c.args.machine) =
    λ i. stop_of about (dealing_of (d i).deal) (d i).count (s i) in
    let e = same ∙ c.in_ok-advance.ensures.leads in
    let play : IsPlayOf about deal (map pick_seen picks) = c.requires.legal in (
      stop,
      record {
        fresh = c.in_ok-advance.ensures.spent;
        same = c.in_ok-advance.ensures.same;
        stands = c.in_ok-advance.ensures.stands;
        deals = c.in_ok-advance.ensures.dealing ∙ ap (λ d. dealing_of d.deal) c.new-dealer.ensures;
        leads = begins about deal (map pick_seen picks) stop config k play e;
        seen = ap (λ vs. map view_seen vs ++ views_from about deal c.args.seat (map pick_seen picks) (Some (record { stop = stop; config = config; dealer = k }))) c.new-views.ensures.items
            ∙ ap (views_from about deal c.args.seat (map pick_seen picks)) (sym e);
      },
    )

pub table-requires : goal.table-requires
table-requires g c = c.loop-pick.invariant.1.fresh

pub control-requires : goal.control-requires
control-requires g c = c.loop-pick.invariant.1.fresh

pub view_of-requires-clause-laid : goal.view_of-requires-clause-laid
view_of-requires-clause-laid g c =
    ap (λ laid. laid.shape) c.table.ensures ∙ ap (λ (about : About). about.shape) c.loop-pick.invariant.1.same ∙ c.requires.shape

pub go_on-requires-clause-fresh : goal.go_on-requires-clause-fresh
go_on-requires-clause-fresh g c = c.loop-pick.invariant.1.fresh

pub go_on-requires-clause-decision : goal.go_on-requires-clause-decision
go_on-requires-clause-decision g c =
    let inv = c.loop-pick.invariant.1 in
    let about = g.M.Machine.about c.args.machine in
    let picks = c.args.picks.now in
    let config = g.M.Machine.config c.loop-pick.machine in
    let d : Pick = record { seat = 0; site = 0; item = 0; size = 0 } in
    let made = goes about (dealing_of c.args.deal) picks c.loop-pick.pick-index d _ inv.leads.0 c.loop-pick-test.true inv.leads.1 in
    subst (λ about. StopsAtDecision about config) (sym inv.same) (stands_there about _ c.loop-pick.invariant.0 config inv.stands made.0)

pub go_on-requires-clause-offered : goal.go_on-requires-clause-offered
go_on-requires-clause-offered g c =
    let inv = c.loop-pick.invariant.1 in
    let about = g.M.Machine.about c.args.machine in
    let picks = c.args.picks.now in
    let config = g.M.Machine.config c.loop-pick.machine in
    let d : Pick = record { seat = 0; site = 0; item = 0; size = 0 } in
    let made = goes about (dealing_of c.args.deal) picks c.loop-pick.pick-index d _ inv.leads.0 c.loop-pick-test.true inv.leads.1 in
    subst (λ about. (get_or picks c.loop-pick.pick-index d).item < length (menu_here about config)) (sym inv.same) (offered_there about _ c.loop-pick.invariant.0 config inv.stands made.0)

pub loop-pick-preserved : goal.loop-pick-preserved
loop-pick-preserved g c =
    let inv = c.loop-pick.invariant.1 in
    let about = g.M.Machine.about c.args.machine in
    let deal = dealing_of c.args.deal in
    let picks = c.args.picks.now in
    let i = c.loop-pick.pick-index in
    let d : Pick = record { seat = 0; site = 0; item = 0; size = 0 } in
    let config = g.M.Machine.config c.loop-pick.machine in
    let k = c.loop-pick.dealer.count in
    let at : Stopped ℕ = record { stop = c.loop-pick.invariant.0; config = config; dealer = k } in
    let stop' = stop_seen c.in_ok-go_on.field-0 in
    let config' = g.M.Machine.config c.go_on.new.machine in
    let next : Stopped ℕ = record { stop = stop'; config = config'; dealer = c.go_on.new.dealer.count } in
    let item = (get_or picks i d).item in
    let goes-there : stop_behind about deal (choose about deal k item config) ≡ Some next =
    sym (λ j. stop_behind (inv.same j) (inv.deals j) (choose (inv.same j) (inv.deals j) k item config)) ∙ c.in_ok-go_on.ensures.leads in
    let s = sym c.requires.shape in
    let view : view_seen c.in_ok-view_of.field-0 ≡ view_of about.shape c.args.seat config.table config.control =
    c.in_ok-view_of.ensures.view ∙ λ j. view_of (s j) c.args.seat (c.table.ensures j).table (c.control.ensures j) in (
      stop',
      record {
        fresh = c.in_ok-go_on.ensures.fresh;
        same = c.in_ok-go_on.ensures.same ∙ inv.same;
        stands = subst (λ about. IsWhereItStops about stop' config') (c.in_ok-go_on.ensures.same ∙ inv.same) c.in_ok-go_on.ensures.stands;
        deals = c.in_ok-go_on.ensures.dealing ∙ inv.deals;
        leads = goes_on about deal picks i d at next c.loop-pick-test.true inv.leads goes-there;
        seen = sees_on about deal c.args.seat picks i d at next (map view_seen c.loop-pick.views.items) (map view_seen c.push.new.self.items) (view_seen c.in_ok-view_of.field-0) c.loop-pick-test.true
            (ap (map view_seen) c.in_ok-push.ensures.items ∙ map_push view_seen c.loop-pick.views.items c.in_ok-view_of.field-0) view goes-there ∙ inv.seen;
      },
    )

pub returns : goal.returns
returns g c =
    let inv = c.loop-pick.invariant.1 in
    let about = g.M.Machine.about c.args.machine in
    let deal = dealing_of c.args.deal in
    let picks = c.args.picks.now in
    let views = map view_seen c.loop-pick.views.items in
    let at : Stopped ℕ = record { stop = c.loop-pick.invariant.0; config = g.M.Machine.config c.loop-pick.machine; dealer = c.loop-pick.dealer.count } in
    sym (append-nil views) ∙ ap (λ ps. views ++ views_from about deal c.args.seat (map pick_seen ps) (Some at)) (sym (drop_all c.loop-pick.pick-index picks c.loop-pick-test.false))
    ∙ inv.seen
