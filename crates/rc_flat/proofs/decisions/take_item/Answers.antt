use Rattle.std.proofs.Common.{◌+◌, ◌<◌, ◌≤◌, [], All, drop, map, ap, sym, ◌∙◌, subst, arith}
use Rattle.rc_play_spec.specs.About.{scene_at}
use Rattle.rc_play_spec.specs.Menu.{Item, alt_in, effects_of, bindings_of}
use Rattle.rc_play_spec.specs.Effects.{does}
use Rattle.rc_play_spec.specs.Step.{goes}
use Rattle.rc_rules.specs.Control.{control_seen}
use Rattle.rc_value.specs.Current.{IsCurrent}
use Rattle.rc_code.specs.Seen.{block_seen, list_seen}
use Rattle.rc_play_spec.specs.Control.{Control}
use Rattle.rc_play_spec.proofs.CountLemmas.{one_decision_counts}
use Rattle.rc_flat.specs.Places.{went_to, IsPlace}
use Rattle.rc_flat.proofs.PlaceLemmas.{goes_on_behind, went_place}
use Rattle.rc_flat.proofs.KeptLemmas.{so_many, item_kept, stands_here}
use Rattle.rc_value.specs.Point.{point_of}
use Rattle.rc_flat.specs.Flat.{config_of}
use Rattle.rc_flat.specs.State.{flat_of}
use Rattle.rc_flat.proofs.StepCases.{moved, choose_leads}
use Rattle.rc_flat.proofs.decisions.take_item.Goals as goal

pub item_at-item-requires : goal.item_at-item-requires
item_at-item-requires g c =
    subst (λ n. c.args.item < n) (sym (so_many c.args.about.now (list_seen c.args.code.now) c.args.state.now c.requires.ready c.requires.decision)) c.requires.offered

pub returns-clause-leads : goal.returns-clause-leads
returns-clause-leads g c =
    let about = c.args.about.now in
    let code = list_seen c.args.code.now in
    let m = flat_of about code c.args.state.now in
    let alts = c.args.alts.now in
    let blocks = map block_seen c.args.blocks.now in
    let here = c.requires.here in
    let dealing = g.D.Dealer.dealing c.args.dealer.now in
    let k = g.D.Dealer.state c.args.dealer.now in
    let seat = c.args.state.now.current.player in
    let before = point_of c.args.state.now.board.laid c.args.state.now.control.frames.items k in
    let after = point_of c.do_item.new.board.laid c.do_item.new.frames.items (g.D.Dealer.state c.do_item.new.dealer) in
    let scene = scene_at about m.table m.control.frames in
    let chosen = item_kept about code c.args.state.now c.requires.ready c.requires.decision here.0 alts blocks c.args.inside here.1
    c.args.item c.requires.offered c.item_at-item.result.now c.item_at-item.ensures in
    choose_leads m dealing k here.0 alts blocks c.args.inside
    (stands_here about code c.args.state.now c.requires.ready c.requires.decision) here.1
    c.args.item seat c.behind.result after (c.behind.ensures ∙ ap (λ n. drop (n + 1 + c.args.inside) m.code) c.next-next.ensures)
    (ap (λ (i : Item). does about dealing (bindings_of scene [] (alt_in alts i.alt) i.spots) (effects_of (alt_in alts i.alt)) before) chosen
    ∙ c.in-Ok.ensures.does) c.requires.ready.current.0
    ∙ ap (λ control. goes after.dealer (config_of (moved m (went_to c.behind.result m.place) after.table control))) (sym c.count_decision.ensures)
    ∙ ap (λ path. goes after.dealer (config_of (moved m path after.table (control_seen c.count_decision.new.control)))) (sym c.go_to.ensures)

pub returns-clause-ready : goal.returns-clause-ready
returns-clause-ready g c =
    let about = c.args.about.now in
    let m = flat_of about (list_seen c.args.code.now) c.args.state.now in
    let play = c.requires.ready.play in
    let below = c.requires.decision.2.decision.below in
    record {
      laid = c.in-Ok.ensures.keeps.shape ∙ c.requires.ready.laid;
      play = goes_on_behind m play c.go_to.new.self c.do_item.new.board.laid.table (control_seen c.count_decision.new.control)
          (g.D.Dealer.dealing c.args.dealer.now) c.args.item (g.D.Dealer.state c.args.dealer.now) (g.D.Dealer.state c.do_item.new.dealer)
          (subst (IsPlace m.code) (sym c.go_to.ensures) (went_place m play c.behind.result))
          (subst (λ (control : Control). control.turn ≤ about.turns) (sym c.count_decision.ensures) (omega (arith, below)))
          (subst (λ (control : Control). All (λ n. n ≤ control.turn) control.made) (sym c.count_decision.ensures)
          (one_decision_counts m.control.turn c.args.state.now.current.player m.control.made play.counts))
          (returns-clause-leads g c);
      current = subst (λ (control : Control). IsCurrent about.sheet control.frames c.args.state.now.current) (sym c.count_decision.ensures) c.in-Ok.ensures.current;
      kept = λ site is. absurd (let none = ap (λ (control : Control). control.site) c.count_decision.ensures in cc);
    }
