use Rattle.std.proofs.Common.{ap, sym, ◌∙◌, ◌≤◌, subst, refl, arith, All, []}
use Rattle.rc_sheet_spec.specs.WellFormed.{outside}
use Rattle.rc_play_spec.specs.Control.{Control}
use Rattle.rc_play_spec.specs.About.{scene_at}
use Rattle.rc_play_spec.specs.Menu.{Item, alt_in, effects_of, bindings_of}
use Rattle.rc_play_spec.specs.Effects.{does}
use Rattle.rc_play_spec.specs.Step.{goes}
use Rattle.rc_play_spec.specs.Path.{stage_in, past}
use Rattle.rc_ast.specs.Items.{alts_seen}
use Rattle.rc_play_spec.proofs.CountLemmas.{one_decision_counts}
use Rattle.rc_rules.specs.Control.{control_seen}
use Rattle.rc_value.specs.Current.{IsCurrent}
use Rattle.rc_value.specs.Point.{point_of}
use Rattle.rc_plain.specs.Paths.{IsPath}
use Rattle.rc_plain.specs.Plain.{config_of}
use Rattle.rc_plain.specs.State.{plain_of}
use Rattle.rc_plain.proofs.PathLemmas.{item_outside, not_round}
use Rattle.rc_plain.proofs.StepCases.{moved, choose_leads}
use Rattle.rc_plain.proofs.PlayLemmas.{goes_on_behind, past_is_path}
use Rattle.rc_plain.proofs.state.PlainState.choose.Goals as goal

pub do_item-requires-clause-well : goal.do_item-requires-clause-well
do_item-requires-clause-well g c =
    let is = item_outside c.args.about.now.sheet c.args.self.now.path _ outside refl c.sheet-sheet.ensures.well.items
    c.requires.here.1 in
    (is.0, is.1, is.2.2)

pub returns-clause-leads : goal.returns-clause-leads
returns-clause-leads g c =
    let about = c.args.about.now in
    let m = plain_of about c.args.self.now in
    let alts = alts_seen c.args.alts.now in
    let dealing = g.D.Dealer.dealing c.args.dealer.now in
    let k = g.D.Dealer.state c.args.dealer.now in
    let seat = c.args.self.now.current.player in
    let before = point_of c.args.self.now.board.laid c.args.self.now.control.frames.items k in
    let after = point_of c.do_item.new.board.laid c.do_item.new.frames.items (g.D.Dealer.state c.do_item.new.dealer) in
    let scene = scene_at about m.table m.control.frames in
    λ x chosen.
    choose_leads m dealing k x c.requires.here.0 seat alts after
    (not_round about.sheet m.path c.requires.play.stands (ap stage_in c.requires.here.1)) c.requires.here.1
    (ap (λ (i : Item). does about dealing (bindings_of scene [] (alt_in alts i.alt) i.spots)
    (effects_of (alt_in alts i.alt)) before) chosen
    ∙ c.do_item.ensures.does) c.requires.current.0
    ∙ ap (λ control. goes after.dealer (config_of (moved m (past m.path) after.table control)))
    (sym c.count_decision.ensures)
    ∙ ap (λ path. goes after.dealer (config_of (moved m path after.table (control_seen c.count_decision.new.control))))
    (sym c.pass.ensures)

pub returns-clause-ready : goal.returns-clause-ready
returns-clause-ready g c =
    let about = c.args.about.now in
    let m = plain_of about c.args.self.now in
    let play = c.requires.play in
    let seat = c.args.self.now.current.player in
    let below = c.requires.below in
    record {
      laid = c.do_item.ensures.shape;
      quiet = c.do_item.ensures.quiet;
      play = goes_on_behind m play c.pass.new.self c.do_item.new.board.laid.table
          (control_seen c.count_decision.new.control)
          (g.D.Dealer.dealing c.args.dealer.now) c.requires.offered.0 (g.D.Dealer.state c.args.dealer.now)
          (g.D.Dealer.state c.do_item.new.dealer)
          (subst (IsPath about.sheet) (sym c.pass.ensures) (past_is_path m play))
          (subst (λ (control : Control). control.turn ≤ about.turns) (sym c.count_decision.ensures)
          (omega (arith, below)))
          (subst (λ (control : Control). All (λ n. n ≤ control.turn) control.made) (sym c.count_decision.ensures)
          (one_decision_counts m.control.turn seat m.control.made play.counts))
          (returns-clause-leads g c c.requires.offered.0 c.requires.offered.1);
      current = subst (λ (control : Control). IsCurrent about.sheet control.frames c.args.self.now.current)
          (sym c.count_decision.ensures) c.do_item.ensures.current;
      kept = λ site is. absurd (let none = ap (λ (control : Control). control.site) c.count_decision.ensures in cc);
    }
