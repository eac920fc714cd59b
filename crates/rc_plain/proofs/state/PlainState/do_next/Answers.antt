use Rattle.std.proofs.Common.{ap, sym, ◌∙◌, length, subst, refl, arith}
use Rattle.rc_sheet_spec.specs.WellFormed.{outside}
use Rattle.rc_play_spec.specs.Effects.{does}
use Rattle.rc_play_spec.specs.Step.{goes, with_frames}
use Rattle.rc_play_spec.specs.Path.{stage_in}
use Rattle.rc_ast.specs.Effects.{effects_seen}
use Rattle.rc_rules.specs.Control.{frames_seen}
use Rattle.rc_value.specs.Point.{point_of}
use Rattle.rc_plain.specs.Paths.{IsPath}
use Rattle.rc_plain.specs.Plain.{config_of}
use Rattle.rc_plain.specs.State.{plain_of}
use Rattle.rc_plain.proofs.PathLemmas.{item_outside, not_round}
use Rattle.rc_plain.proofs.StepCases.{moved, do_leads}
use Rattle.rc_plain.proofs.PlayLemmas.{goes_on, past_is_path}
use Rattle.rc_plain.proofs.KeptLemmas.{not_offered}
use Rattle.rc_plain.proofs.state.PlainState.do_next.Goals as goal

pub do_effects-requires-clause-well : goal.do_effects-requires-clause-well
do_effects-requires-clause-well g c =
    let sheet = c.args.about.now.sheet in
    let well = c.sheet-sheet.ensures.well in
    let is = item_outside sheet c.args.self.now.path _ outside refl well.items c.requires.here in
    let none = ap length c.empty.ensures in
    let no_binder = is.1 in
    (is.0, (omega (arith, no_binder)), (omega (arith, none)), is.2.1)

pub returns-clause-leads : goal.returns-clause-leads
returns-clause-leads g c =
    let about = c.args.about.now in
    let m = plain_of about c.args.self.now in
    let dealing = g.D.Dealer.dealing c.args.dealer.now in
    let k = g.D.Dealer.state c.args.dealer.now in
    let effects = effects_seen c.args.effects.now.items in
    let after =
    point_of c.do_effects.new.board.laid c.do_effects.new.frames.items (g.D.Dealer.state c.do_effects.new.dealer) in
    do_leads m dealing k effects after
    (not_round about.sheet m.path c.requires.ready.play.stands (ap stage_in c.requires.here)) c.requires.here
    (ap (λ vars. does about dealing vars effects
    (point_of c.args.self.now.board.laid c.args.self.now.control.frames.items k)) (sym c.empty.ensures)
    ∙ c.do_effects.ensures.does)
    ∙ ap (λ path. goes after.dealer (config_of (moved m path after.table (with_frames m.control after.frames))))
    (sym c.pass.ensures)

pub returns-clause-ready : goal.returns-clause-ready
returns-clause-ready g c =
    let m = plain_of c.args.about.now c.args.self.now in
    let play = c.requires.ready.play in
    record {
      laid = c.do_effects.ensures.shape;
      quiet = c.do_effects.ensures.quiet;
      play = goes_on m play c.pass.new.self c.do_effects.new.board.laid.table
          (with_frames m.control (frames_seen c.do_effects.new.frames.items))
          (g.D.Dealer.dealing c.args.dealer.now) (g.D.Dealer.state c.args.dealer.now)
          (g.D.Dealer.state c.do_effects.new.dealer)
          (subst (IsPath c.args.about.now.sheet) (sym c.pass.ensures) (past_is_path m play)) play.turn play.counts
          (returns-clause-leads g c);
      current = c.do_effects.ensures.current;
      kept = λ site is. absurd (not_offered m site _ (c.requires.ready.kept site is).offered c.requires.here refl);
    }
