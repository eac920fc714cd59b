use Rattle.std.proofs.Common.{[], ap, sym, ◌∙◌, ◌<◌, subst, refl, arith}
use Rattle.rc_sheet_spec.specs.WellFormed.{outside}
use Rattle.rc_play_spec.specs.About.{scene_at}
use Rattle.rc_play_spec.specs.Value.{test_value}
use Rattle.rc_play_spec.specs.Step.{Stage, goes, with_frames, one_turn_more}
use Rattle.rc_play_spec.specs.Path.{stage_in}
use Rattle.rc_ast.specs.Expressions.{test_seen}
use Rattle.rc_play_spec.proofs.CountLemmas.{one_turn_counts}
use Rattle.rc_table.specs.Laid.{Laid}
use Rattle.rc_rules.specs.Control.{frames_seen}
use Rattle.rc_plain.specs.Paths.{IsPath}
use Rattle.rc_plain.specs.Plain.{config_of}
use Rattle.rc_plain.specs.State.{plain_of}
use Rattle.rc_plain.proofs.PathLemmas.{item_outside, end_outside}
use Rattle.rc_plain.proofs.StepCases.{moved, close_leads, round_leads}
use Rattle.rc_plain.proofs.PlayLemmas.{goes_on, past_is_path, into_is_path, few_places, still}
use Rattle.rc_plain.proofs.KeptLemmas.{not_offered}
use Rattle.rc_plain.proofs.state.PlainState.round_next.Goals as goal

pub has_ended-requires-clause-well : goal.has_ended-requires-clause-well
has_ended-requires-clause-well c =
    let sheet = c.args.about.now.sheet in
    let here = c.requires.here in
    let well = c.sheet-sheet.ensures.well in
    end_outside sheet here.0 here.1 (test_seen c.args.end.now) here.2
    (item_outside sheet c.args.self.now.path _ outside refl well.items here.3)

pub returns-then-has_ended-clause-ready : goal.returns-then-has_ended-clause-ready
returns-then-has_ended-clause-ready c =
    let about = c.args.about.now in
    let m = plain_of about c.args.self.now in
    let play = c.requires.ready.play in
    let here = c.requires.here in
    let s : Stage = record { number = here.0; class = here.1; end = test_seen c.args.end.now; body = here.2 } in
    let ended =
    c.has_ended.ensures
    ∙ ap (λ (t : Laid). test_value (scene_at about t.table m.control.frames) [] s.end) c.table.ensures in
    let frames = frames_seen c.close_frame.new.frames.items in
    record {
      laid = c.requires.ready.laid;
      quiet = c.requires.ready.quiet;
      play = goes_on m play c.pass.new.self m.table (with_frames m.control frames) still 0 0
          (subst (IsPath about.sheet) (sym c.pass.ensures) (past_is_path m play)) play.turn play.counts
          (close_leads m still 0 s frames c.requires.round (ap stage_in here.3) (sym ended ∙ c.if-has_ended.true)
          (sym c.close_frame.ensures)
          ∙ ap (λ path. goes 0 (config_of (moved m path m.table (with_frames m.control frames)))) (sym c.pass.ensures));
      current = c.current_in-self.ensures;
      kept = λ site is. absurd (not_offered m site _ (c.requires.ready.kept site is).offered here.3 refl);
    }

pub enter-requires : goal.enter-requires
enter-requires c =
    few_places
    (plain_of c.args.about.now c.args.self.now) c.requires.ready.play _ c.sheet-sheet.ensures.well c.requires.here.3

pub returns-clause-leads : goal.returns-clause-leads
returns-clause-leads c =
    let about = c.args.about.now in
    let m = plain_of about c.args.self.now in
    let here = c.requires.here in
    let s : Stage = record { number = here.0; class = here.1; end = test_seen c.args.end.now; body = here.2 } in
    let ended =
    c.has_ended.ensures
    ∙ ap (λ (t : Laid). test_value (scene_at about t.table m.control.frames) [] s.end) c.table.ensures in
    λ dealing k.
    round_leads m dealing k s c.requires.round (ap stage_in here.3) (sym ended ∙ c.if-has_ended.false)
    (subst (λ n. m.control.turn < n) c.turns.ensures c.if-self-turns.false)
    ∙ ap (λ path. goes k (config_of (moved m path m.table (one_turn_more m.control)))) (sym c.enter.ensures)

pub returns-clause-ready : goal.returns-clause-ready
returns-clause-ready c =
    let about = c.args.about.now in
    let m = plain_of about c.args.self.now in
    let play = c.requires.ready.play in
    let here = c.requires.here in
    let s : Stage = record { number = here.0; class = here.1; end = test_seen c.args.end.now; body = here.2 } in
    let below = subst (λ n. m.control.turn < n) c.turns.ensures c.if-self-turns.false in
    record {
      laid = c.requires.ready.laid;
      quiet = c.requires.ready.quiet;
      play = goes_on m play c.enter.new.self m.table (one_turn_more m.control) still 0 0
          (subst (IsPath about.sheet) (sym c.enter.ensures) (into_is_path m play s (ap stage_in here.3)))
          (omega (arith, below)) (one_turn_counts m.control.turn m.control.made play.counts)
          (returns-clause-leads c still 0);
      current = c.requires.ready.current;
      kept = λ site is. absurd (not_offered m site _ (c.requires.ready.kept site is).offered here.3 refl);
    }
