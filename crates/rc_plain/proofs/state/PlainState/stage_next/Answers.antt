use Rattle.std.proofs.Common.{ap, sym, ◌∙◌, subst, refl, arith}
use Rattle.std.proofs.lemmas.List.{length-map}
use Rattle.rc_sheet_spec.specs.Sheet.{stage}
use Rattle.rc_play_spec.specs.Step.{Stage, goes, with_frames}
use Rattle.rc_play_spec.specs.Path.{stage_in}
use Rattle.rc_ast.specs.Expressions.{test_seen}
use Rattle.rc_rules.specs.Control.{frames_seen, frame_seen}
use Rattle.rc_plain.specs.Paths.{IsPath}
use Rattle.rc_plain.specs.Plain.{config_of}
use Rattle.rc_plain.specs.State.{plain_of}
use Rattle.rc_plain.proofs.StepCases.{moved, open_leads}
use Rattle.rc_plain.proofs.PlayLemmas.{goes_on, mark_is_path, few_frames, still}
use Rattle.rc_plain.proofs.KeptLemmas.{not_offered}
use Rattle.rc_plain.proofs.state.PlainState.stage_next.Goals as goal

pub open_frame-self-requires-clause-room : goal.open_frame-self-requires-clause-room
open_frame-self-requires-clause-room c =
    let m = plain_of c.args.about.now c.args.self.now in
    let i = stage c.args.number c.args.class (test_seen c.args.end.now) c.requires.here.0 in
    let few = few_frames m c.requires.ready.play i c.sheet-sheet.ensures.well
    (sym c.at_round.ensures ∙ c.if-at_round.false) c.requires.here.1 in
    let same = length-map c.args.self.now.control.frames.items frame_seen in
    omega (arith, few, same)

pub returns-clause-leads : goal.returns-clause-leads
returns-clause-leads c =
    let about = c.args.about.now in
    let m = plain_of about c.args.self.now in
    let body = c.requires.here.0 in
    let end = test_seen c.args.end.now in
    let s : Stage = record { number = c.args.number; class = c.args.class; end = end; body = body } in
    let frames = frames_seen c.open_frame-self.new.frames.items in
    λ dealing k.
    open_leads m dealing k c.args.number c.args.class end body frames
    (sym c.at_round.ensures ∙ c.if-at_round.false) c.requires.here.1
    (sym c.open_frame-self.ensures.opened)
    ∙ ap (λ path. goes k (config_of (moved m path m.table (with_frames m.control frames)))) (sym c.open.ensures)

pub returns-clause-ready : goal.returns-clause-ready
returns-clause-ready c =
    let about = c.args.about.now in
    let m = plain_of about c.args.self.now in
    let play = c.requires.ready.play in
    let s : Stage =
    record {
      number = c.args.number;
      class = c.args.class;
      end = test_seen c.args.end.now;
      body =
          c.requires.here.0;
    } in
    record {
      laid = c.requires.ready.laid;
      quiet = c.requires.ready.quiet;
      play = goes_on m play c.open.new.self m.table
          (with_frames m.control (frames_seen c.open_frame-self.new.frames.items)) still 0 0
          (subst (IsPath about.sheet) (sym c.open.ensures)
          (mark_is_path m play s (ap stage_in c.requires.here.1))) play.turn play.counts
          (returns-clause-leads c still 0);
      current = c.open_frame-self.ensures.current;
      kept = λ site is. absurd (not_offered m site _ (c.requires.ready.kept site is).offered c.requires.here.1 refl);
    }
