use Rattle.std.proofs.Common.{ap, sym, ◌∙◌, subst}
use Rattle.rc_sheet_spec.specs.WellFormed.{owner_count}
use Rattle.rc_play_spec.specs.Step.{Stage, goes, with_frames, passed}
use Rattle.rc_rules.specs.Control.{frames_seen}
use Rattle.rc_code.specs.Seen.{list_seen}
use Rattle.rc_code.proofs.LeftLemmas as left
use Rattle.rc_flat.specs.Places.{IsPlace}
use Rattle.rc_flat.specs.Flat.{config_of}
use Rattle.rc_flat.specs.State.{flat_of}
use Rattle.rc_flat.proofs.StepCases.{moved, turn_leads}
use Rattle.rc_flat.proofs.OfferedLemmas.{not_offered}
use Rattle.rc_flat.proofs.PlayLemmas.{still}
use Rattle.rc_flat.proofs.PlaceLemmas.{goes_on, round_place, innermost_stage}
use Rattle.rc_flat.proofs.state.State.turn_next.Goals as goal

pub stage_there-stage-requires : goal.stage_there-stage-requires
stage_there-stage-requires c =
    innermost_stage (flat_of c.args.about.now (list_seen c.args.code.now) c.args.self.now) c.requires.ready.play c.requires.within.0 c.args.place c.requires.within.1

pub returns-clause-leads : goal.returns-clause-leads
returns-clause-leads c =
    let about = c.args.about.now in
    let m = flat_of about (list_seen c.args.code.now) c.args.self.now in
    let here = c.stage_there-stage.ensures.there in
    let frames = frames_seen c.pass_frame-self.new.frames.items in
    let there = left.stage_there m.code c.args.place _ _ _ _ here.1 in
    λ dealing k.
    turn_leads m dealing k c.requires.within.0 c.args.place frames c.requires.within.1 c.requires.round c.requires.end
    (ap (λ (s : Stage). passed (owner_count about.sheet s.class) m.control.frames) there
    ∙ ap (λ count. passed count m.control.frames) (sym c.member_count-count.ensures.count)
    ∙ sym c.pass_frame-self.ensures.passed)
    ∙ ap (λ path. goes k (config_of (moved m path m.table (with_frames m.control frames)))) (sym c.to_round.ensures)

pub returns-clause-ready : goal.returns-clause-ready
returns-clause-ready c =
    let m = flat_of c.args.about.now (list_seen c.args.code.now) c.args.self.now in
    let play = c.requires.ready.play in
    record {
      laid = c.requires.ready.laid;
      play = goes_on m play c.to_round.new.self m.table (with_frames m.control (frames_seen c.pass_frame-self.new.frames.items)) still 0 0
          (subst (IsPlace m.code) (sym c.to_round.ensures) (round_place m play c.requires.within.0 c.args.place c.requires.within.1)) play.turn play.counts
          (returns-clause-leads c still 0);
      current = c.pass_frame-self.ensures.current;
      kept = λ site is. absurd (not_offered m site (c.requires.ready.kept site is).offered c.requires.end);
    }
