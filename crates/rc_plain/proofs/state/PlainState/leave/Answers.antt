use Rattle.std.proofs.Common.{ap, sym, ◌∙◌, subst, refl}
use Rattle.rc_deck.proofs.EachLemmas.{past_end}
use Rattle.rc_sheet_spec.specs.Lists.{item_list}
use Rattle.rc_sheet_spec.specs.WellFormed.{owner_count}
use Rattle.rc_play_spec.specs.Step.{with_frames, passed}
use Rattle.rc_play_spec.specs.Path.{stage_in, body_at}
use Rattle.rc_rules.specs.Control.{frames_seen}
use Rattle.rc_plain.specs.Paths.{Leaves}
use Rattle.rc_plain.specs.State.{plain_of}
use Rattle.rc_plain.proofs.PathLemmas.{not_round}
use Rattle.rc_plain.proofs.StepCases.{end_leads, turn_leads}
use Rattle.rc_plain.proofs.PlayLemmas.{goes_on, left_stage, still}
use Rattle.rc_plain.proofs.KeptLemmas.{not_offered}
use Rattle.rc_plain.proofs.state.PlainState.leave.Goals as goal

pub returns-then-not-leave-clause-leads : goal.returns-then-not-leave-clause-leads
returns-then-not-leave-clause-leads c =
    let about = c.args.about.now in
    let m = plain_of about c.args.self.now in
    let path = c.leave.new.self in
    λ dealing k.
    end_leads m dealing k path (not_round about.sheet m.path c.requires.ready.play.stands (ap stage_in c.requires.end))
    (subst (Leaves m.path path) c.if-not-leave.true c.leave.ensures)
    (past_end (body_at (item_list about.sheet.items) m.path.outer) m.path.next c.requires.end)

pub returns-clause-leads : goal.returns-clause-leads
returns-clause-leads c =
    let about = c.args.about.now in
    let m = plain_of about c.args.self.now in
    let path = c.leave.new.self in
    let leaves = subst (Leaves m.path path) c.if-not-leave.false c.leave.ensures in
    let back = left_stage m c.requires.ready.play path leaves in
    λ dealing k.
    turn_leads m dealing k back.1 path (frames_seen c.pass_frame-self.new.frames.items)
    (not_round about.sheet m.path c.requires.ready.play.stands (ap stage_in c.requires.end)) leaves back.2
    (past_end (body_at (item_list about.sheet.items) m.path.outer) m.path.next c.requires.end)
    (ap (λ class. passed (owner_count about.sheet class) m.control.frames) (sym (c.class.ensures back.1 back.2))
    ∙ ap (λ count. passed count m.control.frames) (sym c.member_count-count.ensures.count)
    ∙ sym c.pass_frame-self.ensures.passed)

pub returns-clause-ready : goal.returns-clause-ready
returns-clause-ready c =
    let about = c.args.about.now in
    let m = plain_of about c.args.self.now in
    let path = c.leave.new.self in
    let play = c.requires.ready.play in
    let leaves = subst (Leaves m.path path) c.if-not-leave.false c.leave.ensures in
    let back = left_stage m play path leaves in
    record {
      laid = c.requires.ready.laid;
      quiet = c.requires.ready.quiet;
      play = goes_on m play path m.table
          (with_frames m.control (frames_seen c.pass_frame-self.new.frames.items)) still 0 0
          back.0 play.turn play.counts (returns-clause-leads c still 0);
      current = c.pass_frame-self.ensures.current;
      kept = λ site is. absurd (not_offered m site _ (c.requires.ready.kept site is).offered c.requires.end refl);
    }
