use Rattle.std.proofs.Common.{if◌then◌else◌, ap, ◌∙◌, arith}
use Rattle.rc_sheet_spec.specs.Sheet.{player_class, team_class}
use Rattle.rc_play_spec.specs.Control.{Frame}
use Rattle.rc_play_spec.specs.Owners.{is_stage_of}
use Rattle.rc_value.proofs.StageLemmas.{current_passed}
use Rattle.rc_value.proofs.Innermost.{passed_last}
use Rattle.rc_value.proofs.frames.pass_innermost.Goals as goal

pub returns-clause-passed : goal.returns-clause-passed
returns-clause-passed c = passed_last c.args.count c.args.frames.now _ _ c.next_of-next.result (omega (arith, c.if-open-eq0.false)) c.next_of-next.ensures

pub returns-clause-current : goal.returns-clause-current
returns-clause-current c =
    let about = c.args.about.now in
    let same = c.sheet.ensures.same in
    let next = c.next_of-next.result in
    let inside = c.current_inside.ensures in
    current_passed about.sheet c.args.frames.now _ _ next c.args.current c.current_inside.result (omega (arith, c.if-open-eq0.false))
    (ap (λ (frame : Frame). frame.stage) c.next_of-next.ensures) c.requires.current (
      inside.player ∙ ap (λ s. if is_stage_of s player_class next.stage then next.member else c.args.current.player) same,
      inside.team ∙ ap (λ s. if is_stage_of s team_class next.stage then next.member else c.args.current.team) same,
    )
