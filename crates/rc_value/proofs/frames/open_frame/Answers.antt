use Rattle.std.proofs.Common.{if◌then◌else◌, sym, ap, ◌∙◌, subst}
use Rattle.rc_sheet_spec.specs.Sheet.{player_class, team_class}
use Rattle.rc_play_spec.specs.Owners.{is_stage_of}
use Rattle.rc_rules.specs.Control.{frames_seen}
use Rattle.rc_value.specs.Current.{IsCurrent}
use Rattle.rc_value.proofs.StageLemmas.{current_opened}
use Rattle.rc_value.proofs.frames.open_frame.Goals as goal

pub returns-clause-current : goal.returns-clause-current
returns-clause-current c =
    let about = c.args.about.now in
    let same = c.sheet.ensures.same in
    let inside = c.current_inside.ensures in
    subst (λ fs. IsCurrent about.sheet (frames_seen fs) c.current_inside.result) (sym c.push.ensures.items)
    (current_opened about.sheet c.args.frames.now.items _ c.args.current c.current_inside.result c.requires.current (
      inside.player ∙ ap (λ s. if is_stage_of s player_class c.args.number then c.member_by.result else c.args.current.player) same,
      inside.team ∙ ap (λ s. if is_stage_of s team_class c.args.number then c.member_by.result else c.args.current.team) same,
    ))
