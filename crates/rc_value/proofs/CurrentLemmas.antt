-- Who is current inside one more stage.
use Rattle.std.proofs.Common.{◌≡◌, ℕ, ◌+◌, ◌<◌, List, [], ◌∷◌, ◌++◌, length, get_or, take, if◌then◌else◌, refl, sym, ap, ◌∙◌}
use Rattle.std.proofs.lemmas.List.{take_more}
use Rattle.rc_sheet_spec.specs.Sheet.{Class, player_class, team_class, Sheet}
use Rattle.rc_play_spec.specs.Owners.{current_in, is_stage_of}
use Rattle.rc_rules.specs.Control.{frames_seen}
use Rattle.rc_rules.specs.declared.control.Frame.{Frame}
use Rattle.rc_rules.proofs.StageLemmas.{current_in_last}
use Rattle.rc_value.specs.declared.current.Current.{Current}
use Rattle.rc_value.specs.Current.{IsCurrent}

member_on : (sheet : Sheet) (class : Class) (frames : List Frame) (i : ℕ) (frame : Frame) (around member : ℕ) → i < length frames → frame ≡ get_or frames i frame →
    around ≡ current_in sheet class (frames_seen (take i frames)) → member ≡ (if is_stage_of sheet class frame.stage then frame.member else around) →
    member ≡ current_in sheet class (frames_seen (take (i + 1) frames))
member_on sheet class frames i frame around member lt is told here =
    here ∙ ap (λ n. if is_stage_of sheet class frame.stage then frame.member else n) told
    ∙ sym (current_in_last sheet class (take (i + 1) frames) (take i frames) frame (is_stage_of sheet class frame.stage)
    (take_more frames i frame lt ∙ ap (λ x. take i frames ++ x ∷ []) (sym is)) refl)

pub current_on : (sheet : Sheet) (frames : List Frame) (i : ℕ) (frame : Frame) (around current : Current) → i < length frames → frame ≡ get_or frames i frame →
    IsCurrent sheet (frames_seen (take i frames)) around →
    current.player ≡ (if is_stage_of sheet player_class frame.stage then frame.member else around.player) →
    current.team ≡ (if is_stage_of sheet team_class frame.stage then frame.member else around.team) →
    IsCurrent sheet (frames_seen (take (i + 1) frames)) current
current_on sheet frames i frame around current lt is told player team = (
  member_on sheet player_class frames i frame around.player current.player lt is told.0 player,
  member_on sheet team_class frames i frame around.team current.team lt is told.1 team,
)
