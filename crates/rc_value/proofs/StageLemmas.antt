-- Who is current where the innermost stage opens, or takes its next member.
use Rattle.std.proofs.Common.{◌≡◌, ℕ, zero, suc, ◌+◌, Bool, true, false, if◌then◌else◌, List, [], ◌∷◌, ◌++◌, length, get_or, take, slice_set, refl, sym, ap, ◌∙◌, arith}
use Rattle.rc_sheet_spec.specs.Sheet.{Class, player_class, team_class, Sheet}
use Rattle.rc_play_spec.specs.Owners.{current_in, is_stage_of}
use Rattle.rc_rules.specs.Control.{frames_seen}
use Rattle.rc_rules.specs.declared.control.Frame.{Frame}
use Rattle.rc_rules.proofs.StageLemmas.{current_in_last}
use Rattle.rc_value.specs.declared.current.Current.{Current}
use Rattle.rc_value.specs.Current.{IsCurrent}

-- where a frame stands inside others
abbrev pub IsInside : Sheet → Frame → Current → Current → Type 0
IsInside sheet frame around current =
    (current.player ≡ (if is_stage_of sheet player_class frame.stage then frame.member else around.player))
    × (current.team ≡ (if is_stage_of sheet team_class frame.stage then frame.member else around.team))

member_inside : (sheet : Sheet) (class : Class) (outer : List Frame) (frame : Frame) (around member : ℕ) →
    around ≡ current_in sheet class (frames_seen outer) → member ≡ (if is_stage_of sheet class frame.stage then frame.member else around) →
    member ≡ current_in sheet class (frames_seen (outer ++ frame ∷ []))
member_inside sheet class outer frame around member told here =
    here ∙ ap (λ n. if is_stage_of sheet class frame.stage then frame.member else n) told
    ∙ sym (current_in_last sheet class (outer ++ frame ∷ []) outer frame (is_stage_of sheet class frame.stage) refl refl)

pub current_opened : (sheet : Sheet) (outer : List Frame) (frame : Frame) (around current : Current) → IsCurrent sheet (frames_seen outer) around →
    IsInside sheet frame around current → IsCurrent sheet (frames_seen (outer ++ frame ∷ [])) current
current_opened sheet outer frame around current told inside = (
  member_inside sheet player_class outer frame around.player current.player told.0 inside.0,
  member_inside sheet team_class outer frame around.team current.team told.1 inside.1,
)

-- the last of some frames, and another one in its place
last_frame : (frames : List Frame) (at : ℕ) (d : Frame) → at + 1 ≡ length frames → frames ≡ take at frames ++ get_or frames at d ∷ []
last_frame [] at d is = absurd (omega (arith, is))
last_frame (frame ∷ []) zero d is = refl
last_frame (frame ∷ []) (suc at) d is = absurd (omega (arith, is))
last_frame (frame ∷ next ∷ frames) zero d is = absurd (omega (arith, is))
last_frame (frame ∷ next ∷ frames) (suc at) d is = ap (λ more. frame ∷ more) (last_frame (next ∷ frames) at d (omega (arith, is)))

last_set : (frames : List Frame) (at : ℕ) (new : Frame) → at + 1 ≡ length frames → slice_set frames at new ≡ take at frames ++ new ∷ []
last_set [] at new is = absurd (omega (arith, is))
last_set (frame ∷ []) zero new is = refl
last_set (frame ∷ []) (suc at) new is = absurd (omega (arith, is))
last_set (frame ∷ next ∷ frames) zero new is = absurd (omega (arith, is))
last_set (frame ∷ next ∷ frames) (suc at) new is = ap (λ more. frame ∷ more) (last_set (next ∷ frames) at new (omega (arith, is)))

member_by_last : (sheet : Sheet) (class : Class) (outer : List Frame) (old new : Frame) (b : Bool) → new.stage ≡ old.stage → is_stage_of sheet class new.stage ≡ b →
    (if b then new.member else current_in sheet class (frames_seen (outer ++ old ∷ []))) ≡ current_in sheet class (frames_seen (outer ++ new ∷ []))
member_by_last sheet class outer old new true same is = sym (current_in_last sheet class (outer ++ new ∷ []) outer new true refl is)
member_by_last sheet class outer old new false same is =
    current_in_last sheet class (outer ++ old ∷ []) outer old false refl (ap (is_stage_of sheet class) (sym same) ∙ is)
    ∙ sym (current_in_last sheet class (outer ++ new ∷ []) outer new false refl is)

member_passed : (sheet : Sheet) (class : Class) (frames : List Frame) (at : ℕ) (d new : Frame) (before member : ℕ) → at + 1 ≡ length frames →
    new.stage ≡ (get_or frames at d).stage → before ≡ current_in sheet class (frames_seen frames) →
    member ≡ (if is_stage_of sheet class new.stage then new.member else before) → member ≡ current_in sheet class (frames_seen (slice_set frames at new))
member_passed sheet class frames at d new before member is same told here =
    here ∙ ap (λ n. if is_stage_of sheet class new.stage then new.member else n) (told ∙ ap (λ fs. current_in sheet class (frames_seen fs)) (last_frame frames at d is))
    ∙ member_by_last sheet class (take at frames) (get_or frames at d) new (is_stage_of sheet class new.stage) same refl
    ∙ sym (ap (λ fs. current_in sheet class (frames_seen fs)) (last_set frames at new is))

pub current_passed : (sheet : Sheet) (frames : List Frame) (at : ℕ) (d new : Frame) (before current : Current) → at + 1 ≡ length frames →
    new.stage ≡ (get_or frames at d).stage → IsCurrent sheet (frames_seen frames) before → IsInside sheet new before current →
    IsCurrent sheet (frames_seen (slice_set frames at new)) current
current_passed sheet frames at d new before current is same told inside = (
  member_passed sheet player_class frames at d new before.player current.player is same told.0 inside.0,
  member_passed sheet team_class frames at d new before.team current.team is same told.1 inside.1,
)
