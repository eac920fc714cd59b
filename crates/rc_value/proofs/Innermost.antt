-- A change of the innermost of the frames that fit, and who is current behind it.
use Rattle.std.proofs.Common.{◌≡◌, ℕ, zero, suc, ◌+◌, ◌<◌, Bool, true, false, not, ◌||◌, cond, if◌then◌else◌, List, [], ◌∷◌, length, get_or, drop, map, slice_get, slice_set, Option, Some, refl, sym, ap, ◌∙◌, arith}
use Rattle.std.specs.Prelude.{filter, option_map, unwrap_or}
use Rattle.std.specs.List.{list_any}
use Rattle.std.proofs.lemmas.List.{at_drop_more}
use Rattle.rc_sheet_spec.specs.Sheet.{Class, Sheet}
use Rattle.rc_play_spec.specs.Ends.{last_of}
use Rattle.rc_play_spec.specs.Control.{Frame, at_innermost}
use Rattle.rc_play_spec.specs.Owners.{is_stage_of, frames_of, current_in}
use Rattle.rc_play_spec.specs.Step.{with_next, passed}
use Rattle.rc_play_spec.specs.Effects.{with_named, named_next, turned_back, turned}
use Rattle.rc_rules.specs.declared.control.Frame.{Frame as FrameCode}
use Rattle.rc_rules.specs.Control.{frame_seen, frames_seen}
use Rattle.rc_value.specs.Innermost.{IsInnermost}

module _ (fits : Frame → Bool) (change : Frame → Frame) where
  -- where none fits, nothing changes
  unchanged_by : (b c : Bool) (frame : Frame) (frames : List Frame) → b ≡ false → c ≡ false →
      (if b then frame ∷ at_innermost fits change frames else if c then change frame ∷ frames else frame ∷ frames) ≡ frame ∷ frames
  unchanged_by false false frame frames is is' = refl
  unchanged_by false true frame frames is is' = absurd (cc)
  unchanged_by true c frame frames is is' = absurd (cc)

  neither : (b c : Bool) → (c || b) ≡ false → (b ≡ false) × (c ≡ false)
  neither false false is = (refl, refl)
  neither true false is = absurd (cc)
  neither b true is = absurd (cc)

  pub none_changed : (frames : List Frame) → list_any fits frames ≡ false → at_innermost fits change frames ≡ frames
  none_changed [] none = refl
  none_changed (frame ∷ frames) none =
      let h = neither (list_any fits frames) (fits frame) none in unchanged_by (list_any fits frames) (fits frame) frame frames h.0 h.1

  -- a frame that fits is one of those that do
  some_by : (c : Bool) → Some c ≡ Some true → c ≡ true
  some_by c is = cc

  fits_there : (frames : List Frame) (at : ℕ) → option_map fits (slice_get frames at) ≡ Some true → list_any fits frames ≡ true
  fits_there [] at is = absurd (cc)
  fits_there (frame ∷ frames) zero is = first_fits (fits frame) (some_by (fits frame) is) where
    first_fits : (c : Bool) → c ≡ true → (c || list_any fits frames) ≡ true
    first_fits true is = refl
    first_fits false is = absurd (cc)
  fits_there (frame ∷ frames) (suc at) is = later_fits (fits frame) (fits_there frames at is) where
    later_fits : (c : Bool) → list_any fits frames ≡ true → (c || list_any fits frames) ≡ true
    later_fits true is = refl
    later_fits false is = is

  changed_here : (b c : Bool) (frame : Frame) (frames : List Frame) → b ≡ false → c ≡ true →
      (if b then frame ∷ at_innermost fits change frames else if c then change frame ∷ frames else frame ∷ frames) ≡ change frame ∷ frames
  changed_here false true frame frames is is' = refl
  changed_here false false frame frames is is' = absurd (cc)
  changed_here true c frame frames is is' = absurd (cc)

  changed_inside : (b c : Bool) (frame : Frame) (frames frames' : List Frame) → b ≡ true → at_innermost fits change frames ≡ frames' →
      (if b then frame ∷ at_innermost fits change frames else if c then change frame ∷ frames else frame ∷ frames) ≡ frame ∷ frames'
  changed_inside true c frame frames frames' is same = ap (λ fs. frame ∷ fs) same
  changed_inside false c frame frames frames' is same = absurd (cc)

  -- the innermost one that fits changes, and no other
  innermost_changed : (frames : List Frame) (at : ℕ) (d : Frame) → IsInnermost fits frames at →
      at_innermost fits change frames ≡ slice_set frames at (change (get_or frames at d))
  innermost_changed [] at d is = absurd (cc)
  innermost_changed (frame ∷ frames) zero d is =
      changed_here (list_any fits frames) (fits frame) frame frames is.1 (some_by (fits frame) is.0)
  innermost_changed (frame ∷ frames) (suc at) d is =
      changed_inside (list_any fits frames) (fits frame) frame frames (slice_set frames at (change (get_or frames at d)))
      (fits_there frames at is.0) (innermost_changed frames at d is)

  -- WHO IS CURRENT

  abbrev member_of : Option Frame → ℕ
  member_of o = unwrap_or (option_map (λ (frame : Frame). frame.member) o) 0

  last_member : (frames frames' : List Frame) → map (λ (frame : Frame). frame.member) frames ≡ map (λ (frame : Frame). frame.member) frames' →
      member_of (last_of frames) ≡ member_of (last_of frames')
  last_member [] [] same = refl
  last_member [] (frame ∷ frames) same = absurd (cc)
  last_member (frame ∷ frames) [] same = absurd (cc)
  last_member (f ∷ []) (f' ∷ []) same = let e : f.member ≡ f'.member = cc in e
  last_member (f ∷ []) (f' ∷ g' ∷ frames') same = absurd (cc)
  last_member (f ∷ g ∷ frames) (f' ∷ []) same = absurd (cc)
  last_member (f ∷ g ∷ frames) (f' ∷ g' ∷ frames') same = last_member (g ∷ frames) (g' ∷ frames') (cc)

  module _ (stages : (frame : Frame) → (change frame).stage ≡ frame.stage) (members : (frame : Frame) → (change frame).member ≡ frame.member) (keeps : ℕ → Bool) where
    abbrev members_in : List Frame → List ℕ
    members_in frames = map (λ (frame : Frame). frame.member) (filter (λ frame. keeps frame.stage) frames)

    kept_one : (b : Bool) (f g : Frame) (frames frames' : List Frame) → f.member ≡ g.member → members_in frames ≡ members_in frames' →
        map (λ (frame : Frame). frame.member) (cond b (f ∷ filter (λ frame. keeps frame.stage) frames) (filter (λ frame. keeps frame.stage) frames))
        ≡ map (λ (frame : Frame). frame.member) (cond b (g ∷ filter (λ frame. keeps frame.stage) frames') (filter (λ frame. keeps frame.stage) frames'))
    kept_one true f g frames frames' same rest = cc
    kept_one false f g frames frames' same rest = rest

    kept_first : (f g : Frame) (frames frames' : List Frame) → f.stage ≡ g.stage → f.member ≡ g.member → members_in frames ≡ members_in frames' →
        members_in (f ∷ frames) ≡ members_in (g ∷ frames')
    kept_first f g frames frames' stage same rest =
        kept_one (keeps f.stage) f g frames frames' same rest
        ∙ ap (λ b. map (λ (frame : Frame). frame.member) (cond b (g ∷ filter (λ frame. keeps frame.stage) frames') (filter (λ frame. keeps frame.stage) frames')))
        (ap keeps stage)

    kept_by : (b c : Bool) (frame : Frame) (frames : List Frame) → members_in (at_innermost fits change frames) ≡ members_in frames →
        members_in (if b then frame ∷ at_innermost fits change frames else if c then change frame ∷ frames else frame ∷ frames) ≡ members_in (frame ∷ frames)
    kept_by true c frame frames rest = kept_first frame frame (at_innermost fits change frames) frames refl refl rest
    kept_by false true frame frames rest = kept_first (change frame) frame frames frames (stages frame) (members frame) refl
    kept_by false false frame frames rest = refl

    members_kept : (frames : List Frame) → members_in (at_innermost fits change frames) ≡ members_in frames
    members_kept [] = refl
    members_kept (frame ∷ frames) = kept_by (list_any fits frames) (fits frame) frame frames (members_kept frames)

  -- a change that leaves stages and members leaves who is current
  current_kept : ((frame : Frame) → (change frame).stage ≡ frame.stage) → ((frame : Frame) → (change frame).member ≡ frame.member) →
      (sheet : Sheet) (class : Class) (frames : List Frame) → current_in sheet class (at_innermost fits change frames) ≡ current_in sheet class frames
  current_kept stages members sheet class frames =
      last_member (frames_of sheet class (at_innermost fits change frames)) (frames_of sheet class frames)
      (members_kept stages members (is_stage_of sheet class) frames)

-- OF FRAMES AS THE CODE HAS THEM

seen_at : (frames : List FrameCode) (at : ℕ) (d : FrameCode) → frame_seen (get_or frames at d) ≡ get_or (frames_seen frames) at (frame_seen d)
seen_at [] at d = refl
seen_at (frame ∷ frames) zero d = refl
seen_at (frame ∷ frames) (suc at) d = seen_at frames at d

seen_set : (frames : List FrameCode) (at : ℕ) (frame : FrameCode) → frames_seen (slice_set frames at frame) ≡ slice_set (frames_seen frames) at (frame_seen frame)
seen_set [] at frame = refl
seen_set (first ∷ frames) zero frame = refl
seen_set (first ∷ frames) (suc at) frame = ap (λ more. frame_seen first ∷ more) (seen_set frames at frame)

-- a frame changed where it stands
changed_at : (fits : Frame → Bool) (change : Frame → Frame) (frames : List FrameCode) (at : ℕ) (d new : FrameCode) → IsInnermost fits (frames_seen frames) at →
    frame_seen new ≡ change (frame_seen (get_or frames at d)) → frames_seen (slice_set frames at new) ≡ at_innermost fits change (frames_seen frames)
changed_at fits change frames at d new is same =
    seen_set frames at new ∙ ap (slice_set (frames_seen frames) at) (same ∙ ap change (seen_at frames at d))
    ∙ sym (innermost_changed fits change (frames_seen frames) at (frame_seen d) is)

pub named_at : (sheet : Sheet) (class : Class) (member : ℕ) (frames : List FrameCode) (at : ℕ) (d : FrameCode) →
    IsInnermost (λ frame. is_stage_of sheet class frame.stage) (frames_seen frames) at →
    frames_seen (slice_set frames at (record {
      stage = (get_or frames at d).stage;
      member = (get_or frames at d).member;
      back = (get_or frames at d).back;
      named = Some member;
    })) ≡ named_next sheet class member (frames_seen frames)
named_at sheet class member frames at d is = changed_at (λ frame. is_stage_of sheet class frame.stage) (with_named member) frames at d _ is refl

last_stands : (frames : List Frame) (at : ℕ) → at + 1 ≡ length frames → IsInnermost (λ frame. true) frames at
last_stands [] at is = absurd (omega (arith, is))
last_stands (frame ∷ []) zero is = (refl, refl)
last_stands (frame ∷ []) (suc at) is = absurd (omega (arith, is))
last_stands (frame ∷ next ∷ frames) zero is = absurd (omega (arith, is))
last_stands (frame ∷ next ∷ frames) (suc at) is = last_stands (next ∷ frames) at (omega (arith, is))

seen_length : (frames : List FrameCode) → length (frames_seen frames) ≡ length frames
seen_length [] = refl
seen_length (frame ∷ frames) = ap suc (seen_length frames)

pub turned_last : (frames : List FrameCode) (at : ℕ) (d : FrameCode) → at + 1 ≡ length frames →
    frames_seen (slice_set frames at (record {
      stage = (get_or frames at d).stage;
      member = (get_or frames at d).member;
      back = not (get_or frames at d).back;
      named = (get_or frames at d).named;
    })) ≡ turned (frames_seen frames)
turned_last frames at d is =
    changed_at (λ frame. true) turned_back frames at d _ (last_stands (frames_seen frames) at (is ∙ sym (seen_length frames))) refl

pub passed_last : (count : ℕ) (frames : List FrameCode) (at : ℕ) (d new : FrameCode) → at + 1 ≡ length frames →
    frame_seen new ≡ with_next count (frame_seen (get_or frames at d)) → frames_seen (slice_set frames at new) ≡ passed count (frames_seen frames)
passed_last count frames at d new is same =
    changed_at (λ frame. true) (with_next count) frames at d new (last_stands (frames_seen frames) at (is ∙ sym (seen_length frames))) same

pub named_current : (sheet : Sheet) (class other : Class) (member : ℕ) (frames : List Frame) →
    current_in sheet other (named_next sheet class member frames) ≡ current_in sheet other frames
named_current sheet class other member frames =
    current_kept (λ frame. is_stage_of sheet class frame.stage) (with_named member) (λ _. refl) (λ _. refl) sheet other frames

pub turned_current : (sheet : Sheet) (class : Class) (frames : List Frame) → current_in sheet class (turned frames) ≡ current_in sheet class frames
turned_current sheet class frames = current_kept (λ frame. true) turned_back (λ _. refl) (λ _. refl) sheet class frames

-- from inside to outside: where none that fits stands inside a frame that doesn't, none stands from there on
pub passed_at : (sheet : Sheet) (class : Class) (frames : List FrameCode) (k at : ℕ) (d : FrameCode) → k ≡ at + 1 → at < length frames →
    is_stage_of sheet class (get_or frames at d).stage ≡ false → list_any (λ frame. is_stage_of sheet class frame.stage) (drop k (frames_seen frames)) ≡ false →
    list_any (λ frame. is_stage_of sheet class frame.stage) (drop at (frames_seen frames)) ≡ false
passed_at sheet class frames k at d next lt is none =
    let fits : Frame → Bool = λ frame. is_stage_of sheet class frame.stage in
    let seen : fits (get_or (frames_seen frames) at (frame_seen d)) ≡ false = ap fits (sym (seen_at frames at d)) ∙ is in
    let rest : list_any fits (drop (at + 1) (frames_seen frames)) ≡ false = ap (λ n. list_any fits (drop n (frames_seen frames))) (sym next) ∙ none in
    at_drop_more (list_any fits) (frames_seen frames) at (frame_seen d) (omega (arith, lt, seen_length frames))
    ∙ ap (λ b. b || list_any fits (drop (at + 1) (frames_seen frames))) seen ∙ rest
