-- The innermost frame as the last of a list.
use Rattle.std.proofs.Common.{◌≡◌, List, [], ◌∷◌, ◌++◌, refl, ap}
use Rattle.rc_play_spec.specs.Control.{Frame as PureFrame}
use Rattle.rc_play_spec.specs.Step.{closed}
use Rattle.rc_rules.specs.Control.{frames_seen, frame_seen}
use Rattle.rc_rules.specs.declared.control.Frame.{Frame}

pub closed-append : (frames : List PureFrame) (frame : PureFrame) → closed (frames ++ frame ∷ []) ≡ frames
closed-append [] frame = refl
closed-append (f ∷ []) frame = refl
closed-append (f ∷ g ∷ frames) frame = ap (λ fs. f ∷ fs) (closed-append (g ∷ frames) frame)

pub frames_seen-append : (frames : List Frame) (frame : Frame) → frames_seen (frames ++ frame ∷ []) ≡ frames_seen frames ++ frame_seen frame ∷ []
frames_seen-append [] frame = refl
frames_seen-append (f ∷ frames) frame = ap (λ fs. frame_seen f ∷ fs) (frames_seen-append frames frame)
