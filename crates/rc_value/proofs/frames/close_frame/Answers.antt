use Rattle.std.proofs.Common.{ap, sym, ◌∙◌, ◌++◌, option_to_list}
use Rattle.rc_play_spec.specs.Step.{closed}
use Rattle.rc_rules.specs.Control.{frames_seen, frame_seen}
use Rattle.rc_value.proofs.FrameEnds.{closed-append, frames_seen-append}
use Rattle.rc_value.proofs.frames.close_frame.Goals as goal

pub returns-in-Some : goal.returns-in-Some
returns-in-Some c =
    let left = c.pop.new.self.items in
    sym (closed-append (frames_seen left) (frame_seen c.in-Some.field-0))
    ∙ sym (ap closed (ap frames_seen (c.pop.ensures.items ∙ ap (λ o. left ++ option_to_list o) c.in-Some.is) ∙ frames_seen-append left c.in-Some.field-0))
