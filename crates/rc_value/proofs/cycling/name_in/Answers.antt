use Rattle.std.proofs.Common.{sym}
use Rattle.rc_play_spec.specs.Owners.{is_stage_of}
use Rattle.rc_play_spec.specs.Effects.{with_named}
use Rattle.rc_rules.specs.Control.{frames_seen}
use Rattle.rc_value.proofs.Innermost.{named_at, none_changed}
use Rattle.rc_value.proofs.cycling.name_in.Goals as goal

pub returns-in-Some : goal.returns-in-Some
returns-in-Some c = named_at c.args.about.now.sheet c.args.class c.args.member c.args.frames.now c.in-Some.at _ c.in-Some.ensures.found

pub returns-in-None : goal.returns-in-None
returns-in-None c =
    sym (none_changed (λ frame. is_stage_of c.args.about.now.sheet c.args.class frame.stage) (with_named c.args.member)
    (frames_seen c.args.frames.now) c.in-None.ensures.none)
