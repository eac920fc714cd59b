-- Controls and stops as the definitions of play have them.
use Rattle.std.specs.Prelude.{ℕ, List, map}
use Rattle.rc_play_spec.specs.Control.{Frame as PureFrame, Control as PureControl}
use Rattle.rc_play_spec.specs.Step.{Stop as PureStop, decide, is_done, is_limit, Config}
use Rattle.rc_play_spec.specs.Stop.{Stopped}
use Rattle.rc_rules.specs.declared.control.Frame.{Frame}
use Rattle.rc_rules.specs.declared.control.Control.{Control}
use Rattle.rc_rules.specs.declared.control.Stop.{Stop}
use Rattle.rc_rules.specs.declared.control.Stop.TheVariants.{Decide, Done, Limit}

abbrev pub frame_seen : Frame → PureFrame
frame_seen frame = record { stage = frame.stage; member = frame.member; back = frame.back; named = frame.named }

abbrev pub frames_seen : List Frame → List PureFrame
frames_seen frames = map frame_seen frames

abbrev pub control_seen : Control → PureControl
control_seen control =
    record {
      site = control.site;
      frames = frames_seen control.frames.items;
      turn = control.turn;
      made =
          control.made.items;
    }

abbrev pub stop_seen : Stop → PureStop
stop_seen (Decide seat site) = decide seat site
stop_seen Done = is_done
stop_seen Limit = is_limit

-- a machine at a stop, behind so many shuffles
abbrev pub stopped_of : Stop → Config → ℕ → Stopped ℕ
stopped_of stop config shuffles = record { stop = stop_seen stop; config = config; dealer = shuffles }
