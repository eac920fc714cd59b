-- Places in a log as the definitions have them.
use Rattle.std.specs.Prelude.{map}
use Rattle.rc_log_spec.specs.Reading.{Place as PurePlace, outside, headed, between, stopped, framing, placing, ended}
use Rattle.rc_view.specs.Seen.{view_seen}
use Rattle.rc_seatlog.specs.Seen.{log_seen}
use Rattle.rc_seatlog.specs.declared.places.Progress.{Progress}
use Rattle.rc_seatlog.specs.declared.places.Progress.TheVariants.{Outside, Headed, Between, Stopped, Framing, Placing}
use Rattle.rc_seatlog.specs.declared.places.Progress.TheVariants.{Ended}

abbrev pub place_seen : Progress → PurePlace
place_seen Outside = outside
place_seen Headed = headed
place_seen (Between front) = between front.seat front.number (map view_seen front.views.items)
place_seen (Stopped front turn site) = stopped front.seat front.number (map view_seen front.views.items) turn site
place_seen (Framing front v) = framing front.seat front.number (map view_seen front.views.items) (view_seen v)
place_seen (Placing front v) = placing front.seat front.number (map view_seen front.views.items) (view_seen v)
place_seen (Ended t) = ended (log_seen t)
