-- Logs as the definitions have them.
use Rattle.std.specs.Prelude.{map}
use Rattle.rc_view.specs.Seen.{view_seen}
use Rattle.rc_log_spec.specs.Log.{LogText as PureText}
use Rattle.rc_seatlog.specs.declared.told.LogText.{LogText}

abbrev pub log_seen : LogText → PureText
log_seen t = record { seat = t.seat; number = t.number; views = map view_seen t.views.items; stops = t.stops }
