-- Views as the definitions of play have them.
use Rattle.std.specs.Prelude.{map}
use Rattle.rc_play_spec.specs.View.{Sight as PureSight, with_faces, partly, View as PureView}
use Rattle.rc_rules.specs.Control.{control_seen}
use Rattle.rc_view.specs.declared.sight.Sight.{Sight}
use Rattle.rc_view.specs.declared.sight.Sight.TheVariants.{Faces, Partly}
use Rattle.rc_view.specs.declared.view.View.{View}

abbrev pub sight_seen : Sight → PureSight
sight_seen (Faces numbers) = with_faces numbers.items
sight_seen (Partly numbers) = partly numbers.items

abbrev pub view_seen : View → PureView
view_seen view =
    record {
      seat = view.seat;
      control = control_seen view.control;
      numbers = view.numbers.items;
      sights = map sight_seen view.sights.items;
    }
