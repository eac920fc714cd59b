-- When two keys of one about are the same: where their asks are, which is where the keys are equal (law same_keys_are_equal). Keys of one
-- about differ in nothing else, so code never compares two sheets.
use Rattle.std.specs.Prelude.{◌==◌, Bool, false, ◌&&◌, nat_eq}
use Rattle.std.specs.Bool.{beq}
use Rattle.std.specs.Option.{option_eq}
use Rattle.std.specs.Ordering.{int_eq}
use lib.Pointwise.{pointwise}
use Rattle.rc_play_spec.specs.Control.{Frame, Control}
use Rattle.rc_play_spec.specs.View.{Sight, with_faces, partly, View}
use Rattle.rc_play_spec.specs.Tally.{Ask}
use Rattle.rc_redraw.specs.Asking.{Key}

abbrev pub same_frame : Frame → Frame → Bool
same_frame f g = f.stage == g.stage && (f.member == g.member && (beq f.back g.back && option_eq nat_eq f.named g.named))

abbrev pub same_control : Control → Control → Bool
same_control c d =
    option_eq nat_eq c.site d.site
    && (pointwise same_frame c.frames d.frames && (c.turn == d.turn && pointwise nat_eq c.made d.made))

abbrev pub same_sight : Sight → Sight → Bool
same_sight (with_faces fs) (with_faces gs) = pointwise nat_eq fs gs
same_sight (with_faces fs) (partly os) = false
same_sight (partly os) (with_faces gs) = false
same_sight (partly os) (partly ps) = pointwise (option_eq nat_eq) os ps

abbrev pub same_view : View → View → Bool
same_view v w =
    v.seat == w.seat
    && (same_control v.control w.control
    && (pointwise int_eq v.numbers w.numbers && pointwise same_sight v.sights w.sights))

abbrev pub same_ask : Ask → Ask → Bool
same_ask a b = a.rounds == b.rounds && (a.key == b.key && (a.seed == b.seed && same_view a.view b.view))

abbrev pub same_key : Key → Key → Bool
same_key j k = same_ask j.ask k.ask
