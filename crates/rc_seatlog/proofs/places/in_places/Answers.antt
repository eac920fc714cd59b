use Rattle.std.proofs.Common.{map, length, arith}
use Rattle.std.proofs.lemmas.List.{length-map}
use Rattle.rc_play_spec.specs.Sees.{sees}
use Rattle.rc_view.specs.Seen.{sight_seen, view_seen}
use Rattle.rc_seatlog.proofs.Exactly.{too_far}
use Rattle.rc_seatlog.proofs.places.in_places.Goals as goal

pub returns-then-told-gt65535 : goal.returns-then-told-gt65535
returns-then-told-gt65535 c =
    let v = view_seen c.args.view in
    too_far c.args.shape.now c.args.front.seat c.args.front.number (map view_seen c.args.front.views.items) v (sees c.args.shape.now c.args.front.seat (length v.sights)) c.args.bytes.now
    (omega (arith, c.if-told-gt65535.true, c.len-told.ensures, length-map c.args.view.sights.items sight_seen))
