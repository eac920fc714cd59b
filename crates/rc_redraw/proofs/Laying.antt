-- Who is marked in a table that is laid for a view.
use Rattle.std.proofs.Common.{ℕ, ◌<◌, List, length, ap, arith}
use Rattle.rc_play_spec.specs.Shape.{Shape}
use Rattle.rc_play_spec.specs.View.{View}
use Rattle.rc_play_spec.specs.Redraw.{mems_of, peeked}
use Rattle.rc_play_spec.specs.RedrawLaws.{IsViewOfSound}
use Rattle.rc_play_spec.proofs.MarksSeen.{some-peeked, marked-player}

-- a view knows a card that it isn't shown only where its seat is a player
pub knowing-player : (shape : Shape) (view : View) → IsViewOfSound shape view → (seen : List ℕ) →
    0 < length (peeked (mems_of shape.places) view.sights seen) → view.seat < shape.players
knowing-player shape view of seen some =
    let marks = of.0.marks in
    let same = ap (λ (v : View). length (peeked (mems_of shape.places) v.sights seen)) of.2 in
    marked-player shape marks view.seat shape.players of.1.seats
    (some-peeked shape marks view.seat shape.places of.0.lists seen (omega (arith, some, same)))
