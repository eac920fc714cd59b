use Rattle.std.proofs.Common.{ap, sym, arith}
use Rattle.rc_play_spec.specs.Shape.{Shape}
use Rattle.rc_value.proofs.KnownLemmas.{no_mark}
use Rattle.rc_value.proofs.known.has_mark.Goals as goal

pub returns-then-seat-players : goal.returns-then-seat-players
returns-then-seat-players c =
    let laid = c.args.table.now in
    let players = ap (λ (s : Shape). s.players) c.shape.ensures.shape in
    sym (no_mark laid.shape.players c.args.seat laid.table.marks c.args.id c.shape.ensures.sound.seats
    (omega (arith, c.if-seat-players.true, c.players.ensures.players, players)))
