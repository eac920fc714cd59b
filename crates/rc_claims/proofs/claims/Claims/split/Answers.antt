use Rattle.std.proofs.Common.{rules}
use Rattle.rc_claims.proofs.ClaimLemmas.{split_keeps}
use Rattle.rc_claims.proofs.claims.Claims.split.Goals as goal

pub split_seat-seat-requires : goal.split_seat-seat-requires
split_seat-seat-requires c =
    (search rules, search rules, split_keeps c.self.inside.table.shared.key _ c.pass.inside.seat.me.0 (search rules) (search rules))
