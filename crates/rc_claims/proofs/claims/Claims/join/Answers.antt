use Rattle.std.proofs.Common.{rules}
use Rattle.rc_claims.proofs.ClaimLemmas.{join_keeps}
use Rattle.rc_claims.proofs.claims.Claims.join.Goals as goal

pub join_seat-requires : goal.join_seat-requires
join_seat-requires c = (search rules, search rules, search rules, search rules, join_keeps c.self.inside.table.shared.key _ _ _ _)
