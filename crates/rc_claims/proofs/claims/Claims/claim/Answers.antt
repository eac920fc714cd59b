use Rattle.std.proofs.Common.{rules}
use Rattle.rc_claims.proofs.ClaimLemmas.{claim_keeps}
use Rattle.rc_claims.proofs.claims.Claims.claim.Goals as goal

pub fetch_add-drawn-requires : goal.fetch_add-drawn-requires
fetch_add-drawn-requires c =
    let limits = c.self.inside.table.shared.key in
    let seat = c.pass.inside.seat in
    (search rules, search rules, claim_keeps limits _ seat.id seat.me (search rules) (search rules) (search rules) (search rules))
