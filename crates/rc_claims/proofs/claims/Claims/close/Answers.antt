use Rattle.std.proofs.Common.{rules, ◌≤◌, ◌+◌, arith, subst}
use Rattle.std.specs.List.Sorted.{IsPermutation}
use Rattle.rc_base.specs.Numbers.{below}
use Rattle.rc_claims.proofs.ClaimLemmas.{closed_with}
use Rattle.rc_claims.proofs.claims.Claims.close.Goals as goal

pub overflow_cast-result : goal.overflow_cast-result
overflow_cast-result c =
    let seat = c.pass.inside.seat in
    let limits = c.self.inside.table.shared.key in
    let end = closed_with limits seat.id seat.me.0 c.word-drawn.result _ _ (search rules) c.close_with-closed.ensures.values.2 c.word-drawn.ensures in
    let invariant = c.self.invariant in
    omega (arith, end.1, invariant.3, invariant.4)

pub returns-clause-drawn : goal.returns-clause-drawn
returns-clause-drawn c =
    let seat = c.pass.inside.seat in
    let limits = c.self.inside.table.shared.key in
    let end = closed_with limits seat.id seat.me.0 c.word-drawn.result _ _ (search rules) c.close_with-closed.ensures.values.2 c.word-drawn.ensures in
    subst (λ p. IsPermutation (below c.word-drawn.result) p.numbers) c.pass.view_is end.0

pub returns-clause-few : goal.returns-clause-few
returns-clause-few c =
    let seat = c.pass.inside.seat in
    let limits = c.self.inside.table.shared.key in
    let end = closed_with limits seat.id seat.me.0 c.word-drawn.result _ _ (search rules) c.close_with-closed.ensures.values.2 c.word-drawn.ensures in
    subst (λ s. c.word-drawn.result ≤ s.count + s.passes) c.self.view_is end.1
