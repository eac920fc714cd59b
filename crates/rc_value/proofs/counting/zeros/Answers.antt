use Rattle.std.proofs.Common.{ap, ◌∙◌, ◌++◌, ◌∷◌, [], length, arith}
use Rattle.std.proofs.lemmas.List.{length-replicate, replicate-append-replicate}
use Rattle.rc_value.proofs.counting.zeros.Goals as goal

pub push-requires : goal.push-requires
push-requires c =
    let count = ap length c.loop.invariant ∙ length-replicate c.loop.counter 0 in
    let few = c.requires in
    let lt = c.loop-test.true in
    omega (arith, count, few, lt)

pub loop-preserved : goal.loop-preserved
loop-preserved c =
    c.push.ensures.items ∙ ap (λ xs. xs ++ 0 ∷ []) c.loop.invariant ∙ replicate-append-replicate c.loop.counter 1 0
