use Rattle.std.proofs.Common.{refl, arith}
use Rattle.std.proofs.lemmas.Grind.{common_steps}
use Rattle.rc_outside.proofs.SourceLemmas.{Gave-append}
use Rattle.rc_outside.proofs.whole.read_all.Goals as goal

pub returns-then-limit-len-clause-lost : goal.returns-then-limit-len-clause-lost
returns-then-limit-len-clause-lost g c =
    (_, Gave-append _ _ _ _ _ c.loop-count.invariant.gave c.in-Ok.ensures.gives, (λ _. grind (arith, common_steps), λ _. refl), grind (arith, common_steps))

pub returns-then-is_err-clause-lost : goal.returns-then-is_err-clause-lost
returns-then-is_err-clause-lost g c =
    (_, Gave-append _ _ _ _ _ c.loop-count.invariant.gave c.in-Ok.ensures.gives, (λ is. absurd cc, λ long. absurd (grind (arith, common_steps))), grind (arith, common_steps))
