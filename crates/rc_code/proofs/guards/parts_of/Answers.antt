use Rattle.std.proofs.Common.{◌≡◌, true, [], ◌∷◌, All, sym, subst, ◌∙◌, arith}
use Rattle.std.proofs.lemmas.Grind.{common_steps}
use Rattle.std.proofs.lemmas.List.Elements.{All-nil, All-cons, All-append}
use Rattle.rc_ast.specs.Expressions.{tests_seen}
use Rattle.rc_code.specs.Guards.{IsFixedPart}
use Rattle.rc_code.specs.GuardParts.{are_few_parts}
use Rattle.rc_code.proofs.PartLemmas.{too_many, one_part, all_parts}
use Rattle.rc_code.proofs.guards.parts_of.Goals as goal

pub returns-then-len-gt4-clause-found : goal.returns-then-len-gt4-clause-found
returns-then-len-gt4-clause-found c = too_many c.args.tests.now.items (omega (arith, c.if-len-gt4.true, c.len.ensures))

pub loop-test-preserved : goal.loop-test-preserved
loop-test-preserved c =
    let loop = c.loop-test in
    let part = c.in-Some.part in
    record {
      all = grind (arith, common_steps);
      found =
          loop.invariant.found
          ∙ one_part c.deref-test-items.result.now loop.test-index c.test-item.result (omega (arith, c.loop-test-test.true)) c.test-item.is c.in-Some.ensures.found;
      fixed = subst (All IsFixedPart) (sym c.push.ensures.items)
          (All-append IsFixedPart loop.parts.items (part ∷ []) loop.invariant.fixed
          (All-cons IsFixedPart part [] c.in-Some.ensures.meaning.1 (All-nil IsFixedPart)));
      many = let more = c.push.ensures.len in let many = loop.invariant.many in omega (arith, more, many);
    }

pub returns-clause-found : goal.returns-clause-found
returns-clause-found c =
    let tests = c.deref-test-items in
    subst (λ all. true ≡ are_few_parts (tests_seen all)) tests.ensures.value
    (all_parts tests.result.now c.loop-test.test-index (omega (arith, c.loop-test-test.false)) c.loop-test.invariant.found
    (omega (arith, c.if-len-gt4.false, c.len.ensures, tests.ensures.len)))
