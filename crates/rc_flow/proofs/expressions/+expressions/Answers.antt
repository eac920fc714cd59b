use Rattle.std.proofs.Common.{map, drop, refl, ap, ◌+◌, ◌∙◌, arith}
use Rattle.std.proofs.lemmas.Grind.{common_steps}
use Rattle.rc_sheet_spec.specs.Sight.{locs_in_coll, locs_in_colls, locs_in_test, locs_in_tests}
use Rattle.rc_ast.specs.Names.{loc_name_seen}
use Rattle.rc_ast.specs.Expressions.{coll_seen, colls_seen, test_seen, tests_seen}
use Rattle.rc_flow.specs.Least.{least_with}
use Rattle.rc_flow.proofs.LeastLemmas.{least_drop}
use Rattle.rc_flow.proofs.RowLemmas.{union_locs, and_locs, or_locs}
use Rattle.rc_flow.proofs.expressions.+expressions.Goals as goal

pub in_coll-returns-in-Union : goal.in_coll-returns-in-Union
in_coll-returns-in-Union t c =
    let e = union_locs c.args.cards.now c.in-Union.parts c.in-Union.is in grind (arith, common_steps, e)

pub in_test-returns-in-And : goal.in_test-returns-in-And
in_test-returns-in-And t c =
    let e = and_locs c.args.test.now c.in-And.tests c.in-And.is in grind (arith, common_steps, e)

pub in_test-returns-in-Or : goal.in_test-returns-in-Or
in_test-returns-in-Or t c =
    let e = or_locs c.args.test.now c.in-Or.tests c.in-Or.is in grind (arith, common_steps, e)

pub in_colls-loop-cards-preserved : goal.in_colls-loop-cards-preserved
in_colls-loop-cards-preserved t c =
    let names = map loc_name_seen c.args.names.now in
    let rest = locs_in_colls (colls_seen (drop (c.loop-cards.cards-index + 1) c.deref-cards-items.result.now)) in
    ap (λ found. least_with names found rest) c.in_coll-least.ensures
    ∙ least_drop names c.loop-cards.least (λ xs. locs_in_colls (colls_seen xs)) (λ x. locs_in_coll (coll_seen x))
    (λ _ _. refl) c.deref-cards-items.result.now
    c.loop-cards.cards-index c.cards-item.result c.loop-cards-test.true c.cards-item.is
    ∙ c.loop-cards.invariant

pub in_tests-loop-test-preserved : goal.in_tests-loop-test-preserved
in_tests-loop-test-preserved t c =
    let names = map loc_name_seen c.args.names.now in
    let rest = locs_in_tests (tests_seen (drop (c.loop-test.test-index + 1) c.deref-test-items.result.now)) in
    ap (λ found. least_with names found rest) c.in_test-least.ensures
    ∙ least_drop names c.loop-test.least (λ xs. locs_in_tests (tests_seen xs)) (λ x. locs_in_test (test_seen x))
    (λ _ _. refl) c.deref-test-items.result.now
    c.loop-test.test-index c.test-item.result c.loop-test-test.true c.test-item.is
    ∙ c.loop-test.invariant
