use Rattle.std.proofs.Common.{map, drop, refl, ap, ◌+◌, ◌∙◌, arith}
use Rattle.std.proofs.lemmas.Grind.{common_steps}
use Rattle.rc_sheet_spec.specs.Sight.{locs_in_item, locs_in_items}
use Rattle.rc_ast.specs.Names.{loc_name_seen}
use Rattle.rc_ast.specs.Items.{item_seen, items_seen}
use Rattle.rc_flow.specs.Least.{least_with}
use Rattle.rc_flow.proofs.LeastLemmas.{least_drop}
use Rattle.rc_flow.proofs.RowLemmas.{stage_locs}
use Rattle.rc_flow.proofs.alternatives.+items.Goals as goal

pub in_item-returns-in-Stage : goal.in_item-returns-in-Stage
in_item-returns-in-Stage t c =
    let e = stage_locs c.args.item.now c.in-Stage.number c.in-Stage.class c.in-Stage.end c.in-Stage.body c.in-Stage.is in
    grind (arith, common_steps, e)

pub in_items-loop-item-preserved : goal.in_items-loop-item-preserved
in_items-loop-item-preserved t c =
    let names = map loc_name_seen c.args.names.now in
    let rest = locs_in_items (items_seen (drop (c.loop-item.item-index + 1) c.deref-item-items.result.now)) in
    ap (λ found. least_with names found rest) c.in_item-least.ensures
    ∙ least_drop names c.loop-item.least (λ xs. locs_in_items (items_seen xs)) (λ x. locs_in_item (item_seen x))
    (λ _ _. refl) c.deref-item-items.result.now
    c.loop-item.item-index c.item-item.result c.loop-item-test.true c.item-item.is
    ∙ c.loop-item.invariant
