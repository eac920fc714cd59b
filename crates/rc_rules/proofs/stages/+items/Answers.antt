use Rattle.std.proofs.Common.{◌+◌, drop, ap, sym, ◌∙◌}
use Rattle.rc_play_spec.specs.Owners.{classes_in}
use Rattle.rc_ast.specs.Items.{items_seen}
use Rattle.rc_rules.specs.Stages.{passed}
use Rattle.rc_rules.proofs.StageLemmas.{passed_body, passed_drop, passed_then}
use Rattle.rc_rules.proofs.stages.+items.Goals as goal

pub pass_item-returns-in-Stage-2 : goal.pass_item-returns-in-Stage-2
pass_item-returns-in-Stage-2 t c =
    c.pass_items.ensures
    ∙ passed_body c.args.item.now c.args.number c.in-Stage-2.number c.in-Stage-2.class c.in-Stage-2.end c.in-Stage-2.body
    c.in-Stage-2.is c.if-number-eq0.false

pub pass_items-returns-in-Break : goal.pass_items-returns-in-Break
pass_items-returns-in-Break t c =
    let all = c.deref-item-items.result.now in
    let rest = classes_in (items_seen (drop (c.loop-item.item-index + 1) all)) in
    ap (λ flow. passed_then flow rest) (sym c.in-Break.is ∙ c.pass_item.ensures)
    ∙ sym (passed_drop all c.loop-item.item-index c.item-item.result c.loop-item.left c.loop-item-test.true c.item-item.is)
    ∙ c.loop-item.invariant
    ∙ ap (λ xs. passed (classes_in (items_seen xs)) c.args.number) c.deref-item-items.ensures.value

pub pass_items-loop-item-preserved : goal.pass_items-loop-item-preserved
pass_items-loop-item-preserved t c =
    let all = c.deref-item-items.result.now in
    let rest = classes_in (items_seen (drop (c.loop-item.item-index + 1) all)) in
    ap (λ flow. passed_then flow rest) (sym c.in-Continue.is ∙ c.pass_item.ensures)
    ∙ sym (passed_drop all c.loop-item.item-index c.item-item.result c.loop-item.left c.loop-item-test.true c.item-item.is)
    ∙ c.loop-item.invariant
