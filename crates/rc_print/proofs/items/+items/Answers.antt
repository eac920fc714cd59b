use Rattle.std.proofs.Common.{List, []}
use Rattle.rc_base.specs.Tree.{Tree}
use Rattle.rc_sheet_spec.specs.Printing.{one, test_form, class_form, item_forms}
use Rattle.rc_ast.specs.Expressions.{test_seen}
use Rattle.rc_ast.specs.Items.{items_seen}
use Rattle.rc_print.specs.Printing.{naming_seen}
use Rattle.rc_print.proofs.Rows.{opened, with_part, with_parts, ended, closed}
use Rattle.rc_print.proofs.FormLemmas.{stage_form}
use Rattle.rc_print.proofs.items.+items.Goals as goal

pub push_item-returns-in_ok-push_items-in-Stage : goal.push_item-returns-in_ok-push_items-in-Stage
push_item-returns-in_ok-push_items-in-Stage t c =
    let naming = naming_seen c.args.sheet.now in
    let class : Tree = class_form c.in-Stage.class in
    let test : Tree = test_form naming [] (test_seen c.in-Stage.end) in
    let items : List Tree = item_forms naming (items_seen c.in-Stage.body.items) in
    let end = with_part test (opened c.in_ok-open_part-in-Stage-2.ensures) c.in_ok-push_test-in-Stage.ensures in
    let first = with_part class (opened c.in_ok-open_part-in-Stage.ensures) c.in_ok-push_class-in-Stage.ensures in
    let second = with_part (one "end" test) first (ended end c.in_ok-close-in-Stage.ensures) in
    closed _ c.close-in-Stage-2.result _ (with_parts items second c.in_ok-push_items-in-Stage.ensures) c.close-in-Stage-2.ensures
    (stage_form naming c.args.item.now c.in-Stage.number c.in-Stage.class c.in-Stage.end c.in-Stage.body c.in-Stage.is)
