use Rattle.std.proofs.Common.{◌≡◌, ◌++◌, drop}
use Rattle.rc_base.specs.Tree.{printed_behind}
use Rattle.rc_sheet_spec.specs.Printing.{packed, item_forms}
use Rattle.rc_ast.specs.Items.{items_seen}
use Rattle.rc_print.specs.Printing.{naming_seen}
use Rattle.rc_print.proofs.items.+items.Given as goal

-- what is printed and what is left are the whole
abbrev pub invariant-push_items-loop-item : goal.invariant-push_items-loop-item
invariant-push_items-loop-item l =
    l.out.bytes.items ++ printed_behind (packed (item_forms (naming_seen l.sheet) (items_seen (drop l.item-index l.item-items))))
    ≡ l.initial.out.bytes.items ++ printed_behind (packed (item_forms (naming_seen l.sheet) (items_seen l.item-items)))
