use Rattle.std.proofs.Common.{◌≡◌, ◌++◌, drop, length, map}
use Rattle.rc_ast.specs.Items.{items_seen}
use Rattle.rc_code.specs.Compiled.{items_code, items_sites}
use Rattle.rc_code.specs.Seen.{list_seen, place_seen}
use Rattle.rc_code.proofs.items.+items.Given as goal

-- with what is left, it is the code of all, and so are the places
abbrev pub invariant-push_items-loop-item : goal.invariant-push_items-loop-item
invariant-push_items-loop-item l =
    (list_seen l.list.items ++ items_code (items_seen (drop l.item-index l.item-items))
    ≡ list_seen l.fn.list.items ++ items_code (items_seen l.item-items))
    × (map place_seen l.sites.items ++ items_sites l.fn.outer.items (length l.list.items) (items_seen (drop l.item-index l.item-items))
    ≡ map place_seen l.fn.sites.items ++ items_sites l.fn.outer.items (length l.fn.list.items) (items_seen l.item-items))
    × (l.outer.items ≡ l.fn.outer.items)
