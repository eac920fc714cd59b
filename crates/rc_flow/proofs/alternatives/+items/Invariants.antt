use Rattle.std.proofs.Common.{◌≡◌, map, drop}
use Rattle.rc_sheet_spec.specs.Sight.{locs_in_items}
use Rattle.rc_ast.specs.Names.{loc_name_seen}
use Rattle.rc_ast.specs.Items.{items_seen}
use Rattle.rc_flow.specs.Least.{least_with}
use Rattle.rc_flow.proofs.alternatives.+items.Given as goal

-- what is left to go over, with what was found, gives what all of it gives
abbrev pub invariant-in_items-loop-item : goal.invariant-in_items-loop-item
invariant-in_items-loop-item l =
    least_with (map loc_name_seen l.names) l.least (locs_in_items (items_seen (drop l.item-index l.item-items)))
    ≡ least_with (map loc_name_seen l.names) l.fn.found (locs_in_items (items_seen l.item-items))
