use Rattle.std.proofs.Common.{◌≡◌, drop}
use Rattle.rc_play_spec.specs.Menu.{alts_in}
use Rattle.rc_ast.specs.Items.{items_seen}
use Rattle.rc_plain.proofs.site.+items.Given as goal

abbrev pub decreases-find : goal.decreases-find
decreases-find l = goal.size-find l

-- what is left to search has what there is to find
abbrev pub invariant-loop-item : goal.invariant-loop-item
invariant-loop-item l =
    record {
      same : l.outer.items ≡ l.initial.outer.items;
      place : l.place ≡ l.item-index;
      left : alts_in l.fn.site (items_seen (drop l.item-index l.item-items)) ≡ alts_in l.fn.site (items_seen l.item-items);
    }
