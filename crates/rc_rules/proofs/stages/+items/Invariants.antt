use Rattle.std.proofs.Common.{◌≡◌, drop}
use Rattle.rc_play_spec.specs.Owners.{classes_in}
use Rattle.rc_ast.specs.Items.{items_seen}
use Rattle.rc_rules.specs.Stages.{passed}
use Rattle.rc_rules.proofs.stages.+items.Given as goal

-- what is left to pass of the items that are left comes to the same
abbrev pub invariant-pass_items-loop-item : goal.invariant-pass_items-loop-item
invariant-pass_items-loop-item l =
    passed (classes_in (items_seen (drop l.item-index l.item-items))) l.left ≡ passed (classes_in (items_seen l.item-items)) l.fn.number
