use Rattle.std.proofs.Common.{◌≡◌, ◌++◌, drop}
use Rattle.rc_base.specs.Tree.{printed_behind}
use Rattle.rc_deck.specs.Tree.{groups_in, branches_in}
use Rattle.rc_sheet_spec.specs.Printing.{packed, group_forms, branch_forms}
use Rattle.rc_print.specs.Printing.{naming_seen}
use Rattle.rc_print.proofs.decks.+decks.Given as goal

-- what is printed and what is left are the whole
abbrev pub invariant-push_groups-loop-group : goal.invariant-push_groups-loop-group
invariant-push_groups-loop-group l =
    l.out.bytes.items ++ printed_behind (packed (group_forms (naming_seen l.sheet)
    (groups_in (drop l.group-index l.group-items))))
    ≡ l.initial.out.bytes.items ++ printed_behind (packed (group_forms (naming_seen l.sheet) (groups_in l.group-items)))

abbrev pub invariant-push_branches-loop-branch : goal.invariant-push_branches-loop-branch
invariant-push_branches-loop-branch l =
    l.out.bytes.items ++ printed_behind (packed (branch_forms (naming_seen l.sheet) (branches_in (drop l.branch-index l.others))))
    ≡ l.initial.out.bytes.items ++ printed_behind (packed (branch_forms (naming_seen l.sheet) (branches_in l.others)))
