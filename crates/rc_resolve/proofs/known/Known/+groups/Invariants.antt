use Rattle.std.proofs.Common.{◌≡◌, drop}
use Rattle.rc_form.specs.Form.{trees_of, packed}
use Rattle.rc_resolve.specs.Known.{with_all, in_groups, in_branches}
use Rattle.rc_resolve.proofs.known.Known.+groups.Given as goal

-- what is known so far and what is left to mention are the whole
abbrev pub invariant-add_groups-loop-group : goal.invariant-add_groups-loop-group
invariant-add_groups-loop-group l =
    with_all l.self (in_groups (packed (trees_of (drop l.group-index l.groups))))
    ≡ with_all l.initial.self (in_groups (packed (trees_of l.groups)))

abbrev pub invariant-add_branches-loop-branch : goal.invariant-add_branches-loop-branch
invariant-add_branches-loop-branch l =
    with_all l.self (in_branches (packed (trees_of (drop l.branch-index l.branches))))
    ≡ with_all l.initial.self (in_branches (packed (trees_of l.branches)))
