use Rattle.std.proofs.Common.{◌≡◌, ◌++◌, drop}
use Rattle.rc_form.specs.Form.{trees_of, packed}
use Rattle.rc_check.specs.SecondParts.{attributes_below, attributes_among}
use Rattle.rc_check.proofs.names.WordList.+attributes.Given as goal

-- the attributes so far, and those of the groups that are left, are those before and of all the groups
abbrev pub invariant-push_all_attributes-loop-group : goal.invariant-push_all_attributes-loop-group
invariant-push_all_attributes-loop-group l =
    l.self ++ attributes_among (packed (trees_of (drop l.group-index l.groups))) ≡ l.fn.self
    ++ attributes_among (packed (trees_of l.groups))

-- the attributes so far, and those of the branches that are left, are those before and of all the branches
abbrev pub invariant-push_inner_attributes-loop-branch : goal.invariant-push_inner_attributes-loop-branch
invariant-push_inner_attributes-loop-branch l =
    l.self ++ attributes_below (packed (trees_of (drop l.branch-index l.branches)))
    ≡ l.fn.self ++ attributes_below (packed (trees_of l.branches))
