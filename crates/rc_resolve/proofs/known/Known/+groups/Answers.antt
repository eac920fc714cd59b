use Rattle.std.proofs.Common.{◌∙◌, ap, sym, arith}
use Rattle.rc_form.specs.Form.{trees_in, packed}
use Rattle.rc_base.specs.Tree.{cons, nil}
use Rattle.rc_deck.proofs.EachLemmas.{on_ok}
use Rattle.rc_resolve.specs.Known.{with_all, in_groups, in_branches}
use Rattle.rc_resolve.proofs.Steps.{step, groups-split, branches-split}
use Rattle.rc_resolve.proofs.Groups.{group_other, group_atom, group_two}
use Rattle.rc_resolve.proofs.known.Known.+groups.Goals as goal

pub add_groups-loop-group-preserved : goal.add_groups-loop-group-preserved
add_groups-loop-group-preserved t c =
    step in_groups (λ tree. in_groups (cons tree nil)) groups-split c.loop-group.self _ c.args.groups.now _ c.group-item.result
    c.loop-group-test.true c.group-item.is c.in_ok-add_group.ensures
    ∙ c.loop-group.invariant

pub add_branches-loop-branch-preserved : goal.add_branches-loop-branch-preserved
add_branches-loop-branch-preserved t c =
    step in_branches (λ tree. in_branches (cons tree nil)) branches-split c.loop-branch.self _ c.args.branches.now _
    c.branch-item.result c.loop-branch-test.true c.branch-item.is c.in_ok-add_branch.ensures
    ∙ c.loop-branch.invariant

pub add_group-returns-in_default-as_slice : goal.add_group-returns-in_default-as_slice
add_group-returns-in_default-as_slice t c =
    sym (ap (with_all c.args.self.now) (group_other c.args.group.now c.in-List.items c.in-List.span c.in-List.is
    c.as_slice.result.now c.as_slice.ensures.trees (λ long. omega arith)))

pub add_group-returns-in_default-as_slice-2 : goal.add_group-returns-in_default-as_slice-2
add_group-returns-in_default-as_slice-2 t c =
    sym (ap (with_all c.args.self.now) (group_other c.args.group.now c.in-List.items c.in-List.span c.in-List.is
    c.as_slice.result.now c.as_slice.ensures.trees (λ long. omega arith)))

pub add_group-returns-in_default-second : goal.add_group-returns-in_default-second
add_group-returns-in_default-second t c =
    sym (ap (with_all c.args.self.now) (group_atom c.args.group.now c.in-List.items c.in-List.span c.in-List.is
    c.as_slice.result.now c.as_slice.ensures.trees c.attr-item.result c.second-item.result (omega arith)
    c.attr-item.is c.second-item.is c.in_default-second.field-0 c.in_default-second.field-1 c.in_default-second.is))

pub add_group-returns : goal.add_group-returns
add_group-returns t c =
    on_ok c.add_branches.result c.add_branches.ensures (λ added.
    added
    ∙ ap (λ trees. with_all c.add_attr.new.self (in_branches (packed trees))) c.as_slice-2.ensures.trees
    ∙ ap (λ known. with_all known (in_branches (packed (trees_in c.in-List-second.branches)))) c.in_ok-add_attr.ensures
    ∙ group_two c.args.group.now c.in-List.items c.in-List.span c.in-List.is c.as_slice.result.now
    c.as_slice.ensures.trees
    c.attr-item.result c.second-item.result (omega arith) c.attr-item.is c.second-item.is
    c.in-List-second.branches c.in-List-second.span c.in-List-second.is c.args.self.now)
