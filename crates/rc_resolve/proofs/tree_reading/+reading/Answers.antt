use Rattle.std.proofs.Common.{◌≡◌, ◌∙◌, ap, sym, Some, None, option_map, refl, arith}
use Rattle.std.proofs.lemmas.Bool.{eq-eqb, false≢true}
use Rattle.rc_base.specs.Deck.{no_group, no_branch}
use Rattle.rc_form.specs.Form.{tree_of, trees_of, packed}
use Rattle.rc_deck.specs.Tree.{groups_in, branches_in}
use Rattle.rc_form.proofs.FormLemmas.{tree_of_list}
use Rattle.rc_resolve.specs.Reading.{both, read_group, read_group_parts, read_branch_list, read_branches, read_groups}
use Rattle.rc_resolve.proofs.SliceLemmas.{read_group_other}
use Rattle.rc_resolve.proofs.LoopLemmas.{read_more, read_end}
use Rattle.rc_resolve.proofs.BuildLemmas.{reads_groups, reads_branches, onto_groups, onto_branches, onto_groups-none, onto_branches-none, group_is, branch_is, seen_group, seen_branch}
use Rattle.rc_resolve.proofs.GroupLemmas.{read_group_of, read_group_with, read_branch_of, read_branch_list_of}
use Rattle.rc_resolve.proofs.tree_reading.+reading.Goals as goal

pub read_branch-returns-in-Some-2 : goal.read_branch-returns-in-Some-2
read_branch-returns-in-Some-2 g t c =
    let names = g.N.Numbers.words c.args.names.now in
    let below = c.in-Some.below.now in
    let e = read_branch_of names c.args.form.now c.in-List.items c.in-List.span c.as_slice.result.now
    c.in-Some.head.now below
    c.in-List.is c.as_slice.ensures.trees c.in-Some.ensures.cases.0
    (λ none. false≢true (c.if-is_empty.ensures ∙ eq-eqb _ _ none)) in
    let groups = sym (ap (λ o. option_map (λ groups. groups_in groups.items) o) c.in-Some-2.is) ∙ c.in_ok-groups.ensures in
    ap (λ b. Some b) (branch_is c.new.result c.in-Some-value_number.value (groups_in c.in-Some-2.groups.items) c.new.ensures.value c.new.ensures.inner)
    ∙ ap (λ o. both (λ number inner. (number, inner)) (Some c.in-Some-value_number.value) o) groups
    ∙ ap (λ o. both (λ number inner. (number, inner)) o (read_groups names (packed (trees_of below)))) c.in-Some-value_number.ensures
    ∙ sym e

pub read_branch_list-returns-else-is_empty : goal.read_branch_list-returns-else-is_empty
read_branch_list-returns-else-is_empty g t c =
    let e = read_branch_list_of (g.N.Numbers.words c.args.names.now) c.args.form.now c.in-List.items c.in-List.span
    c.as_slice-items.result.now c.in-List.is c.as_slice-items.ensures.trees
    (λ none. false≢true (c.if-is_empty.ensures ∙ eq-eqb _ _ none)) in
    rw e c.read_branches.ensures

pub read_group-returns-then-items-ne2 : goal.read_group-returns-then-items-ne2
read_group-returns-then-items-ne2 g t c =
    let names = g.N.Numbers.words c.args.names.now in
    sym (ap (read_group names) (tree_of_list _ c.in-List.items c.in-List.span c.in-List.is)
    ∙ ap (λ trees. read_group_parts names (packed trees)) (sym c.as_slice-items.ensures.trees)
    ∙ read_group_other names c.as_slice-items.result.now (λ long. omega arith))

pub read_group-returns-in_default-attr_number : goal.read_group-returns-in_default-attr_number
read_group-returns-in_default-attr_number g t c =
    let names = g.N.Numbers.words c.args.names.now in
    let items = c.in-List.items in
    let e = read_group_of names c.args.form.now items c.in-List.span c.as_slice-items.result.now c.index-items-0.result
    c.in-List.is
    c.as_slice-items.ensures.trees (omega arith) c.index-items-0.is in
    ap (λ o. both (λ attr branches. (attr, branches)) o (read_branch_list names (tree_of e.0))) c.in_default-attr_number.ensures ∙ sym e.1

pub read_group-returns-in-Some-2 : goal.read_group-returns-in-Some-2
read_group-returns-in-Some-2 g t c =
    let names = g.N.Numbers.words c.args.names.now in
    let second = c.index-items-1.result in
    let branches = branches_in c.in-Some-2.values.items in
    let e = read_group_with names c.args.form.now c.in-List.items c.in-List.span c.as_slice-items.result.now
    c.index-items-0.result second c.in-List.is
    c.as_slice-items.ensures.trees (omega arith) c.index-items-0.is c.index-items-1.is in
    let values : Some branches ≡ read_branch_list names (tree_of second) = sym (ap (λ o. option_map (λ branches. branches_in branches.items) o) c.in-Some-2.is) ∙ c.in_ok-values.ensures in
    ap (λ g. Some g) (group_is c.new.result c.in-Some.attr branches c.new.ensures.attr c.new.ensures.branches)
    ∙ ap (λ o. both (λ attr branches. (attr, branches)) (Some c.in-Some.attr) o) values
    ∙ ap (λ o. both (λ attr branches. (attr, branches)) o (read_branch_list names (tree_of second))) c.in-Some.ensures
    ∙ sym e

pub read_group-returns-in-None : goal.read_group-returns-in-None
read_group-returns-in-None g t c =
    let names = g.N.Numbers.words c.args.names.now in
    let second = c.index-items-1.result in
    let e = read_group_with names c.args.form.now c.in-List.items c.in-List.span c.as_slice-items.result.now
    c.index-items-0.result second c.in-List.is
    c.as_slice-items.ensures.trees (omega arith) c.index-items-0.is c.index-items-1.is in
    let values : None ≡ read_branch_list names (tree_of second) = sym (ap (λ o. option_map (λ branches. branches_in branches.items) o) c.in-None.is) ∙ c.in_ok-values.ensures in
    ap (λ o. both (λ attr branches. (attr, branches)) (Some c.in-Some.attr) o) values
    ∙ ap (λ o. both (λ attr branches. (attr, branches)) o (read_branch_list names (tree_of second))) c.in-Some.ensures
    ∙ sym e

pub read_groups-loop-form-preserved : goal.read_groups-loop-form-preserved
read_groups-loop-form-preserved g t c =
    let found = sym (ap (option_map seen_group) c.in-Some.is) ∙ c.in_ok-group.ensures in
    read_more (reads_groups (g.N.Numbers.words c.args.names.now)) c.args.forms.now c.loop-form.form-index c.form-item.result c.loop-form.groups.items _ c.in-Some.group
    c.loop-form-test.true c.form-item.is found c.in_ok-push-in-Some.ensures.items
    ∙ c.loop-form.invariant

pub read_groups-returns : goal.read_groups-returns
read_groups-returns g t c =
    let groups = c.loop-form.groups.items in
    ap (λ gs. Some gs) (sym (onto_groups-none groups))
    ∙ sym (read_end (read_groups (g.N.Numbers.words c.args.names.now)) (onto_groups groups) no_group c.args.forms.now c.loop-form.form-index refl c.loop-form-test.false)
    ∙ c.loop-form.invariant

pub read_branches-loop-form-preserved : goal.read_branches-loop-form-preserved
read_branches-loop-form-preserved g t c =
    let found = sym (ap (option_map seen_branch) c.in-Some.is) ∙ c.in_ok-branch.ensures in
    read_more (reads_branches (g.N.Numbers.words c.args.names.now)) c.args.forms.now c.loop-form.form-index c.form-item.result c.loop-form.branches.items _ c.in-Some.branch
    c.loop-form-test.true c.form-item.is found c.in_ok-push-in-Some.ensures.items
    ∙ c.loop-form.invariant

pub read_branches-returns : goal.read_branches-returns
read_branches-returns g t c =
    let branches = c.loop-form.branches.items in
    ap (λ bs. Some bs) (sym (onto_branches-none branches))
    ∙ sym (read_end (read_branches (g.N.Numbers.words c.args.names.now)) (onto_branches branches) no_branch c.args.forms.now c.loop-form.form-index refl c.loop-form-test.false)
    ∙ c.loop-form.invariant
