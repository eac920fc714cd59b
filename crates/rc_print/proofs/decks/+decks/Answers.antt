use Rattle.std.proofs.Common.{◌≡◌, ℕ, suc, ◌==◌, true, false, List, [], ◌∷◌, ◌++◌, slice_index_or, length, refl, sym, ap, ◌∙◌, arith, append_assoc, append-nil, eqb-true}
use Rattle.rc_base.specs.Tree.{Tree, printed, printed_parts, printed_behind}
use Rattle.rc_deck.specs.declared.tree.Group.{Group}
use Rattle.rc_deck.specs.declared.tree.Branch.{out-Branch}
use Rattle.rc_deck.specs.Tree.{attr_of, value_of, branches_of, inner_of, groups_in}
use Rattle.rc_deck.proofs.TreeLemmas.{attr_of_out, value_of_out, branches_are, inner_of_out}
use Rattle.rc_deck.proofs.EachLemmas.{on_ok}
use Rattle.rc_sheet_spec.specs.Naming.{Naming}
use Rattle.rc_sheet_spec.specs.Printing.{packed, named, branch_form, group_forms, branch_forms}
use Rattle.rc_print.specs.Printing.{naming_seen}
use Rattle.rc_print.proofs.Added.{start, then, last}
use Rattle.rc_print.proofs.decks.+decks.Goals as goal

-- the bytes of a group
group_bytes : (attr branches : List ℕ)
    → ((((((40 ∷ []) ++ attr) ++ (32 ∷ [])) ++ (40 ∷ [])) ++ branches) ++ (41 ∷ [])) ++ (41 ∷ [])
    ≡ 40 ∷ ((attr ++ 32 ∷ 40 ∷ ((branches ++ (41 ∷ [])) ++ [])) ++ (41 ∷ []))
group_bytes attr branches = simp (append_assoc, append-nil)

pub push_group-returns : goal.push_group-returns
push_group-returns t c =
    let sheet = c.args.sheet.now in
    let g = c.args.group.now in
    let attr : List ℕ = slice_index_or sheet.names.attrs.items (attr_of g) [] in
    let branches : List ℕ = printed_parts (packed (branch_forms (naming_seen sheet) (branches_of g))) in
    let is_attr : c.push_attr.new.out.bytes.items ≡ c.begin.new.self.bytes.items ++ attr =
    c.in_ok-push_attr.ensures ∙ ap (λ a. c.begin.new.self.bytes.items ++ slice_index_or sheet.names.attrs.items a [])
    (attr_of_out g) in
    let are_branches : c.push_branches.new.out.bytes.items ≡ c.begin-2.new.self.bytes.items ++ branches =
    c.in_ok-push_branches.ensures
    ∙ ap (λ bs. c.begin-2.new.self.bytes.items ++ printed_parts (packed (branch_forms (naming_seen sheet) bs)))
    (sym (branches_are g c.deref.result.now c.deref.ensures.value)) in
    let first = then attr (then (40 ∷ []) (start c.args.out.now.bytes.items) c.in_ok-begin.ensures) is_attr in
    let second = then branches
    (then (40 ∷ []) (then (32 ∷ []) first c.in_ok-space.ensures) c.in_ok-begin-2.ensures) are_branches in
    last _ (41 ∷ []) _ c.close-2.result (then (41 ∷ []) second c.in_ok-close.ensures) c.close-2.ensures
    (group_bytes attr branches)

-- a branch without groups, and one with some
alone_bytes : (value : Tree) (groups : List Group) (naming : Naming) → true ≡ (length groups == 0)
    → branch_form value (group_forms naming (groups_in groups)) ≡ value
alone_bytes value [] naming none = refl
alone_bytes value (g ∷ groups) naming none = let no : suc (length groups) ≡ 0 = eqb-true _ _ (sym none) in absurd (omega arith)

row_bytes : (value : Tree) (groups : List Group) (naming : Naming) → false ≡ (length groups == 0)
    → (((40 ∷ []) ++ printed value) ++ printed_behind (packed (group_forms naming (groups_in groups)))) ++ (41 ∷ [])
    ≡ printed (branch_form value (group_forms naming (groups_in groups)))
row_bytes value [] naming some = absurd cc
row_bytes value (g ∷ groups) naming some = refl

pub push_branch-returns-then-is_empty : goal.push_branch-returns-then-is_empty
push_branch-returns-then-is_empty t c =
    let sheet = c.args.sheet.now in
    let b = c.args.branch.now in
    let old = c.args.out.now.bytes.items in
    let value : Tree = named sheet.names.values.items (value_of b) in
    let form : branch_form value (group_forms (naming_seen sheet) (inner_of b)) ≡ value =
    ap (λ gs. branch_form value (group_forms (naming_seen sheet) gs)) (sym (inner_of_out b))
    ∙ alone_bytes value (out-Branch b).groups.items (naming_seen sheet)
    (c.if-is_empty.ensures ∙ ap (λ n. n == 0) (out-Branch b).groups.ok.0) in
    on_ok c.push_value.result c.push_value.ensures (λ is. is ∙ ap (λ v. old ++ slice_index_or sheet.names.values.items v [])
    (value_of_out b)
    ∙ ap (λ tree. old ++ printed tree) (sym form))

pub push_branch-returns : goal.push_branch-returns
push_branch-returns t c =
    let sheet = c.args.sheet.now in
    let b = c.args.branch.now in
    let value : Tree = named sheet.names.values.items (value_of b) in
    let groups = (out-Branch b).groups.items in
    let is_value : c.push_value-2.new.out.bytes.items ≡ c.begin.new.self.bytes.items ++ printed value =
    c.in_ok-push_value.ensures ∙ ap (λ v. c.begin.new.self.bytes.items ++ slice_index_or sheet.names.values.items v [])
    (value_of_out b) in
    let first = then (printed value) (then (40 ∷ []) (start c.args.out.now.bytes.items) c.in_ok-begin.ensures) is_value in
    let second = then (printed_behind (packed (group_forms (naming_seen sheet)
    (groups_in groups)))) first c.in_ok-push_groups.ensures in
    last _ (41 ∷ []) _ c.close.result second c.close.ensures
    (row_bytes value groups (naming_seen sheet) (c.if-is_empty.ensures ∙ ap (λ n. n == 0) (out-Branch b).groups.ok.0)
    ∙ ap (λ gs. printed (branch_form value (group_forms (naming_seen sheet) gs))) (inner_of_out b))
