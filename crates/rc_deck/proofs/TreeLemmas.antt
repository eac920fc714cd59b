-- How the model of a tree is made from the tree's vectors.
use Rattle.std.proofs.Common.{◌≡◌, ℕ, ◌+◌, ◌<◌, List, [], ◌∷◌, length, get_or, drop, refl, sym, ap, ◌∙◌, arith}
use Rattle.std.proofs.lemmas.List.{at_drop_more}
use Rattle.rc_base.specs.Deck.{group, branch, no_branch}
use Rattle.rc_deck.specs.declared.tree.Group.{Group, Group', out-Group, outs-Group', Row_of-Branch, end_of-Branch, more_of-Branch, items-the_row-Branch, items_shown-the_row-Branch-1}
use Rattle.rc_deck.specs.declared.tree.Branch.{Branch, Branch', out-Branch, outs-Branch', Row_of-Group, end_of-Group, more_of-Group, items-the_row-Group, items_shown-the_row-Group-0}
use Rattle.rc_deck.specs.Tree.{attr_of, value_of, branches_of, inner_of, groups_of_row, branches_of_row, groups_in, branches_in}

-- a row of branches, as a list
branches_of_row_is : (m : _) (row : Row_of-Branch m) → branches_of_row row ≡ branches_in (items-the_row-Branch m row)
branches_of_row_is m end_of-Branch = refl
branches_of_row_is m (more_of-Branch b rest) = ap (branch (value_of b) (inner_of b)) (branches_of_row_is _ rest)

-- a row of groups, as a list
groups_of_row_is : (m : _) (row : Row_of-Group m) → groups_of_row row ≡ groups_in (items-the_row-Group m row)
groups_of_row_is m end_of-Group = refl
groups_of_row_is m (more_of-Group g rest) = ap (group (attr_of g) (branches_of g)) (groups_of_row_is _ rest)

-- the fields of a group, as the model has them
pub attr_of_out : (g : Group) → (out-Group g).attr ≡ attr_of g
attr_of_out (Group' attr shape row) = ap (λ x. x.attr) (outs-Group' attr shape row)

-- and its branches
pub branches_of_out : (g : Group) → branches_in (out-Group g).values.items ≡ branches_of g
branches_of_out (Group' attr shape row) =
    ap (λ x. branches_in x.values.items) (outs-Group' attr shape row) ∙ ap branches_in (items_shown-the_row-Branch-1 shape row)
    ∙ sym (branches_of_row_is _ row)

-- the fields of a branch, as the model has them
pub value_of_out : (b : Branch) → (out-Branch b).value ≡ value_of b
value_of_out (Branch' value shape row) = ap (λ x. x.value) (outs-Branch' value shape row)

-- and its groups
pub inner_of_out : (b : Branch) → groups_in (out-Branch b).groups.items ≡ inner_of b
inner_of_out (Branch' value shape row) =
    ap (λ x. groups_in x.groups.items) (outs-Branch' value shape row) ∙ ap groups_in (items_shown-the_row-Group-0 shape row)
    ∙ sym (groups_of_row_is _ row)

-- the groups from a place on are the group there and those behind it
pub groups_in-drop : (gs : List Group) (i : ℕ) (g : Group) → i < length gs → g ≡ get_or gs i g →
    groups_in (drop i gs) ≡ group (attr_of g) (branches_of g) (groups_in (drop (i + 1) gs))
groups_in-drop gs i g lt is =
    at_drop_more groups_in gs i g lt ∙ ap (λ x. group (attr_of x) (branches_of x) (groups_in (drop (i + 1) gs))) (sym is)

-- and the same of branches
pub branches_in-drop : (bs : List Branch) (i : ℕ) (b : Branch) → i < length bs → b ≡ get_or bs i b →
    branches_in (drop i bs) ≡ branch (value_of b) (inner_of b) (branches_in (drop (i + 1) bs))
branches_in-drop bs i b lt is =
    at_drop_more branches_in bs i b lt ∙ ap (λ x. branch (value_of x) (inner_of x) (branches_in (drop (i + 1) bs))) (sym is)

-- the branches of a group, from the list of its values
pub branches_are : (g : Group) (bs : List Branch) → bs ≡ (out-Group g).values.items → branches_of g ≡ branches_in bs
branches_are g bs is = sym (branches_of_out g) ∙ ap branches_in (sym is)

-- an empty list has no branch
pub branches_in-none : (bs : List Branch) → length bs ≡ 0 → branches_in bs ≡ no_branch
branches_in-none [] none = refl
branches_in-none (b ∷ bs) none = absurd (omega arith)
