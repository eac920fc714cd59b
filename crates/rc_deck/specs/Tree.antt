-- Deck trees as the model has them: without the memory that holds them.
use Rattle.std.specs.Prelude.{ℕ, List, [], ◌∷◌}
use Rattle.rc_base.specs.Deck.{Groups, no_group, group, Branches, no_branch, branch}
use Rattle.rc_deck.specs.declared.tree.DeckTree.{DeckTree}
use Rattle.rc_deck.specs.declared.tree.Group.{Group, Group', Row_of-Branch, end_of-Branch, more_of-Branch}
use Rattle.rc_deck.specs.declared.tree.Branch.{Branch, Branch', Row_of-Group, end_of-Group, more_of-Group}

-- a group's attribute
abbrev pub attr_of : Group → ℕ
attr_of (Group' attr shape row) = attr

-- a branch's value
abbrev pub value_of : Branch → ℕ
value_of (Branch' value shape row) = value

-- the branches of a group and the groups of a branch; a row is a vector's items
abbrev mutual
  pub branches_of : Group → Branches
  branches_of (Group' attr shape row) = branches_of_row row

  pub inner_of : Branch → Groups
  inner_of (Branch' value shape row) = groups_of_row row

  pub groups_of_row : {m : _} → Row_of-Group m → Groups
  groups_of_row end_of-Group = no_group
  groups_of_row (more_of-Group g rest) = group (attr_of g) (branches_of g) (groups_of_row rest)

  pub branches_of_row : {m : _} → Row_of-Branch m → Branches
  branches_of_row end_of-Branch = no_branch
  branches_of_row (more_of-Branch b rest) = branch (value_of b) (inner_of b) (branches_of_row rest)

-- the groups of a list, in order
abbrev pub groups_in : List Group → Groups
groups_in [] = no_group
groups_in (g ∷ gs) = group (attr_of g) (branches_of g) (groups_in gs)

-- the branches of a list, in order
abbrev pub branches_in : List Branch → Branches
branches_in [] = no_branch
branches_in (b ∷ bs) = branch (value_of b) (inner_of b) (branches_in bs)

-- the groups of a tree
abbrev pub groups_of : DeckTree → Groups
groups_of tree = groups_in tree.groups.items
