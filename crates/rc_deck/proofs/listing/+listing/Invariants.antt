use Rattle.std.proofs.Common.{◌≡◌, ◌++◌, [], ◌∷◌, drop}
use Rattle.rc_deck.specs.Tree.{groups_in, attr_of, branches_of}
use Rattle.rc_deck.specs.Product.{behind, joined, faces_of_groups, faces_of_branches}
use Rattle.rc_deck.proofs.ListingLemmas.{extended}
use Rattle.rc_deck.proofs.listing.+listing.Given as goal

abbrev pub invariant-extend_by_groups-loop-group : goal.invariant-extend_by_groups-loop-group
invariant-extend_by_groups-loop-group l =
    joined l.faces.items (faces_of_groups (groups_in (drop l.group-index l.group-items)))
    ≡ behind l.fn.face (faces_of_groups (groups_in l.group-items))

abbrev pub invariant-extend_all-loop-face : goal.invariant-extend_all-loop-face
invariant-extend_all-loop-face l = l.all.items ≡ joined l.yielded (faces_of_branches (attr_of l.group) (branches_of l.group))

abbrev pub invariant-extend_by_group-loop-branch : goal.invariant-extend_by_group-loop-branch
invariant-extend_by_group-loop-branch l =
    l.all.items ++ extended l.fn.face (attr_of l.group) (drop l.branch-index l.others ++ l.last ∷ [])
    ≡ behind l.fn.face (faces_of_branches (attr_of l.group) (branches_of l.group))
