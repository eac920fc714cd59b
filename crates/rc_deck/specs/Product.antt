-- The faces of groups by products of lists.
use Rattle.std.specs.Prelude.{ℕ, List, [], ◌∷◌, ◌++◌, map}
use Rattle.std.specs.List.{flat_map}
use Rattle.rc_base.specs.Deck.{Groups, no_group, group, Branches, no_branch, branch, Face}

-- each of the lists with another one before it
abbrev pub behind : {X : Type 0} → List X → List (List X) → List (List X)
behind first lists = map (λ list. first ++ list) lists

-- each of the first lists with each of the second ones behind it, the first varying slowest
abbrev pub joined : {X : Type 0} → List (List X) → List (List X) → List (List X)
joined firsts seconds = flat_map (λ first. behind first seconds) firsts

-- the faces: a product for groups, one list after another for branches
abbrev mutual
  pub faces_of_groups : Groups → List Face
  faces_of_groups no_group = [] ∷ []
  faces_of_groups (group attr branches rest) = joined (faces_of_branches attr branches) (faces_of_groups rest)

  pub faces_of_branches : ℕ → Branches → List Face
  faces_of_branches attr no_branch = []
  faces_of_branches attr (branch value inner rest) =
      map (λ below. (attr, value) ∷ below) (faces_of_groups inner) ++ faces_of_branches attr rest
