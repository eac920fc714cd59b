-- Deck trees, their faces, and what a face is worth. The names of attributes and values are numbers here.
use Rattle.std.specs.Prelude.{◌≡◌, ℕ, zero, suc, ◌+◌, ◌*◌, ◌<◌, ◌⊎◌, ◌&&◌, ◌==◌, Bool, if◌then◌else◌, List, [], ◌∷◌, ◌++◌, AllPairs, Contains, map, fold, find, ℤ, pos, ◌+ℤ◌, Option, option_map}
use Rattle.std.specs.List.{list_any, AllZip}
use Rattle.rc_base.specs.Clamp.{clamped}

-- A group is an attribute with its branches, and a branch is a value with the groups below it.
mutual
  pub data Groups : Type 0 where
    no_group : Groups
    group : (attr : ℕ) (branches : Branches) (rest : Groups) → Groups

  pub data Branches : Type 0 where
    no_branch : Branches
    branch : (value : ℕ) (inner : Groups) (rest : Branches) → Branches

-- a face is the pairs of an attribute and its value
abbrev pub Face : Type 0
Face = List (ℕ × ℕ)

-- The path through the groups gives the face. A path is a list of choices: a position among the first group's branches, the
-- path through the groups below that branch, and the path through the groups that are left.
abbrev mutual
  pub Gives : Groups → List ℕ → Face → Type 0
  Gives no_group path face = (path ≡ []) × (face ≡ [])
  Gives (group attr branches rest) path face =
      (front back : List ℕ) × (first others : Face) × (path ≡ front ++ back) × (face ≡ first ++ others)
      × GivesBranch attr branches front first × Gives rest back others

  pub GivesBranch : ℕ → Branches → List ℕ → Face → Type 0
  GivesBranch attr no_branch path face = ⊥
  GivesBranch attr (branch value inner rest) [] face = ⊥
  GivesBranch attr (branch value inner rest) (zero ∷ path) face =
      (below : Face) × (face ≡ (attr, value) ∷ below) × Gives inner path below
  GivesBranch attr (branch value inner rest) (suc position ∷ path) face = GivesBranch attr rest (position ∷ path) face

-- the order of a dictionary
abbrev pub IsBefore : List ℕ → List ℕ → Type 0
IsBefore path [] = ⊥
IsBefore [] (choice ∷ path) = Unit {0}
IsBefore (choice ∷ path) (choice' ∷ path') = (choice < choice') ⊎ ((choice ≡ choice') × IsBefore path path')

-- The faces are those of all paths through the groups, in the order of the paths.
pub record AreFaces (groups : Groups) (faces : List Face) : Type 0 where
  pub paths : List (List ℕ)
  pub ordered : AllPairs IsBefore paths
  pub every : (path : List ℕ) (face : Face) → Gives groups path face → Contains paths path
  pub given : AllZip (Gives groups) paths faces

-- how many faces groups have: the product over the groups, of the sum over their branches
abbrev mutual
  pub face_count : Groups → ℕ
  face_count no_group = 1
  face_count (group attr branches rest) = branch_count branches * face_count rest

  pub branch_count : Branches → ℕ
  branch_count no_branch = 0
  branch_count (branch value inner rest) = face_count inner + branch_count rest

-- the value that a face has for an attribute
abbrev pub value_at : Face → ℕ → Option ℕ
value_at face attr = option_map (λ pair. pair.1) (find (λ pair. pair.0 == attr) face)

-- an entry of a point map: faces that have the attribute with one of the values are worth so many points
pub record Entry : Type 0 where
  pub attr : ℕ
  pub values : List ℕ
  pub points : ℤ

abbrev pub fits_entry : Entry → Face → Bool
fits_entry entry face = list_any (λ pair. pair.0 == entry.attr && list_any (λ value. value == pair.1) entry.values) face

-- what a face is worth: the sum over the entries that it fits, clamped once
abbrev pub points_of : List Entry → Face → ℤ
points_of entries face =
    clamped (fold ◌+ℤ◌ (pos 0) (map (λ entry. if fits_entry entry face then entry.points else pos 0) entries))
