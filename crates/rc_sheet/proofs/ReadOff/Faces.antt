-- What is read stands for its form: deck trees and the entries of point maps.
use Rattle.std.proofs.Common.{◌≡◌, ℕ, true, nat_le, List, [], ◌∷◌, ℤ, Option, Some, None, refl, subst, arith, le-leb}
use Rattle.std.specs.Prelude.{codes}
use Rattle.std.specs.Option.{option_and_then}
use Rattle.std.proofs.lemmas.Slice.Eq.{bytes_eq-Decides}
use Rattle.rc_base.specs.Tree.{Tree, word, list, Trees, nil, cons, count}
use Rattle.rc_base.specs.Literal.{integer}
use Rattle.rc_base.specs.Deck.{Groups, no_group, group, Branches, no_branch, branch, Entry}
use Rattle.rc_sheet_spec.specs.Rows.{◌▸◌, End, Row, Word, Atom}
use Rattle.rc_sheet_spec.specs.Rows.{Some as Full}
use Rattle.rc_sheet_spec.specs.Naming.{Naming, Named, Literal}
use Rattle.rc_sheet_spec.specs.StandsSetup.{StandsGroups, StandsBranches, StandValues, StandEntries}
use Rattle.rc_resolve.specs.NamedNumbers.{number_of}
use Rattle.rc_resolve.specs.Reading.{both, unless_nil, plain, read_groups, read_group, read_branch_list, read_branches, read_branch, is_word, read_deck, unclamped, read_values, read_value_list, read_points, entry_with, read_entry, read_all_entries, read_entries}
use Rattle.rc_sheet.specs.ReadSetup.{face_words}
use Rattle.rc_sheet.proofs.Faces.{number_of_name}
use Rattle.rc_sheet.proofs.Means.{Means, nothing, something, weaker, mapped, either, made_of}
use Rattle.rc_sheet.proofs.ReadOff.Names.{name_means}

-- a part is some part
pub some_part : (tree : Tree) (trees : Trees) → nat_le 1 (count (cons tree trees)) ≡ true
some_part tree trees = le-leb 1 (count (cons tree trees)) (omega arith)

-- where there is a part
full : {A : Type 0} (P : A → Trees → Type 0) (trees : Trees) (found : Option A) → Means found (λ a. P a trees)
    → Means (unless_nil trees found) (λ a. Full (P a) trees)
full P nil found means = nothing
full P (cons tree trees) found means = weaker found means (λ a holds. (some_part tree trees, holds))

-- a name by its number
number_means : (words : List (List ℕ)) (tree : Tree) → Means (number_of words tree) (λ n. Named words n tree)
number_means words tree = subst (λ found. Means found (λ n. Named words n tree)) (number_of_name words tree)
    (name_means words tree)

-- `(ATTR (BRANCH+))`
abbrev StandsGroup : Naming → ℕ → Branches → Tree → Type 0
StandsGroup naming attr branches = Row (Named naming.names.attrs attr ▸ Row (Full (StandsBranches naming branches)) ▸ End)

-- `VALUE`, or `(VALUE GROUP+)`
abbrev StandsBranch : Naming → ℕ → Groups → Tree → Type 0
StandsBranch naming value no_group tree = Named naming.names.values value tree
StandsBranch naming value (group attr branches rest) tree =
    Row (Named naming.names.values value ▸ StandsGroup naming attr branches ▸ StandsGroups naming rest) tree

-- a branch before others
branch_first : (naming : Naming) (value : ℕ) (inner : Groups) (rest : Branches) (tree : Tree) (trees : Trees)
    → StandsBranch naming value inner tree → StandsBranches naming rest trees
    → StandsBranches naming (branch value inner rest) (cons tree trees)
branch_first naming value no_group rest tree trees stands later = (stands, later)
branch_first naming value (group attr branches inner) rest tree trees stands later = (stands, later)

-- a value with groups behind it
branch_with : (naming : Naming) (value : ℕ) (inner : Groups) (head : Tree) (groups : Trees) (from to : ℕ)
    → Named naming.names.values value head → Full (StandsGroups naming inner) groups
    → StandsBranch naming value inner (list (cons head groups) from to)
branch_with naming value no_group head nil from to named stand = absurd cc
branch_with naming value no_group head (cons tree trees) from to named stand = absurd stand.1
branch_with naming value (group attr branches rest) head groups from to named stand = (named, stand.1)

mutual
  -- GROUP ..
  pub groups_mean : (naming : Naming) (trees : Trees)
      → Means (read_groups (face_words naming) trees) (λ groups. StandsGroups naming groups trees)
  groups_mean naming nil = something no_group tt
  groups_mean naming (cons tree trees) =
      made_of (λ first rest. group first.0 first.1 rest) (read_group (face_words naming) tree)
      (read_groups (face_words naming) trees)
      (group_means naming tree) (groups_mean naming trees) (λ first rest stands later. (stands, later))

  -- GROUP
  group_means : (naming : Naming) (tree : Tree)
      → Means (read_group (face_words naming) tree) (λ found. StandsGroup naming found.0 found.1 tree)
  group_means naming (word bytes from to) = nothing
  group_means naming (list nil from to) = nothing
  group_means naming (list (cons head nil) from to) = nothing
  group_means naming (list (cons head (cons second nil)) from to) =
      made_of (λ attr branches. (attr, branches)) (number_of naming.names.attrs head) (read_branch_list (face_words naming) second)
      (number_means naming.names.attrs head) (branch_list_means naming second)
      (λ attr branches named stands. (named, (stands, tt)))
  group_means naming (list (cons head (cons second (cons third others))) from to) = nothing

  -- `(BRANCH+)`
  branch_list_means : (naming : Naming) (tree : Tree)
      → Means (read_branch_list (face_words naming) tree) (λ branches. Row (Full (StandsBranches naming branches)) tree)
  branch_list_means naming (word bytes from to) = nothing
  branch_list_means naming (list parts from to) =
      full (StandsBranches naming) parts (read_branches (face_words naming) parts) (branches_mean naming parts)

  -- BRANCH ..
  branches_mean : (naming : Naming) (trees : Trees)
      → Means (read_branches (face_words naming) trees) (λ branches. StandsBranches naming branches trees)
  branches_mean naming nil = something no_branch tt
  branches_mean naming (cons tree trees) =
      made_of (λ first rest. branch first.0 first.1 rest) (read_branch (face_words naming) tree)
      (read_branches (face_words naming) trees)
      (branch_means naming tree) (branches_mean naming trees)
      (λ first rest stands later. branch_first naming first.0 first.1 rest tree trees stands later)

  -- BRANCH
  branch_means : (naming : Naming) (tree : Tree)
      → Means (read_branch (face_words naming) tree) (λ found. StandsBranch naming found.0 found.1 tree)
  branch_means naming (word bytes from to) =
      mapped (number_of naming.names.values (word bytes from to)) plain (number_means naming.names.values (word bytes from to))
      (λ value named. named)
  branch_means naming (list nil from to) = nothing
  branch_means naming (list (cons head groups) from to) =
      made_of (λ number inner. (number, inner)) (number_of naming.names.values head)
      (unless_nil groups (read_groups (face_words naming) groups)) (number_means naming.names.values head)
      (full (StandsGroups naming) groups (read_groups (face_words naming) groups) (groups_mean naming groups))
      (λ value inner named stand. branch_with naming value inner head groups from to named stand)

-- a word of these bytes
word_is : (bytes : List ℕ) (tree : Tree) → is_word bytes tree ≡ true → Word (λ given. given ≡ bytes) tree
word_is bytes (word given from to) is = (bytes_eq-Decides given bytes).0 is
word_is bytes (list parts from to) is = absurd cc

-- `(deck GROUP+)`
pub deck_tree_means : (naming : Naming) (tree : Tree)
    → Means (read_deck (face_words naming) tree) (λ groups. Row (Atom "deck" ▸ Full (StandsGroups naming groups)) tree)
deck_tree_means naming (word bytes from to) = nothing
deck_tree_means naming (list nil from to) = nothing
deck_tree_means naming (list (cons head groups) from to) =
    let found = unless_nil groups (read_groups (face_words naming) groups) in
    either (is_word (codes "deck") head) found None
    (λ is. weaker found (full (StandsGroups naming) groups (read_groups (face_words naming) groups) (groups_mean naming groups))
    (λ inner stand. (word_is (codes "deck") head is, stand)))
    (λ is. nothing)

-- VALUE ..
values_mean : (naming : Naming) (trees : Trees)
    → Means (read_values (face_words naming) trees) (λ values. StandValues naming values trees)
values_mean naming nil = something [] tt
values_mean naming (cons tree trees) =
    made_of ◌∷◌ (number_of naming.names.values tree) (read_values (face_words naming) trees)
    (number_means naming.names.values tree) (values_mean naming trees) (λ value values named stand. (named, stand))

-- `(VALUE+)`
value_list_means : (naming : Naming) (tree : Tree)
    → Means (read_value_list (face_words naming) tree) (λ values. Row (Full (StandValues naming values)) tree)
value_list_means naming (word bytes from to) = nothing
value_list_means naming (list parts from to) =
    full (StandValues naming) parts (read_values (face_words naming) parts) (values_mean naming parts)

-- a number within the clamp
unclamped_means : (found : Option ℤ) → Means (option_and_then unclamped found) (λ points. found ≡ Some points)
unclamped_means None = nothing
unclamped_means (Some points) = either _ (Some points) None (λ is. something points refl) (λ is. nothing)

-- a literal of one
points_mean : (tree : Tree) → Means (read_points tree) (λ points. Literal points tree)
points_mean (word bytes from to) = unclamped_means (integer bytes)
points_mean (list parts from to) = nothing

-- `(ATTR (VALUE+) n)`
abbrev pub StandsEntry : Naming → Entry → Tree → Type 0
StandsEntry naming entry =
    Row (Named naming.names.attrs entry.attr ▸ Row (Full (StandValues naming entry.values)) ▸ Literal entry.points ▸ End)

-- ENTRY
entry_means : (naming : Naming) (tree : Tree)
    → Means (read_entry (face_words naming) tree) (λ entry. StandsEntry naming entry tree)
entry_means naming (word bytes from to) = nothing
entry_means naming (list nil from to) = nothing
entry_means naming (list (cons head nil) from to) = nothing
entry_means naming (list (cons head (cons second nil)) from to) = nothing
entry_means naming (list (cons head (cons second (cons third nil))) from to) =
    made_of entry_with (number_of naming.names.attrs head)
    (both (λ values points. (values, points)) (read_value_list (face_words naming) second) (read_points third))
    (number_means naming.names.attrs head)
    (made_of {R = λ worth. Row (Full (StandValues naming worth.0)) second × Literal worth.1 third}
    (λ values points. (values, points))
    (read_value_list (face_words naming) second) (read_points third)
    (value_list_means naming second) (points_mean third) (λ values points stand is. (stand, is)))
    (λ attr worth named stand. (named, (stand.0, (stand.1, tt))))
entry_means naming (list (cons head (cons second (cons third (cons fourth others)))) from to) = nothing

-- ENTRY ..
all_entries_mean : (naming : Naming) (trees : Trees)
    → Means (read_all_entries (face_words naming) trees) (λ entries. StandEntries naming entries trees)
all_entries_mean naming nil = something [] tt
all_entries_mean naming (cons tree trees) =
    made_of ◌∷◌ (read_entry (face_words naming) tree) (read_all_entries (face_words naming) trees)
    (entry_means naming tree) (all_entries_mean naming trees) (λ entry entries stands stand. (stands, stand))

-- `(ENTRY+)`
pub entries_mean : (naming : Naming) (tree : Tree)
    → Means (read_entries (face_words naming) tree) (λ entries. Row (Full (StandEntries naming entries)) tree)
entries_mean naming (word bytes from to) = nothing
entries_mean naming (list parts from to) =
    full (StandEntries naming) parts (read_all_entries (face_words naming) parts) (all_entries_mean naming parts)
