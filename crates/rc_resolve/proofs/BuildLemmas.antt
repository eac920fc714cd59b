-- What is read so far, before what is read behind it.
use Rattle.std.proofs.Common.{◌≡◌, ℕ, List, [], ◌∷◌, ◌++◌, map, refl, ap, ◌∙◌, append_assoc}
use Rattle.std.proofs.lemmas.List.{map-append}
use Rattle.rc_base.specs.Deck.{Groups, no_group, group, Branches, no_branch, branch, Entry}
use Rattle.rc_resolve.specs.NamedNumbers.{DeckNames}
use Rattle.rc_deck.specs.declared.tree.Group.{Group as DeckGroup}
use Rattle.rc_deck.specs.declared.tree.Branch.{Branch as DeckBranch}
use Rattle.rc_deck.specs.declared.scoring.PointEntry.{PointEntry}
use Rattle.rc_deck.specs.Tree.{attr_of, branches_of, value_of, inner_of, groups_in, branches_in}
use Rattle.rc_deck.specs.Points.{entry_of}
use Rattle.rc_resolve.specs.Reading.{Group, Branch, read_group, read_groups, read_branch, read_branches, read_entry, read_all_entries}
use Rattle.rc_resolve.proofs.LoopLemmas.{Reads}

abbrev pub seen_group : DeckGroup → Group
seen_group g = (attr_of g, branches_of g)

pub group_is : (g : DeckGroup) (attr : ℕ) (branches : Branches) → attr_of g ≡ attr → branches_of g ≡ branches → seen_group g ≡ (attr, branches)
group_is g attr branches is-attr is-branches = ap (λ a. (a, branches_of g)) is-attr ∙ ap (λ bs. (attr, bs)) is-branches

abbrev pub with_group : Group → Groups → Groups
with_group first rest = group first.0 first.1 rest

abbrev pub onto_groups : List DeckGroup → Groups → Groups
onto_groups [] rest = rest
onto_groups (g ∷ gs) rest = with_group (seen_group g) (onto_groups gs rest)

pub onto_groups-none : (gs : List DeckGroup) → onto_groups gs no_group ≡ groups_in gs
onto_groups-none [] = refl
onto_groups-none (g ∷ gs) = ap (with_group (seen_group g)) (onto_groups-none gs)

onto_groups-push : (gs : List DeckGroup) (g : DeckGroup) (rest : Groups) → onto_groups (gs ++ g ∷ []) rest ≡ onto_groups gs (with_group (seen_group g) rest)
onto_groups-push [] g rest = refl
onto_groups-push (first ∷ gs) g rest = ap (with_group (seen_group first)) (onto_groups-push gs g rest)

pub reads_groups : (names : DeckNames) → Reads (read_group names) (read_groups names) with_group seen_group onto_groups
reads_groups names = record {
  splits = λ tree trees. refl;
  pushes = onto_groups-push;
}

abbrev pub seen_branch : DeckBranch → Branch
seen_branch b = (value_of b, inner_of b)

pub branch_is : (b : DeckBranch) (value : ℕ) (groups : Groups) → value_of b ≡ value → inner_of b ≡ groups → seen_branch b ≡ (value, groups)
branch_is b value groups is-value is-groups = ap (λ v. (v, inner_of b)) is-value ∙ ap (λ gs. (value, gs)) is-groups

abbrev pub with_branch : Branch → Branches → Branches
with_branch first rest = branch first.0 first.1 rest

abbrev pub onto_branches : List DeckBranch → Branches → Branches
onto_branches [] rest = rest
onto_branches (b ∷ bs) rest = with_branch (seen_branch b) (onto_branches bs rest)

pub onto_branches-none : (bs : List DeckBranch) → onto_branches bs no_branch ≡ branches_in bs
onto_branches-none [] = refl
onto_branches-none (b ∷ bs) = ap (with_branch (seen_branch b)) (onto_branches-none bs)

onto_branches-push : (bs : List DeckBranch) (b : DeckBranch) (rest : Branches) → onto_branches (bs ++ b ∷ []) rest ≡ onto_branches bs (with_branch (seen_branch b) rest)
onto_branches-push [] b rest = refl
onto_branches-push (first ∷ bs) b rest = ap (with_branch (seen_branch first)) (onto_branches-push bs b rest)

pub reads_branches : (names : DeckNames) → Reads (read_branch names) (read_branches names) with_branch seen_branch onto_branches
reads_branches names = record {
  splits = λ tree trees. refl;
  pushes = onto_branches-push;
}

abbrev pub onto_entries : List PointEntry → List Entry → List Entry
onto_entries entries rest = map entry_of entries ++ rest

pub reads_entries : (names : DeckNames) → Reads (read_entry names) (read_all_entries names) ◌∷◌ entry_of onto_entries
reads_entries names = record {
  splits = λ tree trees. refl;
  pushes = λ read next rest. ap (λ front. front ++ rest) (map-append entry_of read (next ∷ [])) ∙ append_assoc (map entry_of read) (entry_of next ∷ []) rest;
}

abbrev pub onto_values : List ℕ → List ℕ → List ℕ
onto_values values rest = values ++ rest
