-- Deck trees and entries by recursion over a form: what is read there, or nothing.
use Rattle.std.specs.Prelude.{ℕ, Bool, false, if◌then◌else◌, List, [], ◌∷◌, codes, ℤ, Option, Some, None, option_map}
use Rattle.std.specs.Option.{option_and_then}
use Rattle.std.specs.Str.{bytes_eq}
use Rattle.rc_base.specs.Tree.{Tree, word, list, Trees, nil, cons}
use Rattle.rc_base.specs.Literal.{integer}
use Rattle.rc_base.specs.Clamp.{is_within_clamp}
use Rattle.rc_base.specs.Deck.{Groups, no_group, group, Branches, no_branch, branch, Entry}
use Rattle.rc_resolve.specs.NamedNumbers.{DeckNames}
use Rattle.rc_resolve.specs.NamedNumbers.{number_of}

-- what is made of two parts, where both are there
abbrev pub both : {A B C : Type 0} → (A → B → C) → Option A → Option B → Option C
both make None second = None
both make (Some first) second = option_map (make first) second

-- nothing where there are no trees
abbrev pub unless_nil : {A : Type 0} → Trees → Option A → Option A
unless_nil nil found = None
unless_nil (cons tree trees) found = found

-- a group, without those behind it, and a branch
abbrev pub Group : Type 0
Group = ℕ × Branches

abbrev pub Branch : Type 0
Branch = ℕ × Groups

-- a value without groups
abbrev pub plain : ℕ → Branch
plain number = (number, no_group)

abbrev mutual
  pub read_groups : DeckNames → Trees → Option Groups
  read_groups names nil = Some no_group
  read_groups names (cons tree trees) =
      both (λ first rest. group first.0 first.1 rest) (read_group names tree) (read_groups names trees)

  pub read_group : DeckNames → Tree → Option Group
  read_group names (word bytes from to) = None
  read_group names (list parts from to) = read_group_parts names parts

  pub read_group_parts : DeckNames → Trees → Option Group
  read_group_parts names nil = None
  read_group_parts names (cons head nil) = None
  read_group_parts names (cons head (cons second nil)) =
      both (λ attr branches. (attr, branches)) (number_of names.attrs head) (read_branch_list names second)
  read_group_parts names (cons head (cons second (cons third others))) = None

  pub read_branch_list : DeckNames → Tree → Option Branches
  read_branch_list names (word bytes from to) = None
  read_branch_list names (list parts from to) = unless_nil parts (read_branches names parts)

  pub read_branches : DeckNames → Trees → Option Branches
  read_branches names nil = Some no_branch
  read_branches names (cons tree trees) =
      both (λ first rest. branch first.0 first.1 rest) (read_branch names tree) (read_branches names trees)

  pub read_branch : DeckNames → Tree → Option Branch
  read_branch names (word bytes from to) = option_map plain (number_of names.values (word bytes from to))
  read_branch names (list parts from to) = read_branch_parts names parts

  pub read_branch_parts : DeckNames → Trees → Option Branch
  read_branch_parts names nil = None
  read_branch_parts names (cons head groups) =
      both (λ number inner. (number, inner)) (number_of names.values head)
      (unless_nil groups (read_groups names groups))

-- whether the tree is this word
abbrev pub is_word : List ℕ → Tree → Bool
is_word bytes (word bytes' from to) = bytes_eq bytes' bytes
is_word bytes (list parts from to) = false

abbrev pub read_deck_parts : DeckNames → Trees → Option Groups
read_deck_parts names nil = None
read_deck_parts names (cons head groups) =
    if is_word (codes "deck") head then unless_nil groups (read_groups names groups) else None

abbrev pub read_deck : DeckNames → Tree → Option Groups
read_deck names (word bytes from to) = None
read_deck names (list parts from to) = read_deck_parts names parts

abbrev pub read_values : DeckNames → Trees → Option (List ℕ)
read_values names nil = Some []
read_values names (cons tree trees) = both ◌∷◌ (number_of names.values tree) (read_values names trees)

abbrev pub read_value_list : DeckNames → Tree → Option (List ℕ)
read_value_list names (word bytes from to) = None
read_value_list names (list parts from to) = unless_nil parts (read_values names parts)

-- the number, where it is within the clamp
abbrev pub unclamped : ℤ → Option ℤ
unclamped points = if is_within_clamp points then Some points else None

abbrev pub read_points : Tree → Option ℤ
read_points (word bytes from to) = option_and_then unclamped (integer bytes)
read_points (list parts from to) = None

abbrev pub entry_with : ℕ → List ℕ × ℤ → Entry
entry_with attr worth = record { attr = attr; values = worth.0; points = worth.1 }

abbrev pub read_entry_parts : DeckNames → Trees → Option Entry
read_entry_parts names (cons head (cons second (cons third nil))) =
    both entry_with (number_of names.attrs head)
    (both (λ values points. (values, points)) (read_value_list names second) (read_points third))
read_entry_parts names nil = None
read_entry_parts names (cons head nil) = None
read_entry_parts names (cons head (cons second nil)) = None
read_entry_parts names (cons head (cons second (cons third (cons fourth others)))) = None

abbrev pub read_entry : DeckNames → Tree → Option Entry
read_entry names (word bytes from to) = None
read_entry names (list parts from to) = read_entry_parts names parts

abbrev pub read_all_entries : DeckNames → Trees → Option (List Entry)
read_all_entries names nil = Some []
read_all_entries names (cons tree trees) = both ◌∷◌ (read_entry names tree) (read_all_entries names trees)

abbrev pub read_entries : DeckNames → Tree → Option (List Entry)
read_entries names (word bytes from to) = None
read_entries names (list parts from to) = unless_nil parts (read_all_entries names parts)
