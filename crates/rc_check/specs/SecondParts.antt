-- All parts of a form whose shape is right, in the order of the text, and where each stands.
use Rattle.std.specs.Prelude.{ℕ, zero, suc, ◌+◌, nat_lt, Bool, true, false, ◌&&◌, if◌then◌else◌, List, [], ◌∷◌, ◌++◌, slice_index_or, Option, Some, None, option_map}
use Rattle.rc_base.specs.Tree.{Tree, word, list, Trees, nil, cons}
use Rattle.rc_sheet_spec.specs.Sheet.{player_class, team_class, Sort, player_sort, card_sort, group_sort}
use Rattle.rc_sheet_spec.specs.WellFormed.{Around, outside, scored, in_stage, in_repeat}
use Rattle.rc_check.specs.Faults.{is_word, rule_of, place_at, count}
use Rattle.rc_check.specs.Classes.{bound_in}
pub use Rattle.rc_check.specs.declared.role.Role.{Role}
pub use Rattle.rc_check.specs.declared.role.Role.TheVariants.{No as no_role, UsedAttribute as used_attribute, UsedValue as used_value, UsedMap as used_map, GivenValue as given_value, DeckLocation as deck_location, CardLocation as card_location, ReferenceLocation as reference_location, SecondSide as second_side}
use Rattle.rc_check.specs.declared.keyword.Keyword.TheVariants as keyword
use Rattle.rc_check.specs.declared.grammar.Symbol.{Symbol}
use Rattle.rc_check.specs.declared.grammar.Symbol.TheVariants as symbol
use Rattle.rc_check.specs.declared.grammar.Rule.{Rule}
use Rattle.rc_check.specs.declared.grammar.Rule.TheVariants as rule

-- the roles of the first parts of each form
abbrev pub front_roles : Rule → List Role
front_roles rule.CreateDeck = no_role ∷ no_role ∷ deck_location ∷ []
front_roles rule.Branch = given_value ∷ []
front_roles rule.Move = no_role ∷ no_role ∷ card_location ∷ []
front_roles rule.MoveAll = no_role ∷ no_role ∷ no_role ∷ card_location ∷ []
front_roles rule.Remember = no_role ∷ no_role ∷ reference_location ∷ []
front_roles rule.Shuffle = no_role ∷ card_location ∷ []
front_roles rule.MaxCard = no_role ∷ no_role ∷ no_role ∷ used_map ∷ []
front_roles rule.MinCard = no_role ∷ no_role ∷ no_role ∷ used_map ∷ []
front_roles rule.Sum = no_role ∷ no_role ∷ no_role ∷ used_map ∷ []
front_roles rule.PointsOf = no_role ∷ no_role ∷ no_role ∷ used_map ∷ []
front_roles rule.Is = no_role ∷ no_role ∷ used_attribute ∷ used_value ∷ []
front_roles rule.AttributeOf = no_role ∷ no_role ∷ used_attribute ∷ []
front_roles rule.Partition = no_role ∷ no_role ∷ used_attribute ∷ []
front_roles rule.Equal = no_role ∷ no_role ∷ second_side ∷ []
front_roles rule.NotEqual = no_role ∷ no_role ∷ second_side ∷ []
front_roles rule = []

-- The role of the part of a form at this index. The location of a spot takes what the spot takes.
abbrev pub role_in : Role → Rule → ℕ → Role
role_in role rule.TopOf index = role
role_in role rule.BottomOf index = role
role_in role rule.Branches index = given_value
role_in role rule.Values index = given_value
role_in role rule index = slice_index_or (front_roles rule) index no_role

-- the part at this index; the bytes of an atom
abbrev pub part_at : ℕ → Trees → Tree
part_at index nil = list nil 0 0
part_at zero (cons tree trees) = tree
part_at (suc index) (cons tree trees) = part_at index trees

abbrev pub bytes_of : Tree → List ℕ
bytes_of (word bytes from to) = bytes
bytes_of (list parts from to) = []

abbrev pub word_in : ℕ → Trees → List ℕ
word_in index parts = bytes_of (part_at index parts)

-- A form binds a variable: its second part is what the variable runs over, its third the variable, and those behind it are the
-- body.
abbrev pub is_binder : Rule → Bool
is_binder rule.Filter = true
is_binder rule.AnyOf = true
is_binder rule.Each = true
is_binder rule.ForAll = true
is_binder rule.ForAny = true
is_binder rule = false

-- what a variable stands for that runs over this
abbrev pub sort_by_form : Option Rule → Sort
sort_by_form (Some rule.Partition) = group_sort
sort_by_form found = card_sort

abbrev pub sort_over : Tree → Sort
sort_over (word bytes from to) = if is_word keyword.Player bytes then player_sort else card_sort
sort_over (list parts from to) = sort_by_form (rule_of symbol.Domain parts)

-- what is around the part of a form at this index
abbrev pub around_in : Around → Rule → Trees → ℕ → Around
around_in around rule.Scoring parts index = scored
around_in around rule.PlayerStage parts index = in_stage player_class around
around_in around rule.TeamStage parts index = in_stage team_class around
around_in around rule.Repeat parts index = if nat_lt 1 index then in_repeat around else around
around_in around rule parts index =
    if is_binder rule && nat_lt 2 index then bound_in around (word_in 2 parts) (sort_over (part_at 1 parts)) else around

-- the attributes of a group, with those of the groups in its branches; and of the groups among parts of a list
abbrev mutual
  pub attributes_of : Tree → List (List ℕ)
  attributes_of (list (cons (word attr from to) (cons (list branches from' to') nil)) from'' to'') =
      attr ∷ attributes_below branches
  attributes_of tree = []

  pub attributes_below : Trees → List (List ℕ)
  attributes_below nil = []
  attributes_below (cons (word value from to) branches) = attributes_below branches
  attributes_below (cons (list groups from to) branches) = attributes_among groups ++ attributes_below branches

  pub attributes_among : Trees → List (List ℕ)
  attributes_among nil = []
  attributes_among (cons tree trees) = attributes_of tree ++ attributes_among trees

-- so many of the first parts
abbrev pub front : ℕ → Trees → Trees
front index nil = nil
front zero (cons tree trees) = nil
front (suc index) (cons tree trees) = cons tree (front index trees)

-- Which attributes may stand in a face before the part of a form at this index, but for those above the form: the attribute of
-- a group before its branches, and those of the groups beside the part that stand before it.
abbrev pub inner_attributes : Rule → Trees → ℕ → List (List ℕ)
inner_attributes rule.Group parts index = word_in 0 parts ∷ []
inner_attributes rule.Deck parts index = attributes_among (front index parts)
inner_attributes rule.Branch parts index = attributes_among (front index parts)
inner_attributes rule parts index = []

-- and with those above the form
abbrev pub above_in : List (List ℕ) → Rule → Trees → ℕ → List (List ℕ)
above_in above rule parts index = above ++ inner_attributes rule parts index

-- the attributes that a part of a form leaves before the parts behind it
abbrev pub attributes_behind : Rule → Tree → List (List ℕ)
attributes_behind rule.Deck tree = attributes_of tree
attributes_behind rule.Branch tree = attributes_of tree
attributes_behind rule tree = []

-- Where a part stands: its place in the grammar, its role, all parts of its list, what is around it, and which attributes may
-- stand before it in a face.
pub record Standing : Type 0 where
  pub place : Symbol
  pub role : Role
  pub beside : Trees
  pub around : Around
  pub above : List (List ℕ)

-- where the part of a form at this index stands
abbrev pub standing_in : Standing → Rule → Trees → ℕ → Option Standing
standing_in outer rule parts index =
    option_map
    (λ place. record {
      place = place;
      role = role_in outer.role rule index;
      beside = parts;
      around = around_in outer.around rule parts index;
      above = above_in outer.above rule parts index;
    })
    (place_at rule (count parts) index)

abbrev pub standing_alone : Standing
standing_alone = record { place = symbol.Sheet; role = no_role; beside = nil; around = outside; above = [] }

-- A part is an atom or a list of a form, with the offset of its first byte.
pub data Part : Type 0 where
  atom : (at : Standing) (bytes : List ℕ) (from : ℕ) → Part
  form : (at : Standing) (rule : Rule) (parts : Trees) (from : ℕ) → Part

-- a list of a form, before its inner parts
abbrev pub with_form : Standing → Trees → ℕ → (Rule → List Part) → Option Rule → List Part
with_form at parts from inner (Some rule) = form at rule parts from ∷ inner rule
with_form at parts from inner None = []

-- All parts of a tree, in the order of the text. A list stands before its own parts.
abbrev mutual
  pub parts_at : Option Standing → Tree → List Part
  parts_at (Some at) (word bytes from to) = atom at bytes from ∷ []
  parts_at (Some at) (list parts from to) =
      with_form at parts from (λ rule. parts_in at rule parts 0 parts) (rule_of at.place parts)
  parts_at None (word bytes from to) = []
  parts_at None (list parts from to) = []

  -- the parts of a form whose parts these are, from the part at this index on
  pub parts_in : Standing → Rule → Trees → ℕ → Trees → List Part
  parts_in at rule all index nil = []
  parts_in at rule all index (cons tree trees) =
      parts_at (standing_in at rule all index) tree ++ parts_in at rule all (index + 1) trees

abbrev pub parts_of : Tree → List Part
parts_of tree = parts_at (Some standing_alone) tree

abbrev pub offset_of : Part → ℕ
offset_of (atom at bytes from) = from
offset_of (form at rule parts from) = from
