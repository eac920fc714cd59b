-- Parts of a form that a second round found nothing wrong with, where the naming of the sheet is fixed.
use Rattle.std.proofs.Common.{◌≡◌, ℕ, true, false, ◌||◌, nat_le, List, length, flat_map, slice_get, position, bytes_eq, Some}
use Rattle.rc_base.specs.Tree.{Tree, Trees}
use Rattle.rc_sheet_spec.specs.Sheet.{LocName, NumName}
use Rattle.rc_base.specs.Limits.{most_variables, most_repeats}
use Rattle.rc_sheet_spec.specs.Naming.{Naming}
use Rattle.rc_sheet_spec.specs.Naming.{kind_word as kind_bytes}
use Rattle.rc_check.specs.Classes.{class_at}
use Rattle.rc_check.specs.SecondParts.{Standing, Part, atom, form, part_at, word_in, parts_of}
use Rattle.rc_check.specs.SecondNames.{is_named, attributes_in, values_in, maps_in, mention_of, OwnedMention}
use Rattle.rc_check.specs.SecondFaults.{is_bound, is_unbound, is_in_stage, is_misused, is_other_side, is_misplaced}
use Rattle.rc_check.specs.declared.role.Role.{Role}
use Rattle.rc_check.specs.declared.role.Role.TheVariants.{UsedAttribute as used_attribute, UsedValue as used_value, UsedMap as used_map, GivenValue as given_value}
use Rattle.rc_check.specs.declared.grammar.Rule.{Rule}
use Rattle.rc_check.specs.declared.grammar.Rule.TheVariants as rule

-- the attributes, the values and the point maps that decks and points give
pub record Given : Type 0 where
  pub attributes : List (List ℕ)
  pub values : List (List ℕ)
  pub maps : List (List ℕ)

abbrev pub given_of : Tree → Given
given_of tree =
    record {
      attributes = flat_map attributes_in (parts_of tree);
      values = flat_map values_in (parts_of tree);
      maps = flat_map maps_in (parts_of tree);
    }

-- the word stands among these
abbrev pub IsNamed : List ℕ → List (List ℕ) → Type 0
IsNamed bytes words = is_named bytes words ≡ true

-- an atom's word is given and has a number, as its role wants it
abbrev pub HasNumber : Given → Naming → Role → List ℕ → Type 0
HasNumber given naming used_attribute bytes = IsNamed bytes given.attributes × IsNamed bytes naming.names.attrs
HasNumber given naming used_value bytes = IsNamed bytes given.values × IsNamed bytes naming.names.values
HasNumber given naming used_map bytes = IsNamed bytes given.maps × IsNamed bytes naming.names.maps
HasNumber given naming given_value bytes = IsNamed bytes naming.names.values
HasNumber given naming role bytes = Unit {0}

-- A variable is bound and of a sort that its place takes, and a second side is of the sort of the first.
pub record IsFineAtom (given : Given) (naming : Naming) (at : Standing) (bytes : List ℕ) : Type 0 where
  pub bound : is_unbound at bytes ≡ false
  pub sort_fits : is_misused at bytes ≡ false
  pub sides_fit : is_other_side at at.role ≡ false
  pub numbered : HasNumber given naming at.role bytes

-- the locations of the mentioned name have a number, and are of the mentioned kind and class
pub record IsLocMention (naming : Naming) (mention : OwnedMention) : Type 0 where
  pub number : ℕ
  pub numbered : position (bytes_eq mention.name) naming.names.locs ≡ Some number
  pub loc : LocName
  pub is : slice_get naming.locs number ≡ Some loc
  pub same_kind : kind_bytes loc.kind ≡ mention.kind
  pub same_class : loc.class ≡ mention.class

-- the same of stored numbers, which have no kind
pub record IsNumMention (naming : Naming) (mention : OwnedMention) : Type 0 where
  pub number : ℕ
  pub numbered : position (bytes_eq mention.name) naming.names.nums ≡ Some number
  pub num : NumName
  pub is : slice_get naming.nums number ≡ Some num
  pub same_class : num.class ≡ mention.class

-- a binder's variable has a number and isn't in scope, where there is room for one more
pub record IsFineBinder (naming : Naming) (at : Standing) (parts : Trees) : Type 0 where
  pub fresh : is_bound at parts ≡ false
  pub numbered : IsNamed (word_in 2 parts) naming.names.vars
  pub few : nat_le most_variables at.around.binders ≡ false
  pub room : nat_le (length at.around.scope) most_variables ≡ true

-- what each form wants
abbrev pub IsFineRule : Naming → Standing → Rule → Trees → Type 0
IsFineRule naming at rule.Location parts = (is_misplaced at.role (mention_of parts) ≡ false) × IsLocMention naming
    (mention_of parts)
IsFineRule naming at rule.Counter parts = IsNumMention naming (mention_of parts)
IsFineRule naming at rule.CurrentPlayer parts = at.around.player_stage ≡ true
IsFineRule naming at rule.Known parts = at.around.player_stage ≡ true
IsFineRule naming at rule.CurrentTeam parts = at.around.team_stage ≡ true
IsFineRule naming at rule.Choice parts = at.around.player_stage ≡ true
IsFineRule naming at rule.Next parts = is_in_stage at.around (class_at (part_at 2 parts)) ≡ true
IsFineRule naming at rule.Reverse parts = (at.around.player_stage || at.around.team_stage) ≡ true
IsFineRule naming at rule.Repeat parts = nat_le most_repeats at.around.repeats ≡ false
IsFineRule naming at rule.Group parts =
    (is_named (word_in 0 parts) at.above ≡ false) × IsNamed (word_in 0 parts) naming.names.attrs
IsFineRule naming at rule.Entry parts = IsNamed (word_in 0 parts) naming.names.attrs
IsFineRule naming at rule.PutPoints parts = IsNamed (word_in 2 parts) naming.names.maps
IsFineRule naming at rule.Filter parts = IsFineBinder naming at parts
IsFineRule naming at rule.AnyOf parts = IsFineBinder naming at parts
IsFineRule naming at rule.Each parts = IsFineBinder naming at parts
IsFineRule naming at rule.ForAll parts = IsFineBinder naming at parts
IsFineRule naming at rule.ForAny parts = IsFineBinder naming at parts
IsFineRule naming at rule parts = Unit {0}

-- a list's second side is of the sort of the first too
pub record IsFineForm (naming : Naming) (at : Standing) (rule : Rule) (parts : Trees) : Type 0 where
  pub sides_fit : is_other_side at at.role ≡ false
  pub fits : IsFineRule naming at rule parts

-- nothing is wrong with the part, its words have numbers, and what it uses is given
abbrev pub IsFine : Given → Naming → Part → Type 0
IsFine given naming (atom at bytes from) = IsFineAtom given naming at bytes
IsFine given naming (form at rule parts from) = IsFineForm naming at rule parts
