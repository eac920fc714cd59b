-- What the numbers in a sheet's tree stand for.
use Rattle.std.specs.Prelude.{◌≡◌, ℕ, true, false, List, [], ◌∷◌, ◌++◌, slice_get, slice_index_or, codes, ℤ, Option, Some, option_map}
use Rattle.rc_base.specs.Tree.{Tree}
use Rattle.rc_base.specs.Words.{is_variable}
use Rattle.rc_base.specs.Literal.{integer}
use Rattle.rc_sheet_spec.specs.Sheet.{Names, Class, game_class, player_class, team_class, Sort, player_sort, card_sort, group_sort, LocKind, vloc, iloc, hloc, mem, LocName, NumName, Who, game, current_player, current_team, team_of_current, team_of_var, who_var, Domain, each_player, each_card, each_group, Sheet}
use Rattle.rc_sheet_spec.specs.Rows.{Word}

pub record Naming : Type 0 where
  pub names : Names
  pub locs : List LocName
  pub nums : List NumName

-- the naming of a sheet
abbrev pub sheet_naming : Sheet → Naming
sheet_naming sheet = record { names = sheet.names; locs = sheet.locs; nums = sheet.nums }

-- a bound variable: its word, and what it stands for
pub record Variable : Type 0 where
  pub word : List ℕ
  pub sort : Sort

-- the variables that are bound around a place, from outside to inside
abbrev pub Scope : Type 0
Scope = List Variable

-- the scope behind a binder
abbrev pub bind : Naming → Scope → ℕ → Sort → Scope
bind naming scope bound sort = scope ++ record { word = slice_index_or naming.names.vars bound []; sort = sort } ∷ []

-- the scope of the score
abbrev pub self_scope : Scope
self_scope = record { word = codes "'SELF"; sort = player_sort } ∷ []

-- what a variable stands for that runs over this domain
abbrev pub sort_of : Domain → Sort
sort_of each_player = player_sort
sort_of (each_card cards) = card_sort
sort_of (each_group cards attr) = group_sort

-- who an owner is one of
abbrev pub class_of : Who → Class
class_of game = game_class
class_of current_player = player_class
class_of current_team = team_class
class_of team_of_current = team_class
class_of (team_of_var var) = team_class
class_of (who_var var) = player_class

abbrev pub kind_word : LocKind → List ℕ
kind_word vloc = codes "vloc"
kind_word iloc = codes "iloc"
kind_word hloc = codes "hloc"
kind_word mem = codes "mem"

-- the form is the plain word with this number
abbrev pub Named : List (List ℕ) → ℕ → Tree → Type 0
Named words number = Word (λ bytes. (slice_get words number ≡ Some bytes) × (is_variable bytes ≡ false))

-- the form is the variable with this number, where it is bound
abbrev pub Binder : Naming → ℕ → Tree → Type 0
Binder naming bound = Word (λ bytes. (slice_get naming.names.vars bound ≡ Some bytes) × (is_variable bytes ≡ true))

-- the form is the variable in this place of the scope, of this sort
abbrev pub InScope : Scope → Sort → ℕ → Tree → Type 0
InScope scope sort var =
    Word (λ bytes. (slice_get scope var ≡ Some (record { word = bytes; sort = sort })) × (is_variable bytes ≡ true))

-- the form is a literal of this number
abbrev pub Literal : ℤ → Tree → Type 0
Literal value = Word (λ bytes. integer bytes ≡ Some value)

-- the form is the word of the kind that the locations of this name have
abbrev pub KindOf : Naming → ℕ → Tree → Type 0
KindOf naming name = Word (λ bytes. option_map (λ loc. kind_word loc.kind) (slice_get naming.locs name) ≡ Some bytes)

-- the owners of the locations of this name, and of its numbers
abbrev pub loc_class : Naming → ℕ → Option Class
loc_class naming name = option_map (λ loc. loc.class) (slice_get naming.locs name)

abbrev pub num_class : Naming → ℕ → Option Class
num_class naming name = option_map (λ num. num.class) (slice_get naming.nums name)
