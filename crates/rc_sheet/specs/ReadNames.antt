-- What a form says whose names are numbered already: names, owners, locations, stored numbers. Nothing is read off a form
-- that has no such meaning.
use Rattle.std.specs.Prelude.{ℕ, nat_le, Bool, false, ◌&&◌, if◌then◌else◌, List, length, slice_get, position, bytes_eq, Option, Some, None, option_map}
use Rattle.rc_base.specs.Tree.{Tree, word, list, Trees, nil, cons}
use Rattle.rc_sheet_spec.specs.Sheet.{Class, Sort, player_sort, LocKind, vloc, iloc, hloc, mem, LocName, NumName, Who, game, current_player, current_team, team_of_current, team_of_var, who_var, Loc, Num}
use Rattle.rc_base.specs.Limits.{most_variables}
use Rattle.rc_sheet_spec.specs.Naming.{Naming, Variable, Scope, class_of}
use Rattle.rc_sheet_spec.specs.Sheet.{same_sort, same_class}
use Rattle.rc_check.specs.Faults.{is_variable, is_form_word, rule_of, fits, count}
use Rattle.rc_check.specs.declared.keyword.Keyword.{Keyword}
use Rattle.rc_check.specs.declared.keyword.Keyword.TheVariants as keyword
use Rattle.rc_check.specs.declared.grammar.Symbol.{Symbol}
use Rattle.rc_check.specs.declared.grammar.Symbol.TheVariants as symbol
use Rattle.rc_check.specs.declared.grammar.Rule.{Rule}
use Rattle.rc_check.specs.declared.grammar.Rule.TheVariants as rule

infixl 10 ◌>>=◌
-- one reading after another
abbrev pub ◌>>=◌ : {A B : Type 0} → Option A → (A → Option B) → Option B
(Some x) >>= f = f x
None >>= f = None

-- goes on where a test holds
abbrev pub ensure : Bool → Option (Unit {0})
ensure holds = if holds then Some tt else None

-- one part and another
abbrev pub both : {A B : Type 0} → Option A → Option B → Option (A × B)
both first second = do
  a ← first
  b ← second
  Some (a, b)

-- the form that a list of these parts has at a place, where it has so many parts
abbrev pub sized : ℕ → Option Rule → Option Rule
sized n None = None
sized n (Some rule) = if fits n rule then Some rule else None

abbrev pub rule_at : Symbol → Trees → Option Rule
rule_at place parts = sized (count parts) (rule_of place parts)

-- the number of a plain word among these
unfoldable pub name_at : List (List ℕ) → Tree → Option ℕ
name_at words (word bytes from to) = if is_variable bytes then None else position (bytes_eq bytes) words
name_at words (list parts from to) = None

-- the number of a binder's variable among these words, where a scope has room for one more
unfoldable pub binder_at : List (List ℕ) → Scope → Tree → Option ℕ
binder_at words scope (word bytes from to) =
    if is_variable bytes && nat_le (length scope) most_variables then position (bytes_eq bytes) words else None
binder_at words scope (list parts from to) = None

abbrev pub has_sort : Sort → Option Variable → Bool
has_sort sort None = false
has_sort sort (Some variable) = same_sort variable.sort sort

-- the place in the scope of the first variable with this word
abbrev pub place_in : Scope → List ℕ → Option ℕ
place_in scope bytes = position (λ variable. bytes_eq bytes variable.word) scope

-- that place, where the variable has this sort
abbrev pub sorted : Scope → Sort → ℕ → Option ℕ
sorted scope sort place = if has_sort sort (slice_get scope place) then Some place else None

unfoldable pub variable_in : Scope → Sort → List ℕ → Option ℕ
variable_in scope sort bytes = if is_variable bytes then place_in scope bytes >>= sorted scope sort else None

-- PLAYER: `(current player)` or a variable
abbrev pub player_of_rule : Rule → Option Who
player_of_rule rule.CurrentPlayer = Some current_player
player_of_rule rule = None

unfoldable pub player_at : Scope → Tree → Option Who
player_at scope (word bytes from to) = option_map who_var (variable_in scope player_sort bytes)
player_at scope (list parts from to) = rule_at symbol.Player parts >>= player_of_rule

-- the team of a player
abbrev pub team_of : Who → Who
team_of (who_var var) = team_of_var var
team_of who = team_of_current

abbrev pub team_parts : Scope → Trees → Option Who
team_parts scope (cons head (cons second (cons player nil))) = option_map team_of (player_at scope player)
team_parts scope parts = None

-- OWNER: `(current team)`, `(team of PLAYER)` or a player
abbrev pub owner_rule : Scope → Rule → Trees → Option Who
owner_rule scope rule.CurrentPlayer parts = Some current_player
owner_rule scope rule.CurrentTeam parts = Some current_team
owner_rule scope rule.TeamOf parts = team_parts scope parts
owner_rule scope rule parts = None

unfoldable pub owner_at : Scope → Tree → Option Who
owner_at scope (word bytes from to) = option_map who_var (variable_in scope player_sort bytes)
owner_at scope (list parts from to) = rule_at symbol.Owner parts >>= λ rule. owner_rule scope rule parts

-- HOLDER: `game` or an owner
abbrev pub holder_at : Scope → Tree → Option Who
holder_at scope tree = if is_form_word keyword.Game tree then Some game else owner_at scope tree

-- the word of a kind of locations
abbrev pub kind_keyword : LocKind → Keyword
kind_keyword vloc = keyword.Vloc
kind_keyword iloc = keyword.Iloc
kind_keyword hloc = keyword.Hloc
kind_keyword mem = keyword.Mem

-- the locations of a name are of the kind that this word says and of this class, and its stored numbers are of this class
abbrev pub is_loc_name : Tree → Class → Option LocName → Bool
is_loc_name kind class None = false
is_loc_name kind class (Some loc) = is_form_word (kind_keyword loc.kind) kind && same_class loc.class class

abbrev pub is_num_name : Class → Option NumName → Bool
is_num_name class None = false
is_num_name class (Some num) = same_class num.class class

-- `(HOLDER KIND NAME)`, which begins here
unfoldable pub loc_parts : Naming → Scope → ℕ → Trees → Option Loc
loc_parts naming scope from (cons holder (cons kind (cons name nil))) = do
  who ← holder_at scope holder
  number ← name_at naming.names.locs name
  fine ← ensure (is_loc_name kind (class_of who) (slice_get naming.locs number))
  Some (record { who = who; name = number; at = from })
loc_parts naming scope from parts = None

abbrev pub loc_rule : Naming → Scope → ℕ → Trees → Rule → Option Loc
loc_rule naming scope from parts rule.Location = loc_parts naming scope from parts
loc_rule naming scope from parts rule = None

unfoldable pub loc_at : Naming → Scope → Tree → Option Loc
loc_at naming scope (word bytes from to) = None
loc_at naming scope (list parts from to) = rule_at symbol.Location parts >>= loc_rule naming scope from parts

-- `(HOLDER sto NAME)`
unfoldable pub num_parts : Naming → Scope → Trees → Option Num
num_parts naming scope (cons holder (cons sto (cons name nil))) = do
  fixed ← ensure (is_form_word keyword.Sto sto)
  who ← holder_at scope holder
  number ← name_at naming.names.nums name
  fine ← ensure (is_num_name (class_of who) (slice_get naming.nums number))
  Some (record { who = who; name = number })
num_parts naming scope parts = None

abbrev pub num_rule : Naming → Scope → Trees → Rule → Option Num
num_rule naming scope parts rule.Counter = num_parts naming scope parts
num_rule naming scope parts rule = None

unfoldable pub num_at : Naming → Scope → Tree → Option Num
num_at naming scope (word bytes from to) = None
num_at naming scope (list parts from to) = rule_at symbol.Counter parts >>= num_rule naming scope parts

-- `using MAP`, behind what is measured
unfoldable pub map_at : Naming → Tree → Tree → Option ℕ
map_at naming using map = if is_form_word keyword.Using using then name_at naming.names.maps map else None
