-- The fields of a reader and of a scope.
use Rattle.std.specs.Prelude.{◌≡◌, ◌≤◌, ℕ, List, length, map, position, bytes_eq}
use Rattle.std.specs.BTreeMap.{BTreeMap, get}
use Rattle.std.specs.Cmp.Lexicographic.{slice_cmp}
use Rattle.std.specs.Ordering.{nat_cmp}
use Rattle.rc_base.specs.Limits.{most_attrs, most_values, most_maps, most_locations, most_numbers}
use Rattle.rc_sheet_spec.specs.Naming.{Naming}
use Rattle.rc_sheet_spec.specs.Naming.{Variable as PureVariable}
use Rattle.rc_sheet_spec.specs.Naming.{Scope as PureScope}
use Rattle.rc_ast.specs.Names.{names_seen, loc_name_seen, num_name_seen}
use Rattle.rc_sheet.specs.declared.scope.ScopedVariable.{ScopedVariable}
use Rattle.rc_sheet.specs.declared.scope.Scope.TheInside.{Inside as ScopeFields}
use Rattle.rc_sheet.specs.declared.reader.Reader.TheInside.{Inside as Fields}

abbrev pub variable_seen : ScopedVariable → PureVariable
variable_seen variable = record { word = variable.word; sort = variable.sort }

abbrev pub scope_seen : ScopeFields → PureScope
scope_seen scope = map variable_seen scope.variables.items

-- `'SELF` and four more at most
pub record IsScope (scope : ScopeFields) : Type 0 where
  pub few : length scope.variables.items ≤ 5

abbrev pub naming_seen : Fields → Naming
naming_seen reader =
    record {
      names = names_seen reader.names;
      locs = map loc_name_seen reader.locs.items;
      nums = map num_name_seen reader.nums.items;
    }

-- the map gives each of these words its first place, and no other word a number
abbrev pub Numbers : List (List ℕ) → BTreeMap (List ℕ) ℕ → Type 0
Numbers words numbers = (word : List ℕ) → get (slice_cmp nat_cmp) numbers word ≡ position (bytes_eq word) words

-- there are few names of each kind, but of variables, and each variable is found
pub record IsReader (reader : Fields) : Type 0 where
  pub attrs : length reader.names.attrs.items ≤ most_attrs
  pub values : length reader.names.values.items ≤ most_values
  pub maps : length reader.names.maps.items ≤ most_maps
  pub locs : length reader.names.locs.items ≤ most_locations
  pub nums : length reader.names.nums.items ≤ most_numbers
  pub vars : length reader.names.vars.items ≤ 4294967295
  pub numbers : Numbers reader.names.vars.items reader.variables
