-- Where nothing is given: nothing is used and no number mentioned in a setup, no location in a face, no face behind a setup.
use Rattle.std.proofs.Common.{◌≡◌, ℕ, Bool, true, false, not, ◌&&◌, List, [], ◌∷◌, Some, flat_map, refl, ap}
use Rattle.std.specs.List.{list_any, list_all}
use Rattle.std.proofs.lemmas.Bool.{cond-false, not-true}
use Rattle.rc_base.specs.Tree.{Tree, Trees}
use Rattle.rc_check.specs.Grammar.{forms_of}
use Rattle.rc_check.specs.declared.grammar.Symbol.{Symbol}
use Rattle.rc_check.specs.declared.grammar.Symbol.TheVariants as symbol
use Rattle.rc_check.specs.declared.grammar.Rule.{Rule}
use Rattle.rc_check.specs.declared.grammar.Rule.TheVariants as rule
use Rattle.rc_check.specs.declared.role.Role.{Role}
use Rattle.rc_check.specs.declared.role.Role.TheVariants.{GivenValue as given_value}
use Rattle.rc_check.specs.SecondParts.{front_roles, role_in, Standing, form, parts_at}
use Rattle.rc_check.specs.SecondNames.{attributes_in, value_by, values_in, maps_in, locations_in, numbers_of}
use Rattle.rc_sheet.proofs.Bodies.{is_body, is_body_rule, is_used}
use Rattle.rc_sheet.proofs.Gathered.{quiet_at, quiet_role}
use Rattle.rc_sheet.proofs.Used.{used_in}
use Rattle.rc_sheet.proofs.Silent.{lies_in, tree_silent}

-- no role
abbrev pub never : Role → Bool
never role = false

pub never_roles : (quiet : Rule → Bool) (r : Rule) (outer : Role) (index : ℕ) → quiet r ≡ true → never outer ≡ false
    → never (role_in outer r index) ≡ false
never_roles quiet r outer index is none = refl

-- the places of a setup
abbrev pub in_setup : Symbol → Bool
in_setup symbol.Setup = true
in_setup symbol.Line = true
in_setup symbol.PlayerCount = true
in_setup symbol.Team = true
in_setup symbol.Member = true
in_setup symbol.Deck = true
in_setup symbol.Group = true
in_setup symbol.Branches = true
in_setup symbol.Branch = true
in_setup symbol.Entries = true
in_setup symbol.Entry = true
in_setup symbol.Values = true
in_setup symbol.Points = true
in_setup (symbol.Word keyword) = true
in_setup symbol.Name = true
in_setup symbol.Location = true
in_setup symbol.Holder = true
in_setup symbol.Kind = true
in_setup symbol.Player = true
in_setup place = false

-- forms that use nothing and are no stored number
abbrev uses_nothing : Rule → Bool
uses_nothing rule.Game = false
uses_nothing rule.Counter = false
uses_nothing r = not (list_any is_used (front_roles r))

uses_roles : (r : Rule) (outer : Role) (index : ℕ) → uses_nothing r ≡ true → is_used outer ≡ false
    → is_used (role_in outer r index) ≡ false
uses_roles rule.Game outer index quiet none = absurd cc
uses_roles rule.Counter outer index quiet none = absurd cc
uses_roles r outer index quiet none = quiet_role is_used r outer index (not-true (list_any is_used
    (front_roles r)) quiet) none refl refl

setup_lawful : (p : Symbol) → in_setup p ≡ true → list_all (λ r. uses_nothing r && lies_in in_setup r) (forms_of p) ≡ true
setup_lawful symbol.Setup inside = refl
setup_lawful p inside = cc

-- nothing is used in a setup
pub unused_in_setup : (takes : Role → Bool) → ((role : Role) → is_used role ≡ false → takes role ≡ false)
    → (at : Standing) (tree : Tree) → in_setup at.place ≡ true → is_used at.role ≡ false
    → flat_map (used_in takes) (parts_at (Some at) tree) ≡ []
unused_in_setup takes unused at tree inside none =
    tree_silent (used_in takes) in_setup uses_nothing is_used setup_lawful refl uses_roles
    (λ at bytes from quiet. cond-false (takes at.role) (bytes ∷ []) [] (unused at.role quiet))
    (λ at r parts from quiet. refl) at tree inside none

-- no number is mentioned there
no_counter : (at : Standing) (r : Rule) (parts : Trees) (from : ℕ) → uses_nothing r ≡ true
    → numbers_of (form at r parts from) ≡ []
no_counter at rule.Counter parts from quiet = absurd cc
no_counter at r parts from quiet = refl

pub no_number_in_setup : (at : Standing) (tree : Tree) → in_setup at.place ≡ true → is_used at.role ≡ false
    → flat_map numbers_of (parts_at (Some at) tree) ≡ []
no_number_in_setup at tree inside none =
    tree_silent numbers_of in_setup uses_nothing is_used setup_lawful refl uses_roles
    (λ at bytes from quiet. refl) no_counter at tree inside none

-- the places of faces, entries and teams
abbrev pub in_faces : Symbol → Bool
in_faces symbol.Team = true
in_faces symbol.Member = true
in_faces symbol.Deck = true
in_faces symbol.Group = true
in_faces symbol.Branches = true
in_faces symbol.Branch = true
in_faces symbol.Entries = true
in_faces symbol.Entry = true
in_faces symbol.Values = true
in_faces symbol.Points = true
in_faces (symbol.Word keyword) = true
in_faces symbol.Name = true
in_faces place = false

-- forms that are no location and no line of points
abbrev no_name : Rule → Bool
no_name rule.Game = false
no_name rule.Location = false
no_name rule.PutPoints = false
no_name r = true

faces_lawful : (p : Symbol) → in_faces p ≡ true → list_all (λ r. no_name r && lies_in in_faces r) (forms_of p) ≡ true
faces_lawful symbol.Team inside = refl
faces_lawful p inside = cc

no_location_form : (at : Standing) (r : Rule) (parts : Trees) (from : ℕ) → no_name r ≡ true
    → locations_in (form at r parts from) ≡ []
no_location_form at rule.Location parts from quiet = absurd cc
no_location_form at r parts from quiet = refl

no_map_form : (at : Standing) (r : Rule) (parts : Trees) (from : ℕ) → no_name r ≡ true → maps_in (form at r parts from) ≡ []
no_map_form at rule.PutPoints parts from quiet = absurd cc
no_map_form at r parts from quiet = refl

pub no_location_in_faces : (at : Standing) (tree : Tree) → in_faces at.place ≡ true
    → flat_map locations_in (parts_at (Some at) tree) ≡ []
no_location_in_faces at tree inside =
    tree_silent locations_in in_faces no_name never faces_lawful refl (never_roles no_name)
    (λ at bytes from quiet. refl) no_location_form at tree inside refl

pub no_map_in_faces : (at : Standing) (tree : Tree) → in_faces at.place ≡ true → flat_map maps_in (parts_at (Some at) tree) ≡ []
no_map_in_faces at tree inside =
    tree_silent maps_in in_faces no_name never faces_lawful refl (never_roles no_name)
    (λ at bytes from quiet. refl) no_map_form at tree inside refl

-- the places of teams
abbrev pub in_teams : Symbol → Bool
in_teams symbol.Team = true
in_teams symbol.Member = true
in_teams place = false

abbrev is_team : Rule → Bool
is_team rule.Team = true
is_team r = false

teams_lawful : (p : Symbol) → in_teams p ≡ true → list_all (λ r. is_team r && lies_in in_teams r) (forms_of p) ≡ true
teams_lawful symbol.Team inside = refl
teams_lawful p inside = cc

-- a value is given by its role alone
abbrev pub is_given : Role → Bool
is_given given_value = true
is_given role = false

no_value : (role : Role) (bytes : List ℕ) → is_given role ≡ false → value_by role bytes ≡ []
no_value given_value bytes none = absurd cc
no_value role bytes none = refl

team_roles : (r : Rule) (outer : Role) (index : ℕ) → is_team r ≡ true → is_given outer ≡ false
    → is_given (role_in outer r index) ≡ false
team_roles rule.Team outer index quiet none = refl
team_roles r outer index quiet none = absurd cc

no_attribute_team : (at : Standing) (r : Rule) (parts : Trees) (from : ℕ) → is_team r ≡ true
    → attributes_in (form at r parts from) ≡ []
no_attribute_team at rule.Team parts from quiet = refl
no_attribute_team at r parts from quiet = absurd cc

no_map_team : (at : Standing) (r : Rule) (parts : Trees) (from : ℕ) → is_team r ≡ true → maps_in (form at r parts from) ≡ []
no_map_team at rule.Team parts from quiet = refl
no_map_team at r parts from quiet = absurd cc

no_location_team : (at : Standing) (r : Rule) (parts : Trees) (from : ℕ) → is_team r ≡ true
    → locations_in (form at r parts from) ≡ []
no_location_team at rule.Team parts from quiet = refl
no_location_team at r parts from quiet = absurd cc

-- the parts of teams give nothing
pub no_attribute_in_team : (at : Standing) (tree : Tree) → at.place ≡ symbol.Team → is_given at.role ≡ false
    → flat_map attributes_in (parts_at (Some at) tree) ≡ []
no_attribute_in_team at tree here none =
    tree_silent attributes_in in_teams is_team is_given teams_lawful refl team_roles
    (λ at bytes from quiet. refl) no_attribute_team at tree (ap in_teams here) none

pub no_value_in_team : (at : Standing) (tree : Tree) → at.place ≡ symbol.Team → is_given at.role ≡ false
    → flat_map values_in (parts_at (Some at) tree) ≡ []
no_value_in_team at tree here none =
    tree_silent values_in in_teams is_team is_given teams_lawful refl team_roles
    (λ at bytes from quiet. no_value at.role bytes quiet) (λ at r parts from quiet. refl) at tree (ap in_teams here) none

pub no_map_in_team : (at : Standing) (tree : Tree) → at.place ≡ symbol.Team → is_given at.role ≡ false
    → flat_map maps_in (parts_at (Some at) tree) ≡ []
no_map_in_team at tree here none =
    tree_silent maps_in in_teams is_team is_given teams_lawful refl team_roles
    (λ at bytes from quiet. refl) no_map_team at tree (ap in_teams here) none

pub no_location_in_team : (at : Standing) (tree : Tree) → at.place ≡ symbol.Team → is_given at.role ≡ false
    → flat_map locations_in (parts_at (Some at) tree) ≡ []
no_location_in_team at tree here none =
    tree_silent locations_in in_teams is_team is_given teams_lawful refl team_roles
    (λ at bytes from quiet. refl) no_location_team at tree (ap in_teams here) none

-- behind a setup
body_lawful : (p : Symbol) → is_body p ≡ true → list_all (λ r. is_body_rule r && lies_in is_body r) (forms_of p) ≡ true
body_lawful symbol.Sheet inside = absurd cc
body_lawful p inside = cc

no_given : (r : Rule) → is_body_rule r ≡ true → list_any is_given (front_roles r) ≡ false
no_given rule.Branch body = absurd cc
no_given r body = refl

body_roles : (r : Rule) (outer : Role) (index : ℕ) → is_body_rule r ≡ true → is_given outer ≡ false
    → is_given (role_in outer r index) ≡ false
body_roles rule.TopOf outer index quiet none = none
body_roles rule.BottomOf outer index quiet none = none
body_roles rule.Branches outer index quiet none = absurd cc
body_roles rule.Values outer index quiet none = absurd cc
body_roles r outer index quiet none = quiet_at is_given (front_roles r) index (no_given r quiet) refl

no_attribute_form : (at : Standing) (r : Rule) (parts : Trees) (from : ℕ) → is_body_rule r ≡ true
    → attributes_in (form at r parts from) ≡ []
no_attribute_form at rule.Group parts from quiet = absurd cc
no_attribute_form at rule.Entry parts from quiet = absurd cc
no_attribute_form at r parts from quiet = refl

no_points_form : (at : Standing) (r : Rule) (parts : Trees) (from : ℕ) → is_body_rule r ≡ true
    → maps_in (form at r parts from) ≡ []
no_points_form at rule.PutPoints parts from quiet = absurd cc
no_points_form at r parts from quiet = refl

pub no_attribute_behind : (at : Standing) (tree : Tree) → is_body at.place ≡ true → is_given at.role ≡ false
    → flat_map attributes_in (parts_at (Some at) tree) ≡ []
no_attribute_behind at tree inside none =
    tree_silent attributes_in is_body is_body_rule is_given body_lawful refl body_roles
    (λ at bytes from quiet. refl) no_attribute_form at tree inside none

pub no_value_behind : (at : Standing) (tree : Tree) → is_body at.place ≡ true → is_given at.role ≡ false
    → flat_map values_in (parts_at (Some at) tree) ≡ []
no_value_behind at tree inside none =
    tree_silent values_in is_body is_body_rule is_given body_lawful refl body_roles
    (λ at bytes from quiet. no_value at.role bytes quiet) (λ at r parts from quiet. refl) at tree inside none

pub no_map_behind : (at : Standing) (tree : Tree) → is_body at.place ≡ true → is_given at.role ≡ false
    → flat_map maps_in (parts_at (Some at) tree) ≡ []
no_map_behind at tree inside none =
    tree_silent maps_in is_body is_body_rule is_given body_lawful refl body_roles
    (λ at bytes from quiet. refl) no_points_form at tree inside none
