-- The second round of faults, of a form whose shape is right: what stands twice, is unknown, is of the wrong kind or is too
-- many, and a form without cards. What is earlier is what stands before a part in the text, setup lines in any order.
use Rattle.std.specs.Prelude.{ℕ, nat_le, nat_lt, ◌==◌, Bool, true, false, not, ◌&&◌, ◌||◌, if◌then◌else◌, List, [], ◌∷◌, ◌++◌, length, flat_map, sum, find, bytes_eq, Option, Some, None, is_some, is_none}
use Rattle.std.specs.List.{list_any, list_all}
use Rattle.rc_base.specs.Tree.{Tree, word, list, Trees}
use Rattle.rc_sheet_spec.specs.Sheet.{Class, game_class, player_class, team_class, Sort, player_sort, card_sort, group_sort}
use Rattle.rc_base.specs.Numbers.{below}
use Rattle.rc_base.specs.Limits.{most_cards, most_locations, most_numbers, most_attrs, most_values, most_maps, most_stages, most_sites, most_variables, most_repeats}
use Rattle.rc_sheet_spec.specs.Naming.{Variable, Scope}
use Rattle.rc_sheet_spec.specs.WellFormed.{Around, is_among}
use Rattle.rc_check.specs.Faults.{is_word, is_variable, rule_of, faults, first}
use Rattle.rc_sheet_spec.specs.Sheet.{same_sort, same_class}
use Rattle.rc_check.specs.Classes.{class_at}
use Rattle.rc_check.specs.SecondParts.{Role, used_attribute, used_value, used_map, given_value, deck_location, card_location, reference_location, second_side, Standing, Part, atom, form, parts_of, offset_of, is_binder, part_at, word_in}
use Rattle.rc_check.specs.SecondNames.{some_of, is_named, number_by, players_in, player_count, teams_in, team_count, team_players, members_in, cards_in, attributes_in, values_in, maps_in, mention_of, locations_in, numbers_of, first_mention, owned, stages_in, choices_in, different_count, OwnedMention}
pub use Rattle.rc_check.specs.declared.role.SideSort.{SideSort}
pub use Rattle.rc_check.specs.declared.role.SideSort.TheVariants.{Number as number_side, Card as card_side, Value as value_side, Player as player_side, Team as team_side}
use Rattle.rc_check.specs.declared.keyword.Keyword.TheVariants as keyword
use Rattle.rc_check.specs.declared.grammar.Symbol.{Symbol}
use Rattle.rc_check.specs.declared.grammar.Symbol.TheVariants as symbol
use Rattle.rc_check.specs.declared.grammar.Rule.{Rule}
use Rattle.rc_check.specs.declared.grammar.Rule.TheVariants as rule
use Rattle.rc_check.specs.declared.fault.SheetKind.{SheetKind}
use Rattle.rc_check.specs.declared.fault.SheetKind.TheVariants.{Twice, Unknown, WrongKind, TooMany, NoCards}
use Rattle.rc_check.specs.declared.fault.SheetFault.{SheetFault}

-- the variable in scope with this word
abbrev pub variable_in : Scope → List ℕ → Option Variable
variable_in scope bytes = find (λ variable. bytes_eq bytes variable.word) scope

-- a part behind the one line of teams that is looked into: the first
abbrev pub is_in_first_teams : List Part → Bool
is_in_first_teams earlier = length (flat_map teams_in earlier) == 1

-- TWICE

-- a player, written again in the teams
abbrev pub is_player_again : List Part → Symbol → List ℕ → Bool
is_player_again earlier symbol.Member bytes =
    is_in_first_teams earlier && is_among (number_by bytes) (flat_map members_in earlier)
is_player_again earlier place bytes = false

-- the variable of a binder of these parts is in scope already
abbrev pub is_bound : Standing → Trees → Bool
is_bound at parts = is_some (variable_in at.around.scope (word_in 2 parts))

-- a second line for the players or the teams, a point map's name again, an attribute again in a face, and a variable again
abbrev pub is_twice : List Part → Part → Bool
is_twice earlier (atom at bytes from) = is_player_again earlier at.place bytes
is_twice earlier (form at rule.CreatePlayers parts from) = some_of (flat_map players_in earlier)
is_twice earlier (form at rule.CreateTeams parts from) = some_of (flat_map teams_in earlier)
is_twice earlier (form at rule.PutPoints parts from) = is_named (word_in 2 parts) (flat_map maps_in earlier)
is_twice earlier (form at rule.Group parts from) = is_named (word_in 0 parts) at.above
is_twice earlier (form at rule parts from) = is_binder rule && is_bound at parts

-- UNKNOWN

-- the sorts of the variables that a place takes
abbrev pub sorts_at : Symbol → List Sort
sorts_at symbol.Holder = player_sort ∷ []
sorts_at symbol.Owner = player_sort ∷ []
sorts_at symbol.Player = player_sort ∷ []
sorts_at symbol.Card = card_sort ∷ []
sorts_at symbol.Collection = group_sort ∷ []
sorts_at symbol.Domain = group_sort ∷ []
sorts_at symbol.Members = group_sort ∷ []
sorts_at symbol.Side = player_sort ∷ card_sort ∷ []
sorts_at place = []

-- a variable that a place takes isn't in scope
abbrev pub is_unbound : Standing → List ℕ → Bool
is_unbound at bytes = is_variable bytes && some_of (sorts_at at.place) && is_none (variable_in at.around.scope bytes)

-- an expression's attribute or value that no deck and no points give, or a point map that isn't there
abbrev pub is_unnamed : List Part → Role → List ℕ → Bool
is_unnamed all used_attribute bytes = not (is_named bytes (flat_map attributes_in all))
is_unnamed all used_value bytes = not (is_named bytes (flat_map values_in all))
is_unnamed all used_map bytes = not (is_named bytes (flat_map maps_in all))
is_unnamed all role bytes = false

-- a member of a team who is none of the players
abbrev pub is_no_player : List Part → List Part → Symbol → List ℕ → Bool
is_no_player all earlier symbol.Member bytes = is_in_first_teams earlier && nat_le (player_count all) (number_by bytes)
is_no_player all earlier place bytes = false

-- some player stands in none of the teams of a line
abbrev pub leaves_out : List Part → Trees → Bool
leaves_out all parts = not (list_all (λ player. is_among player (team_players parts)) (below (player_count all)))

-- a stage of this class is around
abbrev pub is_in_stage : Around → Class → Bool
is_in_stage around game_class = false
is_in_stage around player_class = around.player_stage
is_in_stage around team_class = around.team_stage

abbrev pub is_unknown : List Part → List Part → Part → Bool
is_unknown all earlier (atom at bytes from) =
    is_unbound at bytes || is_unnamed all at.role bytes || is_no_player all earlier at.place bytes
is_unknown all earlier (form at rule.CreateTeams parts from) =
    not (some_of (flat_map teams_in earlier)) && leaves_out all parts
is_unknown all earlier (form at rule.CurrentPlayer parts from) = not at.around.player_stage
is_unknown all earlier (form at rule.CurrentTeam parts from) = not at.around.team_stage
is_unknown all earlier (form at rule.Choice parts from) = not at.around.player_stage
is_unknown all earlier (form at rule.Next parts from) = not (is_in_stage at.around (class_at (part_at 2 parts)))
is_unknown all earlier (form at rule.Reverse parts from) = not (at.around.player_stage || at.around.team_stage)
is_unknown all earlier (form at rule.Known parts from) = not at.around.player_stage
is_unknown all earlier (form at rule parts from) = false

-- WRONG KIND

-- a variable of none of these sorts
abbrev pub is_other_sort : List Sort → Option Variable → Bool
is_other_sort sorts None = false
is_other_sort sorts (Some variable) = not (list_any (same_sort variable.sort) sorts)

abbrev pub is_misused : Standing → List ℕ → Bool
is_misused at bytes =
    is_variable bytes && some_of (sorts_at at.place) && is_other_sort (sorts_at at.place)
    (variable_in at.around.scope bytes)

-- two sides are the same
abbrev pub same_side : SideSort → SideSort → Bool
same_side number_side number_side = true
same_side card_side card_side = true
same_side value_side value_side = true
same_side player_side player_side = true
same_side team_side team_side = true
same_side sort sort' = false

-- the sort of a variable as a side, of a list of this form, and of a tree
abbrev pub side_of_sort : Sort → Option SideSort
side_of_sort player_sort = Some player_side
side_of_sort card_sort = Some card_side
side_of_sort group_sort = None

abbrev pub side_of_variable : Option Variable → Option SideSort
side_of_variable None = None
side_of_variable (Some variable) = side_of_sort variable.sort

abbrev pub side_of_form : Option Rule → Option SideSort
side_of_form (Some rule.TopCard) = Some card_side
side_of_form (Some rule.BottomCard) = Some card_side
side_of_form (Some rule.MaxCard) = Some card_side
side_of_form (Some rule.MinCard) = Some card_side
side_of_form (Some rule.AttributeOf) = Some value_side
side_of_form (Some rule.CurrentPlayer) = Some player_side
side_of_form (Some rule.CurrentTeam) = Some team_side
side_of_form (Some rule.TeamOf) = Some team_side
side_of_form (Some rule) = Some number_side
side_of_form None = None

abbrev pub side_of : Scope → Tree → Option SideSort
side_of scope (word bytes from to) =
    if is_variable bytes then side_of_variable (variable_in scope bytes) else Some number_side
side_of scope (list parts from to) = side_of_form (rule_of symbol.Side parts)

-- two sides whose sorts are both known, and differ
abbrev pub differ : Option SideSort → Option SideSort → Bool
differ (Some first) (Some second) = not (same_side first second)
differ None second = false
differ (Some first) None = false

-- the second side of an equation is of another sort than the first
abbrev pub is_other_side : Standing → Role → Bool
is_other_side at second_side =
    differ (side_of at.around.scope (part_at 1 at.beside)) (side_of at.around.scope (part_at 2 at.beside))
is_other_side at role = false

-- the name of a mention stood earlier with another kind or class
abbrev pub differs_from : OwnedMention → Option OwnedMention → Bool
differs_from mention None = false
differs_from mention (Some first) = not (bytes_eq mention.kind first.kind && same_class mention.class first.class)

abbrev pub is_other_mention : List OwnedMention → OwnedMention → Bool
is_other_mention earlier mention = differs_from mention (first_mention mention.name earlier)

abbrev pub is_game : Class → Bool
is_game game_class = true
is_game class = false

-- a location that its place doesn't take: a deck's is the game's, and cards and references have locations of their own
abbrev pub is_misplaced : Role → OwnedMention → Bool
is_misplaced deck_location mention = not (is_game mention.class) || is_word keyword.Mem mention.kind
is_misplaced card_location mention = is_word keyword.Mem mention.kind
is_misplaced reference_location mention = not (is_word keyword.Mem mention.kind)
is_misplaced role mention = false

abbrev pub is_wrong_form : List Part → Standing → Rule → Trees → Bool
is_wrong_form earlier at rule.Location parts =
    is_other_mention (flat_map locations_in earlier) (mention_of parts) || is_misplaced at.role (mention_of parts)
is_wrong_form earlier at rule.Counter parts = is_other_mention (flat_map numbers_of earlier) (mention_of parts)
is_wrong_form earlier at rule parts = false

abbrev pub is_wrong_kind : List Part → Part → Bool
is_wrong_kind earlier (atom at bytes from) = is_misused at bytes || is_other_side at at.role
is_wrong_kind earlier (form at rule parts from) = is_wrong_form earlier at rule parts || is_other_side at at.role

-- TOO MANY

-- a count that is within its limit before a part passes it with the part
abbrev pub passes : ℕ → (List Part → ℕ) → List Part → Part → Bool
passes most count earlier part = nat_le (count earlier) most && nat_lt most (count (earlier ++ part ∷ []))

-- how many there are
abbrev pub card_count : List Part → ℕ
card_count parts = sum (flat_map cards_in parts)

abbrev pub attribute_count : List Part → ℕ
attribute_count parts = different_count (flat_map attributes_in parts)

abbrev pub value_count : List Part → ℕ
value_count parts = different_count (flat_map values_in parts)

abbrev pub map_count : List Part → ℕ
map_count parts = different_count (flat_map maps_in parts)

abbrev pub stage_count : List Part → ℕ
stage_count parts = length (flat_map stages_in parts)

abbrev pub choice_count : List Part → ℕ
choice_count parts = length (flat_map choices_in parts)

-- in a form of all these parts, of all owners
abbrev pub location_count : List Part → List Part → ℕ
location_count all parts = owned (player_count all) (team_count all) (flat_map locations_in parts)

abbrev pub number_count : List Part → List Part → ℕ
number_count all parts = owned (player_count all) (team_count all) (flat_map numbers_of parts)

-- the counts that an atom of this role adds to, and a part, each with its limit
abbrev pub atom_counts : Role → List (ℕ × (List Part → ℕ))
atom_counts given_value = (most_values, value_count) ∷ []
atom_counts role = []

abbrev pub counts_of : List Part → Part → List (ℕ × (List Part → ℕ))
counts_of all (atom at bytes from) = atom_counts at.role
counts_of all (form at rule.CreateDeck parts from) = (most_cards, card_count) ∷ []
counts_of all (form at rule.Location parts from) = (most_locations, location_count all) ∷ []
counts_of all (form at rule.Counter parts from) = (most_numbers, number_count all) ∷ []
counts_of all (form at rule.Group parts from) = (most_attrs, attribute_count) ∷ []
counts_of all (form at rule.Entry parts from) = (most_attrs, attribute_count) ∷ []
counts_of all (form at rule.PutPoints parts from) = (most_maps, map_count) ∷ []
counts_of all (form at rule.PlayerStage parts from) = (most_stages, stage_count) ∷ []
counts_of all (form at rule.TeamStage parts from) = (most_stages, stage_count) ∷ []
counts_of all (form at rule.Choice parts from) = (most_sites, choice_count) ∷ []
counts_of all (form at rule parts from) = []

-- a repeat inside two others, or a binder that would be the fifth around its body
abbrev pub is_deep : Around → Rule → Bool
is_deep around rule.Repeat = nat_le most_repeats around.repeats
is_deep around rule = is_binder rule && nat_le most_variables around.binders

abbrev pub is_too_deep : Part → Bool
is_too_deep (atom at bytes from) = false
is_too_deep (form at rule parts from) = is_deep at.around rule

abbrev pub is_too_many : List Part → List Part → Part → Bool
is_too_many all earlier part =
    list_any (λ count. passes count.0 count.1 earlier part) (counts_of all part) || is_too_deep part

-- NO CARDS

-- the setup of a form without a deck
abbrev pub lacks_cards : List Part → Part → Bool
lacks_cards all (form at rule.Setup parts from) = not (some_of (flat_map cards_in all))
lacks_cards all part = false

-- THE WHOLE ROUND

abbrev pub fault_where : Bool → SheetKind → Part → List SheetFault
fault_where holds kind part = if holds then record { kind = kind; at = offset_of part } ∷ [] else []

-- the faults of a part of a form of all these parts, behind the earlier ones
abbrev pub faults_of : List Part → List Part → Part → List SheetFault
faults_of all earlier part =
    fault_where (is_twice earlier part) Twice part
    ++ fault_where (is_unknown all earlier part) Unknown part
    ++ fault_where (is_wrong_kind earlier part) WrongKind part
    ++ fault_where (is_too_many all earlier part) TooMany part
    ++ fault_where (lacks_cards all part) NoCards part

-- the faults of the parts behind the earlier ones
abbrev pub faults_behind : List Part → List Part → List Part → List SheetFault
faults_behind all earlier [] = []
faults_behind all earlier (part ∷ later) = faults_of all earlier part ++ faults_behind all (earlier ++ part ∷ []) later

-- all faults of the second round, in the order of the text and of the kinds
abbrev pub second_faults : Tree → List SheetFault
second_faults tree = faults_behind (parts_of tree) [] (parts_of tree)

-- the one, or else the other
abbrev pub or_fault : Option SheetFault → Option SheetFault → Option SheetFault
or_fault (Some fault) other = Some fault
or_fault None other = other

-- The fault of a form: the first of the first round, else the first of the second.
abbrev pub sheet_fault : Tree → Option SheetFault
sheet_fault tree = or_fault (first (faults symbol.Sheet tree)) (first (second_faults tree))
