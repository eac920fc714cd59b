-- The second round in one walk over the parts: what is known of the whole form before it, what earlier parts leave behind, and
-- the first fault of a part behind them.
use Rattle.std.specs.Prelude.{ℕ, ◌+◌, ◌-◌, min, nat_lt, nat_le, Bool, true, false, not, ◌&&◌, ◌||◌, if◌then◌else◌, List, [], ◌∷◌, ◌++◌, length, unwrap_or, Option, Some, None, option_map, is_some, Result, Ok, Err}
use Rattle.std.specs.List.{list_all}
use Rattle.rc_base.specs.Tree.{Trees}
use Rattle.rc_base.specs.Words.{with_word}
use Rattle.rc_base.specs.Numbers.{below}
use Rattle.rc_base.specs.Limits.{most_cards, most_locations, most_numbers, most_attrs, most_values, most_maps, most_stages, most_sites}
use Rattle.rc_sheet_spec.specs.WellFormed.{is_among}
use Rattle.rc_check.specs.Faults.{count}
use Rattle.rc_sheet_spec.specs.WellFormed.{owner_count_by}
use Rattle.rc_check.specs.Classes.{class_at}
use Rattle.rc_check.specs.SecondParts.{Role, used_attribute, used_value, used_map, given_value, Standing, Part, atom, form, offset_of, is_binder, part_at, word_in}
use Rattle.rc_check.specs.SecondNames.{is_named, number_by, number_at, team_players, member_by, faces_of, mention_of, first_mention, OwnedMention}
use Rattle.rc_check.specs.SecondFaults.{is_bound, is_unbound, is_in_stage, is_misused, is_other_side, is_other_mention, is_misplaced, is_too_deep}
use Rattle.rc_check.specs.declared.grammar.Symbol.{Symbol}
use Rattle.rc_check.specs.declared.grammar.Symbol.TheVariants as symbol
use Rattle.rc_check.specs.declared.grammar.Rule.{Rule}
use Rattle.rc_check.specs.declared.grammar.Rule.TheVariants as rule
use Rattle.rc_check.specs.declared.fault.SheetKind.{SheetKind}
use Rattle.rc_check.specs.declared.fault.SheetKind.TheVariants.{Twice, Unknown, WrongKind, TooMany, NoCards}
use Rattle.rc_check.specs.declared.fault.SheetFault.{SheetFault}

-- WORDS AND COUNTS

-- how many words more it is with this one
abbrev pub new_words : List ℕ → List (List ℕ) → ℕ
new_words word words = if is_named word words then 0 else 1

-- these different words, and one more where it is a value that the setup gives
abbrev pub with_value : Role → List ℕ → List (List ℕ) → List (List ℕ)
with_value given_value bytes words = with_word words bytes
with_value role bytes words = words

-- A count and so many more. It stops one above its limit.
abbrev pub counted : ℕ → ℕ → ℕ → ℕ
counted most n more = min (n + more) (most + 1)

-- a count that is within its limit passes it with so many more
abbrev pub goes_over : ℕ → ℕ → ℕ → Bool
goes_over most n more = nat_le n most && nat_lt most (n + more)

-- THE WHOLE FORM

-- What is known of the whole form: how many players its first line of players says, and how many teams its first line of
-- teams; the different attributes, values and point maps that its setup gives; and whether a line makes a deck.
pub record Whole : Type 0 where
  pub players : Option ℕ
  pub teams : Option ℕ
  pub attributes : List (List ℕ)
  pub values : List (List ℕ)
  pub maps : List (List ℕ)
  pub has_deck : Bool

abbrev pub nothing_known : Whole
nothing_known =
    record { players = None; teams = None; attributes = []; values = []; maps = []; has_deck = false }

-- a number that is known, or else this one
abbrev pub or_number : Option ℕ → ℕ → Option ℕ
or_number (Some n) other = Some n
or_number None other = Some other

-- what is known behind a part
abbrev pub know_form : Whole → Rule → Trees → Whole
know_form known rule.CreatePlayers parts =
    record known { players = or_number known.players (number_at (part_at 2 parts)) }
know_form known rule.CreateTeams parts = record known { teams = or_number known.teams (count parts - 2) }
know_form known rule.CreateDeck parts = record known { has_deck = true }
know_form known rule.Group parts = record known { attributes = with_word known.attributes (word_in 0 parts) }
know_form known rule.Entry parts = record known { attributes = with_word known.attributes (word_in 0 parts) }
know_form known rule.PutPoints parts = record known { maps = with_word known.maps (word_in 2 parts) }
know_form known rule parts = known

abbrev pub know : Whole → Part → Whole
know known (atom at bytes from) = record known { values = with_value at.role bytes known.values }
know known (form at rule parts from) = know_form known rule parts

abbrev pub know_all : Whole → List Part → Whole
know_all known [] = known
know_all known (part ∷ parts) = know_all (know known part) parts

abbrev pub whole_of : List Part → Whole
whole_of parts = know_all nothing_known parts

-- how many players there are, and teams; without a line of teams each player is a team
abbrev pub players_of : Whole → ℕ
players_of whole = unwrap_or whole.players 0

abbrev pub teams_of : Whole → ℕ
teams_of whole = unwrap_or whole.teams (players_of whole)

-- WHAT EARLIER PARTS LEAVE BEHIND

-- The locations, or the numbers, so far: the first mention of each name, and how many there are of all owners, as far as one
-- above the limit.
pub record Owned : Type 0 where
  pub firsts : List OwnedMention
  pub total : ℕ

-- Whether a line of players stood, and a line of teams; whether just one line of teams did; the players in teams; the different
-- point maps, attributes and values; locations and numbers; and how many cards, stages and choices there are, each as far as
-- one above its limit.
pub record Summary : Type 0 where
  pub has_players : Bool
  pub has_teams : Bool
  pub in_first_teams : Bool
  pub members : List ℕ
  pub maps : List (List ℕ)
  pub attributes : List (List ℕ)
  pub values : List (List ℕ)
  pub locations : Owned
  pub numbers : Owned
  pub cards : ℕ
  pub stages : ℕ
  pub choices : ℕ

abbrev pub nothing_owned : Owned
nothing_owned = record { firsts = []; total = 0 }

abbrev pub nothing_seen : Summary
nothing_seen =
    record {
      has_players = false;
      has_teams = false;
      in_first_teams = false;
      members = [];
      maps = [];
      attributes = [];
      values = [];
      locations = nothing_owned;
      numbers = nothing_owned;
      cards = 0;
      stages = 0;
      choices = 0;
    }

-- the name of a mention stood earlier
abbrev pub is_mentioned : OwnedMention → Owned → Bool
is_mentioned mention owned = is_some (first_mention mention.name owned.firsts)

-- how many owners there are of a mention's class
abbrev pub owners_of : Whole → OwnedMention → ℕ
owners_of whole mention = owner_count_by (players_of whole) (teams_of whole) mention.class

-- how many locations, or numbers, a mention makes
abbrev pub new_owned : Whole → OwnedMention → Owned → ℕ
new_owned whole mention owned = if is_mentioned mention owned then 0 else owners_of whole mention

-- what there is behind a mention
abbrev pub with_mention : Whole → ℕ → OwnedMention → Owned → Owned
with_mention whole most mention owned =
    if is_mentioned mention owned then owned
    else record { firsts = owned.firsts ++ mention ∷ []; total = counted most owned.total (owners_of whole mention) }

-- what a part leaves behind
abbrev pub see_atom : Summary → Standing → List ℕ → Summary
see_atom seen at bytes =
    record seen { members = seen.members ++ member_by at.place bytes; values = with_value at.role bytes seen.values }

abbrev pub see_form : Whole → Summary → Rule → Trees → Summary
see_form whole seen rule.CreatePlayers parts = record seen { has_players = true }
see_form whole seen rule.CreateTeams parts = record seen { has_teams = true; in_first_teams = not seen.has_teams }
see_form whole seen rule.CreateDeck parts =
    record seen { cards = counted most_cards seen.cards (faces_of (part_at 3 parts)) }
see_form whole seen rule.Group parts = record seen { attributes = with_word seen.attributes (word_in 0 parts) }
see_form whole seen rule.Entry parts = record seen { attributes = with_word seen.attributes (word_in 0 parts) }
see_form whole seen rule.PutPoints parts = record seen { maps = with_word seen.maps (word_in 2 parts) }
see_form whole seen rule.Location parts =
    record seen { locations = with_mention whole most_locations (mention_of parts) seen.locations }
see_form whole seen rule.Counter parts =
    record seen { numbers = with_mention whole most_numbers (mention_of parts) seen.numbers }
see_form whole seen rule.PlayerStage parts = record seen { stages = counted most_stages seen.stages 1 }
see_form whole seen rule.TeamStage parts = record seen { stages = counted most_stages seen.stages 1 }
see_form whole seen rule.Choice parts = record seen { choices = counted most_sites seen.choices 1 }
see_form whole seen rule parts = seen

abbrev pub see : Whole → Summary → Part → Summary
see whole seen (atom at bytes from) = see_atom seen at bytes
see whole seen (form at rule parts from) = see_form whole seen rule parts

abbrev pub see_all : Whole → Summary → List Part → Summary
see_all whole seen [] = seen
see_all whole seen (part ∷ parts) = see_all whole (see whole seen part) parts

abbrev pub summary_of : Whole → List Part → Summary
summary_of whole parts = see_all whole nothing_seen parts

-- THE FIRST FAULT OF A PART BEHIND WHAT WAS SEEN

-- TWICE
abbrev pub is_member_again : Summary → Symbol → List ℕ → Bool
is_member_again seen symbol.Member bytes = seen.in_first_teams && is_among (number_by bytes) seen.members
is_member_again seen place bytes = false

abbrev pub is_form_again : Summary → Standing → Rule → Trees → Bool
is_form_again seen at rule.CreatePlayers parts = seen.has_players
is_form_again seen at rule.CreateTeams parts = seen.has_teams
is_form_again seen at rule.PutPoints parts = is_named (word_in 2 parts) seen.maps
is_form_again seen at rule.Group parts = is_named (word_in 0 parts) at.above
is_form_again seen at rule parts = is_binder rule && is_bound at parts

abbrev pub is_again : Summary → Part → Bool
is_again seen (atom at bytes from) = is_member_again seen at.place bytes
is_again seen (form at rule parts from) = is_form_again seen at rule parts

-- UNKNOWN
abbrev pub is_not_given : Whole → Role → List ℕ → Bool
is_not_given whole used_attribute bytes = not (is_named bytes whole.attributes)
is_not_given whole used_value bytes = not (is_named bytes whole.values)
is_not_given whole used_map bytes = not (is_named bytes whole.maps)
is_not_given whole role bytes = false

abbrev pub is_stranger : Whole → Summary → Symbol → List ℕ → Bool
is_stranger whole seen symbol.Member bytes = seen.in_first_teams && nat_le (players_of whole) (number_by bytes)
is_stranger whole seen place bytes = false

-- some of so many players stands in none of the teams of a line
abbrev pub misses_player : ℕ → Trees → Bool
misses_player players parts = not (list_all (λ player. is_among player (team_players parts)) (below players))

abbrev pub is_unknown_atom : Whole → Summary → Standing → List ℕ → Bool
is_unknown_atom whole seen at bytes =
    is_unbound at bytes || is_not_given whole at.role bytes || is_stranger whole seen at.place bytes

abbrev pub is_unknown_form : Whole → Summary → Standing → Rule → Trees → Bool
is_unknown_form whole seen at rule.CreateTeams parts = not seen.has_teams && misses_player (players_of whole) parts
is_unknown_form whole seen at rule.CurrentPlayer parts = not at.around.player_stage
is_unknown_form whole seen at rule.CurrentTeam parts = not at.around.team_stage
is_unknown_form whole seen at rule.Choice parts = not at.around.player_stage
is_unknown_form whole seen at rule.Next parts = not (is_in_stage at.around (class_at (part_at 2 parts)))
is_unknown_form whole seen at rule.Reverse parts = not (at.around.player_stage || at.around.team_stage)
is_unknown_form whole seen at rule.Known parts = not at.around.player_stage
is_unknown_form whole seen at rule parts = false

abbrev pub is_not_known : Whole → Summary → Part → Bool
is_not_known whole seen (atom at bytes from) = is_unknown_atom whole seen at bytes
is_not_known whole seen (form at rule parts from) = is_unknown_form whole seen at rule parts

-- WRONG KIND
abbrev pub is_wrong_mention : Summary → Standing → Rule → Trees → Bool
is_wrong_mention seen at rule.Location parts =
    is_other_mention seen.locations.firsts (mention_of parts) || is_misplaced at.role (mention_of parts)
is_wrong_mention seen at rule.Counter parts = is_other_mention seen.numbers.firsts (mention_of parts)
is_wrong_mention seen at rule parts = false

abbrev pub is_wrong : Summary → Part → Bool
is_wrong seen (atom at bytes from) = is_misused at bytes || is_other_side at at.role
is_wrong seen (form at rule parts from) = is_wrong_mention seen at rule parts || is_other_side at at.role

-- TOO MANY
abbrev pub is_value_over : Summary → Role → List ℕ → Bool
is_value_over seen given_value bytes = goes_over most_values (length seen.values) (new_words bytes seen.values)
is_value_over seen role bytes = false

abbrev pub is_form_over : Whole → Summary → Rule → Trees → Bool
is_form_over whole seen rule.CreateDeck parts = goes_over most_cards seen.cards (faces_of (part_at 3 parts))
is_form_over whole seen rule.Location parts =
    goes_over most_locations seen.locations.total (new_owned whole (mention_of parts) seen.locations)
is_form_over whole seen rule.Counter parts =
    goes_over most_numbers seen.numbers.total (new_owned whole (mention_of parts) seen.numbers)
is_form_over whole seen rule.Group parts =
    goes_over most_attrs (length seen.attributes) (new_words (word_in 0 parts) seen.attributes)
is_form_over whole seen rule.Entry parts =
    goes_over most_attrs (length seen.attributes) (new_words (word_in 0 parts) seen.attributes)
is_form_over whole seen rule.PutPoints parts =
    goes_over most_maps (length seen.maps) (new_words (word_in 2 parts) seen.maps)
is_form_over whole seen rule.PlayerStage parts = goes_over most_stages seen.stages 1
is_form_over whole seen rule.TeamStage parts = goes_over most_stages seen.stages 1
is_form_over whole seen rule.Choice parts = goes_over most_sites seen.choices 1
is_form_over whole seen rule parts = false

abbrev pub is_over : Whole → Summary → Part → Bool
is_over whole seen (atom at bytes from) = is_value_over seen at.role bytes
is_over whole seen (form at rule parts from) =
    is_form_over whole seen rule parts || is_too_deep (form at rule parts from)

-- NO CARDS
abbrev pub is_setup_without_deck : Whole → Part → Bool
is_setup_without_deck whole (form at rule.Setup parts from) = not whole.has_deck
is_setup_without_deck whole part = false

-- the first of the five that a part is at fault by
abbrev pub kind_by : Whole → Summary → Part → Option SheetKind
kind_by whole seen part =
    if is_again seen part then Some Twice
    else if is_not_known whole seen part then Some Unknown
    else if is_wrong seen part then Some WrongKind
    else if is_over whole seen part then Some TooMany
    else if is_setup_without_deck whole part then Some NoCards
    else None

abbrev pub fault_by : Whole → Summary → Part → Option SheetFault
fault_by whole seen part = option_map (λ kind. record { kind = kind; at = offset_of part }) (kind_by whole seen part)

-- THE WALK

-- a fault, or what follows without one
abbrev pub or_on : Option SheetFault → Result Summary SheetFault → Result Summary SheetFault
or_on (Some fault) next = Err fault
or_on None next = next

-- the fault of the first part that has one, or else what all parts leave behind
abbrev pub check_all : Whole → Summary → List Part → Result Summary SheetFault
check_all whole seen [] = Ok seen
check_all whole seen (part ∷ parts) = or_on (fault_by whole seen part) (check_all whole (see whole seen part) parts)
