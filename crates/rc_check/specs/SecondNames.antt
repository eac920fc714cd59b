-- What the parts of a form mention and count: players, teams, cards, names, stages and choices.
use Rattle.std.specs.Prelude.{ℕ, ◌+◌, ◌*◌, ◌-◌, Bool, true, false, if◌then◌else◌, List, [], ◌∷◌, ◌++◌, length, slice_index_or, flat_map, find, sum_by, bytes_eq, nat_abs, unwrap_or, Option, option_map}
use Rattle.std.specs.List.{list_any}
use Rattle.rc_base.specs.Literal.{integer}
use Rattle.rc_base.specs.Tree.{Tree, word, list, Trees, nil, cons}
use Rattle.rc_sheet_spec.specs.Sheet.{Class}
use Rattle.rc_base.specs.Words.{different}
use Rattle.rc_check.specs.Faults.{count}
use Rattle.rc_sheet_spec.specs.WellFormed.{owner_count_by}
use Rattle.rc_check.specs.Classes.{class_at}
use Rattle.rc_check.specs.SecondParts.{Role, given_value, Part, atom, form, part_at, word_in}
use Rattle.rc_check.specs.declared.grammar.Symbol.{Symbol}
use Rattle.rc_check.specs.declared.grammar.Symbol.TheVariants as symbol
use Rattle.rc_check.specs.declared.grammar.Rule.TheVariants as rule

-- there is one
abbrev pub some_of : {A : Type 0} → List A → Bool
some_of [] = false
some_of (x ∷ xs) = true

-- the word stands among these
abbrev pub is_named : List ℕ → List (List ℕ) → Bool
is_named name names = list_any (bytes_eq name) names

-- the number that an atom spells where a player, or how many players there are, is written
abbrev pub number_by : List ℕ → ℕ
number_by bytes = unwrap_or (option_map nat_abs (integer bytes)) 0

abbrev pub number_at : Tree → ℕ
number_at (word bytes from to) = number_by bytes
number_at (list parts from to) = 0

-- how many players each line says
abbrev pub players_in : Part → List ℕ
players_in (form at rule.CreatePlayers parts from) = number_at (part_at 2 parts) ∷ []
players_in part = []

-- how many players there are: the first line says it
abbrev pub player_count : List Part → ℕ
player_count parts = slice_index_or (flat_map players_in parts) 0 0

-- the parts of each line of teams, which are its two head words and the teams
abbrev pub teams_in : Part → List Trees
teams_in (form at rule.CreateTeams parts from) = parts ∷ []
teams_in part = []

-- how many teams the first line says; without one each player is a team
abbrev pub teams_by : ℕ → List Trees → ℕ
teams_by players [] = players
teams_by players (parts ∷ later) = count parts - 2

abbrev pub team_count : List Part → ℕ
team_count parts = teams_by (player_count parts) (flat_map teams_in parts)

-- the players who stand in the lists among the parts of a line
abbrev pub numbers_in : Trees → List ℕ
numbers_in nil = []
numbers_in (cons tree trees) = number_at tree ∷ numbers_in trees

abbrev pub team_players : Trees → List ℕ
team_players nil = []
team_players (cons (word bytes from to) trees) = team_players trees
team_players (cons (list team from to) trees) = numbers_in team ++ team_players trees

-- the player who is written in a team
abbrev pub member_by : Symbol → List ℕ → List ℕ
member_by symbol.Member bytes = number_by bytes ∷ []
member_by place bytes = []

abbrev pub members_in : Part → List ℕ
members_in (atom at bytes from) = member_by at.place bytes
members_in part = []

-- how many faces a deck's tree has: the product over its groups, of the sum over their branches
abbrev mutual
  pub written_faces : Trees → ℕ
  written_faces nil = 1
  written_faces (cons (word bytes from to) groups) = written_faces groups
  written_faces (cons (list (cons attr (cons (list branches from to) nil)) from' to') groups) =
      written_branches branches * written_faces groups
  written_faces (cons (list parts from to) groups) = written_faces groups

  pub written_branches : Trees → ℕ
  written_branches nil = 0
  written_branches (cons (word bytes from to) branches) = 1 + written_branches branches
  written_branches (cons (list groups from to) branches) = written_faces groups + written_branches branches

abbrev pub faces_of : Tree → ℕ
faces_of (list groups from to) = written_faces groups
faces_of (word bytes from to) = 0

-- how many cards each deck line makes
abbrev pub cards_in : Part → List ℕ
cards_in (form at rule.CreateDeck parts from) = faces_of (part_at 3 parts) ∷ []
cards_in part = []

-- the attributes, the values and the point maps that decks and points give
abbrev pub attributes_in : Part → List (List ℕ)
attributes_in (form at rule.Group parts from) = word_in 0 parts ∷ []
attributes_in (form at rule.Entry parts from) = word_in 0 parts ∷ []
attributes_in part = []

abbrev pub value_by : Role → List ℕ → List (List ℕ)
value_by given_value bytes = bytes ∷ []
value_by role bytes = []

abbrev pub values_in : Part → List (List ℕ)
values_in (atom at bytes from) = value_by at.role bytes
values_in part = []

abbrev pub maps_in : Part → List (List ℕ)
maps_in (form at rule.PutPoints parts from) = word_in 2 parts ∷ []
maps_in part = []

-- A mention of a location or of a stored number: its name, the word of its kind (`sto` with a number), and the class of its
-- owner as it is written.
pub record OwnedMention : Type 0 where
  pub name : List ℕ
  pub kind : List ℕ
  pub class : Class

abbrev pub mention_of : Trees → OwnedMention
mention_of parts = record { name = word_in 2 parts; kind = word_in 1 parts; class = class_at (part_at 0 parts) }

abbrev pub locations_in : Part → List OwnedMention
locations_in (form at rule.Location parts from) = mention_of parts ∷ []
locations_in part = []

abbrev pub numbers_of : Part → List OwnedMention
numbers_of (form at rule.Counter parts from) = mention_of parts ∷ []
numbers_of part = []

-- the first mention of a name
abbrev pub first_mention : List ℕ → List OwnedMention → Option OwnedMention
first_mention name mentions = find (λ mention. bytes_eq name mention.name) mentions

-- the mentions of names that these words don't have, the first of each name alone
abbrev pub firsts_from : List (List ℕ) → List OwnedMention → List OwnedMention
firsts_from seen [] = []
firsts_from seen (mention ∷ mentions) =
    if is_named mention.name seen then firsts_from seen mentions
    else mention ∷ firsts_from (mention.name ∷ seen) mentions

-- How many there are in all of the owners of these names: each name has one location, or one number, for each owner of its
-- class.
abbrev pub owned : ℕ → ℕ → List OwnedMention → ℕ
owned players teams mentions = sum_by (λ mention. owner_count_by players teams mention.class) (firsts_from [] mentions)

-- stages and choices
abbrev pub stages_in : Part → List ℕ
stages_in (form at rule.PlayerStage parts from) = from ∷ []
stages_in (form at rule.TeamStage parts from) = from ∷ []
stages_in part = []

abbrev pub choices_in : Part → List ℕ
choices_in (form at rule.Choice parts from) = from ∷ []
choices_in part = []

-- how many different words there are
abbrev pub different_count : List (List ℕ) → ℕ
different_count words = length (different words)
