-- What the setup of a form says.
use Rattle.std.specs.Prelude.{ℕ, nat_le, ◌&&◌, ◌==◌, if◌then◌else◌, List, [], ◌∷◌, ◌++◌, length, ℤ, pos, negsuc, Option, Some, None, is_none, option_map}
use Rattle.rc_base.specs.Tree.{Tree, word, list, Trees, nil, cons}
use Rattle.rc_base.specs.Literal.{integer}
use Rattle.rc_base.specs.Deck.{Entry}
use Rattle.rc_resolve.specs.NamedNumbers.{DeckNames}
use Rattle.rc_sheet_spec.specs.Sheet.{Teams, DeckLine, Sheet, Who, game}
use Rattle.rc_base.specs.Limits.{most_players}
use Rattle.rc_sheet_spec.specs.Naming.{Naming}
use Rattle.rc_resolve.specs.Reading.{read_deck, read_entries}
use Rattle.rc_sheet.specs.ReadNames.{◌>>=◌, both, ensure, rule_at, name_at, loc_at}
use Rattle.rc_check.specs.declared.grammar.Symbol.TheVariants as symbol
use Rattle.rc_check.specs.declared.grammar.Rule.{Rule}
use Rattle.rc_check.specs.declared.grammar.Rule.TheVariants as rule

pub record Setup : Type 0 where
  pub players : ℕ
  pub teams : Option Teams
  pub decks : List DeckLine
  pub points : List (List Entry)

-- what the lines before a place of the setup say
pub record Lines : Type 0 where
  pub players : Option ℕ
  pub teams : Option Teams
  pub decks : List DeckLine
  pub points : List (List Entry)

abbrev pub no_line : Lines
no_line = record { players = None; teams = None; decks = []; points = [] }

-- a literal of a number from one to another
abbrev pub within : ℕ → ℕ → ℤ → Option ℕ
within least most (pos n) = if nat_le least n && nat_le n most then Some n else None
within least most (negsuc n) = None

unfoldable pub count_at : ℕ → ℕ → Tree → Option ℕ
count_at least most (word bytes from to) = integer bytes >>= within least most
count_at least most (list parts from to) = None

-- `p+`, numbers of players
abbrev pub members_at : Trees → Option (List ℕ)
members_at nil = Some []
members_at (cons part parts) = option_map (λ p. p.0 ∷ p.1) (both (count_at 0 7 part) (members_at parts))

-- `(p+)`
abbrev pub team_rule : Rule → Trees → Option (List ℕ)
team_rule rule.Team parts = members_at parts
team_rule rule parts = None

unfoldable pub team_at : Tree → Option (List ℕ)
team_at (word bytes from to) = None
team_at (list parts from to) = rule_at symbol.Team parts >>= λ rule. team_rule rule parts

abbrev pub teams_at : Trees → Option Teams
teams_at nil = Some []
teams_at (cons part parts) = option_map (λ p. p.0 ∷ p.1) (both (team_at part) (teams_at parts))

-- the words of attributes and of values
abbrev pub face_words : Naming → DeckNames
face_words naming = record { attrs = naming.names.attrs; values = naming.names.values }

-- the number of a location's name, where it is the game's
abbrev pub home_of : Who → ℕ → Option ℕ
home_of game name = Some name
home_of who name = None

-- LOC and `(deck GROUP+)`
unfoldable pub deck_at : Naming → Tree → Tree → Option DeckLine
deck_at naming loc deck = do
  home ← loc_at naming [] loc
  number ← home_of home.who home.name
  groups ← read_deck (face_words naming) deck
  Some (record { loc = number; groups = groups })

-- MAP and `(ENTRY+)`, where the map has this number
unfoldable pub points_at : Naming → ℕ → Tree → Tree → Option (List Entry)
points_at naming number map entries = do
  found ← name_at naming.names.maps map
  fine ← ensure (found == number)
  read_entries (face_words naming) entries

-- What a line says, with the lines before it: there is one line for the players, and at most one for the teams.
unfoldable pub players_line : Lines → Tree → Option Lines
players_line before count = do
  first ← ensure (is_none before.players)
  players ← count_at 1 most_players count
  Some (record before { players = Some players })

unfoldable pub teams_line : Lines → Trees → Option Lines
teams_line before parts = do
  first ← ensure (is_none before.teams)
  teams ← teams_at parts
  Some (record before { teams = Some teams })

unfoldable pub deck_line : Naming → Lines → Tree → Tree → Option Lines
deck_line naming before loc tree = do
  deck ← deck_at naming loc tree
  Some (record before { decks = before.decks ++ deck ∷ [] })

unfoldable pub points_line : Naming → Lines → Tree → Tree → Option Lines
points_line naming before map tree = do
  entries ← points_at naming (length before.points) map tree
  Some (record before { points = before.points ++ entries ∷ [] })

abbrev pub line_rule : Naming → Lines → Rule → Trees → Option Lines
line_rule naming before rule.CreatePlayers (cons create (cons players (cons count nil))) = players_line before count
line_rule naming before rule.CreateTeams (cons create (cons teams parts)) = teams_line before parts
line_rule naming before rule.CreateDeck (cons create (cons deck (cons loc (cons tree nil)))) =
    deck_line naming before loc tree
line_rule naming before rule.PutPoints (cons put (cons points (cons map (cons tree nil)))) =
    points_line naming before map tree
line_rule naming before rule parts = None

unfoldable pub line_at : Naming → Lines → Tree → Option Lines
line_at naming before (word bytes from to) = None
line_at naming before (list parts from to) = rule_at symbol.Line parts >>= λ rule. line_rule naming before rule parts

abbrev pub lines_at : Naming → Lines → Trees → Option Lines
lines_at naming before nil = Some before
lines_at naming before (cons line lines) = line_at naming before line >>= λ next. lines_at naming next lines

-- what all lines say together
abbrev pub setup_of : Lines → Option Setup
setup_of lines = do
  players ← lines.players
  Some (record { players = players; teams = lines.teams; decks = lines.decks; points = lines.points })

-- the lines behind the word `setup`
abbrev pub setup_at : Naming → Trees → Option Setup
setup_at naming lines = lines_at naming no_line lines >>= setup_of

-- the setup that a sheet has
abbrev pub setup_in : Sheet → Setup
setup_in sheet = record { players = sheet.players; teams = sheet.teams; decks = sheet.decks; points = sheet.points }
