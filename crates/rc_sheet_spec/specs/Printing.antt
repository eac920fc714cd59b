-- The one form that stands for a sheet as it is printed, and its bytes. Its offsets are all 0, since nothing that is printed
-- depends on them. A number that no word has is printed as an empty atom.
use Prim.Native.String.{String}
use Rattle.std.specs.Prelude.{ℕ, List, [], ◌∷◌, ◌++◌, map, slice_get, slice_index_or, codes, ℤ, pos, Option, None, Some}
use Rattle.std.specs.Fmt.{signed_decimal}
use Rattle.rc_base.specs.Tree.{Tree, word, list, printed}
pub use Rattle.rc_base.specs.Tree.{packed}
use Rattle.rc_base.specs.Deck.{Groups, no_group, group, Branches, no_branch, branch, Entry}
use Rattle.rc_sheet_spec.specs.Sheet.{Teams, Best, highest, lowest, Class, game_class, player_class, team_class, End, top, bottom, LocName, Who, game, current_player, current_team, team_of_current, team_of_var, who_var, Loc, Num, CardExpr, card_var, top_card, bottom_card, max_card, min_card, CollExpr, group_var, cards_in, filtered, union_of, known_in, CollExprs, no_coll, coll, IntExpr, literal, number, size_of, sum_of, worth_of, add, subtract, multiply, Test, eq_int, eq_card, eq_attr, eq_who, ne, less, less_eq, more, more_eq, has_value, and_of, or_of, not_of, all_of, any_of, Tests, no_test, test, Domain, each_player, each_card, each_group, Effect, move, move_all, remember, forget, shuffle, set_to, increase, decrease, when, repeat, for_each, next_is, turn_round, peek, Effects, no_effect, effect, Alt, do_alt, if_alt, any_alt, SheetItem, do_item, stage, choice, SheetItems, no_item, item, DeckLine, Sheet}
use Rattle.rc_sheet_spec.specs.Naming.{Naming, kind_word, sheet_naming}
use Rattle.rc_sheet_spec.specs.StandsSetup.{numbered}

-- an atom, and a list of forms
abbrev pub atom : List ℕ → Tree
atom bytes = word bytes 0 0

abbrev pub keyword : String → Tree
keyword text = atom (codes text)

abbrev pub row : List Tree → Tree
row parts = list (packed parts) 0 0

-- the word with this number, and a number in decimal digits
abbrev pub named : List (List ℕ) → ℕ → Tree
named words place = atom (slice_index_or words place [])

abbrev pub number_form : ℤ → Tree
number_form value = atom (signed_decimal value)

-- the words of the variables in scope, from outside to inside
abbrev pub Bound : Type 0
Bound = List (List ℕ)

-- those behind a binder
abbrev pub binding : Naming → Bound → ℕ → Bound
binding naming bound var = bound ++ slice_index_or naming.names.vars var [] ∷ []

abbrev pub who_form : Bound → Who → Tree
who_form bound game = keyword "game"
who_form bound current_player = row (keyword "current" ∷ keyword "player" ∷ [])
who_form bound current_team = row (keyword "current" ∷ keyword "team" ∷ [])
who_form bound team_of_current = row (keyword "team" ∷ keyword "of" ∷ row (keyword "current" ∷ keyword "player" ∷ []) ∷ [])
who_form bound (team_of_var var) = row (keyword "team" ∷ keyword "of" ∷ named bound var ∷ [])
who_form bound (who_var var) = named bound var

-- the kind of the locations of a name
abbrev pub kind_bytes : Option LocName → List ℕ
kind_bytes None = []
kind_bytes (Some loc) = kind_word loc.kind

abbrev pub kind_form : Naming → ℕ → Tree
kind_form naming name = atom (kind_bytes (slice_get naming.locs name))

abbrev pub loc_form : Naming → Bound → Loc → Tree
loc_form naming bound loc =
    row (who_form bound loc.who ∷ kind_form naming loc.name ∷ named naming.names.locs loc.name ∷ [])

abbrev pub num_form : Naming → Bound → Num → Tree
num_form naming bound num = row (who_form bound num.who ∷ keyword "sto" ∷ named naming.names.nums num.name ∷ [])

-- one part, two parts, or a part and a map, behind a head
abbrev pub one : String → Tree → Tree
one head part = row (keyword head ∷ part ∷ [])

abbrev pub two : String → Tree → Tree → Tree
two head first second = row (keyword head ∷ first ∷ second ∷ [])

abbrev pub with_map : Naming → String → Tree → ℕ → Tree
with_map naming head part map = row (keyword head ∷ part ∷ keyword "using" ∷ named naming.names.maps map ∷ [])

-- a card's attribute
abbrev pub attr_form : Naming → Tree → ℕ → Tree
attr_form naming card attr = two "attr" card (named naming.names.attrs attr)

abbrev mutual
  pub card_form : Naming → Bound → CardExpr → Tree
  card_form naming bound (card_var var) = named bound var
  card_form naming bound (top_card cards) = one "top" (coll_form naming bound cards)
  card_form naming bound (bottom_card cards) = one "bottom" (coll_form naming bound cards)
  card_form naming bound (max_card cards map) = with_map naming "max" (coll_form naming bound cards) map
  card_form naming bound (min_card cards map) = with_map naming "min" (coll_form naming bound cards) map

  pub coll_form : Naming → Bound → CollExpr → Tree
  coll_form naming bound (group_var var) = named bound var
  coll_form naming bound (cards_in loc) = loc_form naming bound loc
  coll_form naming bound (filtered cards var t) =
      row (keyword "filter" ∷ coll_form naming bound cards ∷ named naming.names.vars var
      ∷ test_form naming (binding naming bound var) t ∷ [])
  coll_form naming bound (union_of parts) = row (keyword "union" ∷ coll_forms naming bound parts)
  coll_form naming bound (known_in loc) = one "known" (loc_form naming bound loc)

  pub coll_forms : Naming → Bound → CollExprs → List Tree
  coll_forms naming bound no_coll = []
  coll_forms naming bound (coll cards parts) = coll_form naming bound cards ∷ coll_forms naming bound parts

  pub int_form : Naming → Bound → IntExpr → Tree
  int_form naming bound (literal value) = number_form value
  int_form naming bound (number num) = num_form naming bound num
  int_form naming bound (size_of cards) = one "size" (coll_form naming bound cards)
  int_form naming bound (sum_of cards map) = with_map naming "sum" (coll_form naming bound cards) map
  int_form naming bound (worth_of card map) = with_map naming "points" (card_form naming bound card) map
  int_form naming bound (add a b) = two "+" (int_form naming bound a) (int_form naming bound b)
  int_form naming bound (subtract a b) = two "-" (int_form naming bound a) (int_form naming bound b)
  int_form naming bound (multiply a b) = two "*" (int_form naming bound a) (int_form naming bound b)

  pub test_form : Naming → Bound → Test → Tree
  test_form naming bound (eq_int a b) = two "=" (int_form naming bound a) (int_form naming bound b)
  test_form naming bound (eq_card a b) = two "=" (card_form naming bound a) (card_form naming bound b)
  test_form naming bound (eq_attr a attr b attr') =
      two "=" (attr_form naming (card_form naming bound a) attr) (attr_form naming (card_form naming bound b) attr')
  test_form naming bound (eq_who who who') = two "=" (who_form bound who) (who_form bound who')
  test_form naming bound (ne t) = row (keyword "!=" ∷ sides naming bound t)
  test_form naming bound (less a b) = two "<" (int_form naming bound a) (int_form naming bound b)
  test_form naming bound (less_eq a b) = two "<=" (int_form naming bound a) (int_form naming bound b)
  test_form naming bound (more a b) = two ">" (int_form naming bound a) (int_form naming bound b)
  test_form naming bound (more_eq a b) = two ">=" (int_form naming bound a) (int_form naming bound b)
  test_form naming bound (has_value card attr value) =
      row (keyword "is" ∷ card_form naming bound card ∷ named naming.names.attrs attr ∷ named naming.names.values value ∷ [])
  test_form naming bound (and_of tests) = row (keyword "and" ∷ test_forms naming bound tests)
  test_form naming bound (or_of tests) = row (keyword "or" ∷ test_forms naming bound tests)
  test_form naming bound (not_of t) = one "not" (test_form naming bound t)
  test_form naming bound (all_of domain var t) =
      row (keyword "all" ∷ domain_form naming bound domain ∷ named naming.names.vars var
      ∷ test_form naming (binding naming bound var) t ∷ [])
  test_form naming bound (any_of domain var t) =
      row (keyword "any" ∷ domain_form naming bound domain ∷ named naming.names.vars var
      ∷ test_form naming (binding naming bound var) t ∷ [])

  -- what a test for equality compares
  pub sides : Naming → Bound → Test → List Tree
  sides naming bound (eq_int a b) = int_form naming bound a ∷ int_form naming bound b ∷ []
  sides naming bound (eq_card a b) = card_form naming bound a ∷ card_form naming bound b ∷ []
  sides naming bound (eq_attr a attr b attr') =
      attr_form naming (card_form naming bound a) attr ∷ attr_form naming (card_form naming bound b) attr' ∷ []
  sides naming bound (eq_who who who') = who_form bound who ∷ who_form bound who' ∷ []
  sides naming bound other = []

  pub test_forms : Naming → Bound → Tests → List Tree
  test_forms naming bound no_test = []
  test_forms naming bound (test t tests) = test_form naming bound t ∷ test_forms naming bound tests

  pub domain_form : Naming → Bound → Domain → Tree
  domain_form naming bound each_player = keyword "player"
  domain_form naming bound (each_card cards) = coll_form naming bound cards
  domain_form naming bound (each_group cards attr) = two "partition" (coll_form naming bound cards) (named naming.names.attrs attr)

-- an end of a location
abbrev pub spot_form : Naming → Bound → End → Loc → Tree
spot_form naming bound top loc = one "top" (loc_form naming bound loc)
spot_form naming bound bottom loc = one "bottom" (loc_form naming bound loc)

abbrev mutual
  pub effect_form : Naming → Bound → Effect → Tree
  effect_form naming bound (move card end loc) = two "move" (card_form naming bound card) (spot_form naming bound end loc)
  effect_form naming bound (move_all cards end loc) =
      row (keyword "move" ∷ keyword "all" ∷ coll_form naming bound cards ∷ spot_form naming bound end loc ∷ [])
  effect_form naming bound (remember card end loc) =
      two "remember" (card_form naming bound card) (spot_form naming bound end loc)
  effect_form naming bound (forget card) = one "forget" (card_form naming bound card)
  effect_form naming bound (shuffle loc) = one "shuffle" (loc_form naming bound loc)
  effect_form naming bound (set_to num value) = two "set" (num_form naming bound num) (int_form naming bound value)
  effect_form naming bound (increase num value) = two "inc" (num_form naming bound num) (int_form naming bound value)
  effect_form naming bound (decrease num value) = two "dec" (num_form naming bound num) (int_form naming bound value)
  effect_form naming bound (when t effects) =
      row (keyword "if" ∷ test_form naming bound t ∷ effect_forms naming bound effects)
  effect_form naming bound (repeat times effects) =
      row (keyword "repeat" ∷ int_form naming bound times ∷ effect_forms naming bound effects)
  effect_form naming bound (for_each domain var effects) =
      row (keyword "all" ∷ domain_form naming bound domain ∷ named naming.names.vars var
      ∷ effect_forms naming (binding naming bound var) effects)
  effect_form naming bound (next_is who) = two "cycle" (keyword "next") (who_form bound who)
  effect_form naming bound turn_round = one "cycle" (keyword "reverse")
  effect_form naming bound (peek cards who) = two "peek" (coll_form naming bound cards) (who_form bound who)

  pub effect_forms : Naming → Bound → Effects → List Tree
  effect_forms naming bound no_effect = []
  effect_forms naming bound (effect e effects) = effect_form naming bound e ∷ effect_forms naming bound effects

abbrev pub alt_form : Naming → Bound → Alt → Tree
alt_form naming bound (do_alt effects) = row (keyword "do" ∷ effect_forms naming bound effects)
alt_form naming bound (if_alt guard effects) =
    row (keyword "if" ∷ test_form naming bound guard ∷ effect_forms naming bound effects)
alt_form naming bound (any_alt domain var alt) =
    row (keyword "any" ∷ domain_form naming bound domain ∷ named naming.names.vars var
    ∷ alt_form naming (binding naming bound var) alt ∷ [])

-- whose turns a stage's rounds are
abbrev pub class_form : Class → Tree
class_form game_class = keyword "game"
class_form player_class = keyword "player"
class_form team_class = keyword "team"

abbrev mutual
  pub item_form : Naming → SheetItem → Tree
  item_form naming (do_item effects) = row (keyword "do" ∷ effect_forms naming [] effects)
  item_form naming (stage place class end body) =
      row (keyword "stage" ∷ class_form class ∷ one "end" (test_form naming [] end) ∷ item_forms naming body)
  item_form naming (choice site alts) = row (keyword "choice" ∷ map (alt_form naming []) alts)

  pub item_forms : Naming → SheetItems → List Tree
  item_forms naming no_item = []
  item_forms naming (item i items) = item_form naming i ∷ item_forms naming items

-- a group is `(ATTR (BRANCH ..))`, and a branch a value, alone or in a list with the groups below it
abbrev pub group_form : Tree → List Tree → Tree
group_form attr branches = row (attr ∷ row branches ∷ [])

abbrev pub branch_form : Tree → List Tree → Tree
branch_form value [] = value
branch_form value (first ∷ groups) = row (value ∷ first ∷ groups)

abbrev mutual
  pub group_forms : Naming → Groups → List Tree
  group_forms naming no_group = []
  group_forms naming (group attr branches rest) =
      group_form (named naming.names.attrs attr) (branch_forms naming branches) ∷ group_forms naming rest

  pub branch_forms : Naming → Branches → List Tree
  branch_forms naming no_branch = []
  branch_forms naming (branch value inner rest) =
      branch_form (named naming.names.values value) (group_forms naming inner) ∷ branch_forms naming rest

-- the lines of the setup, and all of them in the order in which they are printed
abbrev pub players_form : ℕ → Tree
players_form players = two "create" (keyword "players") (number_form (pos players))

abbrev pub team_form : List ℕ → Tree
team_form team = row (map (λ player. number_form (pos player)) team)

abbrev pub teams_forms : Option Teams → List Tree
teams_forms None = []
teams_forms (Some teams) = row (keyword "create" ∷ keyword "teams" ∷ map team_form teams) ∷ []

abbrev pub deck_form : Naming → DeckLine → Tree
deck_form naming line =
    row (keyword "create" ∷ keyword "deck"
    ∷ row (keyword "game" ∷ kind_form naming line.loc ∷ named naming.names.locs line.loc ∷ [])
    ∷ row (keyword "deck" ∷ group_forms naming line.groups) ∷ [])

abbrev pub entry_form : Naming → Entry → Tree
entry_form naming entry =
    row (named naming.names.attrs entry.attr ∷ row (map (named naming.names.values) entry.values)
    ∷ number_form entry.points ∷ [])

-- the points map of this number
abbrev pub map_form : Naming → ℕ × List Entry → Tree
map_form naming line =
    row (keyword "put" ∷ keyword "points" ∷ named naming.names.maps line.0 ∷ row (map (entry_form naming) line.1) ∷ [])

abbrev pub setup_forms : Sheet → List Tree
setup_forms sheet =
    players_form sheet.players ∷ teams_forms sheet.teams
    ++ map (deck_form (sheet_naming sheet)) sheet.decks ++ map (map_form (sheet_naming sheet)) (numbered sheet.points)

abbrev pub best_form : Best → Tree
best_form highest = keyword "max"
best_form lowest = keyword "min"

-- in the score each player is the variable `'SELF` in turn
abbrev pub scoring_form : Sheet → Tree
scoring_form sheet = two "scoring" (best_form sheet.best) (int_form (sheet_naming sheet) (codes "'SELF" ∷ []) sheet.score)

-- the form of a whole sheet
abbrev pub sheet_form : Sheet → Tree
sheet_form sheet =
    row (keyword "game" ∷ row (keyword "setup" ∷ setup_forms sheet)
    ∷ item_forms (sheet_naming sheet) sheet.items ++ scoring_form sheet ∷ [])

-- its bytes
abbrev pub printed_sheet : Sheet → List ℕ
printed_sheet sheet = printed (sheet_form sheet)
