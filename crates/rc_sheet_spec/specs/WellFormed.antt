-- Which sheets are well formed: their parts stand where they may, their names are numbered as they are mentioned, and they
-- keep the limits.
use Rattle.std.specs.Prelude.{◌≡◌, ℕ, ◌+◌, ◌<◌, ◌≤◌, ◌==◌, nat_eq, nat_le, Bool, true, false, not, ◌||◌, ◌&&◌, List, [], ◌∷◌, ◌++◌, length, slice_get, slice_index_or, map, flat_map, sum_by, count_by, replicate, All, bytes_eq, Option, Some, None, option_map, ⊤}
use Rattle.std.specs.List.{list_any, list_all}
use Rattle.rc_base.specs.Token.{is_part}
use Rattle.rc_base.specs.Tree.{Tree, IsOpenAtMost}
use Rattle.rc_base.specs.Deck.{Groups, no_group, group, Branches, no_branch, branch, Entry, face_count}
use Rattle.rc_sheet_spec.specs.Sheet.{Teams, Class, game_class, player_class, team_class, Sort, player_sort, card_sort, group_sort, LocKind, vloc, iloc, hloc, mem, Who, game, current_player, current_team, team_of_current, team_of_var, who_var, Loc, Num, CardExpr, card_var, top_card, bottom_card, max_card, min_card, CollExpr, group_var, cards_in, filtered, union_of, known_in, CollExprs, no_coll, coll, IntExpr, literal, number, size_of, sum_of, worth_of, add, subtract, multiply, Test, eq_int, eq_card, eq_attr, eq_who, ne, less, less_eq, more, more_eq, has_value, and_of, or_of, not_of, all_of, any_of, Tests, no_test, test, Domain, each_player, each_card, each_group, Effect, move, move_all, remember, forget, shuffle, set_to, increase, decrease, when, repeat, for_each, next_is, turn_round, peek, Effects, no_effect, effect, Alt, do_alt, if_alt, any_alt, SheetItem, do_item, stage, choice, SheetItems, no_item, item, DeckLine, Sheet}
use Rattle.rc_sheet_spec.specs.Lists.{coll_list, test_list, effect_list, item_list}
use Rattle.rc_base.specs.Words.{is_variable}
use Rattle.rc_sheet_spec.specs.Naming.{Scope, bind, self_scope, sort_of, class_of, loc_class, num_class, sheet_naming}
use Rattle.rc_base.specs.Clamp.{IsWithinClamp}
use Rattle.rc_base.specs.Limits.{most_players, most_cards, most_locations, most_numbers, most_attrs, most_values, most_maps, most_stages, most_sites, most_variables, most_repeats, most_open}
use Rattle.rc_sheet_spec.specs.Mentions.{attr_of, value_of, in_setup, stages_in, sites_in}
use Rattle.rc_base.specs.Numbers.{below}
use Rattle.rc_sheet_spec.specs.Numbering.{IsNumbered}
use Rattle.rc_sheet_spec.specs.Stands.{Stands}

-- What is around a place: the variables in scope, how many binders, whether player stages and team stages, and how many
-- repeats.
pub record Around : Type 0 where
  pub scope : Scope
  pub binders : ℕ
  pub player_stage : Bool
  pub team_stage : Bool
  pub repeats : ℕ

-- nothing
abbrev pub outside : Around
outside = record { scope = []; binders = 0; player_stage = false; team_stage = false; repeats = 0 }

-- what is around the score
abbrev pub scored : Around
scored = record outside { scope = self_scope }

-- what is around the parts of a stage
abbrev pub in_stage : Class → Around → Around
in_stage game_class around = around
in_stage player_class around = record around { player_stage = true }
in_stage team_class around = record around { team_stage = true }

-- what is around the effects of a repeat
abbrev pub in_repeat : Around → Around
in_repeat around = record around { repeats = around.repeats + 1 }

abbrev pub is_mem : LocKind → Bool
is_mem vloc = false
is_mem iloc = false
is_mem hloc = false
is_mem mem = true

-- one of the four tests for equality
abbrev pub is_equality : Test → Bool
is_equality (eq_int a b) = true
is_equality (eq_card a b) = true
is_equality (eq_attr a attr b attr') = true
is_equality (eq_who who who') = true
is_equality t = false

-- the number stands in the list
abbrev pub is_among : ℕ → List ℕ → Bool
is_among n numbers = list_any (nat_eq n) numbers

-- the variable in this place of the scope has this sort
abbrev pub HasSort : Around → Sort → ℕ → Type 0
HasSort around sort var = option_map (λ variable. variable.sort) (slice_get around.scope var) ≡ Some sort

-- a stage of this class is around
abbrev pub IsInStage : Around → Class → Type 0
IsInStage around game_class = ⊥
IsInStage around player_class = around.player_stage ≡ true
IsInStage around team_class = around.team_stage ≡ true

-- an owner but the game
abbrev pub IsOwner : Around → Who → Type 0
IsOwner around game = ⊥
IsOwner around current_player = IsInStage around player_class
IsOwner around current_team = IsInStage around team_class
IsOwner around team_of_current = IsInStage around player_class
IsOwner around (team_of_var var) = HasSort around player_sort var
IsOwner around (who_var var) = HasSort around player_sort var

-- the game, or an owner
abbrev pub IsHolder : Around → Who → Type 0
IsHolder around game = ⊤
IsHolder around who = IsOwner around who

-- Parts of a sheet, and what is around them.
module _ (sheet : Sheet) where
  -- an attribute and a value of a deck or of the points, and a map of the points
  abbrev pub IsAttr : ℕ → Type 0
  IsAttr attr = is_among attr (flat_map attr_of (in_setup sheet)) ≡ true

  abbrev pub IsValue : ℕ → Type 0
  IsValue value = is_among value (flat_map value_of (in_setup sheet)) ≡ true

  abbrev pub IsMap : ℕ → Type 0
  IsMap map = map < length sheet.points

  -- the word of a variable
  abbrev pub var_word : ℕ → List ℕ
  var_word bound = slice_index_or sheet.names.vars bound []

  -- a variable that isn't in scope yet, where there is room for one more
  abbrev pub IsBinder : Around → ℕ → Type 0
  IsBinder around bound =
      (bound < length sheet.names.vars)
      × (list_any (λ variable. bytes_eq variable.word (var_word bound)) around.scope ≡ false)
      × (around.binders < most_variables)

  -- what is around the parts behind a binder
  abbrev pub behind : Around → ℕ → Sort → Around
  behind around bound sort =
      record around { scope = bind (sheet_naming sheet) around.scope bound sort; binders = around.binders + 1 }

  -- whether the locations of a name hold references
  abbrev pub holds_references : ℕ → Option Bool
  holds_references name = option_map (λ loc. is_mem loc.kind) (slice_get sheet.locs name)

  abbrev pub IsLoc : Around → Loc → Type 0
  IsLoc around loc = IsHolder around loc.who × (loc_class (sheet_naming sheet) loc.name ≡ Some (class_of loc.who))

  -- a location of cards, or of references
  abbrev pub IsPlace : Around → Bool → Loc → Type 0
  IsPlace around references loc = IsLoc around loc × (holds_references loc.name ≡ Some references)

  abbrev pub IsNum : Around → Num → Type 0
  IsNum around num = IsHolder around num.who × (num_class (sheet_naming sheet) num.name ≡ Some (class_of num.who))

  abbrev mutual
    pub IsCard : Around → CardExpr → Type 0
    IsCard around (card_var var) = HasSort around card_sort var
    IsCard around (top_card cards) = IsColl around cards
    IsCard around (bottom_card cards) = IsColl around cards
    IsCard around (max_card cards map) = IsColl around cards × IsMap map
    IsCard around (min_card cards map) = IsColl around cards × IsMap map

    pub IsColl : Around → CollExpr → Type 0
    IsColl around (group_var var) = HasSort around group_sort var
    IsColl around (cards_in loc) = IsLoc around loc
    IsColl around (filtered cards bound t) =
        IsColl around cards × IsBinder around bound × IsTest (behind around bound card_sort) t
    IsColl around (union_of parts) = (2 ≤ length (coll_list parts)) × AreColls around parts
    IsColl around (known_in loc) = IsInStage around player_class × IsLoc around loc

    pub AreColls : Around → CollExprs → Type 0
    AreColls around no_coll = ⊤
    AreColls around (coll cards parts) = IsColl around cards × AreColls around parts

    pub IsInt : Around → IntExpr → Type 0
    IsInt around (literal value) = IsWithinClamp value
    IsInt around (number num) = IsNum around num
    IsInt around (size_of cards) = IsColl around cards
    IsInt around (sum_of cards map) = IsColl around cards × IsMap map
    IsInt around (worth_of card map) = IsCard around card × IsMap map
    IsInt around (add a b) = IsInt around a × IsInt around b
    IsInt around (subtract a b) = IsInt around a × IsInt around b
    IsInt around (multiply a b) = IsInt around a × IsInt around b

    pub IsTest : Around → Test → Type 0
    IsTest around (eq_int a b) = IsInt around a × IsInt around b
    IsTest around (eq_card a b) = IsCard around a × IsCard around b
    IsTest around (eq_attr a attr b attr') = IsCard around a × IsAttr attr × IsCard around b × IsAttr attr'
    IsTest around (eq_who who who') = IsOwner around who × IsOwner around who' × (class_of who ≡ class_of who')
    IsTest around (ne t) = (is_equality t ≡ true) × IsTest around t
    IsTest around (less a b) = IsInt around a × IsInt around b
    IsTest around (less_eq a b) = IsInt around a × IsInt around b
    IsTest around (more a b) = IsInt around a × IsInt around b
    IsTest around (more_eq a b) = IsInt around a × IsInt around b
    IsTest around (has_value card attr value) = IsCard around card × IsAttr attr × IsValue value
    IsTest around (and_of tests) = (1 ≤ length (test_list tests)) × AreTests around tests
    IsTest around (or_of tests) = (1 ≤ length (test_list tests)) × AreTests around tests
    IsTest around (not_of t) = IsTest around t
    IsTest around (all_of domain bound t) =
        IsRange around domain × IsBinder around bound × IsTest (behind around bound (sort_of domain)) t
    IsTest around (any_of domain bound t) =
        IsRange around domain × IsBinder around bound × IsTest (behind around bound (sort_of domain)) t

    pub AreTests : Around → Tests → Type 0
    AreTests around no_test = ⊤
    AreTests around (test t tests) = IsTest around t × AreTests around tests

    -- what `all` and `any` run over, but in an alternative
    pub IsRange : Around → Domain → Type 0
    IsRange around each_player = ⊤
    IsRange around (each_card cards) = IsColl around cards
    IsRange around (each_group cards attr) = ⊥

  -- what `any` runs over in an alternative
  abbrev pub IsDomain : Around → Domain → Type 0
  IsDomain around each_player = ⊤
  IsDomain around (each_card cards) = IsColl around cards
  IsDomain around (each_group cards attr) = IsColl around cards × IsAttr attr

  abbrev mutual
    pub IsEffect : Around → Effect → Type 0
    IsEffect around (move card end loc) = IsCard around card × IsPlace around false loc
    IsEffect around (move_all cards end loc) = IsColl around cards × IsPlace around false loc
    IsEffect around (remember card end loc) = IsCard around card × IsPlace around true loc
    IsEffect around (forget card) = IsCard around card
    IsEffect around (shuffle loc) = IsPlace around false loc
    IsEffect around (set_to num value) = IsNum around num × IsInt around value
    IsEffect around (increase num value) = IsNum around num × IsInt around value
    IsEffect around (decrease num value) = IsNum around num × IsInt around value
    IsEffect around (when t effects) =
        IsTest around t × (1 ≤ length (effect_list effects)) × AreEffects around effects
    IsEffect around (repeat times effects) =
        IsInt around times × (around.repeats < most_repeats)
        × (1 ≤ length (effect_list effects)) × AreEffects (in_repeat around) effects
    IsEffect around (for_each domain bound effects) =
        IsRange around domain × IsBinder around bound
        × (1 ≤ length (effect_list effects)) × AreEffects (behind around bound (sort_of domain)) effects
    IsEffect around (next_is who) = IsOwner around who × IsInStage around (class_of who)
    IsEffect around turn_round = (around.player_stage || around.team_stage) ≡ true
    IsEffect around (peek cards who) = IsColl around cards × IsOwner around who

    pub AreEffects : Around → Effects → Type 0
    AreEffects around no_effect = ⊤
    AreEffects around (effect e effects) = IsEffect around e × AreEffects around effects

  abbrev pub IsAlt : Around → Alt → Type 0
  IsAlt around (do_alt effects) = (1 ≤ length (effect_list effects)) × AreEffects around effects
  IsAlt around (if_alt guard effects) =
      IsTest around guard × (1 ≤ length (effect_list effects)) × AreEffects around effects
  IsAlt around (any_alt domain bound alt) =
      IsDomain around domain × IsBinder around bound × IsAlt (behind around bound (sort_of domain)) alt

  abbrev pub AreAlts : Around → List Alt → Type 0
  AreAlts around [] = ⊤
  AreAlts around (alt ∷ alts) = IsAlt around alt × AreAlts around alts

  abbrev mutual
    pub IsItem : Around → SheetItem → Type 0
    IsItem around (do_item effects) = (1 ≤ length (effect_list effects)) × AreEffects around effects
    IsItem around (stage place game_class end body) = ⊥
    IsItem around (stage place class end body) =
        IsTest (in_stage class around) end × (1 ≤ length (item_list body)) × AreItems (in_stage class around) body
    IsItem around (choice site alts) = IsInStage around player_class × (1 ≤ length alts) × AreAlts around alts

    pub AreItems : Around → SheetItems → Type 0
    AreItems around no_item = ⊤
    AreItems around (item i items) = IsItem around i × AreItems around items

-- the attributes of groups, inner ones too
abbrev mutual
  pub group_attrs : Groups → List ℕ
  group_attrs no_group = []
  group_attrs (group attr branches rest) = attr ∷ branch_attrs branches ++ group_attrs rest

  pub branch_attrs : Branches → List ℕ
  branch_attrs no_branch = []
  branch_attrs (branch value inner rest) = group_attrs inner ++ branch_attrs rest

-- No face has an attribute twice, and each group has a branch. The attributes that may stand before these groups in a face
-- come first.
abbrev mutual
  pub AreGroups : List ℕ → Groups → Type 0
  AreGroups before no_group = ⊤
  AreGroups before (group attr no_branch rest) = ⊥
  AreGroups before (group attr (branch value inner others) rest) =
      (is_among attr before ≡ false)
      × AreGroups (attr ∷ before) inner × AreBranches (attr ∷ before) others
      × AreGroups (attr ∷ group_attrs inner ++ branch_attrs others ++ before) rest

  pub AreBranches : List ℕ → Branches → Type 0
  AreBranches before no_branch = ⊤
  AreBranches before (branch value inner rest) = AreGroups before inner × AreBranches before rest

-- a deck has a group, and its cards begin in a location of the game that holds cards
abbrev pub IsDeck : Sheet → DeckLine → Type 0
IsDeck sheet line =
    (1 ≤ length (group_attrs line.groups)) × AreGroups [] line.groups
    × (loc_class (sheet_naming sheet) line.loc ≡ Some game_class) × (holds_references sheet line.loc ≡ Some false)

abbrev pub IsEntry : Entry → Type 0
IsEntry entry = (1 ≤ length entry.values) × IsWithinClamp entry.points

-- the teams have a player each, and each player stands in one of them, once
pub record ArePartition (players : ℕ) (teams : Teams) : Type 0 where
  pub some : list_any (λ team. length team == 0) teams ≡ false
  pub whole : length (flat_map (λ team. team) teams) ≡ players
  pub once : map (λ player. count_by (nat_eq player) (flat_map (λ team. team) teams)) (below players)
      ≡ replicate players 1

abbrev pub AreTeams : ℕ → Option Teams → Type 0
AreTeams players None = ⊤
AreTeams players (Some teams) = ArePartition players teams

-- how many owners there are of a class where there are so many players and teams
abbrev pub owner_count_by : ℕ → ℕ → Class → ℕ
owner_count_by players teams game_class = 1
owner_count_by players teams player_class = players
owner_count_by players teams team_class = teams

abbrev pub team_count : Sheet → Option Teams → ℕ
team_count sheet None = sheet.players
team_count sheet (Some teams) = length teams

abbrev pub owner_count : Sheet → Class → ℕ
owner_count sheet = owner_count_by sheet.players (team_count sheet sheet.teams)

-- 1 to 64 bytes that may stand in an atom
abbrev pub is_atom : List ℕ → Bool
is_atom bytes = nat_le 1 (length bytes) && nat_le (length bytes) 64 && list_all is_part bytes

abbrev pub is_plain_word : List ℕ → Bool
is_plain_word bytes = is_atom bytes && not (is_variable bytes)

abbrev pub is_variable_word : List ℕ → Bool
is_variable_word bytes = is_atom bytes && is_variable bytes

pub record HasWords (sheet : Sheet) : Type 0 where
  pub attrs : list_all is_plain_word sheet.names.attrs ≡ true
  pub values : list_all is_plain_word sheet.names.values ≡ true
  pub maps : list_all is_plain_word sheet.names.maps ≡ true
  pub locs : list_all is_plain_word sheet.names.locs ≡ true
  pub nums : list_all is_plain_word sheet.names.nums ≡ true
  pub vars : list_all is_variable_word sheet.names.vars ≡ true

pub record IsWithinLimits (sheet : Sheet) : Type 0 where
  pub some_players : 1 ≤ sheet.players
  pub players : sheet.players ≤ most_players
  pub cards : sum_by (λ line. face_count line.groups) sheet.decks ≤ most_cards
  pub locations : sum_by (λ loc. owner_count sheet loc.class) sheet.locs ≤ most_locations
  pub numbers : sum_by (λ num. owner_count sheet num.class) sheet.nums ≤ most_numbers
  pub attrs : length sheet.names.attrs ≤ most_attrs
  pub values : length sheet.names.values ≤ most_values
  pub maps : length sheet.names.maps ≤ most_maps
  pub stages : length (stages_in sheet.items) ≤ most_stages
  pub sites : length (sites_in sheet.items) ≤ most_sites

-- a form stands for the sheet in which at most 64 lists are open at one place
abbrev pub IsShallow : Sheet → Type 0
IsShallow sheet = (form : Tree) × Stands sheet form × IsOpenAtMost most_open form

pub record IsWellFormed (sheet : Sheet) : Type 0 where
  pub words : HasWords sheet
  pub numbered : IsNumbered sheet
  pub limits : IsWithinLimits sheet
  pub shallow : IsShallow sheet
  pub teams : AreTeams sheet.players sheet.teams
  pub some_deck : 1 ≤ length sheet.decks
  pub decks : All (IsDeck sheet) sheet.decks
  pub some_entry : All (λ entries. 1 ≤ length entries) sheet.points
  pub entries : All (All IsEntry) sheet.points
  pub some_item : 1 ≤ length (item_list sheet.items)
  pub items : AreItems sheet outside sheet.items
  pub score : IsInt sheet scored sheet.score
