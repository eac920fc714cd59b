-- Two setups that stand for the same lines with the same names are one.
use Rattle.std.proofs.Common.{◌≡◌, ℕ, ◌+◌, List, [], ◌∷◌, length, map, flat_map, zip, ℤ, pos, Option, Some, None, slice_get, refl, sym, subst, ap, ap₂, ◌∙◌}
use Rattle.std.specs.List.{AllZip, range_with_len}
use Rattle.std.proofs.lemmas.Option.{same_Some}
use Rattle.rc_base.specs.Tree.{Tree, word, list, Trees, nil, cons}
use Rattle.rc_base.specs.Deck.{Groups, no_group, group, Branches, no_branch, branch, Entry}
use Rattle.rc_sheet_spec.specs.Sheet.{Teams, game_class, DeckLine, Sheet}
use Rattle.rc_sheet_spec.specs.Mentions.{value_name, loc_name, in_groups, in_branches, in_deck, in_entry, in_map, in_setup}
use Rattle.rc_sheet_spec.specs.Rows.{◌▸◌, End, Row, Atom}
use Rattle.rc_sheet_spec.specs.Rows.{Some as Full}
use Rattle.rc_sheet_spec.specs.Naming.{Naming, Named, Literal, KindOf, loc_class, sheet_naming}
use Rattle.rc_sheet_spec.specs.StandsSetup.{StandsPlayers, StandsTeam, StandTeams, StandsTeams, StandsGroups, StandsBranches, StandsDeck, StandValues, StandEntries, StandsMap, team_lines, numbered, StandsSetup}
use Rattle.rc_sheet.specs.ReadSetup.{setup_in}
use Rattle.rc_sheet.specs.ReadSheet.{setup_form_at, sheet_with}
use Rattle.rc_sheet.proofs.Means.{weaker}
use Rattle.rc_sheet.proofs.ReadOff.Sheet.{setup_form_means}
use Rattle.rc_sheet.proofs.ReadOff.Faces.{StandsEntry}
use Rattle.rc_sheet.proofs.One.Rows.{three_parts}
use Rattle.rc_sheet.proofs.One.Names.{Differ, named_once, kinds_agree, along, Agrees, Agree, agree_append, Only}

-- LITERALS

literal_once : (a b : ℤ) (tree : Tree) → Literal a tree → Literal b tree → a ≡ b
literal_once a b (word bytes from to) is is' = same_Some a b (sym is ∙ is')
literal_once a b (list parts from to) is is' = absurd is

count_once : (m n : ℕ) (tree : Tree) → Literal (pos m) tree → Literal (pos n) tree → m ≡ n
count_once m n tree is is' = let same = literal_once (pos m) (pos n) tree is is' in cc

-- PLAYERS AND TEAMS

players_once : (m n : ℕ) (tree : Tree) → StandsPlayers m tree → StandsPlayers n tree → m ≡ n
players_once m n tree is =
    three_parts (Atom "create") (Atom "players") (Literal (pos m)) (λ tree. StandsPlayers n tree → m ≡ n) tree is
    (λ a b c from to x y z is'. count_once m n c z is'.1.1.0)

team_once : (team team' : List ℕ) (trees : Trees) → StandsTeam team trees → StandsTeam team' trees → team ≡ team'
team_once [] [] trees is is' = refl
team_once [] (q ∷ team') nil is is' = absurd is'
team_once [] (q ∷ team') (cons tree trees) is is' = absurd is
team_once (p ∷ team) [] nil is is' = absurd is
team_once (p ∷ team) [] (cons tree trees) is is' = absurd is'
team_once (p ∷ team) (q ∷ team') nil is is' = absurd is
team_once (p ∷ team) (q ∷ team') (cons tree trees) is is' =
    ap₂ ◌∷◌ (count_once p q tree is.0 is'.0) (team_once team team' trees is.1 is'.1)

teams_once : (teams teams' : Teams) (trees : Trees) → StandTeams teams trees → StandTeams teams' trees → teams ≡ teams'
teams_once [] [] trees is is' = refl
teams_once [] (q ∷ teams') nil is is' = absurd is'
teams_once [] (q ∷ teams') (cons tree trees) is is' = absurd is
teams_once (p ∷ teams) [] nil is is' = absurd is
teams_once (p ∷ teams) [] (cons tree trees) is is' = absurd is'
teams_once (p ∷ teams) (q ∷ teams') nil is is' = absurd is
teams_once (p ∷ teams) (q ∷ teams') (cons (word bytes from to) trees) is is' = absurd is.0
teams_once (p ∷ teams) (q ∷ teams') (cons (list parts from to) trees) is is' =
    ap₂ ◌∷◌ (team_once p q parts is.0.1 is'.0.1) (teams_once teams teams' trees is.1 is'.1)

teams_line_once : (teams teams' : Teams) (tree : Tree) → StandsTeams teams tree → StandsTeams teams' tree → teams ≡ teams'
teams_line_once teams teams' (word bytes from to) is is' = absurd is
teams_line_once teams teams' (list nil from to) is is' = absurd is
teams_line_once teams teams' (list (cons a nil) from to) is is' = absurd is.1
teams_line_once teams teams' (list (cons a (cons b parts)) from to) is is' =
    teams_once teams teams' parts is.1.1.1 is'.1.1.1

some_teams_once : (teams teams' : Option Teams) (lines : List Tree) → AllZip StandsTeams (team_lines teams) lines
    → AllZip StandsTeams (team_lines teams') lines → teams ≡ teams'
some_teams_once None None lines is is' = refl
some_teams_once None (Some q) [] is is' = absurd is'
some_teams_once None (Some q) (line ∷ lines) is is' = absurd is
some_teams_once (Some p) None [] is is' = absurd is
some_teams_once (Some p) None (line ∷ lines) is is' = absurd is'
some_teams_once (Some p) (Some q) [] is is' = absurd is
some_teams_once (Some p) (Some q) (line ∷ lines) is is' = ap Some (teams_line_once p q line is.0 is'.0)

one_player_line : (m n : ℕ) (lines : List Tree) → AllZip StandsPlayers (m ∷ []) lines → AllZip StandsPlayers (n ∷ []) lines
    → m ≡ n
one_player_line m n [] is is' = absurd is
one_player_line m n (line ∷ lines) is is' = players_once m n line is.0 is'.0

-- A row of two parts.
pub two_of : (A B : Tree → Type 0) (P : Tree → Type 0) (tree : Tree) → Row (A ▸ B ▸ End) tree
    → ((a b : Tree) (from to : ℕ) → A a → B b → P (list (cons a (cons b nil)) from to)) → P tree
two_of A B P (word bytes from to) row each = absurd row
two_of A B P (list nil from to) row each = absurd row
two_of A B P (list (cons a nil) from to) row each = absurd row.1
two_of A B P (list (cons a (cons b nil)) from to) row each = each a b from to row.0 row.1.0
two_of A B P (list (cons a (cons b (cons c rest))) from to) row each = absurd row.1.1

-- what two rows of one list give
both_listed : (X Y : Trees → Type 0) (R : Type 0) (tree : Tree) → Row X tree → Row Y tree
    → ((parts : Trees) → X parts → Y parts → R) → R
both_listed X Y R (word bytes from to) row row' each = absurd row
both_listed X Y R (list parts from to) row row' each = each parts row row'

-- A sheet whose names differ, and a naming that a form is read by.
module _ (sheet : Sheet) (told : Naming) (differ : Differ sheet.names) where
  -- VALUES AND ENTRIES
  values_once : (values values' : List ℕ) (trees : Trees) → StandValues (sheet_naming sheet) values trees
      → StandValues (along sheet told) values' trees → values ≡ values'
  values_once [] [] trees is is' = refl
  values_once [] (q ∷ values') nil is is' = absurd is'
  values_once [] (q ∷ values') (cons tree trees) is is' = absurd is
  values_once (p ∷ values) [] nil is is' = absurd is
  values_once (p ∷ values) [] (cons tree trees) is is' = absurd is'
  values_once (p ∷ values) (q ∷ values') nil is is' = absurd is
  values_once (p ∷ values) (q ∷ values') (cons tree trees) is is' =
      ap₂ ◌∷◌ (named_once sheet.names.values p q tree differ.values is.0 is'.0) (values_once values values' trees is.1 is'.1)

  value_list_once : (values values' : List ℕ) (tree : Tree) → Row (Full (StandValues (sheet_naming sheet) values)) tree
      → Row (Full (StandValues (along sheet told) values')) tree → values ≡ values'
  value_list_once values values' (word bytes from to) is is' = absurd is
  value_list_once values values' (list parts from to) is is' = values_once values values' parts is.1 is'.1

  entry_once : (entry entry' : Entry) (tree : Tree) → StandsEntry (sheet_naming sheet) entry tree
      → StandsEntry (along sheet told) entry' tree → entry ≡ entry'
  entry_once entry entry' tree is =
      three_parts (Named sheet.names.attrs entry.attr) (Row (Full (StandValues (sheet_naming sheet) entry.values)))
      (Literal entry.points) (λ tree. StandsEntry (along sheet told) entry' tree → entry ≡ entry') tree is
      (λ a b c from to x y z is'.
      let attrs : entry.attr ≡ entry'.attr = named_once sheet.names.attrs entry.attr entry'.attr a differ.attrs x is'.0 in
      let values : entry.values ≡ entry'.values = value_list_once entry.values entry'.values b y is'.1.0 in
      let points : entry.points ≡ entry'.points = literal_once entry.points entry'.points c z is'.1.1.0 in
      λ i. record { attr = attrs i; values = values i; points = points i })

  entries_once : (all all' : List Entry) (trees : Trees) → StandEntries (sheet_naming sheet) all trees
      → StandEntries (along sheet told) all' trees → all ≡ all'
  entries_once [] [] trees is is' = refl
  entries_once [] (q ∷ all') nil is is' = absurd is'
  entries_once [] (q ∷ all') (cons tree trees) is is' = absurd is
  entries_once (p ∷ all) [] nil is is' = absurd is
  entries_once (p ∷ all) [] (cons tree trees) is is' = absurd is'
  entries_once (p ∷ all) (q ∷ all') nil is is' = absurd is
  entries_once (p ∷ all) (q ∷ all') (cons tree trees) is is' =
      ap₂ ◌∷◌ (entry_once p q tree is.0 is'.0) (entries_once all all' trees is.1 is'.1)

  -- a point map
  map_once : (number number' : ℕ) (all all' : List Entry) (tree : Tree) → StandsMap (sheet_naming sheet) (number, all) tree
      → StandsMap (along sheet told) (number', all') tree → all ≡ all'
  map_once number number' all all' (word bytes from to) is is' = absurd is
  map_once number number' all all' (list nil from to) is is' = absurd is
  map_once number number' all all' (list (cons a nil) from to) is is' = absurd is.1
  map_once number number' all all' (list (cons a (cons b nil)) from to) is is' = absurd is.1.1
  map_once number number' all all' (list (cons a (cons b (cons c nil))) from to) is is' = absurd is.1.1.1
  map_once number number' all all' (list (cons a (cons b (cons c (cons (word bytes f t) rest)))) from to) is is' =
      absurd is.1.1.1.0
  map_once number number' all all' (list (cons a (cons b (cons c (cons (list parts f t) rest)))) from to) is is' =
      entries_once all all' parts is.1.1.1.0.1 is'.1.1.1.0.1

  maps_once : (start : ℕ) (all all' : List (List Entry)) (lines : List Tree)
      → AllZip (StandsMap (sheet_naming sheet)) (zip (range_with_len start (length all)) all) lines
      → AllZip (StandsMap (along sheet told)) (zip (range_with_len start (length all')) all') lines → all ≡ all'
  maps_once start [] [] lines is is' = refl
  maps_once start [] (q ∷ all') [] is is' = absurd is'
  maps_once start [] (q ∷ all') (line ∷ lines) is is' = absurd is
  maps_once start (p ∷ all) [] [] is is' = absurd is
  maps_once start (p ∷ all) [] (line ∷ lines) is is' = absurd is'
  maps_once start (p ∷ all) (q ∷ all') [] is is' = absurd is
  maps_once start (p ∷ all) (q ∷ all') (line ∷ lines) is is' =
      ap₂ ◌∷◌ (map_once start start p q line is.0 is'.0) (maps_once (start + 1) all all' lines is.1 is'.1)

  -- GROUPS
  group_same : (a a' : ℕ) (b b' : Branches) (r r' : Groups) → a ≡ a' → b ≡ b' → r ≡ r' → group a b r ≡ group a' b' r'
  group_same a a' b b' r r' ea eb er = λ i. group (ea i) (eb i) (er i)

  branch_same : (a a' : ℕ) (b b' : Groups) (r r' : Branches) → a ≡ a' → b ≡ b' → r ≡ r' → branch a b r ≡ branch a' b' r'
  branch_same a a' b b' r r' ea eb er = λ i. branch (ea i) (eb i) (er i)

  mutual
    groups_once : (all all' : Groups) (trees : Trees) → StandsGroups (sheet_naming sheet) all trees
        → StandsGroups (along sheet told) all' trees → all ≡ all'
    groups_once no_group no_group trees is is' = refl
    groups_once no_group (group a' b' r') nil is is' = absurd is'
    groups_once no_group (group a' b' r') (cons tree trees) is is' = absurd is
    groups_once (group a b r) no_group nil is is' = absurd is
    groups_once (group a b r) no_group (cons tree trees) is is' = absurd is'
    groups_once (group a b r) (group a' b' r') nil is is' = absurd is
    groups_once (group a b r) (group a' b' r') (cons tree trees) is is' =
        two_of (Named sheet.names.attrs a) (Row (Full (StandsBranches (sheet_naming sheet) b)))
        (λ tree. Row (Named sheet.names.attrs a' ▸ Row (Full (StandsBranches (along sheet told) b')) ▸ End) tree
        → group a b r ≡ group a' b' r') tree is.0
        (λ x y from to named row row'. group_same a a' b b' r r' (named_once sheet.names.attrs a a' x differ.attrs named row'.0)
        (both_listed (Full (StandsBranches (sheet_naming sheet) b)) (Full (StandsBranches (along sheet told) b'))
        (b ≡ b') y row row'.1.0
        (λ parts s s'. branches_once b b' parts s.1 s'.1)) (groups_once r r' trees is.1 is'.1))
        is'.0

    branches_once : (all all' : Branches) (trees : Trees) → StandsBranches (sheet_naming sheet) all trees
        → StandsBranches (along sheet told) all' trees → all ≡ all'
    branches_once no_branch no_branch trees is is' = refl
    branches_once no_branch (branch v' no_group r') nil is is' = absurd is'
    branches_once no_branch (branch v' no_group r') (cons tree trees) is is' = absurd is
    branches_once no_branch (branch v' (group a' b' i') r') nil is is' = absurd is'
    branches_once no_branch (branch v' (group a' b' i') r') (cons tree trees) is is' = absurd is
    branches_once (branch v no_group r) no_branch nil is is' = absurd is
    branches_once (branch v no_group r) no_branch (cons tree trees) is is' = absurd is'
    branches_once (branch v (group a b i) r) no_branch nil is is' = absurd is
    branches_once (branch v (group a b i) r) no_branch (cons tree trees) is is' = absurd is'
    branches_once (branch v no_group r) (branch v' no_group r') nil is is' = absurd is
    branches_once (branch v no_group r) (branch v' no_group r') (cons tree trees) is is' =
        branch_same v v' no_group no_group r r' (named_once sheet.names.values v v' tree differ.values is.0 is'.0) refl
        (branches_once r r' trees is.1 is'.1)
    branches_once (branch v no_group r) (branch v' (group a' b' i') r') nil is is' = absurd is
    branches_once (branch v no_group r) (branch v' (group a' b' i') r') (cons (word bytes f t) trees) is is' = absurd is'.0
    branches_once (branch v no_group r) (branch v' (group a' b' i') r') (cons (list parts f t) trees) is is' = absurd is.0
    branches_once (branch v (group a b i) r) (branch v' no_group r') nil is is' = absurd is
    branches_once (branch v (group a b i) r) (branch v' no_group r') (cons (word bytes f t) trees) is is' = absurd is.0
    branches_once (branch v (group a b i) r) (branch v' no_group r') (cons (list parts f t) trees) is is' = absurd is'.0
    branches_once (branch v (group a b i) r) (branch v' (group a' b' i') r') nil is is' = absurd is
    branches_once (branch v (group a b i) r) (branch v' (group a' b' i') r') (cons (word bytes f t) trees) is is' = absurd is.0
    branches_once (branch v (group a b i) r) (branch v' (group a' b' i') r') (cons (list nil f t) trees) is is' = absurd is.0
    branches_once (branch v (group a b i) r) (branch v' (group a' b' i') r') (cons (list (cons x gs) f t) trees) is is' =
        branch_same v v' (group a b i) (group a' b' i') r r'
        (named_once sheet.names.values v v' x differ.values is.0.0 is'.0.0)
        (groups_once (group a b i) (group a' b' i') gs is.0.1 is'.0.1) (branches_once r r' trees is.1 is'.1)

  -- what decks and points mention, but for locations, the tables say nothing of
  mutual
    groups_agree : (all : Groups) → Agree sheet told (in_groups all)
    groups_agree no_group = tt
    groups_agree (group a b r) =
        (tt, agree_append sheet told (in_branches b) (in_groups r) (branches_agree b) (groups_agree r))

    branches_agree : (all : Branches) → Agree sheet told (in_branches all)
    branches_agree no_branch = tt
    branches_agree (branch v i r) =
        (tt, agree_append sheet told (in_groups i) (in_branches r) (groups_agree i) (branches_agree r))

  values_agree : (values : List ℕ) → Agree sheet told (map value_name values)
  values_agree [] = tt
  values_agree (v ∷ values) = (tt, values_agree values)

  entries_agree : (all : List Entry) → Agree sheet told (flat_map in_entry all)
  entries_agree [] = tt
  entries_agree (entry ∷ all) = (
    tt,
    agree_append sheet told (map value_name entry.values) (flat_map in_entry all) (values_agree entry.values)
        (entries_agree all),
  )

  maps_agree : (all : List (ℕ × List Entry)) → Agree sheet told (flat_map in_map all)
  maps_agree [] = tt
  maps_agree (m ∷ all) =
      (tt, agree_append sheet told (flat_map in_entry m.1) (flat_map in_map all) (entries_agree m.1) (maps_agree all))

  -- DECKS
  home_once : (n n' : ℕ) (tree : Tree)
      → Row (Atom "game" ▸ KindOf (sheet_naming sheet) n ▸ Named sheet.names.locs n ▸ End) tree
      → Row (Atom "game" ▸ KindOf (along sheet told) n' ▸ Named sheet.names.locs n' ▸ End) tree
      → loc_class (sheet_naming sheet) n ≡ Some game_class → loc_class (along sheet told) n' ≡ Some game_class
      → (n ≡ n') × Agrees sheet told (loc_name n)
  home_once n n' tree row =
      three_parts (Atom "game") (KindOf (sheet_naming sheet) n) (Named sheet.names.locs n)
      (λ tree. Row (Atom "game" ▸ KindOf (along sheet told) n' ▸ Named sheet.names.locs n' ▸ End) tree
      → loc_class (sheet_naming sheet) n ≡ Some game_class → loc_class (along sheet told) n' ≡ Some game_class
      → (n ≡ n') × Agrees sheet told (loc_name n)) tree row
      (λ holder kind name from to g k named row' class class'.
      let same = named_once sheet.names.locs n n' name differ.locs named row'.1.1.0 in (
        same,
        at name kind named k class
            (subst (λ n. KindOf (along sheet told) n kind) (sym same) row'.1.0)
            (subst (λ n. loc_class (along sheet told) n ≡ Some game_class) (sym same) class'),
      ))
    where
      at : (name kind : Tree) → Named sheet.names.locs n name → KindOf (sheet_naming sheet) n kind
          → loc_class (sheet_naming sheet) n ≡ Some game_class → KindOf (along sheet told) n kind
          → loc_class (along sheet told) n ≡ Some game_class → Agrees sheet told (loc_name n)
      at (list parts from to) kind named k class k' class' = absurd named
      at (word bytes from to) kind named k class k' class' = (
        bytes,
        named.0,
        kinds_agree (slice_get sheet.locs n) (slice_get told.locs n) kind game_class k class k' class',
      )

  group_list_once : (all all' : Groups) (tree : Tree) → Row (Atom "deck" ▸ Full (StandsGroups (sheet_naming sheet) all)) tree
      → Row (Atom "deck" ▸ Full (StandsGroups (along sheet told) all')) tree → all ≡ all'
  group_list_once all all' (word bytes from to) is is' = absurd is
  group_list_once all all' (list nil from to) is is' = absurd is
  group_list_once all all' (list (cons head parts) from to) is is' = groups_once all all' parts is.1.1 is'.1.1

  deck_once : (line line' : DeckLine) (tree : Tree) → StandsDeck (sheet_naming sheet) line tree
      → StandsDeck (along sheet told) line' tree → (line ≡ line') × Agrees sheet told (loc_name line.loc)
  deck_once line line' (word bytes from to) is is' = absurd is.0
  deck_once line line' (list nil from to) is is' = absurd is.0
  deck_once line line' (list (cons a nil) from to) is is' = absurd is.0.1
  deck_once line line' (list (cons a (cons b nil)) from to) is is' = absurd is.0.1.1
  deck_once line line' (list (cons a (cons b (cons c nil))) from to) is is' = absurd is.0.1.1.1
  deck_once line line' (list (cons a (cons b (cons c (cons d rest)))) from to) is is' =
      let home = home_once line.loc line'.loc c is.0.1.1.0 is'.0.1.1.0 is.1 is'.1 in
      let groups : line.groups ≡ line'.groups = group_list_once line.groups line'.groups d is.0.1.1.1.0 is'.0.1.1.1.0 in
      (ap₂ (λ l g. record { loc = l; groups = g }) home.0 groups, home.1)

  decks_once : (all all' : List DeckLine) (lines : List Tree) → AllZip (StandsDeck (sheet_naming sheet)) all lines
      → AllZip (StandsDeck (along sheet told)) all' lines → (all ≡ all') × Agree sheet told (flat_map in_deck all)
  decks_once [] [] lines is is' = (refl, tt)
  decks_once [] (q ∷ all') [] is is' = absurd is'
  decks_once [] (q ∷ all') (line ∷ lines) is is' = absurd is
  decks_once (p ∷ all) [] [] is is' = absurd is
  decks_once (p ∷ all) [] (line ∷ lines) is is' = absurd is'
  decks_once (p ∷ all) (q ∷ all') [] is is' = absurd is
  decks_once (p ∷ all) (q ∷ all') (line ∷ lines) is is' =
      let first = deck_once p q line is.0 is'.0 in
      let later = decks_once all all' lines is.1 is'.1 in (
        ap₂ ◌∷◌ first.0 later.0,
        (first.1, agree_append sheet told (in_groups p.groups) (flat_map in_deck all) (groups_agree p.groups) later.1),
      )

  -- all lines
  setup_once : (read : Sheet) (lines : Trees) → StandsSetup (sheet_naming sheet) sheet lines
      → StandsSetup (along sheet told) read lines → (setup_in read ≡ setup_in sheet) × Agree sheet told (in_setup sheet)
  setup_once read lines is is' =
      let players : read.players ≡ sheet.players = one_player_line read.players sheet.players _ is'.players is.players in
      let teams : read.teams ≡ sheet.teams = some_teams_once read.teams sheet.teams _ is'.teams is.teams in
      let decks = decks_once sheet.decks read.decks _ is.decks is'.decks in
      let points : sheet.points ≡ read.points = maps_once 0 sheet.points read.points _ is.points is'.points in
      let same : read.decks ≡ sheet.decks = sym decks.0 in
      let same' : read.points ≡ sheet.points = sym points in (
        λ i. record { players = players i; teams = teams i; decks = same i; points = same' i },
        agree_append sheet told (flat_map in_deck sheet.decks) (flat_map in_map (numbered sheet.points)) decks.1
            (maps_agree (numbered sheet.points)),
      )

  -- `(setup LINE+)`
  pub one_setup : (tree : Tree) → Row (Atom "setup" ▸ Full (StandsSetup (sheet_naming sheet) sheet)) tree
      → Only sheet told (setup_in sheet) (in_setup sheet) (setup_form_at (along sheet told) tree)
  one_setup tree stands =
      weaker (setup_form_at (along sheet told) tree) (setup_form_means (along sheet told) tree)
      (λ said is. rows (sheet_with (along sheet told) said (sheet.items, (sheet.best, sheet.score))) tree stands
      (is (sheet_with (along sheet told) said (sheet.items, (sheet.best, sheet.score))) refl))
    where
      rows : (read : Sheet) (tree : Tree) → Row (Atom "setup" ▸ Full (StandsSetup (sheet_naming sheet) sheet)) tree
          → Row (Atom "setup" ▸ Full (StandsSetup (along sheet told) read)) tree
          → (setup_in read ≡ setup_in sheet) × Agree sheet told (in_setup sheet)
      rows read (word bytes from to) is is' = absurd is
      rows read (list nil from to) is is' = absurd is
      rows read (list (cons head lines) from to) is is' = setup_once read lines is.1.1 is'.1.1
