-- The lines of a setup, printed in the place of their forms, which may stand in another order.
use Prim.Native.String.{String}
use Rattle.std.proofs.Common.{◌≡◌, ℕ, ◌-◌, Bool, true, false, ◌||◌, cond, List, [], ◌∷◌, ◌++◌, map, pos, Option, None, refl, sym, subst, ap, ap₂, ◌∙◌, arith, append_assoc, append-nil, le-leb}
use Rattle.std.specs.Prelude.{Some as Present}
use Rattle.std.specs.List.{AllZip}
use Rattle.std.proofs.lemmas.Bool.{and_from}
use Rattle.rc_base.specs.Tree.{Tree, word, list, Trees, nil, cons, IsOpenAtMost, AreOpenAtMost}
use Rattle.rc_base.specs.Deck.{Groups, no_group, group, Branches, no_branch, branch, Entry}
use Rattle.rc_sheet_spec.specs.Sheet.{Teams, DeckLine, Sheet}
use Rattle.rc_sheet_spec.specs.Rows.{◌▸◌, End, Some, Row, Atom}
use Rattle.rc_sheet_spec.specs.Naming.{Naming, Named, KindOf, sheet_naming}
use Rattle.rc_sheet_spec.specs.Printing.{packed, keyword, row, named, number_form, group_forms, branch_forms, players_form, team_form, teams_forms, deck_form, entry_form, map_form, setup_forms}
use Rattle.rc_sheet_spec.specs.StandsSetup.{StandsPlayers, StandsTeam, StandTeams, StandsTeams, StandsGroups, StandsBranches, StandsDeck, StandValues, StandEntries, StandsMap, begins_with, lines_with, are_lines, team_lines, numbered, StandsSetup}
use Rattle.rc_sheet_spec.specs.WellFormed.{HasWords}
use Rattle.rc_print.specs.Respelled.{IsRespelled, AreRespelled, lines_in_order, setup_in_order}
use Rattle.rc_print.specs.Unplaced.{IsBare, AreBare, unplaced}
use Rattle.rc_print.proofs.Copied.{Good, Copies, AreCopied, keyword_copied, row_copied, part_copied, end_copied, least_copied}
use Rattle.rc_print.proofs.CopiedNames.{two_copied, named_copied, literal_copied, kind_copied}

-- LINES

players_copied : (players : ℕ) → Copies (StandsPlayers players) (StandsPlayers players) (players_form players)
players_copied players = two_copied "create" refl (keyword_copied "players" refl) (literal_copied (pos players))

members_copied : (team : List ℕ)
    → AreCopied (StandsTeam team) (StandsTeam team) (packed (map (λ player. number_form (pos player)) team))
members_copied [] = end_copied
members_copied (player ∷ players) = part_copied (literal_copied (pos player)) (members_copied players)

teams_copied : (teams : Teams) → AreCopied (StandTeams teams) (StandTeams teams) (packed (map team_form teams))
teams_copied [] = end_copied
teams_copied (team ∷ teams) = part_copied (row_copied (least_copied 1 (members_copied team))) (teams_copied teams)

abbrev teams_form : Teams → Tree
teams_form teams = row (keyword "create" ∷ keyword "teams" ∷ map team_form teams)

teams_line_copied : (teams : Teams) → Copies (StandsTeams teams) (StandsTeams teams) (teams_form teams)
teams_line_copied teams =
    row_copied (part_copied (keyword_copied "create" refl) (part_copied (keyword_copied "teams" refl)
    (least_copied 1 (teams_copied teams))))

module _ (sheet : Sheet) (words : HasWords sheet) where
  abbrev naming : Naming
  naming = sheet_naming sheet

  mutual
    groups_copied : (groups : Groups)
        → AreCopied (StandsGroups naming groups) (StandsGroups naming groups) (packed (group_forms naming groups))
    groups_copied no_group = end_copied
    groups_copied (group attr branches rest) =
        part_copied (row_copied (part_copied (named_copied sheet.names.attrs attr words.attrs)
        (part_copied (row_copied (least_copied 1 (branches_copied branches))) end_copied))) (groups_copied rest)

    branches_copied : (branches : Branches)
        → AreCopied (StandsBranches naming branches) (StandsBranches naming branches) (packed (branch_forms naming branches))
    branches_copied no_branch = end_copied
    branches_copied (branch value no_group rest) =
        part_copied (named_copied sheet.names.values value words.values) (branches_copied rest)
    branches_copied (branch value (group attr branches inner) rest) =
        part_copied (row_copied (part_copied (named_copied sheet.names.values value words.values)
        (part_copied (row_copied (part_copied (named_copied sheet.names.attrs attr words.attrs)
        (part_copied (row_copied (least_copied 1 (branches_copied branches))) end_copied))) (groups_copied inner))))
        (branches_copied rest)

  abbrev DeckParts : DeckLine → Tree → Type 0
  DeckParts line =
      Row (Atom "create" ▸ Atom "deck"
      ▸ Row (Atom "game" ▸ KindOf naming line.loc ▸ Named sheet.names.locs line.loc ▸ End)
      ▸ Row (Atom "deck" ▸ Some (StandsGroups naming line.groups))
      ▸ End)

  deck_parts_copied : (line : DeckLine) → Copies (DeckParts line) (DeckParts line) (deck_form naming line)
  deck_parts_copied line =
      row_copied (part_copied (keyword_copied "create" refl) (part_copied (keyword_copied "deck" refl)
      (part_copied (row_copied (part_copied (keyword_copied "game" refl) (part_copied (kind_copied naming line.loc)
      (part_copied (named_copied sheet.names.locs line.loc words.locs) end_copied))))
      (part_copied (row_copied (part_copied (keyword_copied "deck" refl)
      (least_copied 1 (groups_copied line.groups)))) end_copied))))

  deck_copied : (line : DeckLine) → Copies (StandsDeck naming line) (StandsDeck naming line) (deck_form naming line)
  deck_copied line = record { of = of }
    where
      of : (form : Tree) → StandsDeck naming line form → Good (StandsDeck naming line) form (deck_form naming line)
      of form stands = let good = (deck_parts_copied line).of form stands.0 in ((good.0, stands.1), good.1, good.2)

  values_copied : (values : List ℕ)
      → AreCopied (StandValues naming values) (StandValues naming values) (packed (map (named sheet.names.values) values))
  values_copied [] = end_copied
  values_copied (value ∷ values) = part_copied (named_copied sheet.names.values value words.values) (values_copied values)

  entries_copied : (entries : List Entry)
      → AreCopied (StandEntries naming entries) (StandEntries naming entries) (packed (map (entry_form naming) entries))
  entries_copied [] = end_copied
  entries_copied (entry ∷ entries) =
      part_copied (row_copied (part_copied (named_copied sheet.names.attrs entry.attr words.attrs)
      (part_copied (row_copied (least_copied 1 (values_copied entry.values)))
      (part_copied (literal_copied entry.points) end_copied)))) (entries_copied entries)

  map_copied : (line : ℕ × List Entry) → Copies (StandsMap naming line) (StandsMap naming line) (map_form naming line)
  map_copied line =
      row_copied (part_copied (keyword_copied "put" refl) (part_copied (keyword_copied "points" refl)
      (part_copied (named_copied sheet.names.maps line.0 words.maps)
      (part_copied (row_copied (least_copied 1 (entries_copied line.1))) end_copied))))

-- LISTS OF LINES

-- no more lists than these are opened in each
abbrev AllOpen : ℕ → List Tree → Type 0
AllOpen room [] = Unit {0}
AllOpen room (tree ∷ trees) = IsOpenAtMost room tree × AllOpen room trees

lines_open : (first second : String) (room : ℕ) (lines : Trees) → AreOpenAtMost room lines
    → AllOpen room (lines_with first second lines)
lines_open first second room nil opened = tt
lines_open first second room (cons line lines) opened =
    either (begins_with first second line) (lines_with first second lines) (lines_open first second room lines opened.1)
  where
    either : (b : Bool) (rest : List Tree) → AllOpen room rest → AllOpen room (cond b (line ∷ rest) rest)
    either true rest others = (opened.0, others)
    either false rest others = others

-- the trees of several things that some forms stand for
pub record Zipped {A : Type 0} (New : A → Tree → Type 0) (xs : List A) (forms : List Tree) (tree_of : A → Tree) : Type 0 where
  pub stand : AllZip New xs (map tree_of xs)
  pub bare : AreBare (packed (map tree_of xs))
  pub opened : (room : ℕ) → AllOpen room forms → AreOpenAtMost room (packed (map tree_of xs))
  pub spelled : AreRespelled (packed forms) (packed (map tree_of xs))

zip_copied : {A : Type 0} (Old New : A → Tree → Type 0) (tree_of : A → Tree) → ((x : A) → Copies (Old x) (New x) (tree_of x))
    → (xs : List A) (forms : List Tree) → AllZip Old xs forms → Zipped New xs forms tree_of
zip_copied Old New tree_of each [] [] stand = record { stand = tt; bare = tt; opened = λ room opened. tt; spelled = tt }
zip_copied Old New tree_of each [] (form ∷ forms) stand = absurd stand
zip_copied Old New tree_of each (x ∷ xs) [] stand = absurd stand
zip_copied Old New tree_of each (x ∷ xs) (form ∷ forms) stand =
    let good = (each x).of form stand.0 in
    let rest = zip_copied Old New tree_of each xs forms stand.1 in
    record {
      stand = (good.0, rest.stand);
      bare = (good.1, rest.bare);
      opened = λ room opened. (good.2.0 room opened.0, rest.opened room opened.1);
      spelled = (good.2.1, rest.spelled);
    }

-- parts behind others
are_bare : (trees others : List Tree) → AreBare (packed trees) → AreBare (packed others) → AreBare (packed (trees ++ others))
are_bare [] others bare more = more
are_bare (tree ∷ trees) others bare more = (bare.0, are_bare trees others bare.1 more)

are_open : (room : ℕ) (trees others : List Tree) → AreOpenAtMost room (packed trees) → AreOpenAtMost room (packed others)
    → AreOpenAtMost room (packed (trees ++ others))
are_open room [] others opened more = more
are_open room (tree ∷ trees) others opened more = (opened.0, are_open room trees others opened.1 more)

are_spelled : (forms others trees more : List Tree) → AreRespelled (packed forms) (packed trees)
    → AreRespelled (packed others) (packed more) → AreRespelled (packed (forms ++ others)) (packed (trees ++ more))
are_spelled [] others [] more spelled rest = rest
are_spelled [] others (tree ∷ trees) more spelled rest = absurd spelled
are_spelled (form ∷ forms) others [] more spelled rest = absurd spelled
are_spelled (form ∷ forms) others (tree ∷ trees) more spelled rest =
    (spelled.0, are_spelled forms others trees more spelled.1 rest)

module _ (first second : String) where
  lines_append : (trees others : List Tree)
      → lines_with first second (packed (trees ++ others)) ≡ lines_with first second (packed trees)
      ++ lines_with first second (packed others)
  lines_append [] others = refl
  lines_append (tree ∷ trees) others =
      either (begins_with first second tree) (lines_with first second (packed (trees ++ others)))
      (lines_with first second (packed trees))
      (lines_with first second (packed others)) (lines_append trees others)
    where
      either : (b : Bool) (all some more : List Tree) → all ≡ some ++ more → cond b (tree ∷ all) all ≡ cond b (tree ∷ some) some
          ++ more
      either true all some more is = ap (λ rest. tree ∷ rest) is
      either false all some more is = is

  lines_all : {A : Type 0} (tree_of : A → Tree) → ((x : A) → begins_with first second (tree_of x) ≡ true) → (xs : List A)
      → lines_with first second (packed (map tree_of xs)) ≡ map tree_of xs
  lines_all tree_of each [] = refl
  lines_all tree_of each (x ∷ xs) =
      ap (λ b. cond b (tree_of x ∷ lines_with first second (packed (map tree_of xs)))
      (lines_with first second (packed (map tree_of xs)))) (each x)
      ∙ ap (λ rest. tree_of x ∷ rest) (lines_all tree_of each xs)

  lines_none : {A : Type 0} (tree_of : A → Tree) → ((x : A) → begins_with first second (tree_of x) ≡ false) → (xs : List A)
      → lines_with first second (packed (map tree_of xs)) ≡ []
  lines_none tree_of each [] = refl
  lines_none tree_of each (x ∷ xs) =
      ap (λ b. cond b (tree_of x ∷ lines_with first second (packed (map tree_of xs)))
      (lines_with first second (packed (map tree_of xs)))) (each x)
      ∙ lines_none tree_of each xs

  lines_two : (a b : List Tree) {a' b' : List Tree} → lines_with first second (packed a) ≡ a'
      → lines_with first second (packed b) ≡ b'
      → lines_with first second (packed (a ++ b)) ≡ a' ++ b'
  lines_two a b p q = lines_append a b ∙ ap₂ (λ x y. x ++ y) p q

  -- of four lists
  lines_of_four : (a b c d : List Tree) {a' b' c' d' : List Tree} → lines_with first second (packed a) ≡ a'
      → lines_with first second (packed b) ≡ b'
      → lines_with first second (packed c) ≡ c' → lines_with first second (packed d) ≡ d'
      → lines_with first second (packed (a ++ (b ++ (c ++ d)))) ≡ a' ++ (b' ++ (c' ++ d'))
  lines_of_four a b c d p q r s = lines_two a (b ++ (c ++ d)) p (lines_two b (c ++ d) q (lines_two c d r s))

-- each is a line
abbrev is_line : Tree → Bool
is_line tree =
    begins_with "create" "players" tree || begins_with "create" "teams" tree
    || begins_with "create" "deck" tree || begins_with "put" "points" tree

lines_are : {A : Type 0} (tree_of : A → Tree) → ((x : A) → is_line (tree_of x) ≡ true) → (xs : List A) (others : List Tree)
    → are_lines (packed others) ≡ true → are_lines (packed (map tree_of xs ++ others)) ≡ true
lines_are tree_of each [] others are = are
lines_are tree_of each (x ∷ xs) others are = and_from _ _ (each x) (lines_are tree_of each xs others are)

-- THE SETUP

teams_are : (teams : Option Teams) → teams_forms teams ≡ map teams_form (team_lines teams)
teams_are None = refl
teams_are (Present teams) = refl

module _ (sheet : Sheet) (words : HasWords sheet) where
  abbrev names : Naming
  names = sheet_naming sheet

  abbrev players_lines : List Tree
  players_lines = map players_form (sheet.players ∷ [])

  abbrev teams_lines : List Tree
  teams_lines = map teams_form (team_lines sheet.teams)

  abbrev deck_lines : List Tree
  deck_lines = map (deck_form names) sheet.decks

  abbrev map_lines : List Tree
  map_lines = map (map_form names) (numbered sheet.points)

  abbrev all_lines : List Tree
  all_lines = players_lines ++ (teams_lines ++ (deck_lines ++ map_lines))

  setup_is : setup_forms sheet ≡ all_lines
  setup_is =
      ap (λ teams. players_form sheet.players ∷ ((teams ++ deck_lines) ++ map_lines)) (teams_are sheet.teams)
      ∙ ap (λ rest. players_form sheet.players ∷ rest) (append_assoc teams_lines deck_lines map_lines)

  alone : are_lines (packed all_lines) ≡ true
  alone =
      lines_are players_form (λ x. refl) (sheet.players ∷ []) (teams_lines ++ (deck_lines ++ map_lines))
      (lines_are teams_form (λ x. refl) (team_lines sheet.teams) (deck_lines ++ map_lines)
      (lines_are (deck_form names) (λ x. refl) sheet.decks map_lines
      (subst (λ lines. are_lines (packed lines) ≡ true) (append-nil map_lines)
      (lines_are (map_form names) (λ x. refl) (numbered sheet.points) [] refl))))

  with_players : lines_with "create" "players" (packed all_lines) ≡ players_lines
  with_players =
      lines_of_four "create" "players" players_lines teams_lines deck_lines map_lines
      (lines_all "create" "players" players_form (λ x. refl) (sheet.players ∷ []))
      (lines_none "create" "players" teams_form (λ x. refl) (team_lines sheet.teams))
      (lines_none "create" "players" (deck_form names) (λ x. refl) sheet.decks)
      (lines_none "create" "players" (map_form names) (λ x. refl) (numbered sheet.points))

  with_teams : lines_with "create" "teams" (packed all_lines) ≡ teams_lines
  with_teams =
      lines_of_four "create" "teams" players_lines teams_lines deck_lines map_lines
      (lines_none "create" "teams" players_form (λ x. refl) (sheet.players ∷ []))
      (lines_all "create" "teams" teams_form (λ x. refl) (team_lines sheet.teams))
      (lines_none "create" "teams" (deck_form names) (λ x. refl) sheet.decks)
      (lines_none "create" "teams" (map_form names) (λ x. refl) (numbered sheet.points))
      ∙ append-nil teams_lines

  with_decks : lines_with "create" "deck" (packed all_lines) ≡ deck_lines
  with_decks =
      lines_of_four "create" "deck" players_lines teams_lines deck_lines map_lines
      (lines_none "create" "deck" players_form (λ x. refl) (sheet.players ∷ []))
      (lines_none "create" "deck" teams_form (λ x. refl) (team_lines sheet.teams))
      (lines_all "create" "deck" (deck_form names) (λ x. refl) sheet.decks)
      (lines_none "create" "deck" (map_form names) (λ x. refl) (numbered sheet.points))
      ∙ append-nil deck_lines

  with_maps : lines_with "put" "points" (packed all_lines) ≡ map_lines
  with_maps =
      lines_of_four "put" "points" players_lines teams_lines deck_lines map_lines
      (lines_none "put" "points" players_form (λ x. refl) (sheet.players ∷ []))
      (lines_none "put" "points" teams_form (λ x. refl) (team_lines sheet.teams))
      (lines_none "put" "points" (deck_form names) (λ x. refl) sheet.decks)
      (lines_all "put" "points" (map_form names) (λ x. refl) (numbered sheet.points))

  -- what is printed for lines that stand for the setup
  pub record SetUp (lines : Trees) (forms : List Tree) : Type 0 where
    pub stands : StandsSetup names (unplaced sheet) (packed forms)
    pub bare : AreBare (packed forms)
    pub opened : (room : ℕ) → AreOpenAtMost room lines → AreOpenAtMost room (packed forms)
    pub spelled : AreRespelled (packed (lines_in_order lines)) (packed forms)

  lines_copied : (lines : Trees) → StandsSetup names sheet lines → SetUp lines all_lines
  lines_copied lines setup =
      let players = zip_copied StandsPlayers StandsPlayers players_form players_copied (sheet.players ∷ [])
      (lines_with "create" "players" lines) setup.players in
      let teams = zip_copied StandsTeams StandsTeams teams_form teams_line_copied (team_lines sheet.teams)
      (lines_with "create" "teams" lines) setup.teams in
      let decks = zip_copied (StandsDeck names) (StandsDeck names) (deck_form names) (deck_copied sheet words) sheet.decks
      (lines_with "create" "deck" lines) setup.decks in
      let maps = zip_copied (StandsMap names) (StandsMap names) (map_form names) (map_copied sheet words)
      (numbered sheet.points) (lines_with "put" "points" lines) setup.points in
      record {
        stands = record {
          lines_alone = alone;
          players = subst (AllZip StandsPlayers (sheet.players ∷ [])) (sym with_players) players.stand;
          teams = subst (AllZip StandsTeams (team_lines sheet.teams)) (sym with_teams) teams.stand;
          decks = subst (AllZip (StandsDeck names) sheet.decks) (sym with_decks) decks.stand;
          points = subst (AllZip (StandsMap names) (numbered sheet.points)) (sym with_maps) maps.stand;
        };
        bare = are_bare players_lines _ players.bare (are_bare teams_lines _ teams.bare
            (are_bare deck_lines map_lines decks.bare maps.bare));
        opened = λ room opened.
            are_open room players_lines _ (players.opened room (lines_open "create" "players" room lines opened))
            (are_open room teams_lines _ (teams.opened room (lines_open "create" "teams" room lines opened))
            (are_open room deck_lines map_lines (decks.opened room (lines_open "create" "deck" room lines opened))
            (maps.opened room (lines_open "put" "points" room lines opened))));
        spelled =
            are_spelled (lines_with "create" "players" lines) _ players_lines _ players.spelled
            (are_spelled (lines_with "create" "teams" lines) _ teams_lines _ teams.spelled
            (are_spelled (lines_with "create" "deck" lines) (lines_with "put" "points" lines) deck_lines map_lines decks.spelled
            maps.spelled));
      }

  abbrev IsSetup : Sheet → Tree → Type 0
  IsSetup other = Row (Atom "setup" ▸ Some (StandsSetup names other))

  abbrev setup_form : Tree
  setup_form = row (keyword "setup" ∷ setup_forms sheet)

  -- what is printed for a setup
  pub record GoodSetup (form : Tree) : Type 0 where
    pub stands : IsSetup (unplaced sheet) setup_form
    pub bare : IsBare setup_form
    pub opened : (room : ℕ) → IsOpenAtMost room form → IsOpenAtMost room setup_form
    pub spelled : IsRespelled (setup_in_order form) setup_form

  pub setup_copied : (form : Tree) → IsSetup sheet form → GoodSetup form
  setup_copied (word bytes from to) stands = absurd stands
  setup_copied (list nil from to) stands = absurd stands
  setup_copied (list (cons head lines) from to) stands =
      let setup : SetUp lines (setup_forms sheet) = subst (SetUp lines) (sym setup_is) (lines_copied lines stands.1.1) in
      let good = (keyword_copied "setup" refl).of head stands.0 in
      record {
        stands = (refl, (le-leb 1 _ (omega arith), setup.stands));
        bare = (refl, refl, ((refl, refl, refl), setup.bare));
        opened = λ room opened. (opened.0, (tt, setup.opened (room - 1) opened.1.1));
        spelled = (good.2.1, setup.spelled);
      }
