-- Forms that stand for decks, point maps and the whole setup have the shape of their place.
use Rattle.std.proofs.Common.{◌≡◌, ℕ, suc, ◌+◌, ◌≤◌, Bool, true, false, not, ◌||◌, cond, List, [], ◌∷◌, length, zip, Option, Some, None, slice_get, refl, ap, arith, lt-ltb}
use Rattle.std.specs.Prelude.{codes, All}
use Rattle.std.specs.List.{AllByRecursion, AllZip, range_with_len}
use Rattle.std.proofs.lemmas.Bool.{and_parts, or_left, or_right}
use Rattle.std.proofs.lemmas.List.Elements.{recursion_from_All}
use Rattle.rc_base.specs.Deck.{Groups, no_group, group, Branches, no_branch, branch, Entry}
use Rattle.rc_base.specs.Tree.{Tree, word, list, Trees, nil, cons}
use Rattle.rc_sheet_spec.specs.Sheet.{Teams, DeckLine, game, Sheet}
use Rattle.rc_base.specs.Clamp.{IsWithinClamp}
use Rattle.rc_sheet_spec.specs.Rows.{◌▸◌, End, Row, Atom}
use Rattle.rc_sheet_spec.specs.Rows.{Some as Full}
use Rattle.rc_sheet_spec.specs.Naming.{Naming, Named, Literal, KindOf, sheet_naming}
use Rattle.rc_sheet_spec.specs.StandsSetup.{StandsPlayers, StandsTeams, StandsGroups, StandsBranches, StandsDeck, StandValues, StandEntries, StandsMap, begins_with, lines_with, are_lines, team_lines, StandsSetup}
use Rattle.rc_sheet_spec.specs.WellFormed.{IsEntry, ArePartition, AreTeams, IsWellFormed}
use Rattle.rc_check.specs.Grammar.{front_of}
use Rattle.rc_check.specs.Faults.{faults, count, names_players, some_names_players}
use Rattle.rc_sheet.proofs.One.Rows.{behind_word, two_parts, three_parts, row_words}
use Rattle.rc_sheet.proofs.One.Setup.{two_of}
use Rattle.rc_sheet.proofs.Shaped.Common.{by_form, AllShaped, parts_from, form_shaped, row_shaped, more_fit, name_shaped, literal_shaped, home_shaped}
use Rattle.rc_sheet.proofs.Shaped.Teams.{loose_shaped, players_shaped, teams_shaped}
use Rattle.rc_check.specs.declared.grammar.Symbol.TheVariants as symbol
use Rattle.rc_check.specs.declared.grammar.Rule.TheVariants as rule

-- what stands for a name is a word
name_only : (P : Tree → Type 0) (words : List (List ℕ)) (n : ℕ) (tree : Tree) → Named words n tree
    → ((bytes : List ℕ) (from to : ℕ) → Named words n (word bytes from to) → P (word bytes from to)) → P tree
name_only P words n (word bytes from to) named each = each bytes from to named
name_only P words n (list parts from to) named each = absurd named

-- VALUES AND ENTRIES

values_shaped : (naming : Naming) (values : List ℕ) (trees : Trees) → StandValues naming values trees
    → AllShaped symbol.Name trees
values_shaped naming [] nil stand = tt
values_shaped naming [] (cons tree trees) stand = absurd stand
values_shaped naming (v ∷ values) nil stand = absurd stand
values_shaped naming (v ∷ values) (cons tree trees) stand =
    ((name_shaped naming.names.values v tree stand.0).0, values_shaped naming values trees stand.1)

value_list_shaped : (naming : Naming) (values : List ℕ) (tree : Tree) → Row (Full (StandValues naming values)) tree
    → faults symbol.Values tree ≡ []
value_list_shaped naming values (word bytes from to) row = absurd row
value_list_shaped naming values (list parts from to) row =
    loose_shaped symbol.Values rule.Values parts from to (λ a rest. refl) (λ a rest. lt-ltb 0 (suc (count rest)) (omega arith))
    refl row.0 (values_shaped naming values parts row.1)

-- `(ATTR (VALUE+) n)`
entry_shaped : (naming : Naming) (entry : Entry) (tree : Tree)
    → Row (Named naming.names.attrs entry.attr ▸ Row (Full (StandValues naming entry.values)) ▸ Literal entry.points ▸ End) tree
    → IsWithinClamp entry.points → faults symbol.Entry tree ≡ []
entry_shaped naming entry tree row range =
    three_parts (Named naming.names.attrs entry.attr) (Row (Full (StandValues naming entry.values))) (Literal entry.points)
    (λ tree. faults symbol.Entry tree ≡ []) tree row
    (λ a v n from to named values points.
    name_only (λ a. faults symbol.Entry (list (cons a (cons v (cons n nil))) from to) ≡ []) naming.names.attrs entry.attr a named
    (λ bytes f t named.
    row_shaped symbol.Entry rule.Entry (cons (word bytes f t) (cons v (cons n nil))) from to refl refl (
      (name_shaped naming.names.attrs entry.attr (word bytes f t) named).0,
      (value_list_shaped naming entry.values v values, ((literal_shaped entry.points n points range).2, tt)),
    )))

entries_shaped : (naming : Naming) (entries : List Entry) (trees : Trees) → StandEntries naming entries trees
    → AllByRecursion IsEntry entries → AllShaped symbol.Entry trees
entries_shaped naming [] nil stand are = tt
entries_shaped naming [] (cons tree trees) stand are = absurd stand
entries_shaped naming (entry ∷ entries) nil stand are = absurd stand
entries_shaped naming (entry ∷ entries) (cons tree trees) stand are =
    (entry_shaped naming entry tree stand.0 are.0.1, entries_shaped naming entries trees stand.1 are.1)

entry_list_shaped : (naming : Naming) (entries : List Entry) (tree : Tree) → Row (Full (StandEntries naming entries)) tree
    → AllByRecursion IsEntry entries → faults symbol.Entries tree ≡ []
entry_list_shaped naming entries (word bytes from to) row are = absurd row
entry_list_shaped naming entries (list parts from to) row are =
    loose_shaped symbol.Entries rule.Entries parts from to (λ a rest. refl)
    (λ a rest. lt-ltb 0 (suc (count rest)) (omega arith)) refl row.0 (entries_shaped naming entries parts row.1 are)

-- `(put points MAP (ENTRY+))`
map_shaped : (naming : Naming) (number : ℕ) (entries : List Entry) (tree : Tree) → StandsMap naming (number, entries) tree
    → AllByRecursion IsEntry entries → faults symbol.Line tree ≡ []
map_shaped naming number entries tree row are =
    row_words "put" "points" (Named naming.names.maps number ▸ Row (Full (StandEntries naming entries)) ▸ End)
    (λ tree. faults symbol.Line tree ≡ []) tree row
    (λ f t f' t' from to parts more. two_parts (Named naming.names.maps number) (Row (Full (StandEntries naming entries)))
    (λ l. faults symbol.Line (list (cons (word (codes "put") f t) (cons (word (codes "points") f' t') l)) from to) ≡ [])
    parts more
    (λ m e named there.
    row_shaped symbol.Line rule.PutPoints
    (cons (word (codes "put") f t) (cons (word (codes "points") f' t') (cons m (cons e nil)))) from to refl refl
    (refl, (refl, ((name_shaped naming.names.maps number m named).0, (entry_list_shaped naming entries e there are, tt))))))

-- DECKS

-- `(BRANCH+)`
branch_list_shaped : (naming : Naming) (branches : Branches) (tree : Tree) → Row (Full (StandsBranches naming branches)) tree
    → ((parts : Trees) → StandsBranches naming branches parts → AllShaped symbol.Branch parts) → faults symbol.Branches tree ≡ []
branch_list_shaped naming branches (word bytes from to) row each = absurd row
branch_list_shaped naming branches (list parts from to) row each =
    loose_shaped symbol.Branches rule.Branches parts from to (λ a rest. refl)
    (λ a rest. lt-ltb 0 (suc (count rest)) (omega arith)) refl row.0 (each parts row.1)

-- `(ATTR (BRANCH+))`
group_shaped : (naming : Naming) (attr : ℕ) (branches : Branches) (tree : Tree)
    → Row (Named naming.names.attrs attr ▸ Row (Full (StandsBranches naming branches)) ▸ End) tree
    → ((parts : Trees) → StandsBranches naming branches parts → AllShaped symbol.Branch parts) → faults symbol.Group tree ≡ []
group_shaped naming attr branches tree row each =
    two_of (Named naming.names.attrs attr) (Row (Full (StandsBranches naming branches)))
    (λ tree. faults symbol.Group tree ≡ []) tree row
    (λ a b from to named there.
    name_only (λ a. faults symbol.Group (list (cons a (cons b nil)) from to) ≡ []) naming.names.attrs attr a named
    (λ bytes f t named.
    row_shaped symbol.Group rule.Group (cons (word bytes f t) (cons b nil)) from to refl refl
    ((name_shaped naming.names.attrs attr (word bytes f t) named).0, (branch_list_shaped naming branches b there each, tt))))

mutual
  groups_shaped : (naming : Naming) (groups : Groups) (trees : Trees) → StandsGroups naming groups trees
      → AllShaped symbol.Group trees
  groups_shaped naming no_group nil stand = tt
  groups_shaped naming no_group (cons tree trees) stand = absurd stand
  groups_shaped naming (group attr branches rest) nil stand = absurd stand
  groups_shaped naming (group attr branches rest) (cons tree trees) stand = (
    group_shaped naming attr branches tree stand.0 (λ parts stand. branches_shaped naming branches parts stand),
    groups_shaped naming rest trees stand.1,
  )

  branches_shaped : (naming : Naming) (branches : Branches) (trees : Trees) → StandsBranches naming branches trees
      → AllShaped symbol.Branch trees
  branches_shaped naming no_branch nil stand = tt
  branches_shaped naming no_branch (cons tree trees) stand = absurd stand
  branches_shaped naming (branch value no_group rest) nil stand = absurd stand
  branches_shaped naming (branch value no_group rest) (cons tree trees) stand =
      ((name_shaped naming.names.values value tree stand.0).1, branches_shaped naming rest trees stand.1)
  branches_shaped naming (branch value (group attr branches inner) rest) nil stand = absurd stand
  branches_shaped naming (branch value (group attr branches inner) rest) (cons (word bytes from to) trees) stand =
      absurd stand.0
  branches_shaped naming (branch value (group attr branches inner) rest) (cons (list nil from to) trees) stand = absurd stand.0
  branches_shaped naming (branch value (group attr branches inner) rest) (cons (list (cons v nil) from to) trees) stand =
      absurd stand.0.1
  branches_shaped naming (branch value (group attr branches inner) rest) (cons (list (cons v (cons g gs)) from to) trees)
      stand = (
        name_only (λ v. faults symbol.Branch (list (cons v (cons g gs)) from to) ≡ []) naming.names.values value v stand.0.0
            (λ bytes f t named.
            form_shaped symbol.Branch rule.Branch (cons (word bytes f t) (cons g gs)) from to refl
            (lt-ltb 1 (suc (suc (count gs))) (omega arith)) refl (
              (name_shaped naming.names.values value (word bytes f t) named).0,
              (
                group_shaped naming attr branches g stand.0.1.0 (λ parts stand. branches_shaped naming branches parts stand),
                groups_shaped naming inner gs stand.0.1.1,
              ),
            )),
        branches_shaped naming rest trees stand.1,
      )

-- `(create deck LOC (deck GROUP+))`
deck_shaped : (naming : Naming) (line : DeckLine) (tree : Tree) → StandsDeck naming line tree → faults symbol.Line tree ≡ []
deck_shaped naming line tree stands =
    row_words "create" "deck"
    (Row (Atom "game" ▸ KindOf naming line.loc ▸ Named naming.names.locs line.loc ▸ End)
    ▸ Row (Atom "deck" ▸ Full (StandsGroups naming line.groups)) ▸ End)
    (λ tree. faults symbol.Line tree ≡ []) tree stands.0
    (λ f t f' t' from to parts more.
    two_parts (Row (Atom "game" ▸ KindOf naming line.loc ▸ Named naming.names.locs line.loc ▸ End))
    (Row (Atom "deck" ▸ Full (StandsGroups naming line.groups)))
    (λ l. faults symbol.Line (list (cons (word (codes "create") f t) (cons (word (codes "deck") f' t') l)) from to) ≡ [])
    parts more
    (λ home deck here there.
    row_shaped symbol.Line rule.CreateDeck
    (cons (word (codes "create") f t) (cons (word (codes "deck") f' t') (cons home (cons deck nil)))) from to refl refl
    (refl, (refl, ((home_shaped naming [] game line.loc home here).0, (deck_list deck there, tt))))))
  where
    deck_list : (tree : Tree) → Row (Atom "deck" ▸ Full (StandsGroups naming line.groups)) tree → faults symbol.Deck tree ≡ []
    deck_list tree row =
        behind_word "deck" (Full (StandsGroups naming line.groups)) (λ tree. faults symbol.Deck tree ≡ []) tree row
        (λ f t from to groups there.
        form_shaped symbol.Deck rule.Deck (cons (word (codes "deck") f t) groups) from to refl (more_fit 1 groups there.0) refl
        (refl, groups_shaped naming line.groups groups there.1))

-- LINES

abbrev LineShaped : Tree → Type 0
LineShaped tree = faults symbol.Line tree ≡ []

-- lines that stand for something, of one kind
each_line : {A : Type 0} (R : A → Tree → Type 0) (P : A → Type 0) (all : List A) (lines : List Tree)
    → ((a : A) (line : Tree) → R a line → P a → LineShaped line) → AllZip R all lines → AllByRecursion P all
    → AllByRecursion LineShaped lines
each_line R P [] [] each stand are = tt
each_line R P [] (line ∷ lines) each stand are = absurd stand
each_line R P (a ∷ all) [] each stand are = absurd stand
each_line R P (a ∷ all) (line ∷ lines) each stand are =
    (each a line stand.0 are.0, each_line R P all lines each stand.1 are.1)

each_map : (naming : Naming) (start : ℕ) (all : List (List Entry)) (lines : List Tree)
    → AllZip (StandsMap naming) (zip (range_with_len start (length all)) all) lines
    → AllByRecursion (λ entries. AllByRecursion IsEntry entries) all → AllByRecursion LineShaped lines
each_map naming start [] [] stand are = tt
each_map naming start [] (line ∷ lines) stand are = absurd stand
each_map naming start (entries ∷ all) [] stand are = absurd stand
each_map naming start (entries ∷ all) (line ∷ lines) stand are =
    (map_shaped naming start entries line stand.0 are.0, each_map naming (start + 1) all lines stand.1 are.1)

-- a line among those of its kind, and the others
kept : (b : Bool) (line : Tree) (lines : List Tree) → AllByRecursion LineShaped (cond b (line ∷ lines) lines)
    → (b ≡ true → LineShaped line) × AllByRecursion LineShaped lines
kept true line lines all = (λ is. all.0, all.1)
kept false line lines all = (λ is. absurd cc, all)

-- one of four tests that holds
pub one_of_four : {R : Type 0} (a b c d : Bool) → (a || b || c || d) ≡ true → (a ≡ true → R) → (b ≡ true → R) → (c ≡ true → R)
    → (d ≡ true → R) → R
one_of_four true b c d is p q r s = p refl
one_of_four false true c d is p q r s = q refl
one_of_four false false true d is p q r s = r refl
one_of_four false false false true is p q r s = s refl
one_of_four false false false false is p q r s = absurd cc

lines_shaped : (lines : Trees) → are_lines lines ≡ true → AllByRecursion LineShaped (lines_with "create" "players" lines)
    → AllByRecursion LineShaped (lines_with "create" "teams" lines)
    → AllByRecursion LineShaped (lines_with "create" "deck" lines)
    → AllByRecursion LineShaped (lines_with "put" "points" lines) → AllShaped symbol.Line lines
lines_shaped nil are players teams decks points = tt
lines_shaped (cons line lines) are players teams decks points =
    let a = kept (begins_with "create" "players" line) line (lines_with "create" "players" lines) players in
    let b = kept (begins_with "create" "teams" line) line (lines_with "create" "teams" lines) teams in
    let c = kept (begins_with "create" "deck" line) line (lines_with "create" "deck" lines) decks in
    let d = kept (begins_with "put" "points" line) line (lines_with "put" "points" lines) points in
    let both = and_parts
    (begins_with "create" "players" line || begins_with "create" "teams" line || begins_with "create" "deck" line
    || begins_with "put" "points" line) (are_lines lines) are in (
      one_of_four (begins_with "create" "players" line) (begins_with "create" "teams" line) (begins_with "create" "deck" line)
          (begins_with "put" "points" line) both.0 a.0 b.0 c.0 d.0,
      lines_shaped lines both.1 a.1 b.1 c.1 d.1,
    )

-- a line for the players
names_line : (line : Tree) → begins_with "create" "players" line ≡ true → names_players line ≡ true
names_line (word bytes from to) is = absurd cc
names_line (list nil from to) is = absurd cc
names_line (list (cons (list parts f t) rest) from to) is = absurd cc
names_line (list (cons (word bytes f t) nil) from to) is = absurd cc
names_line (list (cons (word bytes f t) (cons (list parts f' t') rest)) from to) is = absurd cc
names_line (list (cons (word bytes f t) (cons (word bytes' f' t') rest)) from to) is = is

some_names : (players : ℕ) (lines : Trees) → AllZip StandsPlayers (players ∷ []) (lines_with "create" "players" lines)
    → some_names_players lines ≡ true
some_names players nil stand = absurd stand
some_names players (cons line lines) stand =
    by (begins_with "create" "players" line) refl stand (λ later. some_names players lines later)
  where
    by : (b : Bool) → begins_with "create" "players" line ≡ b
        → AllZip StandsPlayers (players ∷ []) (cond b (line ∷ lines_with "create" "players" lines)
        (lines_with "create" "players" lines))
        → (AllZip StandsPlayers (players ∷ []) (lines_with "create" "players" lines) → some_names_players lines ≡ true)
        → some_names_players (cons line lines) ≡ true
    by true is stand later = or_left (names_players line) (some_names_players lines) (names_line line is)
    by false is stand later = or_right (names_players line) (some_names_players lines) (later stand)

-- THE SETUP

team_line_shaped : (players : ℕ) (teams : Option Teams) → AreTeams players teams
    → AllByRecursion (λ teams. ArePartition players teams) (team_lines teams)
team_line_shaped players None are = tt
team_line_shaped players (Some teams) are = (are, tt)

-- entries of each map
entries_by_recursion : (points : List (List Entry)) → AllByRecursion (All IsEntry) points
    → AllByRecursion (λ entries. AllByRecursion IsEntry entries) points
entries_by_recursion [] are = tt
entries_by_recursion (entries ∷ points) are = (recursion_from_All IsEntry entries are.0, entries_by_recursion points are.1)

any_deck : (decks : List DeckLine) → AllByRecursion (λ line. Unit {0}) decks
any_deck [] = tt
any_deck (line ∷ decks) = (tt, any_deck decks)

setup_lines_shaped : (sheet : Sheet) (lines : Trees) → StandsSetup (sheet_naming sheet) sheet lines → IsWellFormed sheet
    → AllShaped symbol.Line lines
setup_lines_shaped sheet lines stands well =
    lines_shaped lines stands.lines_alone
    (each_line StandsPlayers (λ n. (1 ≤ n) × (n ≤ 8)) (sheet.players ∷ []) (lines_with "create" "players" lines)
    (λ n line stands is. players_shaped n line stands is.0 is.1) stands.players
    ((well.limits.some_players, well.limits.players), tt))
    (each_line StandsTeams (λ teams. ArePartition sheet.players teams) (team_lines sheet.teams)
    (lines_with "create" "teams" lines)
    (λ teams line stands are. teams_shaped sheet.players teams line stands are well.limits.players) stands.teams
    (team_line_shaped sheet.players sheet.teams well.teams))
    (each_line (StandsDeck (sheet_naming sheet)) (λ line. Unit {0}) sheet.decks (lines_with "create" "deck" lines)
    (λ deck line stands any. deck_shaped (sheet_naming sheet) deck line stands) stands.decks (any_deck sheet.decks))
    (each_map (sheet_naming sheet) 0 sheet.points (lines_with "put" "points" lines) stands.points
    (entries_by_recursion sheet.points (recursion_from_All (All IsEntry) sheet.points well.entries)))

-- `(setup LINE+)`
pub setup_shaped : (sheet : Sheet) (tree : Tree) → Row (Atom "setup" ▸ Full (StandsSetup (sheet_naming sheet) sheet)) tree
    → IsWellFormed sheet → faults symbol.Setup tree ≡ []
setup_shaped sheet tree row well =
    behind_word "setup" (Full (StandsSetup (sheet_naming sheet) sheet)) (λ tree. faults symbol.Setup tree ≡ []) tree row
    (λ f t from to lines there.
    let parts = cons (word (codes "setup") f t) lines in
    by_form symbol.Setup rule.Setup parts from to refl (more_fit 1 lines there.0)
    (ap not (some_names sheet.players lines there.1.players))
    (parts_from rule.Setup (count parts) 0 (front_of rule.Setup) (Some symbol.Line) parts (λ last. refl)
    (λ i. ap (slice_get (front_of rule.Setup)) (omega arith))
    (refl, setup_lines_shaped sheet lines there.1 well)))
