-- The lines of a setup, where their forms are moved. Nothing in them has an offset.
use Prim.Native.String.{String}
use Rattle.std.proofs.Common.{◌≡◌, ℕ, Bool, true, false, ◌&&◌, ◌||◌, cond, List, [], ◌∷◌, codes, bytes_eq, refl, subst, sym, ap₂, ◌∙◌}
use Rattle.std.specs.List.{AllZip}
use Rattle.rc_base.specs.Tree.{Tree, word, list, Trees, nil, cons}
use Rattle.rc_base.specs.Deck.{Groups, no_group, group, Branches, no_branch, branch, Entry}
use Rattle.rc_form.specs.SameForm.{SameForm, SameForms}
use Rattle.rc_sheet_spec.specs.Sheet.{Teams, DeckLine, Sheet}
use Rattle.rc_sheet_spec.specs.Rows.{◌▸◌, End, Some, Row}
use Rattle.rc_sheet_spec.specs.Naming.{Naming, Named}
use Rattle.rc_sheet_spec.specs.StandsSetup.{StandsPlayers, StandsTeam, StandTeams, StandsTeams, StandsGroups, StandsBranches, StandsDeck, StandValues, StandEntries, StandsMap, begins_with, lines_with, are_lines, team_lines, numbered, StandsSetup}
use Rattle.rc_sheet.proofs.Moved.Common.{Keeps, AllKeep, word_keeps, row_keeps, part_keeps, end_keeps, least_keeps}

-- PLAYERS AND TEAMS

players_keep : (players : ℕ) → Keeps (StandsPlayers players)
players_keep players = row_keeps (part_keeps word_keeps (part_keeps word_keeps (part_keeps word_keeps end_keeps)))

team_keeps : (team : List ℕ) → AllKeep (StandsTeam team)
team_keeps [] = end_keeps
team_keeps (player ∷ players) = part_keeps word_keeps (team_keeps players)

all_teams_keep : (teams : Teams) → AllKeep (StandTeams teams)
all_teams_keep [] = end_keeps
all_teams_keep (team ∷ teams) = part_keeps (row_keeps (least_keeps 1 (team_keeps team))) (all_teams_keep teams)

teams_keep : (teams : Teams) → Keeps (StandsTeams teams)
teams_keep teams = row_keeps (part_keeps word_keeps (part_keeps word_keeps (least_keeps 1 (all_teams_keep teams))))

module _ (naming : Naming) where
  -- DECKS

  group_keeps : (attr : ℕ) (branches : Branches) → AllKeep (StandsBranches naming branches)
      → Keeps (Row (Named naming.names.attrs attr ▸ Row (Some (StandsBranches naming branches)) ▸ End))
  group_keeps attr branches inside =
      row_keeps (part_keeps word_keeps (part_keeps (row_keeps (least_keeps 1 inside)) end_keeps))

  mutual
    groups_keep : (groups : Groups) → AllKeep (StandsGroups naming groups)
    groups_keep no_group = end_keeps
    groups_keep (group attr branches rest) =
        part_keeps (group_keeps attr branches (branches_keep branches)) (groups_keep rest)

    branches_keep : (branches : Branches) → AllKeep (StandsBranches naming branches)
    branches_keep no_branch = end_keeps
    branches_keep (branch value no_group rest) = part_keeps word_keeps (branches_keep rest)
    branches_keep (branch value (group attr branches inner) rest) =
        part_keeps (row_keeps (part_keeps word_keeps (part_keeps (group_keeps attr branches (branches_keep branches))
        (groups_keep inner)))) (branches_keep rest)

  deck_keeps : (line : DeckLine) → Keeps (StandsDeck naming line)
  deck_keeps line = record {
    of = λ form other same stands. (
      (row_keeps (part_keeps word_keeps (part_keeps word_keeps
          (part_keeps (row_keeps (part_keeps word_keeps (part_keeps word_keeps (part_keeps word_keeps end_keeps))))
          (part_keeps (row_keeps (part_keeps word_keeps (least_keeps 1 (groups_keep line.groups)))) end_keeps))))).of
          form other same stands.0,
      stands.1,
    );
  }

  -- POINTS

  values_keep : (values : List ℕ) → AllKeep (StandValues naming values)
  values_keep [] = end_keeps
  values_keep (value ∷ values) = part_keeps word_keeps (values_keep values)

  entries_keep : (entries : List Entry) → AllKeep (StandEntries naming entries)
  entries_keep [] = end_keeps
  entries_keep (entry ∷ entries) =
      part_keeps (row_keeps (part_keeps word_keeps (part_keeps (row_keeps (least_keeps 1 (values_keep entry.values)))
      (part_keeps word_keeps end_keeps)))) (entries_keep entries)

  map_keeps : (line : ℕ × List Entry) → Keeps (StandsMap naming line)
  map_keeps line =
      row_keeps (part_keeps word_keeps (part_keeps word_keeps (part_keeps word_keeps
      (part_keeps (row_keeps (least_keeps 1 (entries_keep line.1))) end_keeps))))

-- LINES

begins_same : (first second : String) (form other : Tree) → SameForm form other
    → begins_with first second form ≡ begins_with first second other
begins_same first second (word bytes from to) (word others start end) same = refl
begins_same first second (word bytes from to) (list parts start end) same = absurd same
begins_same first second (list parts from to) (word bytes start end) same = absurd same
begins_same first second (list nil from to) (list nil start end) same = refl
begins_same first second (list nil from to) (list (cons tree trees) start end) same = absurd same
begins_same first second (list (cons tree trees) from to) (list nil start end) same = absurd same
begins_same first second (list (cons (list a from' to') trees) from to) (list (cons (word b start' end') others) start end) same =
    absurd same.0
begins_same first second (list (cons (word a from' to') trees) from to) (list (cons (list b start' end') others) start end) same =
    absurd same.0
begins_same first second (list (cons (list a from' to') trees) from to) (list (cons (list b start' end') others) start end) same =
    refl
begins_same first second (list (cons (word a from' to') nil) from to) (list (cons (word b start' end') nil) start end) same = refl
begins_same first second (list (cons (word a from' to') nil) from to) (list (cons (word b start' end') (cons tree trees)) start end)
    same = absurd same.1
begins_same first second (list (cons (word a from' to') (cons tree trees)) from to) (list (cons (word b start' end') nil) start end)
    same = absurd same.1
begins_same first second (list (cons (word a from' to') (cons (list c from'' to'') trees)) from to)
    (list (cons (word b start' end') (cons (list d start'' end'') others)) start end) same = refl
begins_same first second (list (cons (word a from' to') (cons (word c from'' to'') trees)) from to)
    (list (cons (word b start' end') (cons (list d start'' end'') others)) start end) same = absurd same.1.0
begins_same first second (list (cons (word a from' to') (cons (list c from'' to'') trees)) from to)
    (list (cons (word b start' end') (cons (word d start'' end'') others)) start end) same = absurd same.1.0
begins_same first second (list (cons (word a from' to') (cons (word c from'' to'') trees)) from to)
    (list (cons (word b start' end') (cons (word d start'' end'') others)) start end) same =
    ap₂ (λ x y. bytes_eq x (codes first) && bytes_eq y (codes second)) same.0 same.1.0

-- lists of forms that are the same but for offsets
abbrev AllSame : List Tree → List Tree → Type 0
AllSame [] [] = Unit {0}
AllSame [] (other ∷ others) = ⊥
AllSame (form ∷ forms) [] = ⊥
AllSame (form ∷ forms) (other ∷ others) = SameForm form other × AllSame forms others

lines_same : (first second : String) (lines others : Trees) → SameForms lines others
    → AllSame (lines_with first second lines) (lines_with first second others)
lines_same first second nil nil same = tt
lines_same first second nil (cons other others) same = absurd same
lines_same first second (cons line lines) nil same = absurd same
lines_same first second (cons line lines) (cons other others) same =
    subst (λ b. AllSame (lines_with first second (cons line lines))
    (cond b (other ∷ lines_with first second others) (lines_with first second others)))
    (begins_same first second line other same.0)
    (either (begins_with first second line) (lines_with first second lines) (lines_with first second others)
    (lines_same first second lines others same.1))
  where
    either : (b : Bool) (rest more : List Tree) → AllSame rest more → AllSame (cond b (line ∷ rest) rest) (cond b (other ∷ more) more)
    either true rest more are = (same.0, are)
    either false rest more are = are

lines_keep : (lines others : Trees) → SameForms lines others → are_lines lines ≡ are_lines others
lines_keep nil nil same = refl
lines_keep nil (cons other others) same = absurd same
lines_keep (cons line lines) nil same = absurd same
lines_keep (cons line lines) (cons other others) same =
    ap₂ ◌&&◌ (ap₂ ◌||◌ (ap₂ ◌||◌ (ap₂ ◌||◌ (begins_same "create" "players" line other same.0)
    (begins_same "create" "teams" line other same.0)) (begins_same "create" "deck" line other same.0))
    (begins_same "put" "points" line other same.0))
    (lines_keep lines others same.1)

zip_keeps : {A : Type 0} (P : A → Tree → Type 0) → ((x : A) → Keeps (P x)) → (xs : List A) (forms others : List Tree)
    → AllSame forms others → AllZip P xs forms → AllZip P xs others
zip_keeps P each [] [] [] same stand = tt
zip_keeps P each [] [] (other ∷ others) same stand = absurd same
zip_keeps P each [] (form ∷ forms) others same stand = absurd stand
zip_keeps P each (x ∷ xs) [] others same stand = absurd stand
zip_keeps P each (x ∷ xs) (form ∷ forms) [] same stand = absurd same
zip_keeps P each (x ∷ xs) (form ∷ forms) (other ∷ others) same stand =
    ((each x).of form other same.0 stand.0, zip_keeps P each xs forms others same.1 stand.1)

-- the lines of a setup are those of each sheet with the same parts
pub setup_keeps : (naming : Naming) (sheet : Sheet) → AllKeep (StandsSetup naming sheet)
setup_keeps naming sheet = record {
  of = λ lines others same stands. record {
    lines_alone = sym (lines_keep lines others same) ∙ stands.lines_alone;
    players = zip_keeps StandsPlayers players_keep (sheet.players ∷ []) _ _
        (lines_same "create" "players" lines others same) stands.players;
    teams = zip_keeps StandsTeams teams_keep (team_lines sheet.teams) _ _
        (lines_same "create" "teams" lines others same) stands.teams;
    decks = zip_keeps (StandsDeck naming) (deck_keeps naming) sheet.decks _ _
        (lines_same "create" "deck" lines others same) stands.decks;
    points = zip_keeps (StandsMap naming) (map_keeps naming) (numbered sheet.points) _ _
        (lines_same "put" "points" lines others same) stands.points;
  };
}
