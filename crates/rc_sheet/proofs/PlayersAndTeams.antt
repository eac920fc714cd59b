-- A sheet that is read has the players and teams that the parts of its form count, and no more players than it may have.
use Rattle.std.proofs.Common.{◌≡◌, ℕ, ◌-◌, ◌≤◌, suc, true, ◌&&◌, nat_le, List, [], ◌∷◌, ◌++◌, length, map, flat_map, slice_index_or, option_map, option_to_list, Option, Some, None, is_none, ℤ, pos, negsuc, refl, sym, ap, ap₂, ◌∙◌, arith}
use Rattle.std.specs.Prelude.{nat_abs, unwrap_or}
use Rattle.std.proofs.lemmas.Bool.{leb-true, and_parts}
use Rattle.std.proofs.lemmas.List.{append-nil, map-append}
use Rattle.rc_base.specs.Tree.{Tree, word, list, Trees, nil, cons}
use Rattle.rc_base.specs.Literal.{integer}
use Rattle.rc_sheet_spec.specs.Sheet.{Teams, Class, game_class, player_class, team_class, Sheet}
use Rattle.rc_base.specs.Limits.{most_players}
use Rattle.rc_sheet_spec.specs.Naming.{Naming}
use Rattle.rc_sheet_spec.specs.WellFormed.{team_count, owner_count}
use Rattle.rc_check.specs.Faults.{count}
use Rattle.rc_check.specs.declared.grammar.Rule.{Rule}
use Rattle.rc_check.specs.declared.grammar.Rule.TheVariants as rule
use Rattle.rc_sheet_spec.specs.WellFormed.{owner_count_by}
use Rattle.rc_check.specs.SecondParts.{Standing, Part, form, parts_of}
use Rattle.rc_check.specs.SecondNames.{number_at, players_in, player_count, teams_in, teams_by, team_count as team_count_by}
use Rattle.rc_sheet.specs.ReadNames.{ensure}
use Rattle.rc_sheet.specs.ReadSetup.{Lines, within, count_at, team_at, teams_at, deck_at, points_at, players_line, teams_line, deck_line, points_line, line_rule}
use Rattle.rc_sheet.specs.ReadSheet.{sheet_at}
use Rattle.rc_sheet.proofs.Means.{Means, nothing, something, means_if, means_so, behind, either, ensured, paired, anything}
use Rattle.rc_sheet.proofs.ReadOff.Setup.{none_listed}
use Rattle.rc_sheet.proofs.SetupCounts.{is_below, is_line_rule, sheet_adds}

-- a number in a range
pub record IsBetween (least most n : ℕ) : Type 0 where
  pub no_less : least ≤ n
  pub no_more : n ≤ most

-- a number that is read is the one that is counted
abbrev Counts : ℕ → ℕ → Option ℤ → ℕ → Type 0
Counts least most found n = (unwrap_or (option_map nat_abs found) 0 ≡ n) × IsBetween least most n

within_counts : (least most : ℕ) (found : Option ℤ) (z : ℤ) → found ≡ Some z
    → Means (within least most z) (Counts least most found)
within_counts least most found (pos n) is =
    either (nat_le least n && nat_le n most) (Some n) None
    (λ fits.
    let both = and_parts (nat_le least n) (nat_le n most) fits in
    something n (
      ap (λ o. unwrap_or (option_map nat_abs o) 0) is,
      record { no_less = leb-true least n both.0; no_more = leb-true n most both.1 },
    ))
    (λ fits. nothing)
within_counts least most found (negsuc n) is = nothing

pub count_counts : (least most : ℕ) (tree : Tree)
    → Means (count_at least most tree) (λ n. (number_at tree ≡ n) × IsBetween least most n)
unfolding count_at
count_counts least most (word bytes from to) =
    behind (integer bytes) (within least most) (means_if (integer bytes) (λ z is. is))
    (λ z is. within_counts least most (integer bytes) z is)
count_counts least most (list parts from to) = nothing

-- as many teams as lists of them
teams_counted : (parts : Trees) → Means (teams_at parts) (λ teams. length teams ≡ count parts)
teams_counted nil = something [] refl
teams_counted (cons part parts) =
    paired (team_at part) (teams_at parts) ◌∷◌ (anything (team_at part)) (teams_counted parts)
    (λ team teams u same. ap suc same)

-- PLAYERS

abbrev players_known : Lines → List ℕ
players_known lines = option_to_list lines.players

no_players : (at : Standing) (r : Rule) (parts : Trees) (from : ℕ) → is_below r ≡ true → players_in (form at r parts from) ≡ []
no_players at rule.CreatePlayers parts from quiet = absurd cc
no_players at r parts from quiet = refl

-- what a line of another kind leaves
players_kept : (before : Lines) → players_known before ++ [] ≡ players_known before
players_kept before = append-nil (players_known before)

players_added : (naming : Naming) (before : Lines) (at : Standing) (r : Rule) (parts : Trees) (from : ℕ)
    → Means (line_rule naming before r parts)
    (λ next. (is_line_rule r ≡ true) × (players_known before ++ players_in (form at r parts from) ≡ players_known next))
unfolding players_line teams_line deck_line points_line
players_added naming before at rule.CreatePlayers (cons create (cons players (cons number nil))) from =
    behind (ensure (is_none before.players)) _ (ensured (is_none before.players))
    (λ u first. behind (count_at 1 most_players number) _ (count_counts 1 most_players number)
    (λ n is. something (record before { players = Some n })
    (refl, ap₂ (λ l m. l ++ m ∷ []) (none_listed before.players first) is.0)))
players_added naming before at rule.CreateTeams (cons create (cons teams parts)) from =
    behind (ensure (is_none before.teams)) _ (anything (ensure (is_none before.teams)))
    (λ u v. behind (teams_at parts) _ (anything (teams_at parts))
    (λ all w. something (record before { teams = Some all }) (refl, players_kept before)))
players_added naming before at rule.CreateDeck (cons create (cons deck (cons loc (cons tree nil)))) from =
    behind (deck_at naming loc tree) _ (anything (deck_at naming loc tree))
    (λ line u. something (record before { decks = before.decks ++ line ∷ [] }) (refl, players_kept before))
players_added naming before at rule.PutPoints (cons put (cons points (cons map (cons tree nil)))) from =
    behind (points_at naming (length before.points) map tree) _ (anything (points_at naming (length before.points) map tree))
    (λ entries u. something (record before { points = before.points ++ entries ∷ [] }) (refl, players_kept before))
players_added naming before at r parts from = nothing

players_are : (naming : Naming) (tree : Tree)
    → Means (sheet_at naming tree) (λ sheet. flat_map players_in (parts_of tree) ≡ sheet.players ∷ [])
players_are naming tree =
    sheet_adds ℕ players_in players_known naming refl (λ at bytes from. refl) (λ at parts from. refl) (λ at parts from. refl)
    no_players (players_added naming) tree

-- TEAMS

-- how many teams a line has
abbrev line_long : Trees → ℕ
line_long parts = count parts - 2

abbrev team_sizes : Part → List ℕ
team_sizes part = map line_long (teams_in part)

abbrev teams_known : Lines → List ℕ
teams_known lines = option_to_list (option_map length lines.teams)

no_teams : (at : Standing) (r : Rule) (parts : Trees) (from : ℕ) → is_below r ≡ true → team_sizes (form at r parts from) ≡ []
no_teams at rule.CreateTeams parts from quiet = absurd cc
no_teams at r parts from quiet = refl

teams_kept : (before : Lines) → teams_known before ++ [] ≡ teams_known before
teams_kept before = append-nil (teams_known before)

none_known : (teams : Option Teams) → is_none teams ≡ true → option_to_list (option_map length teams) ≡ []
none_known None is = refl
none_known (Some teams) is = absurd cc

teams_added : (naming : Naming) (before : Lines) (at : Standing) (r : Rule) (parts : Trees) (from : ℕ)
    → Means (line_rule naming before r parts)
    (λ next. (is_line_rule r ≡ true) × (teams_known before ++ team_sizes (form at r parts from) ≡ teams_known next))
unfolding players_line teams_line deck_line points_line
teams_added naming before at rule.CreatePlayers (cons create (cons players (cons number nil))) from =
    behind (ensure (is_none before.players)) _ (anything (ensure (is_none before.players)))
    (λ u v. behind (count_at 1 most_players number) _ (anything (count_at 1 most_players number))
    (λ n w. something (record before { players = Some n }) (refl, teams_kept before)))
teams_added naming before at rule.CreateTeams (cons create (cons teams parts)) from =
    behind (ensure (is_none before.teams)) _ (ensured (is_none before.teams))
    (λ u first. behind (teams_at parts) _ (teams_counted parts)
    (λ all same. something (record before { teams = Some all }) (
      refl,
      ap₂ (λ l m. l ++ m ∷ []) (none_known before.teams first)
          (let long : suc (suc (count parts)) - 2 ≡ length all = omega (arith, same) in long),
    )))
teams_added naming before at rule.CreateDeck (cons create (cons deck (cons loc (cons tree nil)))) from =
    behind (deck_at naming loc tree) _ (anything (deck_at naming loc tree))
    (λ line u. something (record before { decks = before.decks ++ line ∷ [] }) (refl, teams_kept before))
teams_added naming before at rule.PutPoints (cons put (cons points (cons map (cons tree nil)))) from =
    behind (points_at naming (length before.points) map tree) _ (anything (points_at naming (length before.points) map tree))
    (λ entries u. something (record before { points = before.points ++ entries ∷ [] }) (refl, teams_kept before))
teams_added naming before at r parts from = nothing

sizes_are : (naming : Naming) (tree : Tree)
    → Means (sheet_at naming tree)
    (λ sheet. flat_map team_sizes (parts_of tree) ≡ option_to_list (option_map length sheet.teams))
sizes_are naming tree =
    sheet_adds ℕ team_sizes teams_known naming refl (λ at bytes from. refl) (λ at parts from. refl) (λ at parts from. refl)
    no_teams (teams_added naming) tree

-- the sizes of all lines of teams
sizes_of : (parts : List Part) → flat_map team_sizes parts ≡ map line_long (flat_map teams_in parts)
sizes_of [] = refl
sizes_of (part ∷ parts) =
    ap (λ l. team_sizes part ++ l) (sizes_of parts) ∙ sym (map-append line_long (teams_in part) (flat_map teams_in parts))

teams_same : (sheet : Sheet) (lines : List Trees) (teams : Option Teams)
    → map line_long lines ≡ option_to_list (option_map length teams) → teams_by sheet.players lines ≡ team_count sheet teams
teams_same sheet [] None is = refl
teams_same sheet [] (Some teams) is = absurd cc
teams_same sheet (parts ∷ lines) None is = absurd cc
teams_same sheet (parts ∷ lines) (Some teams) is = ap (λ (l : List ℕ). slice_index_or l 0 0) is

-- WHAT IS COUNTED IS READ

pub record HasCounts (tree : Tree) (sheet : Sheet) : Type 0 where
  pub players : player_count (parts_of tree) ≡ sheet.players
  pub teams : team_count_by (parts_of tree) ≡ team_count sheet sheet.teams

pub counts_are : (naming : Naming) (tree : Tree) (sheet : Sheet) → sheet_at naming tree ≡ Some sheet → HasCounts tree sheet
counts_are naming tree sheet is =
    let all = parts_of tree in
    let players : player_count all ≡ sheet.players =
    ap (λ (l : List ℕ). slice_index_or l 0 0) (means_so (sheet_at naming tree) sheet (players_are naming tree) is) in
    let sizes = means_so (sheet_at naming tree) sheet (sizes_are naming tree) is in
    record {
      players = players;
      teams = ap (λ n. teams_by n (flat_map teams_in all)) players
          ∙ teams_same sheet (flat_map teams_in all) sheet.teams (sym (sizes_of all) ∙ sizes);
    }

-- the owners of each class are as many
pub owners_same : (tree : Tree) (sheet : Sheet) (class : Class) → HasCounts tree sheet
    → owner_count_by (player_count (parts_of tree)) (team_count_by (parts_of tree)) class ≡ owner_count sheet class
owners_same tree sheet game_class counts = refl
owners_same tree sheet player_class counts = counts.players
owners_same tree sheet team_class counts = counts.teams
