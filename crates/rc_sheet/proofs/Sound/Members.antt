-- The members that the form of a sheet writes are those of the sheet's teams.
use Rattle.std.proofs.Common.{◌≡◌, ℕ, suc, ◌+◌, ◌==◌, Bool, true, false, cond, List, [], ◌∷◌, ◌++◌, flat_map, Option, Some, None, slice_get, option_map, refl, sym, subst, ap, ap₂, ◌∙◌, arith, append-nil}
use Rattle.std.specs.Prelude.{codes}
use Rattle.std.specs.List.{list_all, AllZip}
use Rattle.std.proofs.lemmas.Option.{same_Some}
use Rattle.std.proofs.lemmas.Grind.{flat_map-append}
use Rattle.rc_base.specs.Tree.{Tree, word, list, Trees, nil, cons}
use Rattle.rc_base.specs.Deck.{Entry}
use Rattle.rc_sheet_spec.specs.Sheet.{Teams, DeckLine, Sheet}
use Rattle.rc_sheet_spec.specs.Rows.{Row}
use Rattle.rc_sheet_spec.specs.Rows.{Some as Full}
use Rattle.rc_sheet_spec.specs.Naming.{sheet_naming}
use Rattle.rc_sheet_spec.specs.StandsSetup.{StandsPlayers, StandsTeam, StandTeams, StandsTeams, StandsDeck, StandsMap, begins_with, lines_with, team_lines, numbered}
use Rattle.rc_sheet_spec.specs.Stands.{Stands}
use Rattle.rc_sheet_spec.specs.WellFormed.{outside}
use Rattle.rc_check.specs.Grammar.{forms_of, front_of}
use Rattle.rc_check.specs.Faults.{rule_of, behind_front, or_behind, place_at, count}
use Rattle.rc_check.specs.declared.grammar.Symbol.{Symbol}
use Rattle.rc_check.specs.declared.grammar.Symbol.TheVariants as symbol
use Rattle.rc_check.specs.declared.grammar.Rule.{Rule}
use Rattle.rc_check.specs.declared.grammar.Rule.TheVariants as rule
use Rattle.rc_check.specs.declared.role.Role.TheVariants.{No as no_role}
use Rattle.rc_check.specs.SecondParts.{Standing, parts_at, parts_in, parts_of, with_form, standing_in, standing_alone}
use Rattle.rc_check.specs.SecondNames.{member_by, members_in}
use Rattle.rc_sheet.proofs.Bodies.{each_passes, all_pass, standing_at}
use Rattle.rc_sheet.proofs.One.Rows.{row_words, row_word_part}
use Rattle.rc_sheet.proofs.Shapes.{rule_holds}
use Rattle.rc_sheet.proofs.Sound.Counts.{of_kind, whole_form, LineGives, lines_give, number_said}
use Rattle.rc_sheet.proofs.Sound.Lines.{each_line, of_pairs, team_line_is}
use Rattle.rc_sheet.proofs.Sound.Parts.{standing}

-- WHERE NO MEMBER STANDS

abbrev no_members : Symbol → Bool
no_members symbol.Sheet = false
no_members symbol.Setup = false
no_members symbol.Line = false
no_members symbol.Team = false
no_members symbol.Member = false
no_members p = true

abbrev is_calm : Rule → Bool
is_calm rule.Game = false
is_calm rule.Setup = false
is_calm rule.CreateTeams = false
is_calm rule.Team = false
is_calm r = true

calm_below : (p : Symbol) → no_members p ≡ true → list_all is_calm (forms_of p) ≡ true
calm_below symbol.Sheet inside = absurd cc
calm_below symbol.Setup inside = absurd cc
calm_below symbol.Line inside = absurd cc
calm_below symbol.Team inside = absurd cc
calm_below symbol.Member inside = absurd cc
calm_below p inside = refl

front_calm : (r : Rule) → is_calm r ≡ true → list_all no_members (front_of r) ≡ true
front_calm rule.Game calm = absurd cc
front_calm rule.Setup calm = absurd cc
front_calm rule.CreateTeams calm = absurd cc
front_calm rule.Team calm = absurd cc
front_calm r calm = refl

-- a place there, or none
abbrev calm_or_none : Option Symbol → Bool
calm_or_none None = true
calm_or_none (Some p) = no_members p

behind_calm : (r : Rule) (last : Bool) → is_calm r ≡ true → calm_or_none (behind_front r last) ≡ true
behind_calm rule.Game last calm = absurd cc
behind_calm rule.Setup last calm = absurd cc
behind_calm rule.CreateTeams last calm = absurd cc
behind_calm rule.Team last calm = absurd cc
behind_calm r last calm = refl

or_place : (found behind : Option Symbol) (q : Symbol) → or_behind found behind ≡ Some q
    → ((p : Symbol) → found ≡ Some p → no_members p ≡ true) → calm_or_none behind ≡ true → no_members q ≡ true
or_place (Some p) behind q is first more = subst (λ p. no_members p ≡ true) (same_Some p q is) (first p refl)
or_place None (Some p) q is first more = subst (λ p. no_members p ≡ true) (same_Some p q is) more
or_place None None q is first more = absurd cc

calm_place : (r : Rule) (n j : ℕ) (q : Symbol) → is_calm r ≡ true → place_at r n j ≡ Some q → no_members q ≡ true
calm_place r n j q calm is =
    or_place (slice_get (front_of r) j) (behind_front r (j + 1 == n)) q is
    (λ p found. all_pass no_members (front_of r) j p (front_calm r calm) found) (behind_calm r (j + 1 == n) calm)

word_none : (q : Symbol) (bytes : List ℕ) → no_members q ≡ true → member_by q bytes ≡ []
word_none symbol.Member bytes inside = absurd cc
word_none q bytes inside = refl

form_none : (at : Standing) (parts : Trees) (from : ℕ) (found : Option Rule)
    → ((r : Rule) → found ≡ Some r → flat_map members_in (parts_in at r parts 0 parts) ≡ [])
    → flat_map members_in (with_form at parts from (λ r. parts_in at r parts 0 parts) found) ≡ []
form_none at parts from None each = refl
form_none at parts from (Some r) each = each r refl

place_none : (at : Standing) (r : Rule) (all : Trees) (index : ℕ) (found : Option Symbol) (tree : Tree)
    → ((q : Symbol) → found ≡ Some q → flat_map members_in (parts_at (Some (standing_at at r all index q)) tree) ≡ [])
    → flat_map members_in (parts_at (option_map (λ q. standing_at at r all index q) found) tree) ≡ []
place_none at r all index None (word bytes from to) each = refl
place_none at r all index None (list parts from to) each = refl
place_none at r all index (Some q) tree each = each q refl

mutual
  tree_none : (at : Standing) (tree : Tree) → no_members at.place ≡ true → flat_map members_in (parts_at (Some at) tree) ≡ []
  tree_none at (word bytes from to) inside = ap (λ l. l ++ []) (word_none at.place bytes inside)
  tree_none at (list parts from to) inside =
      form_none at parts from (rule_of at.place parts)
      (λ r is. row_none at r parts 0 parts
      (rule_holds (λ r. is_calm r ≡ true) at.place parts r is
      (each_passes is_calm (forms_of at.place) (calm_below at.place inside))))

  row_none : (at : Standing) (r : Rule) (all : Trees) (index : ℕ) (trees : Trees) → is_calm r ≡ true
      → flat_map members_in (parts_in at r all index trees) ≡ []
  row_none at r all index nil calm = refl
  row_none at r all index (cons tree trees) calm =
      flat_map-append members_in (parts_at (standing_in at r all index) tree) (parts_in at r all (index + 1) trees)
      ∙ ap₂ ◌++◌
      (place_none at r all index (place_at r (count all) index) tree
      (λ q is. tree_none (standing_at at r all index q) tree (calm_place r (count all) index q calm is)))
      (row_none at r all (index + 1) trees calm)

-- behind the setup
behind_none : (all : Trees) (k : ℕ) (trees : Trees)
    → flat_map members_in (parts_in standing_alone rule.Game all (suc (suc k)) trees) ≡ []
behind_none all k nil = refl
behind_none all k (cons tree trees) =
    flat_map-append members_in (parts_at (standing_in standing_alone rule.Game all (suc (suc k))) tree)
    (parts_in standing_alone rule.Game all (suc (suc k) + 1) trees)
    ∙ ap₂ ◌++◌
    (place_none standing_alone rule.Game all (suc (suc k)) (place_at rule.Game (count all) (suc (suc k))) tree
    (λ q is. tree_none (standing_at standing_alone rule.Game all (suc (suc k)) q) tree
    (last_place (suc (suc k) + 1 == count all) q is)))
    (ap (λ i. flat_map members_in (parts_in standing_alone rule.Game all i trees)) (step k) ∙ behind_none all (suc k) trees)
  where
    step : (k : ℕ) → suc (suc k) + 1 ≡ suc (suc (suc k))
    step k = omega arith

    last_place : (last : Bool) (q : Symbol) → behind_front rule.Game last ≡ Some q → no_members q ≡ true
    last_place true q is = subst (λ o. calm_or_none o ≡ true) is refl
    last_place false q is = subst (λ o. calm_or_none o ≡ true) is refl

-- LINES

team_listed : (team : List ℕ) (beside parts : Trees) (k : ℕ) (trees : Trees) → StandsTeam team trees
    → flat_map members_in (parts_in (standing symbol.Team outside no_role beside []) rule.Team parts k trees) ≡ team
team_listed [] beside parts k nil stands = refl
team_listed [] beside parts k (cons tree trees) stands = absurd stands
team_listed (player ∷ team) beside parts k nil stands = absurd stands
team_listed (player ∷ team) beside parts k (cons (list inner from to) trees) stands = absurd stands.0
team_listed (player ∷ team) beside parts k (cons (word bytes from to) trees) stands =
    ap₂ ◌∷◌ (number_said player (word bytes from to) stands.0) (team_listed team beside parts (k + 1) trees stands.1)

one_team : (team : List ℕ) (beside : Trees) (tree : Tree) → Row (Full (StandsTeam team)) tree
    → flat_map members_in (parts_at (Some (standing symbol.Team outside no_role beside [])) tree) ≡ team
one_team team beside (word bytes from to) stands = absurd stands
one_team team beside (list nil from to) stands = let none = stands.0 in absurd cc
one_team team beside (list (cons first others) from to) stands =
    team_listed team beside (cons first others) 0 (cons first others) stands.1

teams_listed : (teams : Teams) (beside parts : Trees) (k : ℕ) (trees : Trees) → StandTeams teams trees
    → flat_map members_in (parts_in (standing symbol.Line outside no_role beside []) rule.CreateTeams parts (suc (suc k)) trees)
    ≡ flat_map (λ team. team) teams
teams_listed [] beside parts k nil stands = refl
teams_listed [] beside parts k (cons tree trees) stands = absurd stands
teams_listed (team ∷ teams) beside parts k nil stands = absurd stands
teams_listed (team ∷ teams) beside parts k (cons tree trees) stands =
    flat_map-append members_in (parts_at (Some (standing symbol.Team outside no_role parts [])) tree)
    (parts_in (standing symbol.Line outside no_role beside []) rule.CreateTeams parts (suc (suc k) + 1) trees)
    ∙ ap₂ ◌++◌ (one_team team parts tree stands.0)
    (ap (λ i. flat_map members_in (parts_in (standing symbol.Line outside no_role beside []) rule.CreateTeams parts i trees))
    (step k)
    ∙ teams_listed teams beside parts (suc k) trees stands.1)
  where
    step : (k : ℕ) → suc (suc k) + 1 ≡ suc (suc (suc k))
    step k = omega arith

-- the members of a sheet's teams
abbrev pub members_of : Option Teams → List ℕ
members_of None = []
members_of (Some teams) = flat_map (λ team. team) teams

-- what each line gives
abbrev said : Sheet → Tree → List ℕ
said sheet tree = cond (begins_with "create" "teams" tree) (members_of sheet.teams) []

players_none : (sheet : Sheet) (n : ℕ) (tree : Tree) → StandsPlayers n tree → LineGives ℕ members_in (said sheet) tree
players_none sheet n tree stands =
    row_word_part "create" "players" _ (LineGives ℕ members_in (said sheet)) tree stands
    (λ f t f' t' from to a here beside. row_none (standing symbol.Line outside no_role beside []) rule.CreatePlayers
    (cons (word (codes "create") f t) (cons (word (codes "players") f' t') (cons a nil))) 0
    (cons (word (codes "create") f t) (cons (word (codes "players") f' t') (cons a nil))) refl)

teams_said : (sheet : Sheet) (teams : Teams) (tree : Tree) → sheet.teams ≡ Some teams → StandsTeams teams tree
    → LineGives ℕ members_in (said sheet) tree
teams_said sheet teams tree is stands =
    row_words "create" "teams" (Full (StandTeams teams)) (LineGives ℕ members_in (said sheet)) tree stands
    (λ f t f' t' from to parts more beside.
    teams_listed teams beside (cons (word (codes "create") f t) (cons (word (codes "teams") f' t') parts)) 0 parts more.1
    ∙ ap members_of (sym is))

deck_none : (sheet : Sheet) (line : DeckLine) (tree : Tree) → StandsDeck (sheet_naming sheet) line tree
    → LineGives ℕ members_in (said sheet) tree
deck_none sheet line tree stands =
    row_words "create" "deck" _ (LineGives ℕ members_in (said sheet)) tree stands.0
    (λ f t f' t' from to parts more beside. row_none (standing symbol.Line outside no_role beside []) rule.CreateDeck
    (cons (word (codes "create") f t) (cons (word (codes "deck") f' t') parts)) 0
    (cons (word (codes "create") f t) (cons (word (codes "deck") f' t') parts)) refl)

map_none : (sheet : Sheet) (line : ℕ × List Entry) (tree : Tree) → StandsMap (sheet_naming sheet) line tree
    → LineGives ℕ members_in (said sheet) tree
map_none sheet line tree stands =
    row_words "put" "points" _ (LineGives ℕ members_in (said sheet)) tree stands
    (λ f t f' t' from to parts more beside. row_none (standing symbol.Line outside no_role beside []) rule.PutPoints
    (cons (word (codes "put") f t) (cons (word (codes "points") f' t') parts)) 0
    (cons (word (codes "put") f t) (cons (word (codes "points") f' t') parts)) refl)

-- THE MEMBERS
pub members_are : (sheet : Sheet) (tree : Tree) → Stands sheet tree
    → flat_map members_in (parts_of tree) ≡ members_of sheet.teams
members_are sheet tree stands =
    whole_form sheet (λ tree. flat_map members_in (parts_of tree) ≡ members_of sheet.teams) tree stands
    (λ a b c d e f from to lines rest setup items.
    let parts = cons (word (codes "setup") c d) lines in
    let whole = cons (word (codes "game") a b) (cons (list parts e f) rest) in
    flat_map-append members_in (parts_at (Some (standing symbol.Setup outside no_role whole [])) (list parts e f))
    (parts_in standing_alone rule.Game whole 2 rest)
    ∙ ap (λ l. flat_map members_in (parts_at (Some (standing symbol.Setup outside no_role whole [])) (list parts e f)) ++ l)
    (behind_none whole 0 rest)
    ∙ append-nil _
    ∙ lines_give ℕ members_in (said sheet) whole parts 0 lines
    (each_line (LineGives ℕ members_in (said sheet)) lines setup.lines_alone
    (of_pairs StandsPlayers (LineGives ℕ members_in (said sheet)) (sheet.players ∷ []) _ setup.players
    (λ n tree is stands. players_none sheet n tree stands))
    (of_pairs StandsTeams (LineGives ℕ members_in (said sheet)) (team_lines sheet.teams) _ setup.teams
    (λ teams tree is stands. teams_said sheet teams tree (team_line_is sheet.teams teams is) stands))
    (of_pairs (StandsDeck (sheet_naming sheet)) (LineGives ℕ members_in (said sheet)) sheet.decks _ setup.decks
    (λ line tree is stands. deck_none sheet line tree stands))
    (of_pairs (StandsMap (sheet_naming sheet)) (LineGives ℕ members_in (said sheet)) (numbered sheet.points) _ setup.points
    (λ line tree is stands. map_none sheet line tree stands)))
    ∙ of_kind "create" "teams" (λ tree. members_of sheet.teams) lines
    ∙ one_line sheet.teams (lines_with "create" "teams" lines) setup.teams)
  where
    one_line : (teams : Option Teams) (lines : List Tree) → AllZip StandsTeams (team_lines teams) lines
        → flat_map (λ (tree : Tree). members_of teams) lines ≡ members_of teams
    one_line None [] pairs = refl
    one_line None (line ∷ lines) pairs = absurd pairs
    one_line (Some teams) [] pairs = absurd pairs
    one_line (Some teams) (line ∷ []) pairs = append-nil (members_of (Some teams))
    one_line (Some teams) (line ∷ next ∷ lines) pairs = absurd pairs.1
