-- What the lines of a setup give that stand for a well formed sheet's: its players, one line of teams at most, and its cards.
use Rattle.std.proofs.Common.{◌≡◌, ℕ, suc, ◌+◌, ◌*◌, ◌≤◌, Bool, true, false, cond, List, [], ◌∷◌, ◌++◌, inl, inr, length, map, flat_map, Option, Some, None, option_map, pos, refl, subst, ap, ap₂, ◌∙◌, arith, unwrap_or}
use Prim.Native.String.{String}
use Rattle.std.specs.Prelude.{codes, nat_abs, slice_index_or}
use Rattle.std.specs.List.{AllZip}
use Rattle.std.proofs.lemmas.Grind.{flat_map-append}
use Rattle.rc_base.specs.Tree.{Tree, word, list, Trees, nil, cons}
use Rattle.rc_base.specs.Deck.{Groups, no_group, group, Branches, no_branch, branch, face_count, branch_count}
use Rattle.rc_sheet_spec.specs.Sheet.{Teams, DeckLine, Sheet}
use Rattle.rc_sheet_spec.specs.Rows.{◌▸◌, End, AtLeast, Row, Atom}
use Rattle.rc_sheet_spec.specs.Rows.{Some as Full}
use Rattle.rc_sheet_spec.specs.Naming.{Naming, Named, Literal, KindOf, sheet_naming}
use Rattle.rc_sheet_spec.specs.StandsSetup.{StandsPlayers, StandTeams, StandsTeams, StandsGroups, StandsBranches, StandsDeck, StandsMap, begins_with, lines_with, team_lines, numbered, StandsSetup}
use Rattle.rc_sheet_spec.specs.StandsItems.{StandItems}
use Rattle.rc_sheet_spec.specs.Stands.{StandsScoring, Stands}
use Rattle.rc_sheet_spec.specs.WellFormed.{outside}
use Rattle.rc_sheet_spec.specs.WellFormed.{team_count as team_count_of}
use Rattle.rc_check.specs.Faults.{count}
use Rattle.rc_check.specs.declared.keyword.Keyword.TheVariants as keyword
use Rattle.rc_check.specs.declared.grammar.Symbol.TheVariants as symbol
use Rattle.rc_check.specs.declared.grammar.Rule.{Rule}
use Rattle.rc_check.specs.declared.grammar.Rule.TheVariants as rule
use Rattle.rc_check.specs.declared.role.Role.TheVariants.{No as no_role}
use Rattle.rc_check.specs.SecondParts.{Standing, Part, form, parts_at, parts_in, parts_of, part_at, standing_alone}
use Rattle.rc_check.specs.SecondNames.{number_at, players_in, teams_in, teams_by, team_count, faces_of, cards_in, written_faces, written_branches}
use Rattle.rc_sheet.proofs.Among.{Among}
use Rattle.rc_sheet.proofs.Fine.Lines.{OfLines, line_gives, behind_silent, all_said, players_of_lines, teams_of_lines, cards_of_lines}
use Rattle.rc_sheet.proofs.GoodParts.{Each}
use Rattle.rc_sheet.proofs.One.Rows.{behind_word, row_part, row_words, row_word_part, two_parts}
use Rattle.rc_sheet.proofs.Sound.Faces.{first_branch, no_more_branches, group_parts}
use Rattle.rc_sheet.proofs.Sound.Lines.{each_line, of_pairs}
use Rattle.rc_sheet.proofs.Sound.Parts.{standing}

-- the parts of a list, and the cards of a line
abbrev parts_of_list : Tree → List Trees
parts_of_list (word bytes from to) = []
parts_of_list (list parts from to) = parts ∷ []

abbrev cards_of_tree : Tree → List ℕ
cards_of_tree (word bytes from to) = []
cards_of_tree (list parts from to) = faces_of (part_at 3 parts) ∷ []

-- WHAT LINES GIVE

-- what all lines give, one behind the other
abbrev pub flat_lines : {X : Type 0} → (Tree → List X) → Trees → List X
flat_lines g nil = []
flat_lines g (cons tree lines) = g tree ++ flat_lines g lines

-- lines of one kind alone
pub of_kind : {X : Type 0} (first second : String) (h : Tree → List X) (lines : Trees)
    → flat_lines (λ tree. cond (begins_with first second tree) (h tree) []) lines ≡ flat_map h (lines_with first second lines)
of_kind first second h nil = refl
of_kind first second h (cons tree lines) = by (begins_with first second tree) (of_kind first second h lines)
  where
    by : (b : Bool) → flat_lines (λ tree. cond (begins_with first second tree) (h tree) []) lines
        ≡ flat_map h (lines_with first second lines)
        → cond b (h tree) [] ++ flat_lines (λ tree. cond (begins_with first second tree) (h tree) []) lines
        ≡ flat_map h (cond b (tree ∷ lines_with first second lines) (lines_with first second lines))
    by true later = ap (λ l. h tree ++ l) later
    by false later = later

-- a sheet's form, with its lines
pub whole_form : (sheet : Sheet) (P : Tree → Type 0) (tree : Tree) → Stands sheet tree
    → ((a b c d e f from to : ℕ) (lines rest : Trees) → StandsSetup (sheet_naming sheet) sheet lines
    → StandItems (sheet_naming sheet) sheet.items (StandsScoring sheet ▸ End) rest
    → P (list (cons (word (codes "game") a b) (cons (list (cons (word (codes "setup") c d) lines) e f) rest)) from to))
    → P tree
whole_form sheet P tree stands each =
    row_part "game" (Row (Atom "setup" ▸ Full (StandsSetup (sheet_naming sheet) sheet)))
    (AtLeast 2 (StandItems (sheet_naming sheet) sheet.items (StandsScoring sheet ▸ End))) P tree stands
    (λ a b from to setup rest here there. behind_word "setup" (Full (StandsSetup (sheet_naming sheet) sheet))
    (λ setup. P (list (cons (word (codes "game") a b) (cons setup rest)) from to)) setup here
    (λ c d e f lines more. each a b c d e f from to lines rest more.1 there.1))

-- what the form of a sheet and that of its setup don't give
pub record Outer {X : Type 0} (gives : Part → List X) : Type 0 where
  pub games : (at : Standing) (parts : Trees) (from : ℕ) → gives (form at rule.Game parts from) ≡ []
  pub setups : (at : Standing) (parts : Trees) (from : ℕ) → gives (form at rule.Setup parts from) ≡ []

players_outer : Outer players_in
players_outer = record { games = λ at parts from. refl; setups = λ at parts from. refl }

teams_outer : Outer teams_in
teams_outer = record { games = λ at parts from. refl; setups = λ at parts from. refl }

cards_outer : Outer cards_in
cards_outer = record { games = λ at parts from. refl; setups = λ at parts from. refl }

module _ (X : Type 0) (gives : Part → List X) where
  -- what one line gives
  abbrev pub LineGives : (Tree → List X) → Tree → Type 0
  LineGives g tree =
      (beside : Trees) → flat_map gives (parts_at (Some (standing symbol.Line outside no_role beside [])) tree) ≡ g tree

  pub lines_give : (g : Tree → List X) (whole parts : Trees) (k : ℕ) (lines : Trees) → Each (LineGives g) lines
      → flat_map gives (parts_in (standing symbol.Setup outside no_role whole []) rule.Setup parts (suc k) lines)
      ≡ flat_lines g lines
  lines_give g whole parts k nil each = refl
  lines_give g whole parts k (cons tree lines) each =
      let at = standing symbol.Setup outside no_role whole [] in
      let step : suc k + 1 ≡ suc (suc k) = omega arith in
      flat_map-append gives (parts_at (Some (standing symbol.Line outside no_role parts [])) tree)
      (parts_in at rule.Setup parts (suc k + 1) lines)
      ∙ ap₂ ◌++◌ (each.0 parts)
      (ap (λ i. flat_map gives (parts_in at rule.Setup parts i lines)) step ∙ lines_give g whole parts (suc k) lines each.1)

module _ (X : Type 0) (gives : Part → List X) (of_lines : OfLines gives) (outer : Outer gives) where
  form_gives : (g : Tree → List X) (a b c d e f from to : ℕ) (lines rest : Trees) → Each (LineGives X gives g) lines
      → flat_map gives (parts_of
      (list (cons (word (codes "game") a b) (cons (list (cons (word (codes "setup") c d) lines) e f) rest)) from to))
      ≡ flat_lines g lines
  form_gives g a b c d e f from to lines rest each =
      let setup = cons (word (codes "setup") c d) lines in
      let whole = cons (word (codes "game") a b) (cons (list setup e f) rest) in
      let at = standing symbol.Setup outside no_role whole [] in
      ap₂ ◌++◌ (outer.games standing_alone whole from)
      (ap₂ ◌++◌ (of_lines.atoms (standing (symbol.Word keyword.Game) outside no_role whole []) (codes "game") a)
      (all_said gives (parts_at (Some at) (list setup e f)) (parts_in standing_alone rule.Game whole 2 rest)
      (behind_silent gives of_lines whole rest)
      ∙ ap₂ ◌++◌ (outer.setups at setup e)
      (ap₂ ◌++◌ (of_lines.atoms (standing (symbol.Word keyword.Setup) outside no_role setup []) (codes "setup") c)
      (lines_give X gives g whole setup 0 lines each))))

  -- what a line that begins with these words gives
  abbrev GivesSo : (Tree → List X) → String → String → Rule → Type 0
  GivesSo g first second r =
      (f t f' t' from to : ℕ) (more beside : Trees) →
      let parts = cons (word (codes first) f t) (cons (word (codes second) f' t') more) in
      gives (form (standing symbol.Line outside no_role beside []) r parts from) ≡ g (list parts from to)

  -- what all lines of a setup give, by the forms of lines
  setup_gives : (sheet : Sheet) (g : Tree → List X) (lines : Trees) → StandsSetup (sheet_naming sheet) sheet lines
      → ((f t f' t' from to : ℕ) (a : Tree) (beside : Trees) → Literal (pos sheet.players) a →
      let parts = cons (word (codes "create") f t) (cons (word (codes "players") f' t') (cons a nil)) in
      gives (form (standing symbol.Line outside no_role beside []) rule.CreatePlayers parts from) ≡ g (list parts from to))
      → GivesSo g "create" "teams" rule.CreateTeams → GivesSo g "create" "deck" rule.CreateDeck
      → GivesSo g "put" "points" rule.PutPoints → Each (LineGives X gives g) lines
  setup_gives sheet g lines setup players teams decks points =
      let at : Trees → Standing = λ beside. standing symbol.Line outside no_role beside [] in
      each_line (LineGives X gives g) lines setup.lines_alone
      (of_pairs StandsPlayers (LineGives X gives g) (sheet.players ∷ []) _ setup.players
      (λ n tree is stands. row_word_part "create" "players" (Literal (pos n)) (LineGives X gives g) tree stands
      (λ f t f' t' from to a here beside. line_gives gives of_lines (at beside) rule.CreatePlayers
      (cons (word (codes "create") f t) (cons (word (codes "players") f' t') (cons a nil))) from to refl refl refl
      ∙ players f t f' t' from to a beside (subst (λ m. Literal (pos m) a) (one_of n sheet.players is) here))))
      (of_pairs StandsTeams (LineGives X gives g) (team_lines sheet.teams) _ setup.teams
      (λ line tree is stands. row_words "create" "teams" _ (LineGives X gives g) tree stands
      (λ f t f' t' from to more here beside. line_gives gives of_lines (at beside) rule.CreateTeams
      (cons (word (codes "create") f t) (cons (word (codes "teams") f' t') more)) from to refl refl refl
      ∙ teams f t f' t' from to more beside)))
      (of_pairs (StandsDeck (sheet_naming sheet)) (LineGives X gives g) sheet.decks _ setup.decks
      (λ line tree is stands. row_words "create" "deck" _ (LineGives X gives g) tree stands.0
      (λ f t f' t' from to more here beside. line_gives gives of_lines (at beside) rule.CreateDeck
      (cons (word (codes "create") f t) (cons (word (codes "deck") f' t') more)) from to refl refl refl
      ∙ decks f t f' t' from to more beside)))
      (of_pairs (StandsMap (sheet_naming sheet)) (LineGives X gives g) (numbered sheet.points) _ setup.points
      (λ line tree is stands. row_words "put" "points" _ (LineGives X gives g) tree stands
      (λ f t f' t' from to more here beside. line_gives gives of_lines (at beside) rule.PutPoints
      (cons (word (codes "put") f t) (cons (word (codes "points") f' t') more)) from to refl refl refl
      ∙ points f t f' t' from to more beside)))
    where
      one_of : (n m : ℕ) → Among n (m ∷ []) → n ≡ m
      one_of n m (inl is) = is
      one_of n m (inr none) = absurd none

-- PLAYERS

pub number_said : (n : ℕ) (tree : Tree) → Literal (pos n) tree → number_at tree ≡ n
number_said n (word bytes from to) is = ap (λ o. unwrap_or (option_map nat_abs o) 0) is
number_said n (list parts from to) is = absurd is

same_one : (n : ℕ) (lines : List Tree) → AllZip StandsPlayers (n ∷ []) lines
    → flat_map (λ (tree : Tree). n ∷ []) lines ≡ n ∷ []
same_one n [] pairs = absurd pairs
same_one n (line ∷ []) pairs = refl
same_one n (line ∷ next ∷ lines) pairs = absurd pairs.1

pub players_counted : (sheet : Sheet) (tree : Tree) → Stands sheet tree → flat_map players_in (parts_of tree) ≡ sheet.players ∷ []
players_counted sheet tree stands =
    whole_form sheet (λ tree. flat_map players_in (parts_of tree) ≡ sheet.players ∷ []) tree stands
    (λ a b c d e f from to lines rest setup items.
    let h : Tree → List ℕ = λ tree. sheet.players ∷ [] in
    let g : Tree → List ℕ = λ tree. cond (begins_with "create" "players" tree) (h tree) [] in
    form_gives ℕ players_in players_of_lines players_outer g a b c d e f from to lines rest
    (setup_gives ℕ players_in players_of_lines players_outer sheet g lines setup
    (λ f t f' t' from to x beside literal. ap (λ m. m ∷ []) (number_said sheet.players x literal))
    (λ f t f' t' from to more beside. refl) (λ f t f' t' from to more beside. refl)
    (λ f t f' t' from to more beside. refl))
    ∙ of_kind "create" "players" h lines
    ∙ same_one sheet.players (lines_with "create" "players" lines) setup.players)

-- TEAMS

-- as many lines as there are in the sheet
one_each : (teams : List Teams) (lines : List Tree) → AllZip StandsTeams teams lines
    → length (flat_map (λ tree. parts_of_list tree) lines) ≤ length teams
one_each [] [] pairs = omega arith
one_each [] (line ∷ lines) pairs = absurd pairs
one_each (teams ∷ more) [] pairs = absurd pairs
one_each (teams ∷ more) (word bytes from to ∷ lines) pairs = absurd pairs.0
one_each (teams ∷ more) (list parts from to ∷ lines) pairs =
    let later = one_each more lines pairs.1 in omega (arith, later)

pub teams_counted : (sheet : Sheet) (tree : Tree) → Stands sheet tree
    → (lines : List Tree) × AllZip StandsTeams (team_lines sheet.teams) lines
    × (flat_map teams_in (parts_of tree) ≡ flat_map (λ tree. parts_of_list tree) lines)
teams_counted sheet tree stands =
    whole_form sheet
    (λ tree. (lines : List Tree) × AllZip StandsTeams (team_lines sheet.teams) lines
    × (flat_map teams_in (parts_of tree) ≡ flat_map (λ tree. parts_of_list tree) lines)) tree stands
    (λ a b c d e f from to lines rest setup items.
    let g : Tree → List Trees = λ tree. cond (begins_with "create" "teams" tree) (parts_of_list tree) [] in (
      lines_with "create" "teams" lines,
      setup.teams,
      form_gives Trees teams_in teams_of_lines teams_outer g a b c d e f from to lines rest
          (setup_gives Trees teams_in teams_of_lines teams_outer sheet g lines setup
          (λ f t f' t' from to x beside literal. refl) (λ f t f' t' from to more beside. refl)
          (λ f t f' t' from to more beside. refl) (λ f t f' t' from to more beside. refl))
          ∙ of_kind "create" "teams" (λ tree. parts_of_list tree) lines,
    ))

pub one_teams_line : (sheet : Sheet) (tree : Tree) → Stands sheet tree → length (flat_map teams_in (parts_of tree)) ≤ 1
one_teams_line sheet tree stands =
    let found = teams_counted sheet tree stands in
    let few = one_each (team_lines sheet.teams) found.0 found.1 in
    let one = at_most sheet.teams in
    let long = ap length found.2 in omega (arith, few, one, long)
  where
    at_most : (teams : Option Teams) → length (team_lines teams) ≤ 1
    at_most None = omega arith
    at_most (Some teams) = omega arith

-- how many teams a line has
teams_long : (teams : Teams) (trees : Trees) → StandTeams teams trees → count trees ≡ length teams
teams_long [] nil stands = refl
teams_long [] (cons tree trees) stands = absurd stands
teams_long (team ∷ teams) nil stands = absurd stands
teams_long (team ∷ teams) (cons tree trees) stands = ap suc (teams_long teams trees stands.1)

-- as many teams as the sheet has
pub teams_many : (sheet : Sheet) (tree : Tree) → Stands sheet tree
    → team_count (parts_of tree) ≡ team_count_of sheet sheet.teams
teams_many sheet tree stands =
    let found = teams_counted sheet tree stands in
    ap₂ teams_by (ap (λ l. slice_index_or l 0 0) (players_counted sheet tree stands)) found.2
    ∙ by sheet.teams found.0 found.1
  where
    by : (teams : Option Teams) (lines : List Tree) → AllZip StandsTeams (team_lines teams) lines
        → teams_by sheet.players (flat_map (λ tree. parts_of_list tree) lines) ≡ team_count_of sheet teams
    by None [] pairs = refl
    by None (line ∷ lines) pairs = absurd pairs
    by (Some teams) [] pairs = absurd pairs
    by (Some teams) (word bytes from to ∷ lines) pairs = absurd pairs.0
    by (Some teams) (list nil from to ∷ lines) pairs = absurd pairs.0
    by (Some teams) (list (cons a nil) from to ∷ lines) pairs = absurd pairs.0.1
    by (Some teams) (list (cons a (cons b parts)) from to ∷ lines) pairs =
        let long = teams_long teams parts pairs.0.1.1.1 in omega (arith, long)

-- CARDS

mutual
  -- a deck's tree has as many faces as its groups
  groups_count : (naming : Naming) (groups : Groups) (trees : Trees) → StandsGroups naming groups trees
      → written_faces trees ≡ face_count groups
  groups_count naming no_group nil stands = refl
  groups_count naming no_group (cons tree trees) stands = absurd stands
  groups_count naming (group attr branches rest) nil stands = absurd stands
  groups_count naming (group attr branches rest) (cons tree trees) stands =
      let later = groups_count naming rest trees stands.1 in
      group_parts naming attr branches (λ tree. written_faces (cons tree trees) ≡ face_count (group attr branches rest)) tree
      stands.0
      (λ bytes f t a b from to first others is inner.
      ap₂ (λ m n. m * n) (branches_count naming branches (cons first others) inner) later)

  branches_count : (naming : Naming) (branches : Branches) (trees : Trees) → StandsBranches naming branches trees
      → written_branches trees ≡ branch_count branches
  branches_count naming no_branch nil stands = refl
  branches_count naming no_branch (cons tree trees) stands = absurd stands
  branches_count naming (branch value inner others) nil stands = absurd (no_more_branches naming value inner others stands)
  branches_count naming (branch value no_group others) (cons (word bytes from to) trees) stands =
      ap (λ n. 1 + n) (branches_count naming others trees stands.1)
  branches_count naming (branch value (group attr branches inner) others) (cons (word bytes from to) trees) stands =
      absurd stands.0
  branches_count naming (branch value inner others) (cons (list nil from to) trees) stands =
      absurd (first_branch naming value inner others (list nil from to) trees stands).0
  branches_count naming (branch value inner others) (cons (list (cons (list parts a b) groups) from to) trees) stands =
      absurd (first_branch naming value inner others (list (cons (list parts a b) groups) from to) trees stands).0.0
  branches_count naming (branch value inner others) (cons (list (cons (word bytes a b) groups) from to) trees) stands =
      let both = first_branch naming value inner others (list (cons (word bytes a b) groups) from to) trees stands in
      ap₂ (λ m n. m + n) (groups_count naming inner groups both.0.1) (branches_count naming others trees both.1)

-- the cards of a deck line
cards_of_line : (naming : Naming) (line : DeckLine) (tree : Tree) → StandsDeck naming line tree
    → cards_of_tree tree ≡ face_count line.groups ∷ []
cards_of_line naming line tree stands =
    row_words "create" "deck"
    (Row (Atom "game" ▸ KindOf naming line.loc ▸ Named naming.names.locs line.loc ▸ End)
    ▸ Row (Atom "deck" ▸ Full (StandsGroups naming line.groups)) ▸ End)
    (λ tree. cards_of_tree tree ≡ face_count line.groups ∷ []) tree stands.0
    (λ f t f' t' from to parts more. two_parts
    (Row (Atom "game" ▸ KindOf naming line.loc ▸ Named naming.names.locs line.loc ▸ End))
    (Row (Atom "deck" ▸ Full (StandsGroups naming line.groups)))
    (λ l. cards_of_tree (list (cons (word (codes "create") f t) (cons (word (codes "deck") f' t') l)) from to)
    ≡ face_count line.groups ∷ []) parts more
    (λ l d here there. behind_word "deck" (Full (StandsGroups naming line.groups))
    (λ d. faces_of d ∷ [] ≡ face_count line.groups ∷ []) d there
    (λ g u a b groups inner. ap (λ n. n ∷ []) (groups_count naming line.groups groups inner.1))))

decks_count : (naming : Naming) (decks : List DeckLine) (lines : List Tree) → AllZip (StandsDeck naming) decks lines
    → flat_map cards_of_tree lines ≡ map (λ (line : DeckLine). face_count line.groups) decks
decks_count naming [] [] pairs = refl
decks_count naming [] (line ∷ lines) pairs = absurd pairs
decks_count naming (deck ∷ decks) [] pairs = absurd pairs
decks_count naming (deck ∷ decks) (line ∷ lines) pairs =
    ap₂ ◌++◌ (cards_of_line naming deck line pairs.0) (decks_count naming decks lines pairs.1)

pub cards_counted : (sheet : Sheet) (tree : Tree) → Stands sheet tree
    → flat_map cards_in (parts_of tree) ≡ map (λ (line : DeckLine). face_count line.groups) sheet.decks
cards_counted sheet tree stands =
    whole_form sheet
    (λ tree. flat_map cards_in (parts_of tree) ≡ map (λ (line : DeckLine). face_count line.groups) sheet.decks) tree stands
    (λ a b c d e f from to lines rest setup items.
    let g : Tree → List ℕ = λ tree. cond (begins_with "create" "deck" tree) (cards_of_tree tree) [] in
    form_gives ℕ cards_in cards_of_lines cards_outer g a b c d e f from to lines rest
    (setup_gives ℕ cards_in cards_of_lines cards_outer sheet g lines setup
    (λ f t f' t' from to x beside literal. refl) (λ f t f' t' from to more beside. refl)
    (λ f t f' t' from to more beside. refl) (λ f t f' t' from to more beside. refl))
    ∙ of_kind "create" "deck" cards_of_tree lines
    ∙ decks_count (sheet_naming sheet) sheet.decks (lines_with "create" "deck" lines) setup.decks)
