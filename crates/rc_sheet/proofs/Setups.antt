-- What the lines of a setup give of attributes, of values, of point maps and of locations is what its trees say.
use Rattle.std.proofs.Common.{◌≡◌, ℕ, ◌≤◌, List, [], ◌∷◌, ◌++◌, Some, flat_map, refl, sym, subst, ap, ap₂, ◌∙◌, arith}
use Rattle.std.proofs.lemmas.List.{append-nil}
use Rattle.rc_base.specs.Tree.{Tree, word, list, Trees, nil, cons}
use Rattle.rc_sheet_spec.specs.FormMentions.{gathered, words_of, group_attr_words, branch_attr_words, group_value_words, branch_value_words, deck_groups, points_map, points_entries, entry_attr_words, entry_value_words}
use Rattle.rc_check.specs.Keyword.{text_of}
use Rattle.rc_check.specs.Faults.{faults_at, faults_in, rule_of, place_at, count}
use Rattle.rc_check.specs.declared.keyword.Keyword.TheVariants as keyword
use Rattle.rc_check.specs.declared.grammar.Symbol.TheVariants as symbol
use Rattle.rc_check.specs.declared.grammar.Rule.{Rule}
use Rattle.rc_check.specs.declared.grammar.Rule.TheVariants as rule
use Rattle.rc_check.specs.declared.role.Role.{Role}
use Rattle.rc_check.specs.declared.role.Role.TheVariants.{No as no_role, GivenValue as given_value, DeckLocation as deck_role}
use Rattle.rc_check.specs.SecondParts.{Standing, Part, atom, form, parts_at, parts_in, with_form}
use Rattle.rc_check.specs.SecondNames.{attributes_in, value_by, values_in, maps_in, locations_in}
use Rattle.rc_resolve.specs.Mentions.{loc_mention, deck_location}
use Rattle.rc_sheet.proofs.Shapes.{none_in_both, fixed_only}
use Rattle.rc_sheet.proofs.Bodies.{is_body, fits_role, standing_at}
use Rattle.rc_sheet.proofs.Given.Faces.{sole, deck_behind, groups_give}
use Rattle.rc_sheet.proofs.Entries.{entries_give}
use Rattle.rc_sheet.proofs.Gathered.{by_atom, tree_gives}
use Rattle.rc_sheet.proofs.Given.Names.{locations_tell}
use Rattle.rc_sheet.proofs.Lands.{no_location_in_faces, no_map_in_faces, no_attribute_in_team, no_value_in_team, no_map_in_team, no_location_in_team, no_attribute_behind, no_value_behind, no_map_behind}
use Rattle.rc_sheet.proofs.Lines.{deck_line, points_line, in_lines, lines_give}

-- what a value gives by its role, and any other atom
value_given : (role : Role) (bytes : List ℕ) → role ≡ given_value → value_by role bytes ≡ bytes ∷ []
value_given role bytes is = ap (λ r. value_by r bytes) is

value_plain : (role : Role) (bytes : List ℕ) → role ≡ no_role → value_by role bytes ≡ []
value_plain role bytes is = ap (λ r. value_by r bytes) is

-- what the groups of a deck give, where the word before them gives nothing
module _
    {X : Type 0}
    (given : Part → List X)
    (in_groups : Trees → List X)
    (head_gives : (at : Standing) (bytes : List ℕ) (from : ℕ) → at.role ≡ no_role → given (atom at bytes from) ≡ [])
    (deck_gives : (at : Standing) (parts : Trees) (from : ℕ) → given (form at rule.Deck parts from) ≡ [])
    (groups : (at : Standing) (r : Rule) (all : Trees) (trees : Trees)
    → ((j : ℕ) → 1 ≤ j → place_at r (count all) j ≡ Some symbol.Group) → faults_in r (count all) 1 trees ≡ []
    → in_groups trees ≡ flat_map given (parts_in at r all 1 trees))
    (said : Tree → List X)
    (said_so : (parts : Trees) (a b : ℕ) (head : Tree) → said (list (cons head parts) a b) ≡ in_groups parts)
  where
    pub deck_gives_groups : (at : Standing) → at.place ≡ symbol.Deck → (tree : Tree) → faults_at (Some symbol.Deck) tree ≡ []
        → flat_map given (parts_at (Some at) tree) ≡ said tree
    deck_gives_groups at here (word bytes from to) none = absurd cc
    deck_gives_groups at here (list nil from to) none = absurd cc
    deck_gives_groups at here (list (cons head trees) from to) none =
        let shape = sole symbol.Deck rule.Deck (cons head trees) from to (refl, tt) none in
        let apart = none_in_both (faults_at (Some (symbol.Word keyword.Deck)) head) _ shape.2 in
        ap (λ o. flat_map given (with_form at (cons head trees) from (λ r. parts_in at r (cons head trees) 0
        (cons head trees)) o))
        (ap (λ p. rule_of p (cons head trees)) here ∙ shape.0)
        ∙ ap₂ (λ l m. l ++ m) (deck_gives at (cons head trees) from)
        (fixed_only keyword.Deck
        (λ h. flat_map given (parts_in at rule.Deck (cons head trees) 0 (cons h trees)) ≡ in_groups trees) head apart.0
        (λ a b.
        ap₂ (λ l m. l ++ m)
        (head_gives (standing_at at rule.Deck (cons head trees) 0 (symbol.Word keyword.Deck)) (text_of keyword.Deck) a refl)
        (sym (groups at rule.Deck (cons head trees) trees (deck_behind (count (cons head trees))) apart.1))))
        ∙ sym (said_so trees from to head)

-- what the entries of points give
module _
    {X : Type 0}
    (given : Part → List X)
    (in_entries : Trees → List X)
    (entries_give_nothing : (at : Standing) (parts : Trees) (from : ℕ) → given (form at rule.Entries parts from) ≡ [])
    (entries : (at : Standing) (all : Trees) (trees : Trees) → faults_in rule.Entries (count all) 0 trees ≡ []
    → in_entries trees ≡ flat_map given (parts_in at rule.Entries all 0 trees))
  where
    pub list_gives_entries : (at : Standing) → at.place ≡ symbol.Entries → (parts : Trees) (from to : ℕ)
        → faults_at (Some symbol.Entries) (list parts from to) ≡ []
        → flat_map given (parts_at (Some at) (list parts from to)) ≡ in_entries parts
    list_gives_entries at here parts from to none =
        let shape = sole symbol.Entries rule.Entries parts from to (refl, tt) none in
        ap (λ o. flat_map given (with_form at parts from (λ r. parts_in at r parts 0 parts) o))
        (ap (λ p. rule_of p parts) here ∙ shape.0)
        ∙ ap₂ (λ l m. l ++ m) (entries_give_nothing at parts from) (sym (entries at parts parts shape.2))

-- ATTRIBUTES

abbrev attr_one : List ℕ → List (List ℕ)
attr_one bytes = bytes ∷ []

abbrev attr_none : List ℕ → List (List ℕ)
attr_none bytes = []

attr_groups : (at : Standing) (r : Rule) (all : Trees) (trees : Trees)
    → ((j : ℕ) → 1 ≤ j → place_at r (count all) j ≡ Some symbol.Group) → faults_in r (count all) 1 trees ≡ []
    → group_attr_words trees ≡ flat_map attributes_in (parts_in at r all 1 trees)
attr_groups at r all trees each none =
    groups_give attributes_in attr_one attr_none group_attr_words branch_attr_words refl
    (λ bytes a b c d e f branches rest. refl) refl (λ bytes a b rest. refl) (λ bytes a b c d groups rest. refl)
    (λ at bytes a b from rest. refl) (λ at parts from. refl) (λ at parts from. refl) (λ at bytes from is. refl)
    (λ at bytes from is. refl) at r all 1 1 trees (omega arith) each none

attr_entries : (at : Standing) (all : Trees) (trees : Trees) → faults_in rule.Entries (count all) 0 trees ≡ []
    → entry_attr_words trees ≡ flat_map attributes_in (parts_in at rule.Entries all 0 trees)
attr_entries at all trees none =
    entries_give attributes_in attr_one attr_none entry_attr_words (λ values. []) refl
    (λ bytes a b c d e f values others rest. refl) refl (λ bytes a b rest. refl) (λ at bytes a b from rest. refl)
    (λ at parts from. refl) (λ at bytes from is. refl) (λ at bytes from is. refl) at all 0 trees none

-- the groups behind the word of a deck
abbrev behind_deck : Tree → Trees
behind_deck (list (cons head groups) from to) = groups
behind_deck tree = nil

groups_same : (a b c d from to : ℕ) (loc deck : Tree) → faults_at (Some symbol.Deck) deck ≡ []
    → deck_groups (list (deck_line a b c d loc deck) from to) ≡ behind_deck deck
groups_same a b c d from to loc (word bytes e f) none = refl
groups_same a b c d from to loc (list nil e f) none = refl
groups_same a b c d from to loc (list (cons head groups) e f) none = refl

-- the entries behind the name of a map
attr_points : (at : Standing) → at.place ≡ symbol.Entries → (a b c d e f from to : ℕ) (bytes : List ℕ) (entries : Tree)
    → faults_at (Some symbol.Entries) entries ≡ []
    → flat_map attributes_in (parts_at (Some at) entries)
    ≡ entry_attr_words (points_entries (list (points_line a b c d bytes e f entries) from to))
attr_points at here a b c d e f from to bytes (word other g h) none = absurd cc
attr_points at here a b c d e f from to bytes (list parts g h) none =
    list_gives_entries attributes_in entry_attr_words (λ at parts from. refl) attr_entries at here parts g h none

pub attr_lines : (at : Standing) (all : Trees) (lines : Trees) → faults_in rule.Setup (count all) 1 lines ≡ []
    → flat_map attributes_in (parts_in at rule.Setup all 1 lines)
    ≡ in_lines (λ line. group_attr_words (deck_groups line)) (λ line. entry_attr_words (points_entries line)) lines
attr_lines at all lines none =
    lines_give attributes_in (λ line. group_attr_words (deck_groups line)) (λ line. entry_attr_words (points_entries line))
    (λ at bytes from is. refl) (λ at parts from. refl) (λ at parts from. refl) (λ at parts from. refl) no_attribute_in_team
    (λ at all a b c d from to loc deck fine fine'.
    ap₂ (λ l m. l ++ m)
    (no_attribute_behind (standing_at at rule.CreateDeck all 2 symbol.Location) loc refl refl)
    (deck_gives_groups attributes_in group_attr_words (λ at bytes from is. refl) (λ at parts from. refl) attr_groups
    (λ tree. group_attr_words (behind_deck tree)) (λ parts a b head. refl)
    (standing_at at rule.CreateDeck all 3 symbol.Deck) refl deck fine')
    ∙ ap group_attr_words (sym (groups_same a b c d from to loc deck fine')))
    (λ at all a b c d bytes e f from to entries fine.
    attr_points (standing_at at rule.PutPoints all 3 symbol.Entries) refl a b c d e f from to bytes entries fine)
    at all 1 lines (omega arith) none

-- VALUES

value_groups : (at : Standing) (r : Rule) (all : Trees) (trees : Trees)
    → ((j : ℕ) → 1 ≤ j → place_at r (count all) j ≡ Some symbol.Group) → faults_in r (count all) 1 trees ≡ []
    → group_value_words trees ≡ flat_map values_in (parts_in at r all 1 trees)
value_groups at r all trees each none =
    groups_give values_in attr_none attr_one group_value_words branch_value_words refl
    (λ bytes a b c d e f branches rest. refl) refl (λ bytes a b rest. refl) (λ bytes a b c d groups rest. refl)
    (λ at bytes a b from rest. refl) (λ at parts from. refl) (λ at parts from. refl)
    (λ at bytes from is. value_plain at.role bytes is) (λ at bytes from is. value_given at.role bytes is)
    at r all 1 1 trees (omega arith) each none

value_entries : (at : Standing) (all : Trees) (trees : Trees) → faults_in rule.Entries (count all) 0 trees ≡ []
    → entry_value_words trees ≡ flat_map values_in (parts_in at rule.Entries all 0 trees)
value_entries at all trees none =
    entries_give values_in attr_none attr_one entry_value_words words_of refl
    (λ bytes a b c d e f values others rest. refl) refl (λ bytes a b rest. refl) (λ at bytes a b from rest. refl)
    (λ at parts from. refl) (λ at bytes from is. value_plain at.role bytes is)
    (λ at bytes from is. value_given at.role bytes is) at all 0 trees none

value_points : (at : Standing) → at.place ≡ symbol.Entries → (a b c d e f from to : ℕ) (bytes : List ℕ) (entries : Tree)
    → faults_at (Some symbol.Entries) entries ≡ []
    → flat_map values_in (parts_at (Some at) entries)
    ≡ entry_value_words (points_entries (list (points_line a b c d bytes e f entries) from to))
value_points at here a b c d e f from to bytes (word other g h) none = absurd cc
value_points at here a b c d e f from to bytes (list parts g h) none =
    list_gives_entries values_in entry_value_words (λ at parts from. refl) value_entries at here parts g h none

pub value_lines : (at : Standing) (all : Trees) (lines : Trees) → faults_in rule.Setup (count all) 1 lines ≡ []
    → flat_map values_in (parts_in at rule.Setup all 1 lines)
    ≡ in_lines (λ line. group_value_words (deck_groups line)) (λ line. entry_value_words (points_entries line)) lines
value_lines at all lines none =
    lines_give values_in (λ line. group_value_words (deck_groups line)) (λ line. entry_value_words (points_entries line))
    (λ at bytes from is. value_plain at.role bytes is) (λ at parts from. refl) (λ at parts from. refl) (λ at parts from. refl)
    no_value_in_team
    (λ at all a b c d from to loc deck fine fine'.
    ap₂ (λ l m. l ++ m)
    (no_value_behind (standing_at at rule.CreateDeck all 2 symbol.Location) loc refl refl)
    (deck_gives_groups values_in group_value_words (λ at bytes from is. value_plain at.role bytes is) (λ at parts from. refl)
    value_groups (λ tree. group_value_words (behind_deck tree)) (λ parts a b head. refl)
    (standing_at at rule.CreateDeck all 3 symbol.Deck) refl deck fine')
    ∙ ap group_value_words (sym (groups_same a b c d from to loc deck fine')))
    (λ at all a b c d bytes e f from to entries fine.
    value_points (standing_at at rule.PutPoints all 3 symbol.Entries) refl a b c d e f from to bytes entries fine)
    at all 1 lines (omega arith) none

-- the location of a deck stands as one behind a setup does
deck_location_gives : (at : Standing) → at.place ≡ symbol.Location → at.role ≡ deck_role → (tree : Tree)
    → faults_at (Some symbol.Location) tree ≡ [] → flat_map locations_in (parts_at (Some at) tree) ≡ gathered loc_mention tree
deck_location_gives at here role tree none =
    sym (tree_gives loc_mention locations_in locations_tell at tree
    (record { placed = ap is_body here; role_fits = ap₂ fits_role here role })
    (subst (λ p. faults_at (Some p) tree ≡ []) (sym here) none))
    ∙ ap (λ l. gathered loc_mention tree ++ l) (no_atom at tree)
    ∙ append-nil (gathered loc_mention tree)
  where
    no_atom : (at : Standing) (tree : Tree) → by_atom loc_mention locations_in (Some at) tree ≡ []
    no_atom at (word bytes from to) = refl
    no_atom at (list parts from to) = refl

-- POINT MAPS

pub map_lines : (at : Standing) (all : Trees) (lines : Trees) → faults_in rule.Setup (count all) 1 lines ≡ []
    → flat_map maps_in (parts_in at rule.Setup all 1 lines) ≡ in_lines (λ line. []) points_map lines
map_lines at all lines none =
    lines_give maps_in (λ line. []) points_map
    (λ at bytes from is. refl) (λ at parts from. refl) (λ at parts from. refl) (λ at parts from. refl) no_map_in_team
    (λ at all a b c d from to loc deck fine fine'.
    ap₂ (λ l m. l ++ m) (no_map_behind (standing_at at rule.CreateDeck all 2 symbol.Location) loc refl refl)
    (no_map_in_faces (standing_at at rule.CreateDeck all 3 symbol.Deck) deck refl))
    (λ at all a b c d bytes e f from to entries fine.
    ap (λ l. (bytes ∷ []) ++ l) (no_map_in_faces (standing_at at rule.PutPoints all 3 symbol.Entries) entries refl))
    at all 1 lines (omega arith) none

-- LOCATIONS

pub loc_lines : (at : Standing) (all : Trees) (lines : Trees) → faults_in rule.Setup (count all) 1 lines ≡ []
    → flat_map locations_in (parts_in at rule.Setup all 1 lines) ≡ in_lines deck_location (λ line. []) lines
loc_lines at all lines none =
    lines_give locations_in deck_location (λ line. [])
    (λ at bytes from is. refl) (λ at parts from. refl) (λ at parts from. refl) (λ at parts from. refl) no_location_in_team
    (λ at all a b c d from to loc deck fine fine'.
    ap₂ (λ l m. l ++ m)
    (deck_location_gives (standing_at at rule.CreateDeck all 2 symbol.Location) refl refl loc fine)
    (no_location_in_faces (standing_at at rule.CreateDeck all 3 symbol.Deck) deck refl)
    ∙ append-nil (gathered loc_mention loc))
    (λ at all a b c d bytes e f from to entries fine.
    no_location_in_faces (standing_at at rule.PutPoints all 3 symbol.Entries) entries refl)
    at all 1 lines (omega arith) none
