-- What the lines of a setup count, such as players and teams, is what is read off them: the parts of the whole form give nothing
-- else of the kind.
use Rattle.std.proofs.Common.{◌≡◌, ℕ, ◌+◌, ◌≤◌, Bool, true, false, ◌&&◌, List, [], ◌∷◌, ◌++◌, flat_map, slice_get, option_map, Option, Some, None, refl, sym, subst, ap, ap₂, ◌∙◌, arith, append_assoc}
use Rattle.std.specs.List.{list_all}
use Rattle.std.proofs.lemmas.List.{append-nil}
use Rattle.std.proofs.lemmas.Grind.{flat_map-append}
use Rattle.rc_base.specs.Tree.{Tree, word, list, Trees, nil, cons}
use Rattle.rc_sheet_spec.specs.Sheet.{Sheet}
use Rattle.rc_sheet_spec.specs.Naming.{Naming}
use Rattle.rc_check.specs.Grammar.{forms_of, front_of}
use Rattle.rc_check.specs.Faults.{rule_of, or_behind, place_at, count}
use Rattle.rc_check.specs.declared.grammar.Symbol.{Symbol}
use Rattle.rc_check.specs.declared.grammar.Symbol.TheVariants as symbol
use Rattle.rc_check.specs.declared.grammar.Rule.{Rule}
use Rattle.rc_check.specs.declared.grammar.Rule.TheVariants as rule
use Rattle.rc_check.specs.SecondParts.{Standing, Part, atom, form, parts_at, parts_in, parts_of, with_form, standing_in, standing_alone}
use Rattle.rc_sheet.specs.ReadNames.{rule_at}
use Rattle.rc_sheet.specs.ReadItems.{body_at}
use Rattle.rc_sheet.specs.ReadSetup.{Setup, Lines, no_line, line_rule, line_at, lines_at, setup_of}
use Rattle.rc_sheet.specs.ReadSheet.{setup_rule, setup_form_at, game_parts, game_rule, sheet_at, sheet_with}
use Rattle.rc_sheet.proofs.Means.{Means, nothing, something, means_if, weaker, behind, anything, sized_is}
use Rattle.rc_sheet.proofs.Bodies.{is_body, all_pass, standing_at}
use Rattle.rc_sheet.proofs.Lands.{never, never_roles}
use Rattle.rc_sheet.proofs.Silent.{lies_in, tree_silent, row_none}
use Rattle.rc_sheet.proofs.Whole.{game_body}
use Rattle.rc_sheet.proofs.Shapes.{line_place}

-- the places below the lines of a setup, and behind it
abbrev pub below_lines : Symbol → Bool
below_lines symbol.Sheet = false
below_lines symbol.Setup = false
below_lines symbol.Line = false
below_lines place = true

-- the forms of those places
abbrev pub is_below : Rule → Bool
is_below rule.Game = false
is_below rule.Setup = false
is_below rule.CreatePlayers = false
is_below rule.CreateTeams = false
is_below rule.CreateDeck = false
is_below rule.PutPoints = false
is_below r = true

pub below_lawful : (p : Symbol) → below_lines p ≡ true → list_all (λ r. is_below r && lies_in below_lines r) (forms_of p) ≡ true
below_lawful symbol.Sheet inside = absurd cc
below_lawful p inside = cc

-- what stands behind the setup does so
pub body_below : (p : Symbol) → is_body p ≡ true → below_lines p ≡ true
body_below symbol.Sheet is = absurd cc
body_below symbol.Setup is = absurd cc
body_below symbol.Line is = absurd cc
body_below p is = refl

-- a place or none
abbrev below_or_none : Option Symbol → Bool
below_or_none None = true
below_or_none (Some p) = below_lines p

front_below : (front : List Symbol) (more : Option Symbol) (j : ℕ) (q : Symbol) → list_all below_lines front ≡ true
    → below_or_none more ≡ true → or_behind (slice_get front j) more ≡ Some q → below_lines q ≡ true
front_below front more j q fronts mores is = by (slice_get front j) refl is
  where
    by : (o : Option Symbol) → slice_get front j ≡ o → or_behind o more ≡ Some q → below_lines q ≡ true
    by None at is = subst (λ o. below_or_none o ≡ true) is mores
    by (Some p) at is = all_pass below_lines front j q fronts (at ∙ is)

-- the forms of lines, and the places of their parts
abbrev pub is_line_rule : Rule → Bool
is_line_rule rule.CreatePlayers = true
is_line_rule rule.CreateTeams = true
is_line_rule rule.CreateDeck = true
is_line_rule rule.PutPoints = true
is_line_rule r = false

pub line_parts : (r : Rule) → is_line_rule r ≡ true → (n j : ℕ) (q : Symbol) → place_at r n j ≡ Some q → below_lines q ≡ true
line_parts rule.CreatePlayers line n j q is = front_below (front_of rule.CreatePlayers) None j q refl refl is
line_parts rule.CreateTeams line n j q is = front_below (front_of rule.CreateTeams) (Some symbol.Team) j q refl refl is
line_parts rule.CreateDeck line n j q is = front_below (front_of rule.CreateDeck) None j q refl refl is
line_parts rule.PutPoints line n j q is = front_below (front_of rule.PutPoints) None j q refl refl is
line_parts r line n j q is = absurd cc

-- the lines of a sheet, as what they all say together
abbrev pub lines_of : Sheet → Lines
lines_of sheet = record { players = Some sheet.players; teams = sheet.teams; decks = sheet.decks; points = sheet.points }

abbrev pub lines_in : Setup → Lines
lines_in setup = record { players = Some setup.players; teams = setup.teams; decks = setup.decks; points = setup.points }

-- What parts give is what the lines before them say and what those add, where a line's form adds what it gives and nothing else
-- gives anything.
module _
    (X : Type 0)
    (given : Part → List X)
    (known : Lines → List X)
    (naming : Naming)
    (none_known : known no_line ≡ [])
    (atoms : (at : Standing) (bytes : List ℕ) (from : ℕ) → given (atom at bytes from) ≡ [])
    (game : (at : Standing) (parts : Trees) (from : ℕ) → given (form at rule.Game parts from) ≡ [])
    (setups : (at : Standing) (parts : Trees) (from : ℕ) → given (form at rule.Setup parts from) ≡ [])
    (forms : (at : Standing) (r : Rule) (parts : Trees) (from : ℕ) → is_below r ≡ true → given (form at r parts from) ≡ [])
    (lines : (before : Lines) (at : Standing) (r : Rule) (parts : Trees) (from : ℕ)
    → Means (line_rule naming before r parts)
    (λ next. (is_line_rule r ≡ true) × (known before ++ given (form at r parts from) ≡ known next)))
  where
    none_below : (at : Standing) (tree : Tree) → below_lines at.place ≡ true → flat_map given (parts_at (Some at) tree) ≡ []
    none_below at tree inside =
        tree_silent given below_lines is_below never below_lawful refl (never_roles is_below)
        (λ at bytes from quiet. atoms at bytes from) forms at tree inside refl

    -- the parts of a line
    none_in_line : (at : Standing) (r : Rule) (parts : Trees) → is_line_rule r ≡ true
        → flat_map given (parts_in at r parts 0 parts) ≡ []
    none_in_line at r parts line =
        row_none given at r parts 0 0 parts (omega arith)
        (λ j q tree above is. none_below (standing_at at r parts j q) tree (line_parts r line (count parts) j q is))

    -- a line
    line_adds : (before : Lines) (at : Standing) (tree : Tree) → at.place ≡ symbol.Line
        → Means (line_at naming before tree) (λ next. known before ++ flat_map given (parts_at (Some at) tree) ≡ known next)
    unfolding line_at
    line_adds before at (word bytes from to) here = nothing
    line_adds before at (list parts from to) here =
        behind (rule_at symbol.Line parts) (λ r. line_rule naming before r parts)
        (sized_is (count parts) (rule_of symbol.Line parts))
        (λ r told. weaker (line_rule naming before r parts) (lines before at r parts from)
        (λ next adds.
        ap (λ o. known before ++ flat_map given (with_form at parts from (λ r. parts_in at r parts 0 parts) o))
        (ap (λ p. rule_of p parts) here ∙ told)
        ∙ ap (λ l. known before ++ (given (form at r parts from) ++ l)) (none_in_line at r parts adds.0)
        ∙ ap (λ l. known before ++ l) (append-nil (given (form at r parts from)))
        ∙ adds.1))

    -- all lines
    lines_add : (before : Lines) (at : Standing) (all : Trees) (index : ℕ) (trees : Trees) → 1 ≤ index
        → Means (lines_at naming before trees)
        (λ next. known before ++ flat_map given (parts_in at rule.Setup all index trees) ≡ known next)
    lines_add before at all index nil above = something before (append-nil (known before))
    lines_add before at all index (cons tree trees) above =
        let stands : standing_in at rule.Setup all index ≡ Some (standing_at at rule.Setup all index symbol.Line) =
        ap (λ o. option_map (λ q. standing_at at rule.Setup all index q) o) (line_place (count all) index above) in
        let here = parts_at (standing_in at rule.Setup all index) tree in
        let later = parts_in at rule.Setup all (index + 1) trees in
        behind (line_at naming before tree) (λ next. lines_at naming next trees)
        (line_adds before (standing_at at rule.Setup all index symbol.Line) tree refl)
        (λ next adds. weaker (lines_at naming next trees) (lines_add next at all (index + 1) trees (omega (arith, above)))
        (λ last more.
        ap (λ l. known before ++ l) (flat_map-append given here later)
        ∙ sym (append_assoc (known before) (flat_map given here) (flat_map given later))
        ∙ ap (λ o. (known before ++ flat_map given (parts_at o tree)) ++ flat_map given later) stands
        ∙ ap (λ l. l ++ flat_map given later) adds
        ∙ more))

    -- what the lines say together
    together : (lines : Lines) → Means (setup_of lines) (λ setup. known lines ≡ known (lines_in setup))
    together lines =
        behind lines.players _ (means_if lines.players (λ n is. is))
        (λ n is. something (record { players = n; teams = lines.teams; decks = lines.decks; points = lines.points })
        (ap (λ p. known (record { players = p; teams = lines.teams; decks = lines.decks; points = lines.points })) is))

    -- a setup, by its rule
    setup_rule_adds : (at : Standing) (from : ℕ) (r : Rule) (parts : Trees)
        → Means (setup_rule naming r parts)
        (λ setup. flat_map given (form at r parts from ∷ parts_in at r parts 0 parts) ≡ known (lines_in setup))
    setup_rule_adds at from rule.Setup (cons head trees) =
        behind (lines_at naming no_line trees) setup_of (lines_add no_line at (cons head trees) 1 trees (omega arith))
        (λ last adds. weaker (setup_of last) (together last)
        (λ setup same.
        let first = parts_at (standing_in at rule.Setup (cons head trees) 0) head in
        let later = parts_in at rule.Setup (cons head trees) 1 trees in
        ap (λ l. l ++ flat_map given (first ++ later)) (setups at (cons head trees) from)
        ∙ flat_map-append given first later
        ∙ ap (λ l. l ++ flat_map given later) (none_below (standing_at at rule.Setup (cons head trees) 0 _) head refl)
        ∙ ap (λ l. l ++ flat_map given later) (sym none_known)
        ∙ adds ∙ same))
    setup_rule_adds at from r parts = nothing

    -- a setup
    setup_adds : (at : Standing) (tree : Tree) → at.place ≡ symbol.Setup
        → Means (setup_form_at naming tree) (λ setup. flat_map given (parts_at (Some at) tree) ≡ known (lines_in setup))
    unfolding setup_form_at
    setup_adds at (word bytes from to) here = nothing
    setup_adds at (list parts from to) here =
        behind (rule_at symbol.Setup parts) (λ r. setup_rule naming r parts) (sized_is (count parts) (rule_of symbol.Setup parts))
        (λ r told. weaker (setup_rule naming r parts) (setup_rule_adds at from r parts)
        (λ setup adds.
        ap (λ o. flat_map given (with_form at parts from (λ r. parts_in at r parts 0 parts) o))
        (ap (λ p. rule_of p parts) here ∙ told)
        ∙ adds))

    -- the whole form, by its rule
    game_rule_adds : (from : ℕ) (r : Rule) (parts : Trees)
        → Means (game_rule naming r parts)
        (λ sheet. flat_map given (form standing_alone r parts from ∷ parts_in standing_alone r parts 0 parts)
        ≡ known (lines_of sheet))
    unfolding game_parts
    game_rule_adds from rule.Game (cons head (cons setup rest)) =
        let all = cons head (cons setup rest) in
        let setup_at = standing_at standing_alone rule.Game all 1 symbol.Setup in
        let first = parts_at (standing_in standing_alone rule.Game all 0) head in
        let second = parts_at (Some setup_at) setup in
        let later = parts_in standing_alone rule.Game all 2 rest in
        behind (setup_form_at naming setup) _ (setup_adds setup_at setup refl)
        (λ said adds. behind (body_at naming rest) _ (anything (body_at naming rest))
        (λ body u. something (sheet_with naming said body)
        (ap (λ l. l ++ flat_map given (first ++ (second ++ later))) (game standing_alone all from)
        ∙ flat_map-append given first (second ++ later)
        ∙ ap₂ (λ l m. l ++ m) (none_below (standing_at standing_alone rule.Game all 0 _) head refl)
        (flat_map-append given second later
        ∙ ap (λ l. flat_map given second ++ l)
        (row_none given standing_alone rule.Game all 2 2 rest (omega arith)
        (λ j q tree above is. none_below (standing_at standing_alone rule.Game all j q) tree
        (body_below q (game_body all j q above is).placed)))
        ∙ append-nil (flat_map given second))
        ∙ adds)))
    game_rule_adds from r parts = nothing

    pub sheet_adds : (tree : Tree)
        → Means (sheet_at naming tree) (λ sheet. flat_map given (parts_of tree) ≡ known (lines_of sheet))
    unfolding sheet_at
    sheet_adds (word bytes from to) = nothing
    sheet_adds (list parts from to) =
        behind (rule_at symbol.Sheet parts) (λ r. game_rule naming r parts) (sized_is (count parts) (rule_of symbol.Sheet parts))
        (λ r told. weaker (game_rule naming r parts) (game_rule_adds from r parts)
        (λ sheet adds.
        ap (λ o. flat_map given (with_form standing_alone parts from (λ r. parts_in standing_alone r parts 0 parts) o)) told
        ∙ adds))
