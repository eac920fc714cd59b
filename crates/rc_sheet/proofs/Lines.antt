-- What the lines of a setup give is what its decks and its points say.
use Rattle.std.proofs.Common.{◌≡◌, ℕ, ◌+◌, ◌≤◌, zero, suc, Bool, true, false, List, [], ◌∷◌, ◌++◌, Some, flat_map, option_map, refl, sym, subst, ap, ap₂, ◌∙◌, arith}
use Rattle.std.specs.Prelude.{if◌then◌else◌}
use Rattle.std.proofs.lemmas.List.{append-nil}
use Rattle.std.proofs.lemmas.Grind.{flat_map-append}
use Rattle.rc_base.specs.Tree.{Tree, word, list, Trees, nil, cons}
use Rattle.rc_sheet_spec.specs.StandsSetup.{begins_with, lines_with}
use Rattle.rc_check.specs.Keyword.{text_of}
use Rattle.rc_check.specs.Faults.{faults_at, faults_in, rule_of, place_at, count, fits}
use Rattle.rc_check.specs.declared.keyword.Keyword.TheVariants as keyword
use Rattle.rc_check.specs.declared.grammar.Symbol.{Symbol}
use Rattle.rc_check.specs.declared.grammar.Symbol.TheVariants as symbol
use Rattle.rc_check.specs.declared.grammar.Rule.{Rule}
use Rattle.rc_check.specs.declared.grammar.Rule.TheVariants as rule
use Rattle.rc_check.specs.declared.role.Role.TheVariants.{No as no_role}
use Rattle.rc_check.specs.SecondParts.{Standing, Part, atom, form, parts_at, parts_in, with_form, standing_in}
use Rattle.rc_sheet.proofs.Among.{Within, Among, shuffled, unshuffled}
use Rattle.rc_sheet.proofs.Shapes.{none_in_both, shape_of, rule_holds, three_only, four_only, atom_only, fixed_only, line_place}
use Rattle.rc_sheet.proofs.Bodies.{standing_at}
use Rattle.rc_sheet.proofs.Lands.{is_given}
use Rattle.rc_sheet.proofs.Silent.{row_none}

-- a deck's line, and a line of points
abbrev pub deck_line : ℕ → ℕ → ℕ → ℕ → Tree → Tree → Trees
deck_line a b c d loc deck =
    cons (word (text_of keyword.Create) a b) (cons (word (text_of keyword.Deck) c d) (cons loc (cons deck nil)))

abbrev pub points_line : ℕ → ℕ → ℕ → ℕ → List ℕ → ℕ → ℕ → Tree → Trees
points_line a b c d bytes e f entries =
    cons (word (text_of keyword.Put) a b)
    (cons (word (text_of keyword.Points) c d) (cons (word bytes e f) (cons entries nil)))

-- What a line says, and what all lines do.
abbrev pub in_line : {X : Type 0} → (Tree → List X) → (Tree → List X) → Tree → List X
in_line in_deck in_points line =
    (if begins_with "create" "deck" line then in_deck line else [])
    ++ (if begins_with "put" "points" line then in_points line else [])

abbrev pub in_lines : {X : Type 0} → (Tree → List X) → (Tree → List X) → Trees → List X
in_lines in_deck in_points nil = []
in_lines in_deck in_points (cons line lines) = in_line in_deck in_points line ++ in_lines in_deck in_points lines

-- more teams stand behind the two words of their line
teams_place : (n j : ℕ) (q : Symbol) → 2 ≤ j → place_at rule.CreateTeams n j ≡ Some q → q ≡ symbol.Team
teams_place n zero q above is = absurd (omega (arith, above))
teams_place n (suc zero) q above is = absurd (omega (arith, above))
teams_place n (suc (suc j)) q above is = cc

module _
    {X : Type 0}
    (given : Part → List X)
    (in_deck : Tree → List X)
    (in_points : Tree → List X)
    (plain_gives : (at : Standing) (bytes : List ℕ) (from : ℕ) → at.role ≡ no_role → given (atom at bytes from) ≡ [])
    (players_give : (at : Standing) (parts : Trees) (from : ℕ) → given (form at rule.CreatePlayers parts from) ≡ [])
    (teams_give : (at : Standing) (parts : Trees) (from : ℕ) → given (form at rule.CreateTeams parts from) ≡ [])
    (deck_gives : (at : Standing) (parts : Trees) (from : ℕ) → given (form at rule.CreateDeck parts from) ≡ [])
    (team_gives : (at : Standing) (tree : Tree) → at.place ≡ symbol.Team → is_given at.role ≡ false
    → flat_map given (parts_at (Some at) tree) ≡ [])
    (deck_parts : (at : Standing) (all : Trees) (a b c d from to : ℕ) (loc deck : Tree)
    → faults_at (Some symbol.Location) loc ≡ [] → faults_at (Some symbol.Deck) deck ≡ []
    → flat_map given (parts_at (Some (standing_at at rule.CreateDeck all 2 symbol.Location)) loc)
    ++ flat_map given (parts_at (Some (standing_at at rule.CreateDeck all 3 symbol.Deck)) deck)
    ≡ in_deck (list (deck_line a b c d loc deck) from to))
    (points_parts : (at : Standing) (all : Trees) (a b c d : ℕ) (bytes : List ℕ) (e f from to : ℕ) (entries : Tree)
    → faults_at (Some symbol.Entries) entries ≡ []
    → given (form at rule.PutPoints (points_line a b c d bytes e f entries) from)
    ++ flat_map given (parts_at (Some (standing_at at rule.PutPoints all 3 symbol.Entries)) entries)
    ≡ in_points (list (points_line a b c d bytes e f entries) from to))
  where
    -- what a list gives whose form is known is what its line says
    abbrev Says : Standing → ℕ → ℕ → Rule → Trees → Type 0
    Says at from to r parts =
        given (form at r parts from) ++ flat_map given (parts_in at r parts 0 parts) ≡ in_line in_deck in_points
        (list parts from to)

    players_say : (at : Standing) (from to : ℕ) (parts : Trees) → fits (count parts) rule.CreatePlayers ≡ true
        → faults_in rule.CreatePlayers (count parts) 0 parts ≡ [] → Says at from to rule.CreatePlayers parts
    players_say at from to parts fit none =
        three_only
        (λ parts. faults_in rule.CreatePlayers (count parts) 0 parts ≡ [] → Says at from to rule.CreatePlayers parts) parts fit
        (λ x y z none.
        let first = none_in_both (faults_at (Some (symbol.Word keyword.Create)) x) _ none in
        let second = none_in_both (faults_at (Some (symbol.Word keyword.Players)) y) _ first.1 in
        let third = none_in_both (faults_at (Some symbol.PlayerCount) z) [] second.1 in
        fixed_only keyword.Create (λ x. Says at from to rule.CreatePlayers (cons x (cons y (cons z nil)))) x first.0
        (λ a b.
        let x = word (text_of keyword.Create) a b in
        fixed_only keyword.Players (λ y. Says at from to rule.CreatePlayers (cons x (cons y (cons z nil)))) y second.0
        (λ c d.
        let y = word (text_of keyword.Players) c d in
        atom_only symbol.PlayerCount (λ z. Says at from to rule.CreatePlayers (cons x (cons y (cons z nil)))) z refl third.0
        (λ bytes e f is.
        let all = cons x (cons y (cons (word bytes e f) nil)) in
        ap₂ (λ l m. l ++ m) (players_give at all from)
        (ap₂ (λ l m. l ++ m) (plain_gives (standing_at at rule.CreatePlayers all 0 (symbol.Word keyword.Create)) _ a refl)
        (ap₂ (λ l m. l ++ m) (plain_gives (standing_at at rule.CreatePlayers all 1 (symbol.Word keyword.Players)) _ c refl)
        (ap (λ l. l ++ []) (plain_gives (standing_at at rule.CreatePlayers all 2 symbol.PlayerCount) bytes e refl))))))))
        none

    deck_says : (at : Standing) (from to : ℕ) (parts : Trees) → fits (count parts) rule.CreateDeck ≡ true
        → faults_in rule.CreateDeck (count parts) 0 parts ≡ [] → Says at from to rule.CreateDeck parts
    deck_says at from to parts fit none =
        four_only
        (λ parts. faults_in rule.CreateDeck (count parts) 0 parts ≡ [] → Says at from to rule.CreateDeck parts) parts fit
        (λ x y loc deck none.
        let first = none_in_both (faults_at (Some (symbol.Word keyword.Create)) x) _ none in
        let second = none_in_both (faults_at (Some (symbol.Word keyword.Deck)) y) _ first.1 in
        let third = none_in_both (faults_at (Some symbol.Location) loc) _ second.1 in
        let fourth = none_in_both (faults_at (Some symbol.Deck) deck) [] third.1 in
        fixed_only keyword.Create (λ x. Says at from to rule.CreateDeck (cons x (cons y (cons loc (cons deck nil))))) x first.0
        (λ a b.
        let x = word (text_of keyword.Create) a b in
        fixed_only keyword.Deck (λ y. Says at from to rule.CreateDeck (cons x (cons y (cons loc (cons deck nil))))) y second.0
        (λ c d.
        let all = deck_line a b c d loc deck in
        let in_loc = parts_at (Some (standing_at at rule.CreateDeck all 2 symbol.Location)) loc in
        let in_cards = parts_at (Some (standing_at at rule.CreateDeck all 3 symbol.Deck)) deck in
        ap₂ (λ l m. l ++ m) (deck_gives at all from)
        (ap₂ (λ l m. l ++ m) (plain_gives (standing_at at rule.CreateDeck all 0 (symbol.Word keyword.Create)) _ a refl)
        (ap₂ (λ l m. l ++ m) (plain_gives (standing_at at rule.CreateDeck all 1 (symbol.Word keyword.Deck)) _ c refl)
        (flat_map-append given in_loc (in_cards ++ [])
        ∙ ap (λ l. flat_map given in_loc ++ flat_map given l) (append-nil in_cards)
        ∙ deck_parts at all a b c d from to loc deck third.0 fourth.0
        ∙ sym (append-nil (in_deck (list all from to)))))))))
        none

    points_say : (at : Standing) (from to : ℕ) (parts : Trees) → fits (count parts) rule.PutPoints ≡ true
        → faults_in rule.PutPoints (count parts) 0 parts ≡ [] → Says at from to rule.PutPoints parts
    points_say at from to parts fit none =
        four_only
        (λ parts. faults_in rule.PutPoints (count parts) 0 parts ≡ [] → Says at from to rule.PutPoints parts) parts fit
        (λ x y map entries none.
        let first = none_in_both (faults_at (Some (symbol.Word keyword.Put)) x) _ none in
        let second = none_in_both (faults_at (Some (symbol.Word keyword.Points)) y) _ first.1 in
        let third = none_in_both (faults_at (Some symbol.Name) map) _ second.1 in
        let fourth = none_in_both (faults_at (Some symbol.Entries) entries) [] third.1 in
        fixed_only keyword.Put (λ x. Says at from to rule.PutPoints (cons x (cons y (cons map (cons entries nil))))) x first.0
        (λ a b.
        let x = word (text_of keyword.Put) a b in
        fixed_only keyword.Points (λ y. Says at from to rule.PutPoints (cons x (cons y (cons map (cons entries nil))))) y second.0
        (λ c d.
        let y = word (text_of keyword.Points) c d in
        atom_only symbol.Name (λ map. Says at from to rule.PutPoints (cons x (cons y (cons map
        (cons entries nil))))) map refl third.0
        (λ bytes e f is.
        let all = points_line a b c d bytes e f entries in
        let in_entries = parts_at (Some (standing_at at rule.PutPoints all 3 symbol.Entries)) entries in
        ap (λ l. given (form at rule.PutPoints all from) ++ l)
        (ap₂ (λ l m. l ++ m) (plain_gives (standing_at at rule.PutPoints all 0 (symbol.Word keyword.Put)) _ a refl)
        (ap₂ (λ l m. l ++ m) (plain_gives (standing_at at rule.PutPoints all 1 (symbol.Word keyword.Points)) _ c refl)
        (ap₂ (λ l m. l ++ m) (plain_gives (standing_at at rule.PutPoints all 2 symbol.Name) bytes e refl)
        (ap (flat_map given) (append-nil in_entries)))))
        ∙ points_parts at all a b c d bytes e f from to entries fourth.0))))
        none

    teams_say : (at : Standing) (from to : ℕ) (parts : Trees) → fits (count parts) rule.CreateTeams ≡ true
        → faults_in rule.CreateTeams (count parts) 0 parts ≡ [] → Says at from to rule.CreateTeams parts
    teams_say at from to nil fit none = absurd cc
    teams_say at from to (cons x nil) fit none = absurd cc
    teams_say at from to (cons x (cons y teams)) fit none =
        let n = count (cons x (cons y teams)) in
        let first = none_in_both (faults_at (Some (symbol.Word keyword.Create)) x) (faults_in rule.CreateTeams n 1
        (cons y teams)) none in
        let second = none_in_both (faults_at (Some (symbol.Word keyword.Teams)) y)
        (faults_in rule.CreateTeams n 2 teams) first.1 in
        fixed_only keyword.Create (λ x. Says at from to rule.CreateTeams (cons x (cons y teams))) x first.0
        (λ a b.
        let x = word (text_of keyword.Create) a b in
        fixed_only keyword.Teams (λ y. Says at from to rule.CreateTeams (cons x (cons y teams))) y second.0
        (λ c d.
        let all = cons x (cons (word (text_of keyword.Teams) c d) teams) in
        ap₂ (λ l m. l ++ m) (teams_give at all from)
        (ap₂ (λ l m. l ++ m) (plain_gives (standing_at at rule.CreateTeams all 0 (symbol.Word keyword.Create)) _ a refl)
        (ap₂ (λ l m. l ++ m) (plain_gives (standing_at at rule.CreateTeams all 1 (symbol.Word keyword.Teams)) _ c refl)
        (row_none given at rule.CreateTeams all 2 2 teams (omega arith)
        (λ j q tree above is.
        team_gives (standing_at at rule.CreateTeams all j q) tree (teams_place (count all) j q above is) refl))))))

    -- a line gives what it says
    pub line_gives : (at : Standing) → at.place ≡ symbol.Line → (line : Tree) → faults_at (Some symbol.Line) line ≡ []
        → flat_map given (parts_at (Some at) line) ≡ in_line in_deck in_points line
    line_gives at here (word bytes from to) none = absurd cc
    line_gives at here (list parts from to) none =
        let shape = shape_of symbol.Line parts from to none in
        ap (λ o. flat_map given (with_form at parts from (λ r. parts_in at r parts 0 parts) o))
        (ap (λ p. rule_of p parts) here ∙ shape.told)
        ∙ rule_holds
        (λ r. fits (count parts) r ≡ true → faults_in r (count parts) 0 parts ≡ [] → Says at from to r parts)
        symbol.Line parts shape.form shape.told (
          players_say at from to parts,
          (
            teams_say at from to parts,
            (
              deck_says at from to parts,
              (points_say at from to parts, tt),
            ),
          ),
        )
        shape.fit shape.inner

    pub lines_give : (at : Standing) (all : Trees) (index : ℕ) (lines : Trees) → 1 ≤ index
        → faults_in rule.Setup (count all) index lines ≡ []
        → flat_map given (parts_in at rule.Setup all index lines) ≡ in_lines in_deck in_points lines
    lines_give at all index nil above none = refl
    lines_give at all index (cons line lines) above none =
        let apart = none_in_both (faults_at (place_at rule.Setup (count all) index) line)
        (faults_in rule.Setup (count all) (index + 1) lines) none in
        let here = line_place (count all) index above in
        let stands : standing_in at rule.Setup all index ≡ Some (standing_at at rule.Setup all index symbol.Line) =
        ap (λ o. option_map (λ q. standing_at at rule.Setup all index q) o) here in
        flat_map-append given (parts_at (standing_in at rule.Setup all index) line) (parts_in at rule.Setup all (index + 1) lines)
        ∙ ap₂ (λ l m. l ++ m)
        (ap (λ o. flat_map given (parts_at o line)) stands
        ∙ line_gives (standing_at at rule.Setup all index symbol.Line) refl line (subst (λ o. faults_at o line ≡ []) here apart.0))
        (lines_give at all (index + 1) lines (omega (arith, above)) apart.1)

-- a line that is chosen, and others
chosen : {X : Type 0} (f : Tree → List X) (b : Bool) (line : Tree) (lines : List Tree)
    → flat_map f (if b then line ∷ lines else lines) ≡ (if b then f line else []) ++ flat_map f lines
chosen f true line lines = refl
chosen f false line lines = refl

-- what decks say, and then what points say
abbrev pub said : {X : Type 0} → (Tree → List X) → (Tree → List X) → Trees → List X
said in_deck in_points lines =
    flat_map in_deck (lines_with "create" "deck" lines) ++ flat_map in_points (lines_with "put" "points" lines)

-- what a line says where it stands, and then others
abbrev said_behind : {X : Type 0} → (Tree → List X) → (Tree → List X) → Tree → Trees → List X
said_behind in_deck in_points line lines =
    ((if begins_with "create" "deck" line then in_deck line else []) ++ flat_map in_deck (lines_with "create" "deck" lines))
    ++ ((if begins_with "put" "points" line then in_points line else []) ++ flat_map in_points (lines_with "put" "points" lines))

said_more : {X : Type 0} (in_deck in_points : Tree → List X) (line : Tree) (lines : Trees)
    → said in_deck in_points (cons line lines) ≡ said_behind in_deck in_points line lines
said_more in_deck in_points line lines =
    ap₂ (λ l m. l ++ m) (chosen in_deck (begins_with "create" "deck" line) line (lines_with "create" "deck" lines))
    (chosen in_points (begins_with "put" "points" line) line (lines_with "put" "points" lines))

-- the lines say the same in whichever order
pub lines_within : {X : Type 0} (in_deck in_points : Tree → List X) (lines : Trees)
    → Within (in_lines in_deck in_points lines) (said in_deck in_points lines)
lines_within in_deck in_points nil x is = is
lines_within in_deck in_points (cons line lines) x is =
    subst (Among x) (sym (said_more in_deck in_points line lines))
    (shuffled (if begins_with "create" "deck" line then in_deck line else [])
    (if begins_with "put" "points" line then in_points line else []) (in_lines in_deck in_points lines)
    (flat_map in_deck (lines_with "create" "deck" lines)) (flat_map in_points (lines_with "put" "points" lines))
    (lines_within in_deck in_points lines) x is)

pub within_lines : {X : Type 0} (in_deck in_points : Tree → List X) (lines : Trees)
    → Within (said in_deck in_points lines) (in_lines in_deck in_points lines)
within_lines in_deck in_points nil x is = is
within_lines in_deck in_points (cons line lines) x is =
    unshuffled (if begins_with "create" "deck" line then in_deck line else [])
    (if begins_with "put" "points" line then in_points line else []) (in_lines in_deck in_points lines)
    (flat_map in_deck (lines_with "create" "deck" lines)) (flat_map in_points (lines_with "put" "points" lines))
    (within_lines in_deck in_points lines) x (subst (Among x) (said_more in_deck in_points line lines) is)
