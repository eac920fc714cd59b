-- A form without a fault has a player and a team.
use Rattle.std.proofs.Common.{◌≡◌, ℕ, ◌+◌, ◌≤◌, zero, suc, Bool, true, false, ◌||◌, cond, List, [], ◌∷◌, ◌++◌, flat_map, Option, Some, None, option_map, slice_index_or, refl, sym, subst, ap, ◌∙◌, arith, ltb-true}
use Rattle.std.specs.Prelude.{int_le, ◌-◌, nat_abs, unwrap_or, ℤ, pos}
use Rattle.std.specs.List.{AllByRecursion}
use Rattle.std.proofs.lemmas.Grind.{flat_map-append}
use Rattle.std.proofs.lemmas.Bool.{and_parts, not-false}
use Rattle.rc_base.specs.Literal.{integer}
use Rattle.rc_base.specs.Tree.{Tree, word, list, Trees, nil, cons}
use Rattle.rc_deck.proofs.EachLemmas.{append_each}
use Rattle.rc_check.specs.Keyword.{text_of}
use Rattle.rc_check.specs.Faults.{faults, faults_at, faults_in, told_faults, lacks_players, names_players, some_names_players, rule_of, or_else, place_at, count, fits, is_within}
use Rattle.rc_check.specs.declared.fault.SheetKind.TheVariants.{Number}
use Rattle.rc_check.specs.declared.keyword.Keyword.TheVariants as keyword
use Rattle.rc_check.specs.declared.grammar.Symbol.{Symbol}
use Rattle.rc_check.specs.declared.grammar.Symbol.TheVariants as symbol
use Rattle.rc_check.specs.declared.grammar.Rule.{Rule}
use Rattle.rc_check.specs.declared.grammar.Rule.TheVariants as rule
use Rattle.rc_check.specs.SecondParts.{Standing, Part, atom, form, standing_alone, standing_in, with_form, parts_at, parts_in, parts_of}
use Rattle.rc_check.specs.SecondNames.{some_of, number_at, players_in, player_count, teams_in, teams_by, team_count}
use Rattle.rc_check.specs.SecondFaults.{second_faults}
use Rattle.rc_sheet.proofs.Shapes.{none_in_both, three_only, atom_only, inner_faults, taken, line_place}
use Rattle.rc_sheet.proofs.Bodies.{standing_at}
use Rattle.rc_sheet.proofs.Whole.{setup_of, parts_with, sheet_only}

-- EACH PART HAS ITS SHAPE

-- a form has the right number of parts, of which none is at fault, and a setup has a line for the players
abbrev IsShaped : Part → Type 0
IsShaped (atom at bytes from) = Unit {0}
IsShaped (form at r parts from) =
    (fits (count parts) r ≡ true) × (faults_in r (count parts) 0 parts ≡ []) × (lacks_players r parts ≡ false)

-- the place of a standing
abbrev place_of : Option Standing → Option Symbol
place_of found = option_map (λ at. at.place) found

same_place : (found : Option Symbol) (stand : Symbol → Standing) → ((p : Symbol) → (stand p).place ≡ p)
    → place_of (option_map stand found) ≡ found
same_place None stand same = refl
same_place (Some p) stand same = ap (λ q. Some q) (same p)

form_shaped : (at : Standing) (parts : Trees) (from : ℕ) (found : Option Rule)
    → told_faults at.place from parts (λ r. faults_in r (count parts) 0 parts) found ≡ []
    → ((r : Rule) → faults_in r (count parts) 0 parts ≡ [] → AllByRecursion IsShaped (parts_in at r parts 0 parts))
    → AllByRecursion IsShaped (with_form at parts from (λ r. parts_in at r parts 0 parts) found)
form_shaped at parts from None none inner = tt
form_shaped at parts from (Some r) none inner =
    let fine = inner_faults (fits (count parts) r) (lacks_players r parts) _ _ _ none in
    (fine, inner r fine.1)

mutual
  tree_shaped : (found : Option Standing) (tree : Tree) → faults_at (place_of found) tree ≡ []
      → AllByRecursion IsShaped (parts_at found tree)
  tree_shaped None (word bytes from to) none = tt
  tree_shaped None (list parts from to) none = tt
  tree_shaped (Some at) (word bytes from to) none = (tt, tt)
  tree_shaped (Some at) (list parts from to) none =
      form_shaped at parts from (rule_of at.place parts) none (λ r fine. trees_shaped at r parts 0 parts fine)

  -- and of the parts of a form
  trees_shaped : (at : Standing) (r : Rule) (all : Trees) (index : ℕ) (trees : Trees)
      → faults_in r (count all) index trees ≡ [] → AllByRecursion IsShaped (parts_in at r all index trees)
  trees_shaped at r all index nil none = tt
  trees_shaped at r all index (cons tree trees) none =
      let apart = none_in_both (faults_at (place_at r (count all) index) tree) (faults_in r (count all) (index + 1) trees) none in
      append_each IsShaped (parts_at (standing_in at r all index) tree) (parts_in at r all (index + 1) trees)
      (tree_shaped (standing_in at r all index) tree
      (subst (λ o. faults_at o tree ≡ []) (sym (same_place (place_at r (count all) index) _ (λ p. refl))) apart.0))
      (trees_shaped at r all (index + 1) trees apart.1)

-- what holds of all that one part gives holds of what all give
flat_all : {A : Type 0} (P : A → Type 0) (f : Part → List A) (parts : List Part)
    → ((part : Part) → IsShaped part → AllByRecursion P (f part)) → AllByRecursion IsShaped parts
    → AllByRecursion P (flat_map f parts)
flat_all P f [] each shaped = tt
flat_all P f (part ∷ parts) each shaped =
    append_each P (f part) (flat_map f parts) (each part shaped.0) (flat_all P f parts each shaped.1)

-- NUMBERS OF PLAYERS

positive : (n : ℤ) → int_le (pos 1) n ≡ true → 1 ≤ nat_abs n
positive (pos zero) is = absurd cc
positive (pos (suc n)) is = omega arith
positive n is = absurd cc

within_positive : (n : Option ℤ) → is_within (pos 1) (pos 8) n ≡ true → 1 ≤ unwrap_or (option_map nat_abs n) 0
within_positive None is = absurd cc
within_positive (Some n) is = positive n (and_parts (int_le (pos 1) n) (int_le n (pos 8)) is).0

-- each line for the players says one at least
players_positive : (part : Part) → IsShaped part → AllByRecursion (λ n. 1 ≤ n) (players_in part)
players_positive (atom at bytes from) shaped = tt
players_positive (form at rule.CreatePlayers parts from) shaped =
    three_only
    (λ parts. faults_in rule.CreatePlayers (count parts) 0 parts ≡ []
    → AllByRecursion (λ n. 1 ≤ n) (players_in (form at rule.CreatePlayers parts from))) parts shaped.0
    (λ x y z none.
    let first = none_in_both (faults_at (Some (symbol.Word keyword.Create)) x) _ none in
    let second = none_in_both (faults_at (Some (symbol.Word keyword.Players)) y) _ first.1 in
    let third = none_in_both (faults_at (Some symbol.PlayerCount) z) [] second.1 in (
      atom_only symbol.PlayerCount (λ z. 1 ≤ number_at z) z refl third.0
          (λ bytes e f is. within_positive (integer bytes) (taken (is_within (pos 1) (pos 8) (integer bytes)) Number is)),
      tt,
    ))
    shaped.1
players_positive (form at r parts from) shaped = tt

-- each line of teams has one at least
teams_positive : (part : Part) → IsShaped part → AllByRecursion (λ parts. 1 ≤ count parts - 2) (teams_in part)
teams_positive (atom at bytes from) shaped = tt
teams_positive (form at rule.CreateTeams parts from) shaped =
    let many = ltb-true 2 (count parts) shaped.0 in (omega (arith, many), tt)
teams_positive (form at r parts from) shaped = tt

-- A LINE FOR THE PLAYERS

some_left : {A : Type 0} (xs ys : List A) → some_of xs ≡ true → some_of (xs ++ ys) ≡ true
some_left [] ys is = absurd cc
some_left (x ∷ xs) ys is = refl

some_right : {A : Type 0} (xs ys : List A) → some_of ys ≡ true → some_of (xs ++ ys) ≡ true
some_right [] ys is = is
some_right (x ∷ xs) ys is = refl

-- of lists of parts
some_first : (xs ys : List Part) → some_of (flat_map players_in xs) ≡ true → some_of (flat_map players_in (xs ++ ys)) ≡ true
some_first xs ys is =
    ap some_of (flat_map-append players_in xs ys) ∙ some_left (flat_map players_in xs) (flat_map players_in ys) is

some_later : (xs ys : List Part) → some_of (flat_map players_in ys) ≡ true → some_of (flat_map players_in (xs ++ ys)) ≡ true
some_later xs ys is =
    ap some_of (flat_map-append players_in xs ys) ∙ some_right (flat_map players_in xs) (flat_map players_in ys) is

-- the form that is told first
first_told : (b : Bool) (others plain : Option Rule) → b ≡ true
    → or_else (cond b (Some rule.CreatePlayers) others) plain ≡ Some rule.CreatePlayers
first_told true others plain is = refl
first_told false others plain is = absurd cc

-- a line that names players says how many
line_some : (at : Standing) → at.place ≡ symbol.Line → (line : Tree) → names_players line ≡ true
    → some_of (flat_map players_in (parts_at (Some at) line)) ≡ true
line_some at here (word bytes from to) names = absurd cc
line_some at here (list nil from to) names = absurd cc
line_some at here (list (cons (list head a b) parts) from to) names = absurd cc
line_some at here (list (cons (word bytes a b) parts) from to) names =
    let all = cons (word bytes a b) parts in
    let told : rule_of symbol.Line all ≡ Some rule.CreatePlayers =
    first_told (names_players (list all from to)) _ _ names in
    ap (λ o. some_of (flat_map players_in (with_form at all from (λ r. parts_in at r all 0 all) o)))
    (ap (λ p. rule_of p all) here ∙ told)

lines_some : (at : Standing) (all : Trees) (index : ℕ) (lines : Trees) → 1 ≤ index → some_names_players lines ≡ true
    → some_of (flat_map players_in (parts_in at rule.Setup all index lines)) ≡ true
lines_some at all index nil above names = absurd cc
lines_some at all index (cons line lines) above names =
    by (names_players line) refl names (λ later. lines_some at all (index + 1) lines (omega (arith, above)) later)
  where
    stands : standing_in at rule.Setup all index ≡ Some (standing_at at rule.Setup all index symbol.Line)
    stands = ap (λ o. option_map (λ q. standing_at at rule.Setup all index q) o) (line_place (count all) index above)

    by : (b : Bool) → names_players line ≡ b → (b || some_names_players lines) ≡ true
        → (some_names_players lines ≡ true
        → some_of (flat_map players_in (parts_in at rule.Setup all (index + 1) lines)) ≡ true)
        → some_of (flat_map players_in (parts_in at rule.Setup all index (cons line lines))) ≡ true
    by true is names later =
        some_first (parts_at (standing_in at rule.Setup all index) line) (parts_in at rule.Setup all (index + 1) lines)
        (subst (λ o. some_of (flat_map players_in (parts_at o line)) ≡ true) (sym stands)
        (line_some (standing_at at rule.Setup all index symbol.Line) refl line is))
    by false is names later =
        some_later (parts_at (standing_in at rule.Setup all index) line) (parts_in at rule.Setup all (index + 1) lines)
        (later names)

-- THE LAWS

some_line : (tree : Tree) → faults symbol.Sheet tree ≡ [] → some_of (flat_map players_in (parts_of tree)) ≡ true
some_line tree none =
    sheet_only (λ tree. AllByRecursion IsShaped (parts_of tree) → some_of (flat_map players_in (parts_of tree)) ≡ true) tree none
    (λ a b c d e f from to lines rest shape shaped.
    let names = not-false (some_names_players lines) shaped.1.1.0.2 in
    let all = cons (word (text_of keyword.Setup) c d) lines in
    let game = parts_with a b (setup_of c d e f lines) rest in
    let setup_stands = standing_at standing_alone rule.Game game 1 symbol.Setup in
    some_first (parts_at (Some setup_stands) (setup_of c d e f lines)) (parts_in standing_alone rule.Game game 2 rest)
    (lines_some setup_stands all 1 lines (omega arith) names))
    (tree_shaped (Some standing_alone) tree none)

-- the first of some numbers
first_positive : (numbers : List ℕ) → some_of numbers ≡ true → AllByRecursion (λ n. 1 ≤ n) numbers
    → 1 ≤ slice_index_or numbers 0 0
first_positive [] some each = absurd cc
first_positive (n ∷ numbers) some each = each.0

-- a form without a fault has a player
pub some_players : (tree : Tree) → faults symbol.Sheet tree ≡ [] → second_faults tree ≡ [] → 1 ≤ player_count (parts_of tree)
some_players tree shaped sound =
    first_positive (flat_map players_in (parts_of tree)) (some_line tree shaped)
    (flat_all (λ n. 1 ≤ n) players_in (parts_of tree) players_positive (tree_shaped (Some standing_alone) tree shaped))

-- the first line of teams, or else each player
first_teams : (players : ℕ) (lines : List Trees) → 1 ≤ players → AllByRecursion (λ parts. 1 ≤ count parts - 2) lines
    → 1 ≤ teams_by players lines
first_teams players [] some each = some
first_teams players (parts ∷ lines) some each = each.0

-- and a team
pub some_teams : (tree : Tree) → faults symbol.Sheet tree ≡ [] → second_faults tree ≡ [] → 1 ≤ team_count (parts_of tree)
some_teams tree shaped sound =
    first_teams (player_count (parts_of tree)) (flat_map teams_in (parts_of tree)) (some_players tree shaped sound)
    (flat_all (λ parts. 1 ≤ count parts - 2) teams_in (parts_of tree) teams_positive
    (tree_shaped (Some standing_alone) tree shaped))
