-- The teams of a form without a fault: each has a player, and each player stands in one of them, once.
use Rattle.std.proofs.Common.{◌≡◌, ℕ, zero, suc, ◌+◌, ◌<◌, ◌≤◌, ◌==◌, Bool, true, false, not, ◌&&◌, ◌||◌, nat_le, nat_eq, List, [], ◌∷◌, ◌++◌, length, flat_map, ℤ, pos, negsuc, Option, Some, None, option_map, option_to_list, refl, sym, subst, ap, ap₂, ◌∙◌, arith, leb-false, eqb-true, eq-eqb, ne_eqb}
use Rattle.std.specs.Prelude.{unwrap_or, nat_abs, slice_index_or}
use Rattle.std.specs.List.{list_any, list_all, range_with_len}
use Rattle.std.proofs.lemmas.Bool.{or_parts, and_parts, or_right, eqb-false, not-false}
use Rattle.std.proofs.lemmas.List.{append-nil}
use Rattle.std.proofs.lemmas.List.Folds.{list_any-append}
use Rattle.std.proofs.lemmas.Grind.{flat_map-append}
use Rattle.rc_base.specs.Tree.{Tree, word, list, Trees, nil, cons}
use Rattle.rc_base.specs.Literal.{integer}
use Rattle.rc_sheet_spec.specs.Sheet.{Teams, Sheet}
use Rattle.rc_base.specs.Limits.{most_players}
use Rattle.rc_sheet_spec.specs.WellFormed.{is_among, ArePartition, AreTeams}
use Rattle.rc_check.specs.Grammar.{forms_of}
use Rattle.rc_check.specs.Faults.{faults, faults_at, faults_in, rule_of, place_at, count}
use Rattle.rc_check.specs.declared.keyword.Keyword.TheVariants as keyword
use Rattle.rc_check.specs.declared.grammar.Symbol.{Symbol}
use Rattle.rc_check.specs.declared.grammar.Symbol.TheVariants as symbol
use Rattle.rc_check.specs.declared.grammar.Rule.{Rule}
use Rattle.rc_check.specs.declared.grammar.Rule.TheVariants as rule
use Rattle.rc_check.specs.SecondParts.{Standing, Part, atom, form, parts_at, parts_in, parts_of, with_form, standing_in}
use Rattle.rc_check.specs.SecondNames.{some_of, number_by, number_at, players_in, player_count, teams_in, numbers_in, team_players, member_by, members_in}
use Rattle.rc_check.specs.SecondFaults.{is_in_first_teams, is_unbound, is_unnamed, is_no_player, is_player_again, leaves_out, faults_of, faults_behind, second_faults}
use Rattle.rc_resolve.specs.Naming.{naming_of}
use Rattle.rc_sheet.specs.ReadNames.{rule_at}
use Rattle.rc_sheet.specs.ReadSetup.{within, count_at, members_at, team_rule, team_at, teams_at}
use Rattle.rc_sheet.specs.ReadSheet.{setup_form_at, sheet_at}
use Rattle.rc_sheet.proofs.Means.{Means, nothing, something, means_if, means_so, weaker, behind, either, paired, anything}
use Rattle.rc_sheet.proofs.Shapes.{none_in_both, no_list_at}
use Rattle.rc_sheet.proofs.Bodies.{standing_at}
use Rattle.rc_sheet.proofs.Given.Faces.{sole}
use Rattle.rc_sheet.proofs.GoodForms.{from_two}
use Rattle.rc_sheet.proofs.Faultless.{IsFaultless, faultless}
use Rattle.rc_sheet_spec.specs.Naming.{Naming}
use Rattle.rc_sheet.proofs.ReadOff.Setup.{none_listed}
use Rattle.rc_sheet.proofs.Fine.Common.{Given, given_of}
use Rattle.rc_sheet.proofs.TeamNumbers.{Differ, AreAllBelow, as_many, each_once}
use Rattle.rc_sheet.proofs.Fine.Lines.{IsLine, faults_of_both, inner_silent, below_silent, teams_of_lines, players_of_lines, line_adds, adds_none, setup_in, setup_keeps}
use Rattle.rc_sheet.proofs.SheetSetup.{by_setup}

-- WHAT IS READ IS WHAT IS WRITTEN

-- a number in a range is the one that is written
within_is : (least most : ℕ) (z : ℤ) → Means (within least most z) (λ n. nat_abs z ≡ n)
within_is least most (pos n) = either _ (Some n) None (λ fits. something n refl) (λ fits. nothing)
within_is least most (negsuc n) = nothing

count_is : (least most : ℕ) (tree : Tree) → Means (count_at least most tree) (λ n. number_at tree ≡ n)
unfolding count_at
count_is least most (list parts from to) = nothing
count_is least most (word bytes from to) =
    behind (integer bytes) (within least most) (means_if (integer bytes) (λ z is. is))
    (λ z is. weaker (within least most z) (within_is least most z)
    (λ n same. ap (λ o. unwrap_or (option_map nat_abs o) 0) is ∙ same))

members_are : (parts : Trees) → Means (members_at parts) (λ team. team ≡ numbers_in parts)
members_are nil = something [] refl
members_are (cons part parts) =
    paired (count_at 0 7 part) (members_at parts) ◌∷◌ (count_is 0 7 part) (members_are parts)
    (λ player players is are. ap₂ ◌∷◌ (sym is) are)

-- a team, and others behind it
team_is : (tree : Tree) (rest : Trees)
    → Means (team_at tree) (λ team. ((length team == 0) ≡ false) × (team ++ team_players rest ≡ team_players (cons tree rest)))
unfolding team_at
team_is (word bytes from to) rest = nothing
team_is (list nil from to) rest = nothing
team_is (list (cons part parts) from to) rest =
    behind (rule_at symbol.Team (cons part parts)) (λ rule. team_rule rule (cons part parts)) (anything _) (λ rule u. by rule)
  where
    by : (rule : Rule) → Means (team_rule rule (cons part parts))
        (λ team. ((length team == 0) ≡ false) × (team ++ team_players rest
        ≡ team_players (cons (list (cons part parts) from to) rest)))
    by rule.Team =
        weaker (members_at (cons part parts)) (members_are (cons part parts))
        (λ team is. (
          subst (λ t. (length t == 0) ≡ false) (sym is)
              (ne_eqb (length (numbers_in (cons part parts))) 0 (λ same. omega (arith, same))),
          ap (λ t. t ++ team_players rest) is,
        ))
    by rule = nothing

-- the players of teams
abbrev players_of : Teams → List ℕ
players_of teams = flat_map (λ team. team) teams

teams_are : (parts : Trees)
    → Means (teams_at parts) (λ teams. (list_any (λ team. length team == 0) teams ≡ false)
    × (players_of teams ≡ team_players parts))
teams_are nil = something [] (refl, refl)
teams_are (cons part parts) =
    paired (team_at part) (teams_at parts) ◌∷◌ (team_is part parts) (teams_are parts)
    (λ team teams is are. (ap₂ (λ a b. a || b) is.0 are.0, ap (λ l. team ++ l) are.1 ∙ is.1))

-- THE PARTS OF A LINE OF TEAMS

-- a team's
members_row : (at : Standing) (all : Trees) (index : ℕ) (trees : Trees) → faults_in rule.Team (count all) index trees ≡ []
    → flat_map members_in (parts_in at rule.Team all index trees) ≡ numbers_in trees
members_row at all index nil none = refl
members_row at all index (cons (word bytes from to) trees) none =
    let apart = none_in_both (faults_at (Some symbol.Member) (word bytes from to))
    (faults_in rule.Team (count all) (index + 1) trees) none in
    ap (λ l. number_by bytes ∷ l) (members_row at all (index + 1) trees apart.1)
members_row at all index (cons (list parts from to) trees) none =
    let apart = none_in_both (faults_at (Some symbol.Member) (list parts from to))
    (faults_in rule.Team (count all) (index + 1) trees) none in
    absurd (no_list_at symbol.Member parts from to refl apart.0)

team_row : (at : Standing) → at.place ≡ symbol.Team → (parts : Trees) (from to : ℕ)
    → faults_at (Some symbol.Team) (list parts from to) ≡ []
    → flat_map members_in (parts_at (Some at) (list parts from to)) ≡ numbers_in parts
team_row at here parts from to none =
    let shape = sole symbol.Team rule.Team parts from to (refl, tt) none in
    ap (λ o. flat_map members_in (with_form at parts from (λ r. parts_in at r parts 0 parts) o))
    (ap (λ p. rule_of p parts) here ∙ shape.0)
    ∙ members_row at parts 0 parts shape.2

-- a line's, behind its two words
team_place : (n index : ℕ) → 2 ≤ index → place_at rule.CreateTeams n index ≡ Some symbol.Team
team_place n index above = from_two (λ i. place_at rule.CreateTeams n i ≡ Some symbol.Team) (λ j. refl) index above

teams_row : (at : Standing) (all : Trees) (index : ℕ) (trees : Trees) → 2 ≤ index
    → faults_in rule.CreateTeams (count all) index trees ≡ []
    → flat_map members_in (parts_in at rule.CreateTeams all index trees) ≡ team_players trees
teams_row at all index nil above none = refl
teams_row at all index (cons tree trees) above none =
    let here = team_place (count all) index above in
    let stand = standing_at at rule.CreateTeams all index symbol.Team in
    let stands : standing_in at rule.CreateTeams all index ≡ Some stand =
    ap (λ o. option_map (λ q. standing_at at rule.CreateTeams all index q) o) here in
    let apart = none_in_both (faults_at (place_at rule.CreateTeams (count all) index) tree)
    (faults_in rule.CreateTeams (count all) (index + 1) trees) none in
    flat_map-append members_in (parts_at (standing_in at rule.CreateTeams all index) tree)
    (parts_in at rule.CreateTeams all (index + 1) trees)
    ∙ ap₂ (λ l m. l ++ m) (ap (λ o. flat_map members_in (parts_at o tree)) stands)
    (teams_row at all (index + 1) trees (omega (arith, above)) apart.1)
    ∙ by tree (subst (λ o. faults_at o tree ≡ []) here apart.0)
  where
    by : (tree : Tree) → faults_at (Some symbol.Team) tree ≡ []
        → flat_map members_in (parts_at (Some (standing_at at rule.CreateTeams all index symbol.Team)) tree) ++ team_players trees
        ≡ team_players (cons tree trees)
    by (word bytes from to) none = absurd cc
    by (list parts from to) none =
        ap (λ l. l ++ team_players trees)
        (team_row (standing_at at rule.CreateTeams all index symbol.Team) refl parts from to none)

-- NO PLAYER STANDS TWICE, AND EACH IS ONE

-- parts whose members differ, are players, and are no earlier ones
record AreApart (players : ℕ) (earlier ours : List ℕ) : Type 0 where
  differ : Differ ours
  few : (q : ℕ) → is_among q ours ≡ true → q < players
  new : (q : ℕ) → is_among q earlier ≡ true → is_among q ours ≡ false

-- nothing is both
pub not_both : (b : Bool) → b ≡ true → b ≡ false → ⊥
not_both true is other = cc
not_both false is other = cc

-- one more, which is new
one_apart : (players n : ℕ) (earlier ours : List ℕ) → n < players → is_among n earlier ≡ false
    → AreApart players (earlier ++ n ∷ []) ours → AreApart players earlier (n ∷ ours)
one_apart players n earlier ours less fresh are =
    record {
      differ = (
        are.new n (list_any-append (nat_eq n) earlier (n ∷ [])
            ∙ or_right _ _ (ap (λ b. b || false) (eq-eqb n n refl))),
        are.differ,
      );
      few = λ q is. by_few q (nat_eq q n) refl is;
      new = λ q is. ap₂ (λ a b. a || b) (other q is (nat_eq q n) refl)
          (are.new q (list_any-append (nat_eq q) earlier (n ∷ []) ∙ ap (λ b. b || is_among q (n ∷ [])) is));
    }
  where
    by_few : (q : ℕ) (b : Bool) → nat_eq q n ≡ b → is_among q (n ∷ ours) ≡ true → q < players
    by_few q true same is = subst (λ k. k < players) (sym (eqb-true q n same)) less
    by_few q false other is = are.few q (subst (λ b. (b || is_among q ours) ≡ true) other is)

    other : (q : ℕ) → is_among q earlier ≡ true → (b : Bool) → nat_eq q n ≡ b → nat_eq q n ≡ false
    other q is false differs = differs
    other q is true same = absurd (not_both _ (subst (λ k. is_among k earlier ≡ true) (eqb-true q n same) is) fresh)

-- parts behind the head of the first line of teams
members_apart : (whole earlier parts : List Part) → faults_behind whole earlier parts ≡ [] → is_in_first_teams earlier ≡ true
    → flat_map teams_in parts ≡ []
    → AreApart (player_count whole) (flat_map members_in earlier) (flat_map members_in parts)
members_apart whole earlier [] none first quiet =
    record { differ = tt; few = λ q is. absurd cc; new = λ q is. refl }
members_apart whole earlier (part ∷ parts) none first quiet =
    let both = none_in_both (faults_of whole earlier part) (faults_behind whole (earlier ++ part ∷ []) parts) none in
    let silent = none_in_both (teams_in part) (flat_map teams_in parts) quiet in
    let same : flat_map teams_in (earlier ++ part ∷ []) ≡ flat_map teams_in earlier =
    flat_map-append teams_in earlier (part ∷ []) ∙ ap (λ l. flat_map teams_in earlier ++ (l ++ [])) silent.0
    ∙ append-nil (flat_map teams_in earlier) in
    let later = members_apart whole (earlier ++ part ∷ []) parts both.1
    (ap (λ l. length l == 1) same ∙ first) silent.1 in
    by part (faultless whole earlier part both.0)
    (subst (λ l. AreApart (player_count whole) l (flat_map members_in parts))
    (flat_map-append members_in earlier (part ∷ [])) later)
  where
    by : (part : Part) → IsFaultless whole earlier part
        → AreApart (player_count whole) (flat_map members_in earlier ++ (members_in part ++ [])) (flat_map members_in parts)
        → AreApart (player_count whole) (flat_map members_in earlier) (members_in part ++ flat_map members_in parts)
    by (form at r inner from) fine are =
        subst (λ l. AreApart (player_count whole) l (flat_map members_in parts)) (append-nil (flat_map members_in earlier)) are
    by (atom at bytes from) fine are =
        let outer = or_parts (is_unbound at bytes || is_unnamed whole at.role bytes)
        (is_no_player whole earlier at.place bytes) fine.known in
        by_place at.place bytes fine.once outer.1 are
      where
        by_place : (p : Symbol) (bytes : List ℕ) → is_player_again earlier p bytes ≡ false
            → is_no_player whole earlier p bytes ≡ false
            → AreApart (player_count whole) (flat_map members_in earlier ++ (member_by p bytes ++ [])) (flat_map members_in parts)
            → AreApart (player_count whole) (flat_map members_in earlier) (member_by p bytes ++ flat_map members_in parts)
        by_place symbol.Member bytes once known are =
            one_apart (player_count whole) (number_by bytes) (flat_map members_in earlier) (flat_map members_in parts)
            (leb-false (player_count whole) (number_by bytes)
            (subst (λ b. (b && nat_le (player_count whole) (number_by bytes)) ≡ false) first known))
            (subst (λ b. (b && is_among (number_by bytes) (flat_map members_in earlier)) ≡ false) first once)
            are
        by_place p bytes once known are =
            subst (λ l. AreApart (player_count whole) l (flat_map members_in parts))
            (append-nil (flat_map members_in earlier)) are

-- A LINE OF TEAMS

-- past a number
past_it : (a b : ℕ) → b ≤ a → nat_eq a b ≡ false → b + 1 ≤ a
past_it a b le other = let differ = eqb-false a b other in omega (arith, le, differ)

-- nothing is left out
all_among : (ns : List ℕ) (start n : ℕ) → list_all (λ q. is_among q ns) (range_with_len start n) ≡ true
    → (q : ℕ) → start ≤ q → q < start + n → is_among q ns ≡ true
all_among ns start zero all q low high = absurd (omega (arith, low, high))
all_among ns start (suc n) all q low high =
    let both = and_parts (is_among start ns) (list_all (λ q. is_among q ns) (range_with_len (start + 1) n)) all in
    by (nat_eq q start) refl both.0 (λ more. all_among ns (start + 1) n both.1 q more (omega (arith, high)))
  where
    by : (b : Bool) → nat_eq q start ≡ b → is_among start ns ≡ true → (start + 1 ≤ q → is_among q ns ≡ true)
        → is_among q ns ≡ true
    by true same first later = subst (λ k. is_among k ns ≡ true) (sym (eqb-true q start same)) first
    by false other first later = later (past_it q start low other)

-- no team stands in a word
word_before : (p : Symbol) (tree : Tree) (rest : Trees) → forms_of p ≡ [] → faults_at (Some p) tree ≡ []
    → team_players (cons tree rest) ≡ team_players rest
word_before p (word bytes from to) rest listless none = refl
word_before p (list parts from to) rest listless none = absurd (no_list_at p parts from to listless none)

-- what is known of the head of a line of teams
none_of_some : {A : Type 0} (xs : List A) → some_of xs ≡ false → xs ≡ []
none_of_some [] is = refl
none_of_some (x ∷ xs) is = absurd cc

line_is_apart : (given : Given) (naming : Naming) (whole earlier : List Part) (at : Standing) (create second : Tree)
    (parts : Trees)
    (from to : ℕ) → IsLine given naming whole earlier at rule.CreateTeams (cons create (cons second parts)) from to
    → AreAllBelow (player_count whole) (team_players parts)
line_is_apart given naming whole earlier at create second parts from to line =
    let all = cons create (cons second parts) in
    let head = form at rule.CreateTeams all from in
    let one = parts_at (standing_in at rule.CreateTeams all 0) create in
    let two = parts_at (standing_in at rule.CreateTeams all 1) second in
    let ours = parts_in at rule.CreateTeams all 2 parts in
    let told = ap (λ p. rule_of p all) line.here ∙ line.told in
    let sound : faults_behind whole earlier (head ∷ (one ++ (two ++ ours))) ≡ [] =
    subst (λ o. faults_behind whole earlier (with_form at all from (λ r. parts_in at r all 0 all) o) ≡ []) told line.sound in
    let both = none_in_both (faults_of whole earlier head)
    (faults_behind whole (earlier ++ head ∷ []) (one ++ (two ++ ours))) sound in
    let fine = faultless whole earlier head both.0 in
    let first = none_of_some (flat_map teams_in earlier) fine.once in
    let left : leaves_out whole all ≡ false =
    subst (λ l. (not (some_of l) && leaves_out whole all) ≡ false) first fine.known in
    let behind_one = faults_of_both whole (earlier ++ head ∷ []) one (two ++ ours) both.1 in
    let behind_two = faults_of_both whole ((earlier ++ head ∷ []) ++ one) two ours behind_one.1 in
    let before = ((earlier ++ head ∷ []) ++ one) ++ two in
    let seen : flat_map teams_in before ≡ all ∷ [] =
    flat_map-append teams_in ((earlier ++ head ∷ []) ++ one) two
    ∙ ap₂ (λ l m. l ++ m) (flat_map-append teams_in (earlier ++ head ∷ []) one
    ∙ ap₂ (λ l m. l ++ m) (flat_map-append teams_in earlier (head ∷ []) ∙ ap (λ l. l ++ all ∷ []) first)
    (below_silent teams_in teams_of_lines (standing_at at rule.CreateTeams all 0 (symbol.Word keyword.Create)) create refl))
    (below_silent teams_in teams_of_lines (standing_at at rule.CreateTeams all 1 (symbol.Word keyword.Teams)) second refl) in
    let apart = members_apart whole before ours behind_two.1 (ap (λ l. length l == 1) seen)
    (inner_silent teams_in teams_of_lines at rule.CreateTeams all 2 parts refl) in
    let none = none_in_both (faults_at (Some (symbol.Word keyword.Create)) create) _ line.inner in
    let none' = none_in_both (faults_at (Some (symbol.Word keyword.Teams)) second) _ none.1 in
    let are = teams_row at all 2 parts (omega arith) none'.1 in
    let same = word_before (symbol.Word keyword.Create) create (cons second parts) refl none.0
    ∙ word_before (symbol.Word keyword.Teams) second parts refl none'.0 in
    record {
      differ = subst Differ are apart.differ;
      below = λ q is. apart.few q (subst (λ l. is_among q l ≡ true) (sym are) is);
      all = λ q less. subst (λ l. is_among q l ≡ true) same
          (all_among (team_players all) 0 (player_count whole) (not-false _ left) q (omega arith) (omega (arith, less)));
    }

-- the teams that a line says
line_parts : (given : Given) (naming : Naming) (whole earlier : List Part) (at : Standing) (create second : Tree) (parts : Trees)
    (from to : ℕ) (teams : Teams)
    → IsLine given naming whole earlier at rule.CreateTeams (cons create (cons second parts)) from to
    → teams_at parts ≡ Some teams → ArePartition (player_count whole) teams
line_parts given naming whole earlier at create second parts from to teams line is =
    let read = means_so (teams_at parts) teams (teams_are parts) is in
    let are = subst (AreAllBelow (player_count whole)) (sym read.1)
    (line_is_apart given naming whole earlier at create second parts from to line) in
    record {
      some = read.0;
      whole = as_many (player_count whole) (players_of teams) are;
      once = each_once (player_count whole) (players_of teams) are;
    }

-- both hold of what is read
pub both_hold : {A : Type 0} {P Q : A → Type 0} (found : Option A) → Means found P → Means found Q → Means found (λ a. P a × Q a)
both_hold None p q = nothing
both_hold (Some a) p q = something a (p.holds, q.holds)

-- THE PLAYERS

-- THE LAW: the setup that is read has as many players as its form counts.
pub players_are_counted : (tree : Tree) → faults symbol.Sheet tree ≡ [] → second_faults tree ≡ []
    → Means (setup_form_at (naming_of tree) (setup_in tree)) (λ s. s.players ≡ player_count (parts_of tree))
players_are_counted tree shaped sound =
    weaker _
    (setup_keeps (λ said seen. option_to_list said.players ≡ flat_map players_in seen) tree shaped sound (
      record {
        players = λ said earlier at create second last from to n line first is q.
            sym (line_adds players_in players_of_lines line refl
            ∙ ap₂ (λ l m. l ++ m ∷ []) (sym q ∙ none_listed said.players first)
            (means_so _ n (count_is 1 most_players last) is));
        teams = λ said earlier at create second parts from to all line first is q.
            q ∙ sym (adds_none players_in players_of_lines line refl refl);
        decks = λ said earlier at create second loc inner from to deck line is q.
            q ∙ sym (adds_none players_in players_of_lines line refl refl);
        points = λ said earlier at put second map inner from to entries line is q.
            q ∙ sym (adds_none players_in players_of_lines line refl refl);
      },
      λ parts start. sym start.players,
    ))
    (λ s is. ap (λ l. slice_index_or l 0 0) (ap option_to_list (sym is.players) ∙ is.is ∙ sym is.all.players))

-- THE LAW: the teams of the setup that is read part its players.
pub teams_are_fine : (tree : Tree) → faults symbol.Sheet tree ≡ [] → second_faults tree ≡ []
    → Means (setup_form_at (naming_of tree) (setup_in tree)) (λ s. AreTeams s.players s.teams)
teams_are_fine tree shaped sound =
    weaker _
    (both_hold _ (players_are_counted tree shaped sound)
    (setup_keeps (λ said seen. AreTeams (player_count (parts_of tree)) said.teams) tree shaped sound (
      record {
        players = λ said earlier at create second last from to n line first is q. q;
        teams = λ said earlier at create second parts from to all line first is q.
            line_parts (given_of tree) (naming_of tree) (parts_of tree) earlier at create second parts from to all line is;
        decks = λ said earlier at create second loc inner from to deck line is q. q;
        points = λ said earlier at put second map inner from to entries line is q. q;
      },
      λ parts start. tt,
    )))
    (λ s are. subst (λ n. AreTeams n s.teams) (sym are.0)
    (subst (AreTeams (player_count (parts_of tree))) are.1.teams are.1.is))

-- and so do those of the sheet
pub teams_are_a_partition : (tree : Tree) (sheet : Sheet) → faults symbol.Sheet tree ≡ [] → second_faults tree ≡ []
    → sheet_at (naming_of tree) tree ≡ Some sheet → AreTeams sheet.players sheet.teams
teams_are_a_partition tree sheet shaped sound is =
    by_setup (λ sheet. AreTeams sheet.players sheet.teams) (naming_of tree) tree sheet is
    (weaker _ (teams_are_fine tree shaped sound) (λ s are body. are))
