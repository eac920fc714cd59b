-- The setup of a form without a fault is found.
use Rattle.std.proofs.Common.{◌≡◌, ℕ, suc, ◌+◌, ◌≤◌, ◌==◌, Bool, true, false, cond, nat_le, List, [], ◌∷◌, ◌++◌, length, flat_map, Option, Some, None, is_none, is_some, option_map, slice_get, slice_index_or, position, bytes_eq, append_assoc, append-nil, ℤ, refl, sym, subst, ap, ◌∙◌, arith, eq-eqb}
use Rattle.std.specs.Prelude.{◌&&◌, pos, negsuc}
use Rattle.std.proofs.lemmas.Bool.{or_parts, not-false}
use Rattle.std.proofs.lemmas.Option.{same_Some}
use Rattle.std.proofs.lemmas.List.{length-append}
use Rattle.std.proofs.lemmas.List.Elements.{recursion_from_All}
use Rattle.rc_base.specs.Literal.{integer}
use Rattle.rc_base.specs.Tree.{Tree, word, list, Trees, nil, cons}
use Rattle.rc_sheet_spec.specs.Sheet.{Class, game_class, player_class, DeckLine, game, no_item, highest, literal, Sheet}
use Rattle.rc_base.specs.Limits.{most_players}
use Rattle.rc_deck.proofs.EachLemmas.{parts_of_append}
use Rattle.rc_sheet_spec.specs.Naming.{Naming, class_of}
use Rattle.rc_check.specs.Keyword.{text_of}
use Rattle.rc_check.specs.Faults.{faults, faults_at, faults_in, atom_faults, is_word, is_within, rule_of, place_at, count, fits}
use Rattle.rc_check.specs.declared.keyword.Keyword.TheVariants as keyword
use Rattle.rc_check.specs.declared.grammar.Symbol.TheVariants as symbol
use Rattle.rc_check.specs.declared.grammar.Rule.{Rule}
use Rattle.rc_check.specs.declared.grammar.Rule.TheVariants as rule
use Rattle.rc_check.specs.declared.fault.SheetKind.TheVariants.{Number}
use Rattle.rc_check.specs.declared.role.Role.TheVariants.{DeckLocation as deck_role}
use Rattle.rc_check.specs.Classes.{class_of_rule, class_at}
use Rattle.rc_check.specs.SecondParts.{Standing, Part, form, parts_at, parts_in, parts_of, with_form, standing_in, part_at, bytes_of, word_in}
use Rattle.rc_check.specs.SecondNames.{some_of, players_in, teams_in, maps_in, mention_of}
use Rattle.rc_check.specs.SecondFaults.{is_twice, is_game, is_misplaced, faults_of, faults_behind, second_faults}
use Rattle.rc_resolve.specs.Naming.{naming_of}
use Rattle.rc_sheet.specs.ReadNames.{◌>>=◌, ensure, rule_at, name_at, owner_at, holder_at, is_loc_name, loc_parts, loc_rule, loc_at}
use Rattle.rc_sheet.specs.ReadSetup.{Setup, Lines, no_line, within, count_at, members_at, team_rule, team_at, teams_at, face_words, home_of, deck_at, points_at, players_line, teams_line, deck_line, points_line, line_rule, line_at, lines_at, setup_of, setup_at}
use Rattle.rc_resolve.specs.Reading.{read_deck}
use Rattle.rc_sheet.specs.ReadSheet.{setup_rule, setup_form_at, sheet_with}
use Rattle.rc_sheet.proofs.Means.{Means, nothing, something, anything, behind}
use Rattle.rc_sheet.proofs.Shapes.{none_in_both, shape_of, line_place, three_only, four_only}
use Rattle.rc_sheet.proofs.Faultless.{faultless}
use Rattle.rc_sheet.proofs.Bodies.{standing_at}
use Rattle.rc_sheet.proofs.Fine.Common.{Given, given_of, IsFine}
use Rattle.rc_sheet.proofs.Finds.{Finds, finds, implies, joins, follows, follows_this, where_true, ensures_so, finds_meaning}
use Rattle.rc_sheet.proofs.Fine.Names.{passes_test, name_finds, loc_finds}
use Rattle.rc_sheet.proofs.Found.Faces.{IsFound, no_word, deck_found, entries_found}
use Rattle.rc_sheet.proofs.GoodParts.{◌▹◌, two_and_more, sized_finds, IsGood, GoodAt, AreGood, IsGoodForm, only_form, list_finds, no_list, are_good}
use Rattle.rc_sheet.proofs.GoodForms.{from_two}
use Rattle.rc_sheet.proofs.AllFine.{all_fine}
use Rattle.rc_sheet.proofs.SomePlayers.{some_players}
use Rattle.rc_sheet.proofs.Whole.{setup_of as setup_tree, IsSheetForm, sheet_only}
use Rattle.rc_sheet.proofs.Fine.Lines.{faults_of_both, IsLine, with_list, setup_in, whole_form, all_parts, setup_stand, setup_parts, before_lines, of_lines, behind_lines, line_adds, adds_none, players_of_lines, teams_of_lines, behind_silent, all_said}
use Rattle.rc_sheet.proofs.MapsInTurn.{AreInTurn, in_turn_of_both, line_in_turn, maps_of_lines, maps_in_turn}

-- NUMBERS

-- a number in a range is read
within_found : (least most : ℕ) (found : Option ℤ) → is_within (pos least) (pos most) found ≡ true
    → IsFound (found >>= within least most)
within_found least most None is = absurd cc
within_found least most (Some (pos n)) is = where_true (nat_le least n && nat_le n most) (Some n) None is (finds n tt)
within_found least most (Some (negsuc n)) is = absurd cc

-- THE HOLDER OF A DECK'S LOCATION

-- no list is the game's
no_game : (found : Option Rule) → class_of_rule found ≡ game_class → ⊥
no_game (Some rule.CurrentPlayer) is = cc
no_game found is = cc

-- whose holder is the game's class is the game
game_alone : (holder : Tree) → class_at holder ≡ game_class → Means (holder_at [] holder) (λ who. who ≡ game)
game_alone (word bytes from to) is = by (is_word keyword.Game bytes) is
  where
    by : (b : Bool) → cond b game_class player_class ≡ game_class
        → Means (cond b (Some game) (owner_at [] (word bytes from to))) (λ who. who ≡ game)
    by true is = something game refl
    by false is = absurd cc
game_alone (list parts from to) is = absurd (no_game (rule_of symbol.Owner parts) is)

-- the game's class is no other
is_the_game : (class : Class) → is_game class ≡ true → class ≡ game_class
is_the_game game_class is = refl
is_the_game class is = absurd cc

module _ (naming : Naming) where
  -- a location of the game's is held by the game
  home_parts : (parts : Trees) (from : ℕ) → class_at (part_at 0 parts) ≡ game_class
      → Means (loc_parts naming [] from parts) (λ home. home.who ≡ game)
  unfolding loc_parts
  home_parts (cons holder (cons kind (cons name nil))) from is =
      behind (holder_at [] holder) _ (game_alone holder is)
      (λ who same. behind (name_at naming.names.locs name) _ (anything _)
      (λ number u. behind (ensure (is_loc_name kind (class_of who) (slice_get naming.locs number)))
      (λ u. Some (record { who = who; name = number; at = from })) (anything _)
      (λ u u'. something (record { who = who; name = number; at = from }) same)))
  home_parts parts from is = nothing

  -- the same by the form of the location
  home_rule : (parts : Trees) (from : ℕ) (r : Rule) → class_at (part_at 0 parts) ≡ game_class
      → Means (loc_rule naming [] from parts r) (λ home. home.who ≡ game)
  home_rule parts from rule.Location is = home_parts parts from is
  home_rule parts from r is = nothing

  -- a sheet with this naming
  abbrev named : Sheet
  named =
      sheet_with naming (record { players = 0; teams = None; decks = []; points = [] }) (no_item, (highest, literal (pos 0)))

-- one at the end
some_at_end : {A : Type 0} (xs : List A) (x : A) → some_of (xs ++ x ∷ []) ≡ true
some_at_end [] x = refl
some_at_end (y ∷ xs) x = refl

-- what is not there
none_where : {A : Type 0} (found : Option A) (b : Bool) → is_some found ≡ b → b ≡ false → is_none found ≡ true
none_where None b same is = refl
none_where (Some a) b same is = absurd cc

-- The lines say how many players there are, and teams, where the parts do; and they say as many points as the parts give maps.
record SaysAll (said : Lines) (seen : List Part) : Type 0 where
  players : is_some said.players ≡ some_of (flat_map players_in seen)
  teams : is_some said.teams ≡ some_of (flat_map teams_in seen)
  points : length said.points ≡ length (flat_map maps_in seen)

module _ (given : Given) (naming : Naming) where
  -- PLAYERS AND TEAMS

  -- how many players there are
  players_found : (at : Standing) (tree : Tree) → at.place ≡ symbol.PlayerCount → IsGood given naming at tree
      → IsFound (count_at 1 most_players tree)
  unfolding count_at
  players_found at (word bytes from to) here good =
      within_found 1 most_players (integer bytes)
      (passes_test (is_within (pos 1) (pos 8) (integer bytes)) Number from
      (subst (λ p. atom_faults p bytes from ≡ []) here good.shaped))
  players_found at (list parts from to) here good =
      absurd (no_list given naming symbol.PlayerCount at parts from to here good refl)

  -- a player of a team, and several
  member_found : (at : Standing) (tree : Tree) → at.place ≡ symbol.Member → IsGood given naming at tree
      → IsFound (count_at 0 7 tree)
  unfolding count_at
  member_found at (word bytes from to) here good =
      within_found 0 7 (integer bytes)
      (passes_test (is_within (pos 0) (pos 7) (integer bytes)) Number from
      (subst (λ p. atom_faults p bytes from ≡ []) here good.shaped))
  member_found at (list parts from to) here good =
      absurd (no_list given naming symbol.Member at parts from to here good refl)

  members_found : (at : Standing) (all : Trees) (index : ℕ) (trees : Trees) → AreGood given naming at rule.Team all index trees
      → IsFound (members_at trees)
  members_found at all index nil good = finds [] tt
  members_found at all index (cons tree trees) good =
      joins (count_at 0 7 tree) (members_at trees) ◌∷◌
      (member_found (standing_at at rule.Team all index symbol.Member) tree refl good.0)
      (members_found at all (index + 1) trees good.1) (λ player players u v. tt)

  -- a team, and several behind the two words of a line
  team_found : (at : Standing) (tree : Tree) → at.place ≡ symbol.Team → IsGood given naming at tree → IsFound (team_at tree)
  unfolding team_at
  team_found at (word bytes from to) here good = absurd (no_word given naming symbol.Team at bytes from to here good refl)
  team_found at (list parts from to) here good =
      list_finds given naming (λ r. team_rule r parts) symbol.Team at parts from to here good
      ((λ form. members_found at parts 0 parts form.good) ▹ tt)

  teams_found : (at : Standing) (all : Trees) (index : ℕ) (trees : Trees) → 2 ≤ index
      → AreGood given naming at rule.CreateTeams all index trees → IsFound (teams_at trees)
  teams_found at all index nil above good = finds [] tt
  teams_found at all index (cons tree trees) above good =
      let stand = standing_at at rule.CreateTeams all index symbol.Team in
      let stands : standing_in at rule.CreateTeams all index ≡ Some stand =
      from_two (λ i. standing_in at rule.CreateTeams all i ≡ Some (standing_at at rule.CreateTeams all i symbol.Team))
      (λ j. refl) index above in
      joins (team_at tree) (teams_at trees) ◌∷◌
      (team_found stand tree refl (subst (λ o. GoodAt given naming o tree) stands good.0))
      (teams_found at all (index + 1) trees (omega (arith, above)) good.1) (λ team teams u v. tt)

  -- A DECK

  -- its location is found, and is the game's
  home_found : (at : Standing) (loc : Tree) → at.place ≡ symbol.Location → at.role ≡ deck_role → at.around.scope ≡ []
      → IsGood given naming at loc → Finds (loc_at naming [] loc) (λ home. home.who ≡ game)
  unfolding loc_at
  home_found at (word bytes from to) here role free good =
      absurd (no_word given naming symbol.Location at bytes from to here good refl)
  home_found at (list parts from to) here role free good =
      let form = only_form given naming symbol.Location rule.Location at parts from to here (refl, tt) good in
      let fits = subst (λ r. is_misplaced r (mention_of parts) ≡ false) role form.fine.fits.0 in
      let class = is_the_game (mention_of parts).class (not-false _ (or_parts _ _ fits).0) in
      implies _
      (finds_meaning (loc_at naming [] (list parts from to))
      (subst (λ scope. IsFound (loc_at naming scope (list parts from to))) free
      (implies _ (loc_finds (named naming) given at (list parts from to) here good) (λ home u. tt)))
      (behind (rule_at symbol.Location parts) (loc_rule naming [] from parts) (anything _)
      (λ r u. home_rule naming parts from r class)))
      (λ home is. is.1)

  line_of_deck_found : (at at' : Standing) (loc tree : Tree) → at.place ≡ symbol.Location → at.role ≡ deck_role
      → at.around.scope ≡ [] → IsGood given naming at loc → at'.place ≡ symbol.Deck → IsGood given naming at' tree
      → IsFound (deck_at naming loc tree)
  unfolding deck_at
  line_of_deck_found at at' loc tree here role free good here' good' =
      follows (loc_at naming [] loc) _ (home_found at loc here role free good)
      (λ home is. subst
      (λ who. IsFound {A = DeckLine} (home_of who home.name >>= λ number. read_deck (face_words naming) tree
      >>= λ groups. Some (record { loc = number; groups = groups }))) (sym is)
      (follows (read_deck (face_words naming) tree) _ (deck_found given naming at' tree here' good')
      (λ groups u. finds _ tt)))

  -- POINTS

  line_of_points_found : (at at' : Standing) (number : ℕ) (map tree : Tree) → at.place ≡ symbol.Name → IsGood given naming at map
      → at'.place ≡ symbol.Entries → IsGood given naming at' tree
      → position (bytes_eq (bytes_of map)) naming.names.maps ≡ Some number → IsFound (points_at naming number map tree)
  unfolding points_at
  line_of_points_found at at' number map tree here good here' good' is =
      follows_this (name_at naming.names.maps map) number _
      (name_finds (named naming) given naming.names.maps at map number here good is refl)
      (follows_this (ensure (number == number)) tt _ (ensures_so _ (eq-eqb number number refl) refl)
      (entries_found given naming at' tree here' good'))

  module _ (whole : List Part) where
    -- A LINE

    -- a line isn't one that may stand once and stood before
    line_once : (earlier : List Part) (at : Standing) (r : Rule) (parts : Trees) (from to : ℕ)
        → IsLine given naming whole earlier at r parts from to → is_twice earlier (form at r parts from) ≡ false
    line_once earlier at r parts from to line =
        let head = form at r parts from in
        let inner = parts_in at r parts 0 parts in
        let told = ap (λ p. rule_of p parts) line.here ∙ line.told in
        let sound : faults_behind whole earlier (head ∷ inner) ≡ [] =
        subst (λ o. faults_behind whole earlier (with_form at parts from (λ r. parts_in at r parts 0 parts) o) ≡ []) told
        line.sound in
        (faultless whole earlier head
        (none_in_both (faults_of whole earlier head) (faults_behind whole (earlier ++ head ∷ []) inner) sound).0).once

    -- what is said behind a line
    abbrev SaysNext : List Part → Standing → Trees → ℕ → ℕ → Lines → Type 0
    SaysNext earlier at parts from to next = SaysAll next (with_list given naming whole earlier at parts from to)

    -- each of the four lines is found
    of_players : (said : Lines) (earlier : List Part) (at : Standing) (parts : Trees) (from to : ℕ)
        → IsLine given naming whole earlier at rule.CreatePlayers parts from to → SaysAll said earlier
        → Finds (line_rule naming said rule.CreatePlayers parts) (SaysNext earlier at parts from to)
    unfolding players_line
    of_players said earlier at parts from to line says =
        three_only
        (λ parts. IsLine given naming whole earlier at rule.CreatePlayers parts from to
        → Finds (line_rule naming said rule.CreatePlayers parts) (SaysNext earlier at parts from to))
        parts line.good.fit
        (λ create second last line.
        let all = cons create (cons second (cons last nil)) in
        let once = line_once earlier at rule.CreatePlayers all from to line in
        follows_this (ensure (is_none said.players)) tt _ (ensures_so _ (none_where said.players _ says.players once) refl)
        (follows (count_at 1 most_players last) _
        (players_found (standing_at at rule.CreatePlayers all 2 symbol.PlayerCount) last refl line.good.good.1.1.0)
        (λ n u. finds _ (record {
          players = sym (ap some_of (line_adds players_in players_of_lines line refl)
              ∙ some_at_end (flat_map players_in earlier) _);
          teams = says.teams ∙ ap some_of (sym (adds_none teams_in teams_of_lines line refl refl));
          points = says.points ∙ ap length (sym (adds_none maps_in maps_of_lines line refl refl));
        }))))
        line

    of_teams : (said : Lines) (earlier : List Part) (at : Standing) (parts : Trees) (from to : ℕ)
        → IsLine given naming whole earlier at rule.CreateTeams parts from to → SaysAll said earlier
        → Finds (line_rule naming said rule.CreateTeams parts) (SaysNext earlier at parts from to)
    unfolding teams_line
    of_teams said earlier at parts from to line says =
        two_and_more
        (λ parts. IsLine given naming whole earlier at rule.CreateTeams parts from to
        → Finds (line_rule naming said rule.CreateTeams parts) (SaysNext earlier at parts from to))
        parts line.good.fit
        (λ create second teams some line.
        let all = cons create (cons second teams) in
        let once = line_once earlier at rule.CreateTeams all from to line in
        follows_this (ensure (is_none said.teams)) tt _ (ensures_so _ (none_where said.teams _ says.teams once) refl)
        (follows (teams_at teams) _ (teams_found at all 2 teams (omega arith) line.good.good.1.1)
        (λ found u. finds _ (record {
          players = says.players ∙ ap some_of (sym (adds_none players_in players_of_lines line refl refl));
          teams = sym (ap some_of (line_adds teams_in teams_of_lines line refl) ∙ some_at_end (flat_map teams_in earlier) _);
          points = says.points ∙ ap length (sym (adds_none maps_in maps_of_lines line refl refl));
        }))))
        line

    of_deck : (said : Lines) (earlier : List Part) (at : Standing) (parts : Trees) (from to : ℕ)
        → IsLine given naming whole earlier at rule.CreateDeck parts from to → at.around.scope ≡ [] → SaysAll said earlier
        → Finds (line_rule naming said rule.CreateDeck parts) (SaysNext earlier at parts from to)
    unfolding deck_line
    of_deck said earlier at parts from to line free says =
        four_only
        (λ parts. IsLine given naming whole earlier at rule.CreateDeck parts from to
        → Finds (line_rule naming said rule.CreateDeck parts) (SaysNext earlier at parts from to))
        parts line.good.fit
        (λ create second loc tree line.
        let all = cons create (cons second (cons loc (cons tree nil))) in
        follows (deck_at naming loc tree) _
        (line_of_deck_found (standing_at at rule.CreateDeck all 2 symbol.Location)
        (standing_at at rule.CreateDeck all 3 symbol.Deck)
        loc tree refl refl free line.good.good.1.1.0 refl line.good.good.1.1.1.0)
        (λ deck u. finds _ (record {
          players = says.players ∙ ap some_of (sym (adds_none players_in players_of_lines line refl refl));
          teams = says.teams ∙ ap some_of (sym (adds_none teams_in teams_of_lines line refl refl));
          points = says.points ∙ ap length (sym (adds_none maps_in maps_of_lines line refl refl));
        })))
        line

    of_points : (said : Lines) (earlier : List Part) (at : Standing) (parts : Trees) (from to : ℕ)
        → IsLine given naming whole earlier at rule.PutPoints parts from to
        → position (bytes_eq (word_in 2 parts)) naming.names.maps ≡ Some (length (flat_map maps_in earlier))
        → SaysAll said earlier → Finds (line_rule naming said rule.PutPoints parts) (SaysNext earlier at parts from to)
    unfolding points_line
    of_points said earlier at parts from to line turn says =
        four_only
        (λ parts. IsLine given naming whole earlier at rule.PutPoints parts from to
        → position (bytes_eq (word_in 2 parts)) naming.names.maps ≡ Some (length (flat_map maps_in earlier))
        → Finds (line_rule naming said rule.PutPoints parts) (SaysNext earlier at parts from to))
        parts line.good.fit
        (λ put second map tree line turn.
        let all = cons put (cons second (cons map (cons tree nil))) in
        follows (points_at naming (length said.points) map tree) _
        (line_of_points_found (standing_at at rule.PutPoints all 2 symbol.Name) (standing_at at rule.PutPoints all 3 symbol.Entries)
        (length said.points) map tree refl line.good.good.1.1.0 refl line.good.good.1.1.1.0 (turn ∙ ap Some (sym says.points)))
        (λ entries u. finds _ (record {
          players = says.players ∙ ap some_of (sym (adds_none players_in players_of_lines line refl refl));
          teams = says.teams ∙ ap some_of (sym (adds_none teams_in teams_of_lines line refl refl));
          points = one_longer said.points entries earlier _ says.points
              ∙ ap length (sym (line_adds maps_in maps_of_lines line refl));
        })))
        line turn
      where
        one_longer : {A : Type 0} (all : List A) (a : A) (earlier : List Part) (bytes : List ℕ)
            → length all ≡ length (flat_map maps_in earlier)
            → length (all ++ a ∷ []) ≡ length (flat_map maps_in earlier ++ bytes ∷ [])
        one_longer all a earlier bytes same =
            length-append all (a ∷ []) ∙ ap (λ n. n + 1) same ∙ sym (length-append (flat_map maps_in earlier) (bytes ∷ []))

    -- a form at the place of a line is one
    line_is : (earlier : List Part) (at : Standing) (r : Rule) (parts : Trees) (from to : ℕ) → at.place ≡ symbol.Line
        → faults_at (Some symbol.Line) (list parts from to) ≡ []
        → faults_behind whole earlier (parts_at (Some at) (list parts from to)) ≡ []
        → IsGoodForm given naming at r parts → IsLine given naming whole earlier at r parts from to
    line_is earlier at r parts from to here shaped sound fine =
        let shape = shape_of symbol.Line parts from to shaped in
        let told = sym (ap (λ p. rule_of p parts) here) ∙ fine.told in
        let same = same_Some shape.form r (sym shape.told ∙ told) in
        record {
          here = here;
          told = told;
          inner = subst (λ r. faults_in r (count parts) 0 parts ≡ []) same shape.inner;
          sound = sound;
          good = fine;
        }

    -- a line is found
    line_found : (said : Lines) (earlier : List Part) (at : Standing) (tree : Tree) → at.place ≡ symbol.Line → at.around.scope ≡ []
        → faults_at (Some symbol.Line) tree ≡ [] → faults_behind whole earlier (parts_at (Some at) tree) ≡ []
        → AreInTurn naming.names.maps earlier (parts_at (Some at) tree) → IsGood given naming at tree → SaysAll said earlier
        → Finds (line_at naming said tree) (λ next. SaysAll next (earlier ++ parts_at (Some at) tree))
    unfolding line_at
    line_found said earlier at (word bytes from to) here free shaped sound turn good says =
        absurd (no_word given naming symbol.Line at bytes from to here good refl)
    line_found said earlier at (list parts from to) here free shaped sound turn good says =
        list_finds given naming (λ r. line_rule naming said r parts) symbol.Line at parts from to here good
        ((λ form. of_players said earlier at parts from to
        (line_is earlier at rule.CreatePlayers parts from to here shaped sound form) says)
        ▹ (λ form. of_teams said earlier at parts from to
        (line_is earlier at rule.CreateTeams parts from to here shaped sound form) says)
        ▹ (λ form. of_deck said earlier at parts from to
        (line_is earlier at rule.CreateDeck parts from to here shaped sound form) free says)
        ▹ (λ form.
        let line = line_is earlier at rule.PutPoints parts from to here shaped sound form in
        of_points said earlier at parts from to line
        (line_in_turn naming.names.maps earlier at parts from to here line.told turn) says)
        ▹ tt)

    -- lines from an index on
    lines_found : (at : Standing) (all : Trees) (index : ℕ) (lines : Trees) → 1 ≤ index → at.around.scope ≡ []
        → faults_in rule.Setup (count all) index lines ≡ []
        → (said : Lines) (earlier : List Part) → faults_behind whole earlier (parts_in at rule.Setup all index lines) ≡ []
        → AreInTurn naming.names.maps earlier (parts_in at rule.Setup all index lines)
        → AreGood given naming at rule.Setup all index lines → SaysAll said earlier
        → Finds (lines_at naming said lines) (λ next. SaysAll next (earlier ++ parts_in at rule.Setup all index lines))
    lines_found at all index nil above free shaped said earlier sound turn good says =
        finds said (subst (SaysAll said) (sym (append-nil earlier)) says)
    lines_found at all index (cons line lines) above free shaped said earlier sound turn good says =
        let stand = standing_at at rule.Setup all index symbol.Line in
        let here = line_place (count all) index above in
        let stands : standing_in at rule.Setup all index ≡ Some stand =
        ap (λ o. option_map (λ q. standing_at at rule.Setup all index q) o) here in
        let inner = parts_at (Some stand) line in
        let rest = parts_in at rule.Setup all (index + 1) lines in
        let apart = none_in_both (faults_at (place_at rule.Setup (count all) index) line)
        (faults_in rule.Setup (count all) (index + 1) lines) shaped in
        let both = faults_of_both whole earlier inner rest
        (subst (λ o. faults_behind whole earlier (parts_at o line ++ rest) ≡ []) stands sound) in
        let turns = in_turn_of_both naming.names.maps earlier inner rest
        (subst (λ o. AreInTurn naming.names.maps earlier (parts_at o line ++ rest)) stands turn) in
        follows (line_at naming said line) _
        (line_found said earlier stand line refl free (subst (λ o. faults_at o line ≡ []) here apart.0) both.0 turns.0
        (subst (λ o. GoodAt given naming o line) stands good.0) says)
        (λ next are.
        implies (lines_at naming next lines)
        (lines_found at all (index + 1) lines (omega (arith, above)) free apart.1 next
        (earlier ++ inner) both.1 turns.1 good.1 are)
        (λ last all. subst (λ o. SaysAll last (earlier ++ (parts_at o line ++ rest))) (sym stands)
        (subst (SaysAll last) (append_assoc earlier inner rest) all)))

-- THE SETUP

-- a first number that is positive is one of some
some_first : (numbers : List ℕ) → 1 ≤ slice_index_or numbers 0 0 → some_of numbers ≡ true
some_first [] is = absurd (omega (arith, is))
some_first (n ∷ numbers) is = refl

-- lines that say how many players there are make a setup
setup_made : (said : Lines) (found : Option ℕ) → said.players ≡ found → is_some found ≡ true → IsFound (setup_of said)
setup_made said None is some = absurd cc
setup_made said (Some n) is some =
    subst
    (λ o. IsFound {A = Setup} (o >>= λ players.
    Some (record { players = players; teams = said.teams; decks = said.decks; points = said.points })))
    (sym is) (finds _ tt)

-- the form of a setup
setup_form_found : (naming : Naming) (c d e f : ℕ) (lines : Trees) → fits (suc (count lines)) rule.Setup ≡ true
    → IsFound (setup_at naming lines) → IsFound (setup_form_at naming (setup_tree c d e f lines))
unfolding setup_form_at
setup_form_found naming c d e f lines fit found =
    let parts = cons (word (text_of keyword.Setup) c d) lines in
    sized_finds (count parts) rule.Setup (λ r. setup_rule naming r parts) fit found

-- the setup of a whole form
whole_found : (a b c d e f from to : ℕ) (lines rest : Trees) →
    let tree = whole_form a b c d e f from to lines rest in
    IsSheetForm (setup_tree c d e f lines) lines rest (all_parts a b c d e f from to lines rest)
    → faults symbol.Sheet tree ≡ [] → second_faults tree ≡ []
    → IsFound (setup_form_at (naming_of tree) (setup_in tree))
whole_found a b c d e f from to lines rest whole_fits shaped sound =
    let tree = whole_form a b c d e f from to lines rest in
    let naming = naming_of tree in
    let given = given_of tree in
    let all = all_parts a b c d e f from to lines rest in
    let stand = setup_stand a b c d e f from to lines rest in
    let parts = setup_parts a b c d e f from to lines rest in
    let first = before_lines a b c d e f from to lines rest in
    let ours = of_lines a b c d e f from to lines rest in
    let others = behind_lines a b c d e f from to lines rest in
    let fine = recursion_from_All (IsFine given naming) (parts_of tree) (all_fine tree shaped sound) in
    let fine' = parts_of_append (IsFine given naming) first (ours ++ others) fine in
    let fine'' = parts_of_append (IsFine given naming) ours others fine'.1 in
    let faultless = faults_of_both (parts_of tree) [] first (ours ++ others) sound in
    let faultless' = faults_of_both (parts_of tree) first ours others faultless.1 in
    let turns = in_turn_of_both naming.names.maps [] first (ours ++ others) (maps_in_turn tree shaped sound) in
    let turns' = in_turn_of_both naming.names.maps first ours others turns.1 in
    let some : some_of (flat_map players_in (first ++ ours)) ≡ true =
    ap some_of (sym (all_said players_in (first ++ ours) others (behind_silent players_in players_of_lines all rest)))
    ∙ some_first (flat_map players_in (parts_of tree)) (some_players tree shaped sound) in
    setup_form_found naming c d e f lines whole_fits.setup_fits
    (follows (lines_at naming no_line lines) setup_of
    (lines_found given naming (parts_of tree) stand parts 1 lines (omega arith) refl whole_fits.lines_fine
    no_line first faultless'.0 turns'.0
    (are_good given naming stand rule.Setup parts 1 lines whole_fits.lines_fine fine''.0)
    (record { players = refl; teams = refl; points = refl }))
    (λ said says. setup_made said said.players refl (says.players ∙ some)))

-- THE LAW: the setup of a form without a fault is read.
pub setup_found : (tree : Tree) → faults symbol.Sheet tree ≡ [] → second_faults tree ≡ []
    → Finds (setup_form_at (naming_of tree) (setup_in tree)) (λ s. Unit {0})
setup_found tree shaped sound =
    sheet_only
    (λ tree. faults symbol.Sheet tree ≡ [] → second_faults tree ≡ [] → IsFound (setup_form_at (naming_of tree) (setup_in tree)))
    tree shaped
    (λ a b c d e f from to lines rest whole_fits shaped sound.
    whole_found a b c d e f from to lines rest whole_fits shaped sound)
    shaped sound
