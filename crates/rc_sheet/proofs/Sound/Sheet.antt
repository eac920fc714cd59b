-- A form that stands for a well formed sheet has no fault of the second round where its shape has none, and so none at all.
use Rattle.std.proofs.Common.{◌≡◌, ℕ, suc, ◌<◌, ◌≤◌, List, [], ◌∷◌, length, map, flat_map, Option, Some, None, true, not, nat_eq, bytes_eq, refl, sym, subst, ap, ap₂, ◌∙◌, arith}
use Rattle.std.specs.Prelude.{codes, sum, sum_by, slice_index_or}
use Rattle.std.proofs.lemmas.List.Sums.{sum-map}
use Rattle.std.specs.List.{list_all, AllByRecursion, IsDistinct}
use Rattle.rc_base.specs.Tree.{Tree, word, Trees, cons}
use Rattle.rc_sheet_spec.specs.Sheet.{Teams, Class, game_class, player_class, team_class, DeckLine, Sheet}
use Rattle.rc_base.specs.Limits.{most_cards, most_attrs, most_values, most_maps}
use Rattle.rc_base.specs.Numbers.{below}
use Rattle.rc_sheet_spec.specs.Mentions.{stages_in, sites_in}
use Rattle.rc_sheet_spec.specs.Rows.{◌▸◌, End, AtLeast, Row, Atom}
use Rattle.rc_sheet_spec.specs.Rows.{Some as Full}
use Rattle.rc_sheet_spec.specs.Naming.{sheet_naming}
use Rattle.rc_sheet_spec.specs.FormMentions.{attr_mentions, value_mentions, map_mentions}
use Rattle.rc_sheet_spec.specs.StandsSetup.{StandsSetup}
use Rattle.rc_sheet_spec.specs.StandsItems.{StandItems}
use Rattle.rc_sheet_spec.specs.Stands.{StandsScoring, Stands}
use Rattle.rc_base.specs.Deck.{face_count}
use Rattle.rc_sheet_spec.specs.WellFormed.{outside, is_among, owner_count, AreTeams, IsWellFormed}
use Rattle.rc_check.specs.Faults.{faults, first}
use Rattle.rc_check.specs.declared.grammar.Symbol.TheVariants as symbol
use Rattle.rc_check.specs.declared.grammar.Rule.TheVariants as rule
use Rattle.rc_sheet_spec.specs.WellFormed.{owner_count_by}
use Rattle.rc_check.specs.declared.role.Role.TheVariants.{No as no_role}
use Rattle.rc_check.specs.SecondParts.{Part, parts_at, parts_of, standing_alone}
use Rattle.rc_check.specs.SecondNames.{some_of, players_in, player_count, teams_in, team_count, members_in, cards_in, attributes_in, values_in, maps_in}
use Rattle.rc_check.specs.SecondFaults.{card_count, attribute_count, value_count, map_count, stage_count, choice_count, location_count, number_count, second_faults, or_fault, sheet_fault}
use Rattle.rc_sheet.proofs.FewNames.{no_more_different}
use Rattle.rc_sheet.proofs.One.Rows.{behind_word, row_part}
use Rattle.rc_sheet.proofs.One.Names.{Differ}
use Rattle.rc_sheet.proofs.One.Sheet.{differ_of, names_are}
use Rattle.rc_sheet.proofs.Whole.{gives_mentions}
use Rattle.rc_sheet.proofs.Sound.Parts.{standing, all_join, AllSound, list_sound, AreGiven}
use Rattle.rc_sheet.proofs.Sound.Names.{fixed}
use Rattle.rc_sheet.proofs.Sound.Items.{sheet_body_sound}
use Rattle.rc_sheet.proofs.Sound.Faces.{each_part}
use Rattle.rc_sheet.proofs.Sound.Lines.{LineSound, NoneLeft, setup_lines_sound}
use Rattle.rc_sheet.proofs.Sound.Given.{are_given}
use Rattle.rc_sheet.proofs.Sound.Counts.{players_counted, one_teams_line, teams_many, cards_counted}
use Rattle.rc_sheet.proofs.Sound.Maps.{maps_alone}
use Rattle.rc_sheet.proofs.Sound.Members.{members_of, members_are as members_counted}
use Rattle.rc_sheet.proofs.Sound.Teams.{players_listed, none_missing, partition_differs}
use Rattle.rc_sheet.proofs.Sound.Owned.{locs_owned, nums_owned, locs_first, nums_first}
use Rattle.rc_sheet.proofs.Sound.Stages.{stages_are as stages_counted, choices_are as choices_counted}
use Rattle.rc_sheet.proofs.Sound.Whole.{IsTogether, no_second_faults}
use Rattle.rc_sheet.proofs.Shaped.Sheet.{sheet_shaped}

-- ALL PARTS ARE SOUND

module _ (sheet : Sheet) (all : List Part) (given : AreGiven sheet all) (differ : Differ sheet.names)
    (well : IsWellFormed sheet) (none : (teams : Teams) → sheet.teams ≡ Some teams → NoneLeft sheet all teams)
  where
    setup_sound : (whole : Trees) (tree : Tree) → Row (Atom "setup" ▸ Full (StandsSetup (sheet_naming sheet) sheet)) tree
        → AllSound sheet all (parts_at (Some (standing symbol.Setup outside no_role whole [])) tree)
    setup_sound whole tree stands =
        behind_word "setup" (Full (StandsSetup (sheet_naming sheet) sheet))
        (λ tree. AllSound sheet all (parts_at (Some (standing symbol.Setup outside no_role whole [])) tree)) tree stands
        (λ f t from to lines here.
        let parts = cons (word (codes "setup") f t) lines in
        let at = standing symbol.Setup outside no_role whole [] in
        list_sound sheet all at rule.Setup parts from to refl
        (record { once = refl; known = refl; kind_fits = refl; shallow = refl; said = tt }) (
          fixed sheet all _ _ _ _ _ _,
          each_part sheet all suc (λ k. omega arith) at rule.Setup parts (LineSound sheet all)
              (λ k tree sound. sound parts) 0 lines (setup_lines_sound sheet all lines differ.attrs none here.1 well),
        ))

    parts_sound : (tree : Tree) → Stands sheet tree → AllSound sheet all (parts_of tree)
    parts_sound tree stands =
        row_part "game" (Row (Atom "setup" ▸ Full (StandsSetup (sheet_naming sheet) sheet)))
        (AtLeast 2 (StandItems (sheet_naming sheet) sheet.items (StandsScoring sheet ▸ End)))
        (λ tree. AllSound sheet all (parts_of tree)) tree stands
        (λ f t from to setup rest here there.
        let whole = cons (word (codes "game") f t) (cons setup rest) in
        list_sound sheet all standing_alone rule.Game whole from to refl
        (record { once = refl; known = refl; kind_fits = refl; shallow = refl; said = tt }) (
          fixed sheet all _ _ _ _ _ _,
          all_join sheet all _ _ (setup_sound whole setup here)
              (sheet_body_sound sheet all given whole rest there.1 refl well.items well.score),
        ))

-- WHAT ALL PARTS SAY TOGETHER

-- what is made of some decks is some
some_made : (decks : List DeckLine) → 1 ≤ length decks
    → some_of (map (λ (line : DeckLine). face_count line.groups) decks) ≡ true
some_made [] some = absurd (omega (arith, some))
some_made (deck ∷ decks) some = refl

-- the members of well formed teams differ, and are players
teams_fine : (players : ℕ) (teams : Option Teams) → AreTeams players teams
    → IsDistinct nat_eq (members_of teams) × AllByRecursion (λ n. n < players) (members_of teams)
unfolding IsDistinct
teams_fine players None are = (tt, tt)
teams_fine players (Some teams) are = partition_differs players teams are

module _ (sheet : Sheet) (tree : Tree) (stands : Stands sheet tree) (well : IsWellFormed sheet)
    (shaped : faults symbol.Sheet tree ≡ [])
  where
    abbrev all : List Part
    all = parts_of tree

    -- what the sheet's setup gives the parts of its form give
    given : AreGiven sheet all
    given = are_given sheet tree shaped stands

    -- one line for the players
    players_are : flat_map players_in all ≡ sheet.players ∷ []
    players_are = players_counted sheet tree stands

    players_count : player_count all ≡ sheet.players
    players_count = ap (λ l. slice_index_or l 0 0) players_are

    -- no player is left out of the teams
    none_left : (teams : Teams) → sheet.teams ≡ Some teams → NoneLeft sheet all teams
    none_left teams is f t f' t' parts stand =
        ap not
        (ap₂ (λ players n. list_all (λ player. is_among player players) (below n)) (players_listed teams parts stand)
        players_count
        ∙ none_missing sheet.players teams (subst (AreTeams sheet.players) is well.teams))

    differ : Differ sheet.names
    differ = differ_of sheet well.numbered

    sound : AllSound sheet all all
    sound = parts_sound sheet all given differ well none_left tree stands

    few_attributes : attribute_count all ≤ most_attrs
    few_attributes =
        let same = ap (λ n. length n.attrs) (names_are sheet tree stands well.numbered) in
        let less = no_more_different (flat_map attributes_in all) (attr_mentions tree) (gives_mentions tree shaped).attributes in
        let few = well.limits.attrs in omega (arith, same, less, few)

    few_values : value_count all ≤ most_values
    few_values =
        let same = ap (λ n. length n.values) (names_are sheet tree stands well.numbered) in
        let less = no_more_different (flat_map values_in all) (value_mentions tree) (gives_mentions tree shaped).values in
        let few = well.limits.values in omega (arith, same, less, few)

    few_maps : map_count all ≤ most_maps
    few_maps =
        let same = ap (λ n. length n.maps) (names_are sheet tree stands well.numbered) in
        let less = no_more_different (flat_map maps_in all) (map_mentions tree) (gives_mentions tree shaped).maps in
        let few = well.limits.maps in omega (arith, same, less, few)

    -- one line for the teams at most
    teams_once : length (flat_map teams_in all) ≤ 1
    teams_once = one_teams_line sheet tree stands

    -- each point map stands once
    maps_once : IsDistinct bytes_eq (flat_map maps_in all)
    maps_once = maps_alone sheet tree shaped stands (differ_of sheet well.numbered).maps

    -- the members are those of the sheet's teams
    members_are : flat_map members_in all ≡ members_of sheet.teams
    members_are = members_counted sheet tree stands

    -- who differ, and are players
    members_once : IsDistinct nat_eq (flat_map members_in all)
    members_once = subst (IsDistinct nat_eq) (sym members_are) (teams_fine sheet.players sheet.teams well.teams).0

    members_known : AllByRecursion (λ n. n < player_count all) (flat_map members_in all)
    members_known =
        subst (λ p. AllByRecursion (λ n. n < p) (flat_map members_in all)) (sym players_count)
        (subst (AllByRecursion (λ n. n < sheet.players)) (sym members_are) (teams_fine sheet.players sheet.teams well.teams).1)

    -- the cards of each deck
    cards_are : flat_map cards_in all ≡ map (λ line. face_count line.groups) sheet.decks
    cards_are = cards_counted sheet tree stands

    some_cards : some_of (flat_map cards_in all) ≡ true
    some_cards = ap some_of cards_are ∙ some_made sheet.decks well.some_deck

    few_cards : card_count all ≤ most_cards
    few_cards =
        let few = well.limits.cards in
        let same = ap sum cards_are ∙ sum-map (λ (line : DeckLine). face_count line.groups) sheet.decks in
        omega (arith, few, same)

    -- the stages and the choices
    stages_are : stage_count all ≡ length (stages_in sheet.items)
    stages_are = stages_counted sheet tree stands

    choices_are : choice_count all ≡ length (sites_in sheet.items)
    choices_are = choices_counted sheet tree stands

    -- the owners of each class
    owners : (class : Class) → owner_count_by (player_count all) (team_count all) class ≡ owner_count sheet class
    owners game_class = refl
    owners player_class = players_count
    owners team_class = teams_many sheet tree stands

    -- the locations and the stored numbers of all owners
    locations_are : location_count all all ≡ sum_by (λ loc. owner_count sheet loc.class) sheet.locs
    locations_are =
        locs_owned sheet all differ well.numbered (player_count all) (team_count all) owners sound
        (locs_first sheet tree shaped stands well.numbered)

    numbers_are : number_count all all ≡ sum_by (λ num. owner_count sheet num.class) sheet.nums
    numbers_are =
        nums_owned sheet all differ well.numbered (player_count all) (team_count all) owners sound
        (nums_first sheet tree shaped stands well.numbered)

    together : IsTogether all
    together =
        record {
          players_once = subst (λ l. length l ≤ 1) (sym players_are) (omega arith);
          teams_once = teams_once;
          maps_once = maps_once;
          members_once = members_once;
          members_known = members_known;
          some_cards = some_cards;
          few_cards = few_cards;
          few_attributes = few_attributes;
          few_values = few_values;
          few_maps = few_maps;
          few_stages = let few = well.limits.stages in omega (arith, stages_are, few);
          few_choices = let few = well.limits.sites in omega (arith, choices_are, few);
          few_locations = let few = well.limits.locations in omega (arith, locations_are, few);
          few_numbers = let few = well.limits.numbers in omega (arith, numbers_are, few);
        }

    -- THE LAW
    pub no_second_fault : second_faults tree ≡ []
    no_second_fault =
        no_second_faults sheet all differ together sound

pub no_fault : (sheet : Sheet) (tree : Tree) → Stands sheet tree → IsWellFormed sheet → sheet_fault tree ≡ None
no_fault sheet tree stands well =
    let shaped = sheet_shaped sheet tree stands well in
    ap₂ (λ xs ys. or_fault (first xs) (first ys)) shaped (no_second_fault sheet tree stands well shaped)
