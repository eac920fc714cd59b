-- A form without a fault has few locations and few stored numbers, where there are players and teams.
use Rattle.std.proofs.Common.{◌≡◌, ℕ, ◌≤◌, List, [], ◌∷◌, ◌++◌, length, map, flat_map, refl, sym, subst, ap, ◌∙◌, arith}
use Rattle.std.specs.Prelude.{sum_by}
use Rattle.std.proofs.lemmas.List.{append-nil, length-map}
use Rattle.std.proofs.lemmas.List.Sums.{sum_by-cons}
use Rattle.std.proofs.lemmas.Grind.{flat_map-append}
use Rattle.rc_base.specs.Tree.{Tree}
use Rattle.rc_sheet_spec.specs.Sheet.{Class, game_class, player_class, team_class}
use Rattle.rc_base.specs.Limits.{most_locations, most_numbers}
use Rattle.rc_base.specs.Words.{different}
use Rattle.rc_sheet_spec.specs.FormMentions.{names_of}
use Rattle.rc_check.specs.Faults.{faults}
use Rattle.rc_check.specs.declared.grammar.Symbol.TheVariants as symbol
use Rattle.rc_check.specs.declared.grammar.Rule.TheVariants as rule
use Rattle.rc_sheet_spec.specs.WellFormed.{owner_count_by}
use Rattle.rc_check.specs.SecondParts.{Part, atom, form, parts_of}
use Rattle.rc_check.specs.SecondNames.{player_count, team_count, locations_in, numbers_of, firsts_from, owned, OwnedMention}
use Rattle.rc_check.specs.SecondFaults.{location_count, number_count, second_faults}
use Rattle.rc_resolve.specs.Mentions.{all_locations}
use Rattle.rc_sheet.proofs.Among.{Among, Within, among_map, map_among}
use Rattle.rc_sheet.proofs.Whole.{gives_mentions}
use Rattle.rc_sheet.proofs.Found.Names.{name_of, names_different, loc_names_are, num_names_are}
use Rattle.rc_sheet.proofs.FewNames.{no_more_different}
use Rattle.rc_sheet.proofs.Fine.Counts.{IsWatched, stays_within, watched_part}

-- a part that mentions nothing adds nothing
keeps_owned : (f : Part → List OwnedMention) (players teams most : ℕ) (earlier : List Part) (part : Part) → f part ≡ []
    → owned players teams (flat_map f earlier) ≤ most → owned players teams (flat_map f (earlier ++ part ∷ [])) ≤ most
keeps_owned f players teams most earlier part none le =
    subst (λ l. owned players teams l ≤ most)
    (sym (flat_map-append f earlier (part ∷ []) ∙ ap (λ l. flat_map f earlier ++ (l ++ [])) none
    ∙ append-nil (flat_map f earlier))) le

pub locations_watched : (all : List Part) → IsWatched most_locations (location_count all) all
locations_watched all earlier (atom at bytes from) is le =
    keeps_owned locations_in (player_count all) (team_count all) most_locations earlier (atom at bytes from) refl le
locations_watched all earlier (form at rule.Location parts from) is le =
    watched_part most_locations (location_count all) earlier (form at rule.Location parts from) _ is le
locations_watched all earlier (form at r parts from) is le =
    keeps_owned locations_in (player_count all) (team_count all) most_locations earlier (form at r parts from) refl le

pub numbers_watched : (all : List Part) → IsWatched most_numbers (number_count all) all
numbers_watched all earlier (atom at bytes from) is le =
    keeps_owned numbers_of (player_count all) (team_count all) most_numbers earlier (atom at bytes from) refl le
numbers_watched all earlier (form at rule.Counter parts from) is le =
    watched_part most_numbers (number_count all) earlier (form at rule.Counter parts from) _ is le
numbers_watched all earlier (form at r parts from) is le =
    keeps_owned numbers_of (player_count all) (team_count all) most_numbers earlier (form at r parts from) refl le

-- each name has an owner, where there are players and teams
some_owner : (players teams : ℕ) (class : Class) → 1 ≤ players → 1 ≤ teams → 1 ≤ owner_count_by players teams class
some_owner players teams game_class some many = omega arith
some_owner players teams player_class some many = some
some_owner players teams team_class some many = many

no_more_names : (players teams : ℕ) (mentions : List OwnedMention) → 1 ≤ players → 1 ≤ teams
    → length mentions ≤ sum_by (λ mention. owner_count_by players teams mention.class) mentions
no_more_names players teams [] some many = omega arith
no_more_names players teams (mention ∷ mentions) some many =
    let here = some_owner players teams mention.class some many in
    let later = no_more_names players teams mentions some many in
    let sum = sum_by-cons (λ mention. owner_count_by players teams mention.class) mention mentions in
    omega (arith, here, later, sum)

-- there are no more names than owned ones
names_owned : (players teams : ℕ) (mentions : List OwnedMention) → 1 ≤ players → 1 ≤ teams
    → length (different (map name_of mentions)) ≤ owned players teams mentions
names_owned players teams mentions some many =
    let same = ap length (names_different [] mentions) ∙ length-map (firsts_from [] mentions) name_of in
    let least = no_more_names players teams (firsts_from [] mentions) some many in
    omega (arith, same, least)

-- what is within is so by its names too
names_within : (mentions others : List OwnedMention) → Within mentions others → Within (map name_of mentions) (map name_of others)
names_within mentions others within x is =
    let found = map_among name_of x mentions is in
    subst (λ w. Among w (map name_of others)) (sym found.2) (among_map name_of found.0 others (within found.0 found.1))

-- THE LAWS: there are few locations and stored numbers.
module _ (tree : Tree) (shaped : faults symbol.Sheet tree ≡ []) (sound : second_faults tree ≡ [])
    (some : 1 ≤ player_count (parts_of tree)) (many : 1 ≤ team_count (parts_of tree)) where
  pub few_locations : length (names_of tree).locs ≤ most_locations
  few_locations =
      let all = parts_of tree in
      let mentions = flat_map locations_in all in
      let same = ap (λ l. length (different l)) (loc_names_are tree) in
      let least = no_more_different (map name_of (all_locations tree)) (map name_of mentions)
      (names_within (all_locations tree) mentions (gives_mentions tree shaped).no_more_locations) in
      let owners = names_owned (player_count all) (team_count all) mentions some many in
      let few = stays_within most_locations (location_count all) all (locations_watched all) [] all sound (omega arith) in
      omega (arith, same, least, owners, few)

  pub few_numbers : length (names_of tree).nums ≤ most_numbers
  few_numbers =
      let all = parts_of tree in
      let mentions = flat_map numbers_of all in
      let same = ap (λ l. length (different l)) (num_names_are tree ∙ ap (map name_of) (sym
      (gives_mentions tree shaped).numbers)) in
      let owners = names_owned (player_count all) (team_count all) mentions some many in
      let few = stays_within most_numbers (number_count all) all (numbers_watched all) [] all sound (omega arith) in
      omega (arith, same, owners, few)
