-- The parts of a whole form give the words that its lists mention, and no others.
use Rattle.std.proofs.Common.{◌≡◌, ℕ, ◌+◌, ◌≤◌, ◌==◌, zero, suc, Bool, true, false, List, [], ◌∷◌, ◌++◌, Some, flat_map, refl, sym, subst, ap, ap₂, ◌∙◌, arith}
use Rattle.std.proofs.lemmas.Bool.{cond-false}
use Rattle.std.proofs.lemmas.List.{append-nil}
use Rattle.std.proofs.lemmas.Grind.{flat_map-append}
use Rattle.rc_base.specs.Tree.{Tree, word, list, Trees, nil, cons}
use Rattle.rc_sheet_spec.specs.StandsSetup.{lines_with}
use Rattle.rc_sheet_spec.specs.FormMentions.{all_gathered, attr_word, value_word, map_word, group_attr_words, group_value_words, deck_groups, points_map, points_entries, entry_attr_words, entry_value_words, attr_mentions, value_mentions, map_mentions}
use Rattle.rc_check.specs.Keyword.{text_of}
use Rattle.rc_check.specs.Faults.{faults, faults_at, faults_in, behind_front, place_at, count, fits}
use Rattle.rc_check.specs.declared.keyword.Keyword.TheVariants as keyword
use Rattle.rc_check.specs.declared.grammar.Symbol.{Symbol}
use Rattle.rc_check.specs.declared.grammar.Symbol.TheVariants as symbol
use Rattle.rc_check.specs.declared.grammar.Rule.TheVariants as rule
use Rattle.rc_check.specs.declared.role.Role.{Role}
use Rattle.rc_check.specs.declared.role.Role.TheVariants.{No as no_role}
use Rattle.rc_check.specs.SecondParts.{Standing, Part, parts_at, parts_in, parts_of, standing_alone}
use Rattle.rc_check.specs.SecondNames.{attributes_in, values_in, maps_in, locations_in, numbers_of, OwnedMention}
use Rattle.rc_resolve.specs.Mentions.{loc_mention, num_mention, deck_location, all_locations, all_numbers}
use Rattle.rc_sheet.proofs.Among.{Among, Within, among_left, among_right, both_within}
use Rattle.rc_sheet.proofs.Shapes.{none_in_both, fixed_only}
use Rattle.rc_sheet.proofs.Bodies.{is_body, is_body_or_none, is_used, IsBody, no_role_fits, standing_at}
use Rattle.rc_sheet.proofs.Gathered.{in_row, AllTell, quiet_row, row_gives}
use Rattle.rc_sheet.proofs.Used.{is_attribute, is_value, is_map, used_in, quiet_atom, unused_attribute, unused_value, unused_map, attributes_tell, values_tell, maps_tell}
use Rattle.rc_sheet.proofs.Given.Names.{silent_atoms, locations_tell, numbers_tell}
use Rattle.rc_sheet.proofs.Silent.{row_none}
use Rattle.rc_sheet.proofs.Lands.{is_given, unused_in_setup, no_number_in_setup, no_attribute_behind, no_value_behind, no_map_behind}
use Rattle.rc_sheet.proofs.Lines.{in_lines, said, lines_within, within_lines}
use Rattle.rc_sheet.proofs.Setups.{attr_lines, value_lines, map_lines, loc_lines}
use Rattle.rc_sheet.proofs.Given.Faces.{sole}

-- a form of these setup lines and what follows them, and its setup
abbrev pub setup_of : ℕ → ℕ → ℕ → ℕ → Trees → Tree
setup_of a b c d lines = list (cons (word (text_of keyword.Setup) a b) lines) c d

abbrev pub parts_with : ℕ → ℕ → Tree → Trees → Trees
parts_with a b setup rest = cons (word (text_of keyword.Game) a b) (cons setup rest)

-- its setup has no fault, and neither has what follows
pub record IsSheetForm (setup : Tree) (lines rest all : Trees) : Type 0 where
  pub setup_fits : fits (suc (count lines)) rule.Setup ≡ true
  pub lines_fine : faults_in rule.Setup (suc (count lines)) 1 lines ≡ []
  pub all_fit : fits (count all) rule.Game ≡ true
  pub rest_fine : faults_in rule.Game (count all) 2 rest ≡ []

-- a form without a fault is one
pub sheet_only : (P : Tree → Type 0) (tree : Tree) → faults symbol.Sheet tree ≡ []
    → ((a b c d e f from to : ℕ) (lines rest : Trees)
    → IsSheetForm (setup_of c d e f lines) lines rest (parts_with a b (setup_of c d e f lines) rest)
    → P (list (parts_with a b (setup_of c d e f lines) rest) from to))
    → P tree
sheet_only P (word bytes from to) none each = absurd cc
sheet_only P (list nil from to) none each = absurd cc
sheet_only P (list (cons g nil) from to) none each =
    let shape = sole symbol.Sheet rule.Game (cons g nil) from to (refl, tt) none in
    let many = shape.1 in absurd cc
sheet_only P (list (cons g (cons (word bytes a b) rest)) from to) none each =
    let shape = sole symbol.Sheet rule.Game (cons g (cons (word bytes a b) rest)) from to (refl, tt) none in
    let first = none_in_both (faults_at (Some (symbol.Word keyword.Game)) g) _ shape.2 in
    let second : faults_at (Some symbol.Setup) (word bytes a b) ≡ [] =
    (none_in_both (faults_at (Some symbol.Setup) (word bytes a b)) _ first.1).0 in absurd cc
sheet_only P (list (cons g (cons (list nil a b) rest)) from to) none each =
    let shape = sole symbol.Sheet rule.Game (cons g (cons (list nil a b) rest)) from to (refl, tt) none in
    let first = none_in_both (faults_at (Some (symbol.Word keyword.Game)) g) _ shape.2 in
    let second : faults_at (Some symbol.Setup) (list nil a b) ≡ [] =
    (none_in_both (faults_at (Some symbol.Setup) (list nil a b)) _ first.1).0 in absurd cc
sheet_only P (list (cons g (cons (list (cons s lines) e f) rest)) from to) none each =
    let parts = cons g (cons (list (cons s lines) e f) rest) in
    let shape = sole symbol.Sheet rule.Game parts from to (refl, tt) none in
    let first = none_in_both (faults_at (Some (symbol.Word keyword.Game)) g) _ shape.2 in
    let second = none_in_both (faults_at (Some symbol.Setup) (list (cons s lines) e f)) (faults_in rule.Game (count parts) 2 rest)
    first.1 in
    let setup = sole symbol.Setup rule.Setup (cons s lines) e f (refl, tt) second.0 in
    let inner = none_in_both (faults_at (Some (symbol.Word keyword.Setup)) s) (faults_in rule.Setup (count (cons s lines)) 1 lines)
    setup.2 in
    fixed_only keyword.Game (λ g. P (list (cons g (cons (list (cons s lines) e f) rest)) from to)) g first.0
    (λ a b.
    fixed_only keyword.Setup
    (λ s. P (list (cons (word (text_of keyword.Game) a b) (cons (list (cons s lines) e f) rest)) from to)) s inner.0
    (λ c d.
    each a b c d e f from to lines rest
    (record { setup_fits = setup.1; lines_fine = inner.1; all_fit = shape.1; rest_fine = second.1 })))

-- what follows the setup stands behind it
game_place : (n j : ℕ) (q : Symbol) → 2 ≤ j → place_at rule.Game n j ≡ Some q → is_body q ≡ true
game_place n zero q above is = absurd (omega (arith, above))
game_place n (suc zero) q above is = absurd (omega (arith, above))
game_place n (suc (suc j)) q above is = by (suc (suc j) + 1 == n) q is
  where
    by : (last : Bool) (q : Symbol) → behind_front rule.Game last ≡ Some q → is_body q ≡ true
    by true q is = subst (λ o. is_body_or_none o ≡ true) is refl
    by false q is = subst (λ o. is_body_or_none o ≡ true) is refl

pub game_body : (all : Trees) (j : ℕ) (q : Symbol) → 2 ≤ j → place_at rule.Game (count all) j ≡ Some q
    → IsBody (standing_at standing_alone rule.Game all j q)
game_body all j q above is = record { placed = game_place (count all) j q above is; role_fits = no_role_fits q }

-- A form, with its parts.
module _ (a b c d e f from to : ℕ) (lines rest : Trees) where
  abbrev setup : Tree
  setup = setup_of c d e f lines

  abbrev all : Trees
  all = parts_with a b setup rest

  abbrev whole : Tree
  whole = list all from to

  abbrev setup_at : Standing
  setup_at = standing_at standing_alone rule.Game all 1 symbol.Setup

  -- the parts behind the setup
  abbrev behind : List Part
  behind = parts_in standing_alone rule.Game all 2 rest

  module _ (shaped : IsSheetForm setup lines rest all) where
    -- what is gathered behind the setup
    rest_gives : {X : Type 0} (own : Trees → List X) (given : Part → List X) → AllTell own given
        → in_row own given standing_alone rule.Game all 2 rest ≡ all_gathered own rest
        → flat_map given behind ≡ all_gathered own rest
    rest_gives own given tells quiet =
        sym (row_gives own given tells standing_alone rule.Game all 2 2 rest (omega arith) (omega arith) shaped.all_fit
        shaped.rest_fine (λ j q above is. game_body all j q above is))
        ∙ quiet

    -- what is used is used there
    used_gives : (own : Trees → List (List ℕ)) (takes : Role → Bool) → ((role : Role) → is_used role ≡ false → takes role ≡ false)
        → AllTell own (used_in takes) → flat_map (used_in takes) (parts_of whole) ≡ all_gathered own rest
    used_gives own takes unused tells =
        ap (λ l. l ++ flat_map (used_in takes) (parts_at (Some setup_at) setup ++ behind))
        (cond-false (takes no_role) (text_of keyword.Game ∷ []) [] (unused no_role refl))
        ∙ flat_map-append (used_in takes) (parts_at (Some setup_at) setup) behind
        ∙ ap₂ (λ l m. l ++ m) (unused_in_setup takes unused setup_at setup refl refl)
        (rest_gives own (used_in takes) tells
        (quiet_row own (used_in takes) standing_alone rule.Game all 2 rest
        (λ j tree. quiet_atom own takes standing_alone rule.Game all j tree (unused no_role refl))))

    -- nothing of a kind behind the setup
    behind_none : {X : Type 0} (given : Part → List X)
        → ((at : Standing) (tree : Tree) → is_body at.place ≡ true → is_given at.role ≡ false
        → flat_map given (parts_at (Some at) tree) ≡ [])
        → flat_map given behind ≡ []
    behind_none given each =
        row_none given standing_alone rule.Game all 2 2 rest (omega arith)
        (λ j q tree above is.
        each (standing_at standing_alone rule.Game all j q) tree (game_place (count all) j q above is) refl)

    pub attributes_give : flat_map attributes_in (parts_of whole)
        ≡ in_lines (λ line. group_attr_words (deck_groups line)) (λ line. entry_attr_words (points_entries line)) lines
    attributes_give =
        flat_map-append attributes_in (parts_at (Some setup_at) setup) behind
        ∙ ap₂ (λ l m. l ++ m) (attr_lines setup_at (cons (word (text_of keyword.Setup) c d) lines) lines shaped.lines_fine)
        (behind_none attributes_in no_attribute_behind)
        ∙ append-nil _

    pub values_give : flat_map values_in (parts_of whole)
        ≡ in_lines (λ line. group_value_words (deck_groups line)) (λ line. entry_value_words (points_entries line)) lines
    values_give =
        flat_map-append values_in (parts_at (Some setup_at) setup) behind
        ∙ ap₂ (λ l m. l ++ m) (value_lines setup_at (cons (word (text_of keyword.Setup) c d) lines) lines shaped.lines_fine)
        (behind_none values_in no_value_behind)
        ∙ append-nil _

    pub maps_give : flat_map maps_in (parts_of whole) ≡ in_lines (λ line. []) points_map lines
    maps_give =
        flat_map-append maps_in (parts_at (Some setup_at) setup) behind
        ∙ ap₂ (λ l m. l ++ m) (map_lines setup_at (cons (word (text_of keyword.Setup) c d) lines) lines shaped.lines_fine)
        (behind_none maps_in no_map_behind)
        ∙ append-nil _

    pub locations_give : flat_map locations_in (parts_of whole)
        ≡ in_lines deck_location (λ line. []) lines ++ all_gathered loc_mention rest
    locations_give =
        flat_map-append locations_in (parts_at (Some setup_at) setup) behind
        ∙ ap₂ (λ l m. l ++ m) (loc_lines setup_at (cons (word (text_of keyword.Setup) c d) lines) lines shaped.lines_fine)
        (rest_gives loc_mention locations_in locations_tell
        (quiet_row loc_mention locations_in standing_alone rule.Game all 2 rest
        (λ j tree. silent_atoms loc_mention locations_in (λ at bytes from. refl) standing_alone rule.Game all j tree)))

    numbers_give : flat_map numbers_of (parts_of whole) ≡ all_numbers whole
    numbers_give =
        flat_map-append numbers_of (parts_at (Some setup_at) setup) behind
        ∙ ap₂ (λ l m. l ++ m) (no_number_in_setup setup_at setup refl refl)
        (rest_gives num_mention numbers_of numbers_tell
        (quiet_row num_mention numbers_of standing_alone rule.Game all 2 rest
        (λ j tree. silent_atoms num_mention numbers_of (λ at bytes from. refl) standing_alone rule.Game all j tree)))

-- The words that the parts of a form give are those that it mentions: attributes, values and point maps by the setup and by
-- what is used, locations and stored numbers.
pub record GivesMentions (tree : Tree) : Type 0 where
  pub attributes : Within (flat_map attributes_in (parts_of tree)) (attr_mentions tree)
  pub used_attributes : Within (flat_map (used_in is_attribute) (parts_of tree)) (attr_mentions tree)
  pub no_more_attributes : Within (attr_mentions tree)
      (flat_map attributes_in (parts_of tree) ++ flat_map (used_in is_attribute) (parts_of tree))
  pub values : Within (flat_map values_in (parts_of tree)) (value_mentions tree)
  pub used_values : Within (flat_map (used_in is_value) (parts_of tree)) (value_mentions tree)
  pub no_more_values : Within (value_mentions tree)
      (flat_map values_in (parts_of tree) ++ flat_map (used_in is_value) (parts_of tree))
  pub maps : Within (flat_map maps_in (parts_of tree)) (map_mentions tree)
  pub used_maps : Within (flat_map (used_in is_map) (parts_of tree)) (map_mentions tree)
  pub no_more_maps : Within (map_mentions tree) (flat_map maps_in (parts_of tree) ++ flat_map (used_in is_map) (parts_of tree))
  pub locations : Within (flat_map locations_in (parts_of tree)) (all_locations tree)
  pub no_more_locations : Within (all_locations tree) (flat_map locations_in (parts_of tree))
  pub numbers : flat_map numbers_of (parts_of tree) ≡ all_numbers tree

-- what lines say is within what decks say, points say, and more
lines_first : {X : Type 0} (in_deck in_points : Tree → List X) (lines : Trees) (xs more : List X)
    → xs ≡ in_lines in_deck in_points lines
    → Within xs (said in_deck in_points lines ++ more)
lines_first in_deck in_points lines xs more is x one =
    among_left x (said in_deck in_points lines) more (lines_within in_deck in_points lines x (subst (Among x) is one))

more_last : {X : Type 0} (first xs more : List X) → xs ≡ more → Within xs (first ++ more)
more_last first xs more is x one = among_right x first more (subst (Among x) is one)

-- and the other way round
lines_or_more : {X : Type 0} (in_deck in_points : Tree → List X) (lines : Trees) (xs ys more : List X)
    → xs ≡ in_lines in_deck in_points lines → ys ≡ more → Within (said in_deck in_points lines ++ more) (xs ++ ys)
lines_or_more in_deck in_points lines xs ys more first second =
    both_within (said in_deck in_points lines) xs more ys
    (λ y is. subst (Among y) (sym first) (within_lines in_deck in_points lines y is))
    (λ y is. subst (Among y) (sym second) is)

-- lines that say nothing
flat_nothing : {A X : Type 0} (xs : List A) → flat_map {X = A} {A = X} (λ x. []) xs ≡ []
flat_nothing [] = refl
flat_nothing (x ∷ xs) = flat_nothing xs

-- of a form with its parts
whole_gives : (a b c d e f from to : ℕ) (lines rest : Trees)
    → IsSheetForm (setup_of c d e f lines) lines rest (parts_with a b (setup_of c d e f lines) rest)
    → GivesMentions (list (parts_with a b (setup_of c d e f lines) rest) from to)
whole_gives a b c d e f from to lines rest shaped =
    let attrs = attributes_give a b c d e f from to lines rest shaped in
    let used_attrs = used_gives a b c d e f from to lines rest shaped attr_word is_attribute unused_attribute attributes_tell in
    let values = values_give a b c d e f from to lines rest shaped in
    let used_vals = used_gives a b c d e f from to lines rest shaped value_word is_value unused_value values_tell in
    let maps = maps_give a b c d e f from to lines rest shaped in
    let used_maps = used_gives a b c d e f from to lines rest shaped map_word is_map unused_map maps_tell in
    let locs = locations_give a b c d e f from to lines rest shaped in
    let no_decks : flat_map {A = List ℕ} (λ (line : Tree). []) (lines_with "create" "deck" lines) ≡ [] =
    flat_nothing (lines_with "create" "deck" lines) in
    let no_points : flat_map {A = OwnedMention} (λ (line : Tree). []) (lines_with "put" "points" lines) ≡ [] =
    flat_nothing (lines_with "put" "points" lines) in
    let points = flat_map points_map (lines_with "put" "points" lines) in
    let decks = flat_map deck_location (lines_with "create" "deck" lines) in
    let more_locs = all_gathered loc_mention rest in
    record {
      attributes = lines_first (λ line. group_attr_words (deck_groups line)) (λ line. entry_attr_words
          (points_entries line)) lines
          _ (all_gathered attr_word rest) attrs;
      used_attributes = more_last (said (λ line. group_attr_words (deck_groups line)) (λ line. entry_attr_words
          (points_entries line)) lines)
          _ (all_gathered attr_word rest) used_attrs;
      no_more_attributes = lines_or_more (λ line. group_attr_words (deck_groups line))
          (λ line. entry_attr_words (points_entries line)) lines _ _ (all_gathered attr_word rest) attrs used_attrs;
      values = lines_first (λ line. group_value_words (deck_groups line)) (λ line. entry_value_words (points_entries line)) lines
          _ (all_gathered value_word rest) values;
      used_values = more_last (said (λ line. group_value_words (deck_groups line)) (λ line. entry_value_words
          (points_entries line)) lines)
          _ (all_gathered value_word rest) used_vals;
      no_more_values = lines_or_more (λ line. group_value_words (deck_groups line))
          (λ line. entry_value_words (points_entries line)) lines _ _ (all_gathered value_word rest) values used_vals;
      maps = λ x one. subst (λ l. Among x ((l ++ points) ++ all_gathered map_word rest)) no_decks
          (lines_first (λ line. []) points_map lines _ (all_gathered map_word rest) maps x one);
      used_maps = λ x one. subst (λ l. Among x ((l ++ points) ++ all_gathered map_word rest)) no_decks
          (more_last (said (λ line. []) points_map lines) _ (all_gathered map_word rest) used_maps x one);
      no_more_maps = λ x one. lines_or_more (λ line. []) points_map lines _ _ (all_gathered map_word rest) maps used_maps x
          (subst (λ l. Among x ((l ++ points) ++ all_gathered map_word rest)) (sym no_decks) one);
      locations = λ x one. both_within (in_lines deck_location (λ line. []) lines) decks more_locs more_locs
          (λ y is. subst (Among y) (ap (λ l. decks ++ l) no_points ∙ append-nil decks)
          (lines_within deck_location (λ line. []) lines y is))
          (λ y is. is) x (subst (Among x) locs one);
      no_more_locations = λ x one. subst (Among x) (sym locs)
          (both_within decks (in_lines deck_location (λ line. []) lines) more_locs more_locs
          (λ y is. within_lines deck_location (λ line. []) lines y
          (subst (Among y) (sym (ap (λ l. decks ++ l) no_points ∙ append-nil decks)) is))
          (λ y is. is) x one);
      numbers = numbers_give a b c d e f from to lines rest shaped;
    }

-- of each form without a fault
pub gives_mentions : (tree : Tree) → faults symbol.Sheet tree ≡ [] → GivesMentions tree
gives_mentions tree none = sheet_only GivesMentions tree none whole_gives
