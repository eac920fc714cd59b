-- A sheet that is read off a form without a fault has few locations and stored numbers of its owners.
use Rattle.std.proofs.Common.{◌≡◌, ℕ, ◌+◌, ◌≤◌, Bool, true, false, List, [], ◌∷◌, ◌++◌, flat_map, Some, refl, sym, ap, ap₂, ◌∙◌, arith}
use Rattle.std.specs.Prelude.{sum_by, if◌then◌else◌}
use Rattle.std.proofs.lemmas.List.Sums.{sum_by-cons}
use Rattle.std.proofs.lemmas.List.{append-nil}
use Rattle.rc_base.specs.Tree.{Tree, Trees, nil, cons}
use Rattle.rc_sheet_spec.specs.StandsSetup.{begins_with, lines_with}
use Rattle.rc_sheet_spec.specs.Sheet.{Class, LocName, NumName, Sheet}
use Rattle.rc_base.specs.Limits.{most_locations, most_numbers}
use Rattle.rc_sheet_spec.specs.Naming.{sheet_naming}
use Rattle.rc_sheet_spec.specs.FormMentions.{all_gathered}
use Rattle.rc_sheet_spec.specs.WellFormed.{owner_count}
use Rattle.rc_check.specs.Faults.{faults}
use Rattle.rc_check.specs.declared.grammar.Symbol.TheVariants as symbol
use Rattle.rc_sheet_spec.specs.WellFormed.{owner_count_by}
use Rattle.rc_check.specs.SecondParts.{parts_of}
use Rattle.rc_check.specs.SecondNames.{player_count, team_count, locations_in, numbers_of, owned, OwnedMention}
use Rattle.rc_check.specs.SecondFaults.{location_count, number_count, second_faults}
use Rattle.rc_resolve.specs.Mentions.{loc_mention, deck_location, all_locations, all_numbers}
use Rattle.rc_resolve.specs.Naming.{kind_by, firsts, loc_names, num_names}
use Rattle.rc_resolve.specs.Naming.{naming_of}
use Rattle.rc_sheet.specs.ReadSheet.{sheet_at}
use Rattle.rc_sheet.proofs.Lines.{in_lines}
use Rattle.rc_sheet.proofs.Whole.{sheet_only, locations_give, gives_mentions}
use Rattle.rc_sheet.proofs.FewOwned.{locations_watched, numbers_watched}
use Rattle.rc_sheet.proofs.Fine.Counts.{stays_within}
use Rattle.rc_sheet.proofs.Means.{means_so}
use Rattle.rc_sheet.proofs.Mentioned.Numbers.{sheet_reads}
use Rattle.rc_sheet.proofs.PlayersAndTeams.{HasCounts, counts_are, owners_same}

-- lines that only decks say something in
chosen : {X : Type 0} (f : Tree → List X) (b c : Bool) (line : Tree) (lines : List Tree) (later : List X)
    → later ≡ flat_map f lines
    → ((if b then f line else []) ++ (if c then [] else [])) ++ later ≡ flat_map f (if b then line ∷ lines else lines)
chosen f true true line lines later same = ap₂ (λ l m. l ++ m) (append-nil (f line)) same
chosen f true false line lines later same = ap₂ (λ l m. l ++ m) (append-nil (f line)) same
chosen f false true line lines later same = same
chosen f false false line lines later same = same

decks_alone : {X : Type 0} (f : Tree → List X) (lines : Trees)
    → in_lines f (λ line. []) lines ≡ flat_map f (lines_with "create" "deck" lines)
decks_alone f nil = refl
decks_alone f (cons line lines) =
    chosen f (begins_with "create" "deck" line) (begins_with "put" "points" line) line (lines_with "create" "deck" lines) _
    (decks_alone f lines)

-- the parts of a form mention the locations that it mentions, in order
pub locations_are : (tree : Tree) → faults symbol.Sheet tree ≡ [] → flat_map locations_in (parts_of tree) ≡ all_locations tree
locations_are tree shaped =
    sheet_only (λ tree. flat_map locations_in (parts_of tree) ≡ all_locations tree) tree shaped
    (λ a b c d e f from to lines rest shape. locations_give a b c d e f from to lines rest shape
    ∙ ap (λ l. l ++ all_gathered loc_mention rest) (decks_alone deck_location lines))

-- the owners of what the first mentions say
locs_owned : (count count' : Class → ℕ) (same : (class : Class) → count' class ≡ count class) (number : ℕ)
    (mentions : List OwnedMention)
    → sum_by (λ loc. count loc.class) (loc_names number mentions) ≡ sum_by (λ mention. count' mention.class) mentions
locs_owned count count' same number [] = refl
locs_owned count count' same number (mention ∷ mentions) =
    sum_by-cons (λ (loc : LocName). count loc.class)
    (record { name = number; kind = kind_by mention.kind; class = mention.class }) (loc_names (number + 1) mentions)
    ∙ ap₂ (λ m n. m + n) (sym (same mention.class)) (locs_owned count count' same (number + 1) mentions)
    ∙ sym (sum_by-cons (λ (mention : OwnedMention). count' mention.class) mention mentions)

nums_owned : (count count' : Class → ℕ) (same : (class : Class) → count' class ≡ count class) (number : ℕ)
    (mentions : List OwnedMention)
    → sum_by (λ num. count num.class) (num_names number mentions) ≡ sum_by (λ mention. count' mention.class) mentions
nums_owned count count' same number [] = refl
nums_owned count count' same number (mention ∷ mentions) =
    sum_by-cons (λ (num : NumName). count num.class) (record { name = number; class = mention.class })
    (num_names (number + 1) mentions)
    ∙ ap₂ (λ m n. m + n) (sym (same mention.class)) (nums_owned count count' same (number + 1) mentions)
    ∙ sym (sum_by-cons (λ (mention : OwnedMention). count' mention.class) mention mentions)

module _ (tree : Tree) (sheet : Sheet) (shaped : faults symbol.Sheet tree ≡ []) (sound : second_faults tree ≡ [])
    (is : sheet_at (naming_of tree) tree ≡ Some sheet) where
  counts : HasCounts tree sheet
  counts = counts_are (naming_of tree) tree sheet is

  named : sheet_naming sheet ≡ naming_of tree
  named = (means_so (sheet_at (naming_of tree) tree) sheet (sheet_reads (naming_of tree) tree) is).named

  pub few_locations : sum_by (λ loc. owner_count sheet loc.class) sheet.locs ≤ most_locations
  few_locations =
      let all = parts_of tree in
      let few = stays_within most_locations (location_count all) all (locations_watched all) [] all sound (omega arith) in
      let same : sum_by (λ loc. owner_count sheet loc.class) sheet.locs
      ≡ owned (player_count all) (team_count all) (flat_map locations_in all) =
      ap (λ n. sum_by (λ loc. owner_count sheet loc.class) n.locs) named
      ∙ locs_owned (owner_count sheet) (owner_count_by (player_count all) (team_count all))
      (λ class. owners_same tree sheet class counts) 0 (firsts (all_locations tree))
      ∙ ap (λ l. owned (player_count all) (team_count all) l) (sym (locations_are tree shaped)) in
      omega (arith, few, same)

  pub few_numbers : sum_by (λ num. owner_count sheet num.class) sheet.nums ≤ most_numbers
  few_numbers =
      let all = parts_of tree in
      let few = stays_within most_numbers (number_count all) all (numbers_watched all) [] all sound (omega arith) in
      let same : sum_by (λ num. owner_count sheet num.class) sheet.nums
      ≡ owned (player_count all) (team_count all) (flat_map numbers_of all) =
      ap (λ n. sum_by (λ num. owner_count sheet num.class) n.nums) named
      ∙ nums_owned (owner_count sheet) (owner_count_by (player_count all) (team_count all))
      (λ class. owners_same tree sheet class counts) 0 (firsts (all_numbers tree))
      ∙ ap (λ l. owned (player_count all) (team_count all) l) (sym (gives_mentions tree shaped).numbers) in
      omega (arith, few, same)
