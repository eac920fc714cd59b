-- A sheet that is the same as a well formed one but for offsets is well formed.
use Rattle.std.proofs.Common.{◌≡◌, ℕ, ◌≤◌, List, [], ◌++◌, length, map, flat_map, slice_index_or, Option, Some, None, sym, subst, ap, ap₂, ◌∙◌, refl}
use Rattle.std.specs.Prelude.{sum_by}
use mathlib.Core.Path.{transport}
use Rattle.rc_sheet_spec.specs.Sheet.{Teams, Class, game_class, player_class, team_class, SheetItems, IntExpr, Sheet}
use Rattle.rc_sheet_spec.specs.Lists.{item_list}
use Rattle.rc_base.specs.Limits.{most_locations, most_numbers, most_stages, most_sites}
use Rattle.rc_sheet_spec.specs.Mentions.{Mention, attr_of, value_of, map_of, loc_of, num_of, var_of, in_setup, in_items, in_int, mentions, stages_in, sites_in}
use Rattle.rc_base.specs.Words.{different}
use Rattle.rc_base.specs.Numbers.{below}
use Rattle.rc_sheet_spec.specs.Numbering.{mentioned, IsNumbered}
use Rattle.rc_sheet_spec.specs.WellFormed.{outside, scored, team_count, owner_count, IsInt, AreItems, HasWords, IsWithinLimits, IsShallow, IsWellFormed}
use Rattle.rc_print.specs.Unplaced.{int_unplaced, items_unplaced}
use Rattle.rc_sheet.proofs.Moved.Sheet.{with_body}
use Rattle.rc_sheet.proofs.Unplaced.Mentions.{int_mentions, items_mentions, items_stages, items_sites, items_count}
use Rattle.rc_sheet.proofs.Unplaced.Parts.{int_is, items_are}

module _ (sheet : Sheet) (items : SheetItems) (score : IntExpr) (same_items : items_unplaced items ≡ items_unplaced sheet.items)
    (same_score : int_unplaced score ≡ int_unplaced sheet.score) where
  abbrev other : Sheet
  other = with_body sheet items score

  -- what does not depend on offsets is equal for both
  of_items : {A : Type 0} (f : SheetItems → A) → ((items : SheetItems) → f (items_unplaced items) ≡ f items)
      → f items ≡ f sheet.items
  of_items f free = sym (free items) ∙ ap f same_items ∙ free sheet.items

  of_score : {A : Type 0} (f : IntExpr → A) → ((int : IntExpr) → f (int_unplaced int) ≡ f int) → f score ≡ f sheet.score
  of_score f free = sym (free score) ∙ ap f same_score ∙ free sheet.score

  -- NUMBERS

  same_mentions : mentions other ≡ mentions sheet
  same_mentions =
      ap₂ (λ body int. in_setup sheet ++ body ++ int) (of_items in_items items_mentions) (of_score in_int int_mentions)

  still_different : (of_kind : Mention → List ℕ) (words : List (List ℕ)) → words ≡ different (mentioned sheet of_kind words)
      → words ≡ different (mentioned other of_kind words)
  still_different of_kind words is =
      is ∙ ap (λ ms. different (map (λ n. slice_index_or words n []) (flat_map of_kind ms))) (sym same_mentions)

  still_numbered : IsNumbered sheet → IsNumbered other
  still_numbered numbered = record {
    attrs = still_different attr_of sheet.names.attrs numbered.attrs;
    values = still_different value_of sheet.names.values numbered.values;
    maps = still_different map_of sheet.names.maps numbered.maps;
    locs = still_different loc_of sheet.names.locs numbered.locs;
    nums = still_different num_of sheet.names.nums numbered.nums;
    vars = still_different var_of sheet.names.vars numbered.vars;
    loc_numbers = numbered.loc_numbers;
    num_numbers = numbered.num_numbers;
    stages = subst (λ l. l ≡ below (length l)) (sym (of_items stages_in items_stages)) numbered.stages;
    sites = subst (λ l. l ≡ below (length l)) (sym (of_items sites_in items_sites)) numbered.sites;
  }

  -- LIMITS

  same_teams : (teams : Option Teams) → team_count other teams ≡ team_count sheet teams
  same_teams None = refl
  same_teams (Some teams) = refl

  same_owners : (class : Class) → owner_count other class ≡ owner_count sheet class
  same_owners game_class = refl
  same_owners player_class = refl
  same_owners team_class = same_teams sheet.teams

  all_owners : owner_count other ≡ owner_count sheet
  all_owners = λ i class. same_owners class i

  still_within : IsWithinLimits sheet → IsWithinLimits other
  still_within limits = record {
    some_players = limits.some_players;
    players = limits.players;
    cards = limits.cards;
    locations = subst (λ count. sum_by (λ loc. count loc.class) sheet.locs ≤ most_locations) (sym all_owners) limits.locations;
    numbers = subst (λ count. sum_by (λ num. count num.class) sheet.nums ≤ most_numbers) (sym all_owners) limits.numbers;
    attrs = limits.attrs;
    values = limits.values;
    maps = limits.maps;
    stages = subst (λ l. length l ≤ most_stages) (sym (of_items stages_in items_stages)) limits.stages;
    sites = subst (λ l. length l ≤ most_sites) (sym (of_items sites_in items_sites)) limits.sites;
  }

  still_words : HasWords sheet → HasWords other
  still_words words = record {
    attrs = words.attrs;
    values = words.values;
    maps = words.maps;
    locs = words.locs;
    nums = words.nums;
    vars = words.vars;
  }

  -- PARTS

  still_items : AreItems sheet outside sheet.items → AreItems other outside items
  still_items are =
      transport (sym (items_are sheet items score outside sheet.items) ∙ ap (AreItems other outside) (sym same_items)
      ∙ items_are other items score outside items) are

  still_score : IsInt sheet scored sheet.score → IsInt other scored score
  still_score is =
      transport (sym (int_is sheet items score scored sheet.score) ∙ ap (IsInt other scored) (sym same_score)
      ∙ int_is other items score scored score) is

  pub still_well : IsWellFormed sheet → IsShallow other → IsWellFormed other
  still_well formed shallow = record {
    words = still_words formed.words;
    numbered = still_numbered formed.numbered;
    limits = still_within formed.limits;
    shallow = shallow;
    teams = formed.teams;
    some_deck = formed.some_deck;
    decks = formed.decks;
    some_entry = formed.some_entry;
    entries = formed.entries;
    some_item = subst (λ n. 1 ≤ n) (sym (of_items (λ items. length (item_list items)) items_count)) formed.some_item;
    items = still_items formed.items;
    score = still_score formed.score;
  }
