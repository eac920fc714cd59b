-- The names that are known after some mentions, and what the parts of a form add to them.
use Rattle.std.specs.Prelude.{ℕ, Bool, false, ◌&&◌, Option, Some, None, if◌then◌else◌, List, [], ◌∷◌, ◌++◌, map, flat_map, fold, codes, bytes_eq}
use Rattle.std.specs.List.{list_any}
use Rattle.std.specs.Map.{keys_of}
use Rattle.rc_base.specs.Tree.{Tree, word, list, Trees, nil, cons}
use Rattle.rc_sheet_spec.specs.Naming.{Naming, kind_word}
use Rattle.rc_sheet_spec.specs.StandsSetup.{begins_with, lines_with}
use Rattle.rc_sheet_spec.specs.FormMentions.{gathered, all_gathered, attr_word, value_word, map_word, group_attr_words, group_value_words, branch_attr_words, branch_value_words, deck_groups, points_map, points_entries, entry_attr_words, entry_value_words, words_of, all_var_words}
use Rattle.rc_sheet_spec.specs.Sheet.{Class}
use Rattle.rc_check.specs.SecondNames.{OwnedMention}
use Rattle.rc_resolve.specs.Mentions.{Mentions, loc_mention, num_mention, deck_location}
use Rattle.rc_resolve.specs.Naming.{loc_names, num_names}
use Rattle.rc_check.specs.Faults.{is_form_word}
use Rattle.rc_check.specs.declared.keyword.Keyword.{Keyword}
use Rattle.rc_resolve.specs.declared.uses.Located.{Located}
use Rattle.rc_resolve.specs.declared.known.Known.TheInside.{Inside as Fields}

-- this one goes last where none of the others has its name
abbrev pub with_first : {X : Type 0} → (X → List ℕ) → List X → X → List X
with_first name known x = if list_any (λ other. bytes_eq (name x) (name other)) known then known else known ++ x ∷ []

-- several, one behind the other
abbrev pub with_firsts : {X : Type 0} → (X → List ℕ) → List X → List X → List X
with_firsts name known xs = fold (with_first name) known xs

abbrev pub with_words : List (List ℕ) → List (List ℕ) → List (List ℕ)
with_words known words = with_firsts (λ bytes. bytes) known words

abbrev pub with_mentions : List OwnedMention → List OwnedMention → List OwnedMention
with_mentions known mentions = with_firsts (λ mention. mention.name) known mentions

-- what is known after mentions of each kind
abbrev pub with_all : Mentions → Mentions → Mentions
with_all known new =
    record {
      attrs = with_words known.attrs new.attrs;
      values = with_words known.values new.values;
      maps = with_words known.maps new.maps;
      locs = with_mentions known.locs new.locs;
      nums = with_mentions known.nums new.nums;
      vars = with_words known.vars new.vars;
    }

abbrev pub none : Mentions
none = record { attrs = []; values = []; maps = []; locs = []; nums = []; vars = [] }

-- mentions, one behind the other
abbrev pub joined : Mentions → Mentions → Mentions
joined first later =
    record {
      attrs = first.attrs ++ later.attrs;
      values = first.values ++ later.values;
      maps = first.maps ++ later.maps;
      locs = first.locs ++ later.locs;
      nums = first.nums ++ later.nums;
      vars = first.vars ++ later.vars;
    }

-- what a list of these parts mentions itself, but for variables
abbrev pub own : Trees → Mentions
own parts =
    record none {
      attrs = attr_word parts;
      values = value_word parts;
      maps = map_word parts;
      locs = loc_mention parts;
      nums = num_mention parts;
    }

-- what is mentioned in a tree, and in trees, but for variables
abbrev pub in_tree : Tree → Mentions
in_tree tree =
    record none {
      attrs = gathered attr_word tree;
      values = gathered value_word tree;
      maps = gathered map_word tree;
      locs = gathered loc_mention tree;
      nums = gathered num_mention tree;
    }

abbrev pub in_trees : Trees → Mentions
in_trees trees =
    record none {
      attrs = all_gathered attr_word trees;
      values = all_gathered value_word trees;
      maps = all_gathered map_word trees;
      locs = all_gathered loc_mention trees;
      nums = all_gathered num_mention trees;
    }

-- variables alone
abbrev pub variables : List (List ℕ) → Mentions
variables words = record none { vars = words }

-- point maps alone
abbrev pub maps_alone : List (List ℕ) → Mentions
maps_alone words = record none { maps = words }

-- locations alone, and stored numbers alone
abbrev pub locs_alone : List OwnedMention → Mentions
locs_alone mentions = record none { locs = mentions }

abbrev pub nums_alone : List OwnedMention → Mentions
nums_alone mentions = record none { nums = mentions }

-- attributes and values alone
abbrev pub in_deck_of : List (List ℕ) → List (List ℕ) → Mentions
in_deck_of attrs values = record none { attrs = attrs; values = values }

abbrev pub in_groups : Trees → Mentions
in_groups groups = in_deck_of (group_attr_words groups) (group_value_words groups)

abbrev pub in_branches : Trees → Mentions
in_branches branches = in_deck_of (branch_attr_words branches) (branch_value_words branches)

abbrev pub in_values : Trees → Mentions
in_values values = in_deck_of [] (words_of values)

abbrev pub in_entries : Trees → Mentions
in_entries entries = in_deck_of (entry_attr_words entries) (entry_value_words entries)

-- the parts of a list, those behind its head, and its third part
abbrev pub parts_in : Tree → Trees
parts_in (word bytes from to) = nil
parts_in (list parts from to) = parts

abbrev pub behind_head : Tree → Trees
behind_head (list (cons head rest) from to) = rest
behind_head form = nil

abbrev pub third_part : Tree → Option Tree
third_part (list (cons first (cons second (cons third rest))) from to) = Some third
third_part form = None

-- the form is a list that begins with these two words
abbrev pub begins_by : Keyword → Keyword → Tree → Bool
begins_by first second (list (cons head (cons told rest)) from to) = is_form_word first head && is_form_word second told
begins_by first second form = false

-- a line that makes a deck, and such lines; where another line stands it is passed over
abbrev pub in_deck_line : Tree → Mentions
in_deck_line line =
    record none {
      attrs = group_attr_words (deck_groups line);
      values = group_value_words (deck_groups line);
      locs = deck_location line;
    }

abbrev pub in_deck_lines : List Tree → Mentions
in_deck_lines lines =
    record none {
      attrs = flat_map (λ line. group_attr_words (deck_groups line)) lines;
      values = flat_map (λ line. group_value_words (deck_groups line)) lines;
      locs = flat_map deck_location lines;
    }

abbrev pub deck_in : Tree → Mentions
deck_in line = if begins_with "create" "deck" line then in_deck_line line else none

abbrev pub decks_in : Trees → Mentions
decks_in lines = in_deck_lines (lines_with "create" "deck" lines)

-- a line that puts points, and such lines
abbrev pub in_points_line : Tree → Mentions
in_points_line line =
    record none {
      attrs = entry_attr_words (points_entries line);
      values = entry_value_words (points_entries line);
      maps = points_map line;
    }

abbrev pub in_points_lines : List Tree → Mentions
in_points_lines lines =
    record none {
      attrs = flat_map (λ line. entry_attr_words (points_entries line)) lines;
      values = flat_map (λ line. entry_value_words (points_entries line)) lines;
      maps = flat_map points_map lines;
    }

abbrev pub points_in : Tree → Mentions
points_in line = if begins_with "put" "points" line then in_points_line line else none

abbrev pub all_points_in : Trees → Mentions
all_points_in lines = in_points_lines (lines_with "put" "points" lines)

-- what follows the setup
abbrev pub body_in : Trees → Mentions
body_in body =
    record {
      attrs = all_gathered attr_word body;
      values = all_gathered value_word body;
      maps = all_gathered map_word body;
      locs = all_gathered loc_mention body;
      nums = all_gathered num_mention body;
      vars = all_var_words body;
    }

-- the naming by the names that are known
abbrev pub naming_by : Mentions → Naming
naming_by known =
    record {
      names = record {
        attrs = known.attrs;
        values = known.values;
        maps = known.maps;
        locs = map (λ mention. mention.name) known.locs;
        nums = map (λ mention. mention.name) known.nums;
        vars = known.vars;
      };
      locs = loc_names 0 known.locs;
      nums = num_names 0 known.nums;
    }

-- what is known, as it is stored
abbrev pub loc_seen : List ℕ × Located → OwnedMention
loc_seen entry =
    record { name = entry.0; kind = kind_word entry.1.kind; class = entry.1.class }

abbrev pub num_seen : List ℕ × Class → OwnedMention
num_seen entry = record { name = entry.0; kind = codes "sto"; class = entry.1 }

abbrev pub known_seen : Fields → Mentions
known_seen known =
    record {
      attrs = keys_of known.attrs;
      values = keys_of known.values;
      maps = keys_of known.maps;
      locs = map loc_seen known.locs;
      nums = map num_seen known.nums;
      vars = keys_of known.vars;
    }
