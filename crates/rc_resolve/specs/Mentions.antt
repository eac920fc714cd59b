-- Everything that a form mentions, kind by kind in the printed order; of locations and of stored numbers also what a mention
-- says of them.
use Rattle.std.specs.Prelude.{ℕ, if◌then◌else◌, List, [], ◌∷◌, ◌++◌, flat_map}
use Rattle.rc_base.specs.Tree.{Tree, word, list, Trees, nil, cons}
use Rattle.rc_sheet_spec.specs.FormMentions.{is_kind, gathered, all_gathered, body, deck_lines, attr_mentions, value_mentions, map_mentions, var_mentions, is_text}
use Rattle.rc_check.specs.Classes.{class_at}
use Rattle.rc_check.specs.SecondParts.{bytes_of}
use Rattle.rc_check.specs.SecondNames.{OwnedMention}

-- a mention by this holder and the word of its kind, where the name is an atom
abbrev pub mention_by : Tree → Tree → Tree → List OwnedMention
mention_by holder kind (word bytes from to) =
    record { name = bytes; kind = bytes_of kind; class = class_at holder } ∷ []
mention_by holder kind (list parts from to) = []

-- `(HOLDER KIND NAME)`
abbrev pub loc_mention : Trees → List OwnedMention
loc_mention (cons holder (cons kind (cons name nil))) = if is_kind kind then mention_by holder kind name else []
loc_mention parts = []

-- `(HOLDER sto NAME)`
abbrev pub num_mention : Trees → List OwnedMention
num_mention (cons holder (cons kind (cons name nil))) = if is_text "sto" kind then mention_by holder kind name else []
num_mention parts = []

-- the mentions of locations in `(create deck LOC (deck GROUP+))`
abbrev pub deck_location : Tree → List OwnedMention
deck_location (list (cons create (cons deck (cons loc rest))) start end) = gathered loc_mention loc
deck_location line = []

-- all mentions of locations and of stored numbers
abbrev pub all_locations : Tree → List OwnedMention
all_locations form = flat_map deck_location (deck_lines form) ++ all_gathered loc_mention (body form)

abbrev pub all_numbers : Tree → List OwnedMention
all_numbers form = all_gathered num_mention (body form)

-- mentions of each kind, in order
pub record Mentions : Type 0 where
  pub attrs : List (List ℕ)
  pub values : List (List ℕ)
  pub maps : List (List ℕ)
  pub locs : List OwnedMention
  pub nums : List OwnedMention
  pub vars : List (List ℕ)

-- all mentions of a form
abbrev pub mentions_of : Tree → Mentions
mentions_of form =
    record {
      attrs = attr_mentions form;
      values = value_mentions form;
      maps = map_mentions form;
      locs = all_locations form;
      nums = all_numbers form;
      vars = var_mentions form;
    }
