-- The naming of a form: its names, each numbered by its first mention, and what the first mention of each name of a location or
-- of a stored number says.
use Rattle.std.specs.Prelude.{ℕ, ◌+◌, if◌then◌else◌, List, [], ◌∷◌, map, codes, bytes_eq}
use Rattle.rc_base.specs.Tree.{Tree}
use Rattle.rc_sheet_spec.specs.Sheet.{LocKind, vloc, iloc, hloc, mem, LocName, NumName}
use Rattle.rc_sheet_spec.specs.Naming.{Naming}
use Rattle.rc_sheet_spec.specs.FormMentions.{names_of}
use Rattle.rc_ast.specs.Names.{names_seen, loc_name_seen, num_name_seen}
use Rattle.rc_check.specs.SecondNames.{firsts_from, OwnedMention}
use Rattle.rc_resolve.specs.Mentions.{all_locations, all_numbers}
use Rattle.rc_resolve.specs.declared.numbering.Naming.{Naming as CodeNaming}

-- the kind that a word says
abbrev pub kind_by : List ℕ → LocKind
kind_by bytes =
    if bytes_eq bytes (codes "vloc") then vloc
    else if bytes_eq bytes (codes "iloc") then iloc
    else if bytes_eq bytes (codes "hloc") then hloc
    else mem

-- the first mention of each name, in order
abbrev pub firsts : List OwnedMention → List OwnedMention
firsts mentions = firsts_from [] mentions

-- what the first mentions say, numbered from here on
abbrev pub loc_names : ℕ → List OwnedMention → List LocName
loc_names number [] = []
loc_names number (mention ∷ mentions) =
    record { name = number; kind = kind_by mention.kind; class = mention.class } ∷ loc_names (number + 1) mentions

abbrev pub num_names : ℕ → List OwnedMention → List NumName
num_names number [] = []
num_names number (mention ∷ mentions) =
    record { name = number; class = mention.class } ∷ num_names (number + 1) mentions

abbrev pub naming_of : Tree → Naming
naming_of form =
    record {
      names = names_of form;
      locs = loc_names 0 (firsts (all_locations form));
      nums = num_names 0 (firsts (all_numbers form));
    }

-- a naming as the definitions have it
abbrev pub naming_seen : CodeNaming → Naming
naming_seen naming =
    record {
      names = names_seen naming.names;
      locs = map loc_name_seen naming.locs.items;
      nums = map num_name_seen naming.nums.items;
    }
