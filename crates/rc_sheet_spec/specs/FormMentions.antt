-- Which words a sheet's form mentions, read off the form alone in the printed order, one list for each kind of names. The
-- form is one that stands for a sheet, so a list's fixed words tell what its other atoms are.
use Prim.Native.String.{String}
use Rattle.std.specs.Prelude.{◌≡◌, ℕ, ◌||◌, Bool, false, if◌then◌else◌, List, [], ◌∷◌, ◌++◌, flat_map, codes, bytes_eq}
use Rattle.rc_base.specs.Tree.{Tree, word, list, Trees, nil, cons}
use Rattle.rc_sheet_spec.specs.Sheet.{Names, Sheet}
use Rattle.rc_sheet_spec.specs.StandsSetup.{lines_with}
use Rattle.rc_base.specs.Words.{different}

-- the form is this atom
abbrev pub is_text : String → Tree → Bool
is_text text (word bytes from to) = bytes_eq bytes (codes text)
is_text text (list parts from to) = false

-- the form is the word of a kind of locations
abbrev pub is_kind : Tree → Bool
is_kind form = is_text "vloc" form || is_text "iloc" form || is_text "hloc" form || is_text "mem" form

-- the word of an atom
abbrev pub word_of : Tree → List (List ℕ)
word_of (word bytes from to) = bytes ∷ []
word_of (list parts from to) = []

-- the words of atoms
abbrev pub words_of : Trees → List (List ℕ)
words_of nil = []
words_of (cons tree trees) = word_of tree ++ words_of trees

-- what the lists of a form mention, where it is said what one list of these parts mentions itself, behind its parts
abbrev mutual
  pub gathered : {A : Type 0} → (Trees → List A) → Tree → List A
  gathered own (word bytes from to) = []
  gathered own (list parts from to) = all_gathered own parts ++ own parts

  pub all_gathered : {A : Type 0} → (Trees → List A) → Trees → List A
  all_gathered own nil = []
  all_gathered own (cons tree trees) = gathered own tree ++ all_gathered own trees

-- `(HOLDER KIND NAME)`
abbrev pub loc_word : Trees → List (List ℕ)
loc_word (cons holder (cons kind (cons name nil))) = if is_kind kind then word_of name else []
loc_word parts = []

-- `(HOLDER sto NAME)`
abbrev pub num_word : Trees → List (List ℕ)
num_word (cons holder (cons kind (cons name nil))) = if is_text "sto" kind then word_of name else []
num_word parts = []

-- `(max COLL using MAP)` and the like; another list may have an attribute of the name `using`
abbrev pub is_measure : Tree → Bool
is_measure head = is_text "max" head || is_text "min" head || is_text "sum" head || is_text "points" head

abbrev pub map_word : Trees → List (List ℕ)
map_word (cons head (cons card (cons fixed (cons map nil)))) = if is_measure head then word_of map else []
map_word parts = []

-- `(attr CARD ATTR)`, `(partition COLL ATTR)`, `(is CARD ATTR VALUE)`
abbrev pub attr_word : Trees → List (List ℕ)
attr_word (cons head (cons card (cons attr nil))) =
    if is_text "attr" head || is_text "partition" head then word_of attr else []
attr_word (cons head (cons card (cons attr (cons value nil)))) = if is_text "is" head then word_of attr else []
attr_word parts = []

abbrev pub value_word : Trees → List (List ℕ)
value_word (cons head (cons card (cons attr (cons value nil)))) = if is_text "is" head then word_of value else []
value_word parts = []

-- `(filter COLL 'V ..)`, `(all DOMAIN 'V ..)`, `(any DOMAIN 'V ..)`, in the order of the text
abbrev pub is_binder : Tree → Bool
is_binder head = is_text "filter" head || is_text "all" head || is_text "any" head

abbrev mutual
  pub var_words : Tree → List (List ℕ)
  var_words (word bytes from to) = []
  var_words (list parts from to) = bound_words parts

  pub bound_words : Trees → List (List ℕ)
  bound_words (cons head (cons domain (cons var rest))) =
      var_words head ++ var_words domain ++ (if is_binder head then word_of var else var_words var)
      ++ all_var_words rest
  bound_words (cons head (cons tree nil)) = var_words head ++ var_words tree
  bound_words (cons head nil) = var_words head
  bound_words nil = []

  pub all_var_words : Trees → List (List ℕ)
  all_var_words nil = []
  all_var_words (cons tree trees) = var_words tree ++ all_var_words trees

-- the attributes and the values of groups `(ATTR (BRANCH+))`, a branch being `VALUE` or `(VALUE GROUP+)`
abbrev mutual
  pub group_attr_words : Trees → List (List ℕ)
  group_attr_words nil = []
  group_attr_words (cons (list (cons attr (cons (list branches from to) nil)) start end) rest) =
      word_of attr ++ branch_attr_words branches ++ group_attr_words rest
  group_attr_words (cons tree rest) = group_attr_words rest

  pub branch_attr_words : Trees → List (List ℕ)
  branch_attr_words nil = []
  branch_attr_words (cons (list (cons value groups) start end) rest) = group_attr_words groups ++ branch_attr_words rest
  branch_attr_words (cons tree rest) = branch_attr_words rest

abbrev mutual
  pub group_value_words : Trees → List (List ℕ)
  group_value_words nil = []
  group_value_words (cons (list (cons attr (cons (list branches from to) nil)) start end) rest) =
      branch_value_words branches ++ group_value_words rest
  group_value_words (cons tree rest) = group_value_words rest

  pub branch_value_words : Trees → List (List ℕ)
  branch_value_words nil = []
  branch_value_words (cons (word value start end) rest) = value ∷ branch_value_words rest
  branch_value_words (cons (list (cons value groups) start end) rest) =
      word_of value ++ group_value_words groups ++ branch_value_words rest
  branch_value_words (cons tree rest) = branch_value_words rest

-- the parts of a sheet's form: the setup lines, and what follows the setup
abbrev pub setup_lines : Tree → Trees
setup_lines (list (cons game (cons (list (cons setup lines) from to) rest)) start end) = lines
setup_lines form = nil

abbrev pub body : Tree → Trees
body (list (cons game (cons setup rest)) start end) = rest
body form = nil

-- the parts of `(create deck LOC (deck GROUP+))`
abbrev pub deck_loc : Tree → List (List ℕ)
deck_loc (list (cons create (cons deck (cons loc rest))) start end) = gathered loc_word loc
deck_loc line = []

abbrev pub deck_groups : Tree → Trees
deck_groups (list (cons create (cons deck (cons loc (cons (list (cons head groups) from to) nil)))) start end) = groups
deck_groups line = nil

-- the parts of `(put points MAP (ENTRY+))`
abbrev pub points_map : Tree → List (List ℕ)
points_map (list (cons put (cons points (cons map rest))) start end) = word_of map
points_map line = []

abbrev pub points_entries : Tree → Trees
points_entries (list (cons put (cons points (cons map (cons (list entries from to) nil)))) start end) = entries
points_entries line = nil

-- an entry is `(ATTR (VALUE+) n)`
abbrev pub entry_attr_words : Trees → List (List ℕ)
entry_attr_words nil = []
entry_attr_words (cons (list (cons attr rest) start end) entries) = word_of attr ++ entry_attr_words entries
entry_attr_words (cons entry entries) = entry_attr_words entries

abbrev pub entry_value_words : Trees → List (List ℕ)
entry_value_words nil = []
entry_value_words (cons (list (cons attr (cons (list values from to) rest)) start end) entries) =
    words_of values ++ entry_value_words entries
entry_value_words (cons entry entries) = entry_value_words entries

abbrev pub deck_lines : Tree → List Tree
deck_lines form = lines_with "create" "deck" (setup_lines form)

abbrev pub points_lines : Tree → List Tree
points_lines form = lines_with "put" "points" (setup_lines form)

-- all mentions of a form, of each kind of names
abbrev pub attr_mentions : Tree → List (List ℕ)
attr_mentions form =
    flat_map (λ line. group_attr_words (deck_groups line)) (deck_lines form)
    ++ flat_map (λ line. entry_attr_words (points_entries line)) (points_lines form)
    ++ all_gathered attr_word (body form)

abbrev pub value_mentions : Tree → List (List ℕ)
value_mentions form =
    flat_map (λ line. group_value_words (deck_groups line)) (deck_lines form)
    ++ flat_map (λ line. entry_value_words (points_entries line)) (points_lines form)
    ++ all_gathered value_word (body form)

abbrev pub map_mentions : Tree → List (List ℕ)
map_mentions form = flat_map points_map (points_lines form) ++ all_gathered map_word (body form)

abbrev pub loc_mentions : Tree → List (List ℕ)
loc_mentions form = flat_map deck_loc (deck_lines form) ++ all_gathered loc_word (body form)

abbrev pub num_mentions : Tree → List (List ℕ)
num_mentions form = all_gathered num_word (body form)

abbrev pub var_mentions : Tree → List (List ℕ)
var_mentions form = all_var_words (body form)

-- The names of a form are the different words among all its mentions, in the order of their first mention.
abbrev pub names_of : Tree → Names
names_of form =
    record {
      attrs = different (attr_mentions form);
      values = different (value_mentions form);
      maps = different (map_mentions form);
      locs = different (loc_mentions form);
      nums = different (num_mentions form);
      vars = different (var_mentions form);
    }

abbrev pub AreNames : Sheet → Tree → Type 0
AreNames sheet form = sheet.names ≡ names_of form
