-- What the setup of a sheet mentions are the words that its lines mention, in the printed order.
use Rattle.std.proofs.Common.{◌≡◌, ℕ, Bool, true, false, List, [], ◌∷◌, ◌++◌, map, flat_map, slice_get, slice_index_or, Some, refl, sym, subst, ap₂, ◌∙◌}
use Rattle.std.specs.List.{AllZip}
use Rattle.std.proofs.lemmas.List.{append-nil}
use Rattle.std.proofs.lemmas.Grind.{flat_map-append}
use Rattle.rc_deck.proofs.Orders.{AllZip-append}
use Rattle.rc_base.specs.Tree.{Tree, word, list, Trees, nil, cons}
use Rattle.rc_base.specs.Deck.{Groups, no_group, group, Branches, no_branch, branch, Entry}
use Rattle.rc_sheet_spec.specs.Sheet.{Names, game, Loc, DeckLine}
use Rattle.rc_sheet_spec.specs.Mentions.{Mention, in_loc, attr_name, value_name, loc_name, in_groups, in_branches, in_deck, in_entry, in_map}
use Rattle.rc_sheet_spec.specs.FormMentions.{words_of, group_attr_words, branch_attr_words, group_value_words, branch_value_words, deck_loc, deck_groups, points_map, points_entries, entry_attr_words, entry_value_words}
use Rattle.rc_sheet_spec.specs.Rows.{◌▸◌, End, Row, Atom}
use Rattle.rc_sheet_spec.specs.Naming.{Naming, KindOf}
use Rattle.rc_sheet_spec.specs.Naming.{Named as StandsName}
use Rattle.rc_sheet_spec.specs.StandsSetup.{StandsGroups, StandsBranches, StandsDeck, StandValues, StandEntries, StandsMap}
use Rattle.rc_sheet.proofs.Mentioned.Common.{Kind, attrs, values, maps, locs, nums, vars, of_kind, names_in, said, said-append, Says}
use Rattle.rc_sheet.proofs.Mentioned.Rows.{named_word, loc_list_says}

-- the word of an attribute, of a value, and of a point map, for each kind
abbrev attr_words : Kind → List ℕ → List (List ℕ)
attr_words attrs bytes = bytes ∷ []
attr_words kind bytes = []

abbrev value_words : Kind → List ℕ → List (List ℕ)
value_words values bytes = bytes ∷ []
value_words kind bytes = []

-- Each number that mentions say of a kind is that of a word, and these are the words in order.
pub record Named (kind : Kind) (names : Names) (mentions : List Mention) (words : List (List ℕ)) : Type 0 where
  pub each : AllZip (λ n bytes. slice_get (names_in kind names) n ≡ Some bytes) (flat_map (of_kind kind) mentions) words

none_named : {kind : Kind} {names : Names} → Named kind names [] []
none_named = record { each = tt }

-- one behind the other
named-append : {kind : Kind} {names : Names} (xs ys : List Mention) (a b : List (List ℕ)) → Named kind names xs a
    → Named kind names ys b → Named kind names (xs ++ ys) (a ++ b)
named-append {kind} {names} xs ys a b first second =
    let R = λ (n : ℕ) (bytes : List ℕ). slice_get (names_in kind names) n ≡ Some bytes in
    record {
      each = subst (λ numbers. AllZip R numbers (a ++ b)) (sym (flat_map-append (of_kind kind) xs ys))
          (AllZip-append R (flat_map (of_kind kind) xs) (flat_map (of_kind kind) ys) a b first.each second.each);
    }

-- the same words
named_as : {kind : Kind} {names : Names} {mentions : List Mention} {a b : List (List ℕ)} → a ≡ b
    → Named kind names mentions a → Named kind names mentions b
named_as {kind} {names} {mentions} same named = subst (Named kind names mentions) same named

-- what the mentions say are the words
words_of_numbers : (all : List (List ℕ)) (numbers : List ℕ) (words : List (List ℕ))
    → AllZip (λ n bytes. slice_get all n ≡ Some bytes) numbers words → map (λ n. slice_index_or all n []) numbers ≡ words
words_of_numbers all [] [] each = refl
words_of_numbers all [] (bytes ∷ words) each = absurd each
words_of_numbers all (n ∷ numbers) [] each = absurd each
words_of_numbers all (n ∷ numbers) (bytes ∷ words) each =
    ap₂ ◌++◌ (named_word all n bytes each.0) (words_of_numbers all numbers words each.1)

named_said : {kind : Kind} {names : Names} {mentions : List Mention} {words : List (List ℕ)} → Named kind names mentions words
    → said kind names mentions ≡ words
named_said {kind} {names} {mentions} {words} named =
    words_of_numbers (names_in kind names) (flat_map (of_kind kind) mentions) words named.each

-- an attribute and a value have their words
attr_named : (kind : Kind) (names : Names) (number : ℕ) (bytes : List ℕ) → slice_get names.attrs number ≡ Some bytes
    → Named kind names (attr_name number ∷ []) (attr_words kind bytes)
attr_named attrs names number bytes is = record { each = (is, tt) }
attr_named values names number bytes is = record { each = tt }
attr_named maps names number bytes is = record { each = tt }
attr_named locs names number bytes is = record { each = tt }
attr_named nums names number bytes is = record { each = tt }
attr_named vars names number bytes is = record { each = tt }

value_named : (kind : Kind) (names : Names) (number : ℕ) (bytes : List ℕ) → slice_get names.values number ≡ Some bytes
    → Named kind names (value_name number ∷ []) (value_words kind bytes)
value_named attrs names number bytes is = record { each = tt }
value_named values names number bytes is = record { each = (is, tt) }
value_named maps names number bytes is = record { each = tt }
value_named locs names number bytes is = record { each = tt }
value_named nums names number bytes is = record { each = tt }
value_named vars names number bytes is = record { each = tt }

-- the words of groups and of branches
abbrev group_words : Kind → Trees → List (List ℕ)
group_words attrs trees = group_attr_words trees
group_words values trees = group_value_words trees
group_words kind trees = []

abbrev branch_words : Kind → Trees → List (List ℕ)
branch_words attrs trees = branch_attr_words trees
branch_words values trees = branch_value_words trees
branch_words kind trees = []

-- no group, or branch, has none
group_words-nil : (kind : Kind) → group_words kind nil ≡ []
group_words-nil values = refl
group_words-nil kind = refl

branch_words-nil : (kind : Kind) → branch_words kind nil ≡ []
branch_words-nil values = refl
branch_words-nil kind = refl

-- the first group, or branch, and the others
group_words-cons : (kind : Kind) (bytes : List ℕ) (branches rest : Trees) (a b c d e f : ℕ)
    → group_words kind (cons (list (cons (word bytes a b) (cons (list branches c d) nil)) e f) rest)
    ≡ attr_words kind bytes ++ branch_words kind branches ++ group_words kind rest
group_words-cons values bytes branches rest a b c d e f = refl
group_words-cons kind bytes branches rest a b c d e f = refl

branch_words-word : (kind : Kind) (bytes : List ℕ) (rest : Trees) (a b : ℕ)
    → branch_words kind (cons (word bytes a b) rest) ≡ value_words kind bytes ++ branch_words kind rest
branch_words-word values bytes rest a b = refl
branch_words-word kind bytes rest a b = refl

branch_words-list : (kind : Kind) (bytes : List ℕ) (groups rest : Trees) (a b c d : ℕ)
    → branch_words kind (cons (list (cons (word bytes a b) groups) c d) rest)
    ≡ value_words kind bytes ++ group_words kind groups ++ branch_words kind rest
branch_words-list values bytes groups rest a b c d = refl
branch_words-list kind bytes groups rest a b c d = refl

-- three mentions, one behind the other
three_named : {kind : Kind} {names : Names} (first : Mention) (xs ys : List Mention) (a b c : List (List ℕ))
    → Named kind names (first ∷ []) a → Named kind names xs b → Named kind names ys c
    → Named kind names (first ∷ xs ++ ys) (a ++ b ++ c)
three_named first xs ys a b c p q r = named-append (first ∷ xs) ys (a ++ b) c (named-append (first ∷ []) xs a b p q) r

mutual
  -- groups
  groups_named : (kind : Kind) (naming : Naming) (groups : Groups) (trees : Trees) → StandsGroups naming groups trees
      → Named kind naming.names (in_groups groups) (group_words kind trees)
  groups_named kind naming no_group nil stand = named_as (sym (group_words-nil kind)) none_named
  groups_named kind naming no_group (cons tree trees) stand = absurd stand
  groups_named kind naming (group attr branches rest) nil stand = absurd stand
  groups_named kind naming (group attr branches rest) (cons (word bytes a b) trees) stand = absurd stand.0
  groups_named kind naming (group attr branches rest) (cons (list nil a b) trees) stand = absurd stand.0
  groups_named kind naming (group attr branches rest)
      (cons (list (cons (list parts c d) more) a b) trees) stand = absurd stand.0.0
  groups_named kind naming (group attr branches rest) (cons (list (cons (word bytes c d) nil) a b) trees) stand = absurd stand.0.1
  groups_named kind naming (group attr branches rest)
      (cons (list (cons (word bytes c d) (cons (word bytes' e f) more)) a b) trees)
      stand = absurd stand.0.1.0
  groups_named kind naming (group attr branches rest)
      (cons (list (cons (word bytes c d) (cons (list parts e f) (cons next more))) a b) trees) stand = absurd stand.0.1.1
  groups_named kind naming (group attr branches rest)
      (cons (list (cons (word bytes c d) (cons (list parts e f) nil)) a b) trees) stand =
      named_as (sym (group_words-cons kind bytes parts trees c d e f a b))
      (three_named (attr_name attr) (in_branches branches) (in_groups rest) _ _ _
      (attr_named kind naming.names attr bytes stand.0.0.0)
      (branches_named kind naming branches parts stand.0.1.0.1)
      (groups_named kind naming rest trees stand.1))

  -- branches
  branches_named : (kind : Kind) (naming : Naming) (branches : Branches) (trees : Trees) → StandsBranches naming branches trees
      → Named kind naming.names (in_branches branches) (branch_words kind trees)
  branches_named kind naming no_branch nil stand = named_as (sym (branch_words-nil kind)) none_named
  branches_named kind naming no_branch (cons tree trees) stand = absurd stand
  branches_named kind naming (branch value no_group rest) nil stand = absurd stand
  branches_named kind naming (branch value no_group rest) (cons (list parts a b) trees) stand = absurd stand.0
  branches_named kind naming (branch value no_group rest) (cons (word bytes a b) trees) stand =
      named_as (sym (branch_words-word kind bytes trees a b))
      (named-append (value_name value ∷ []) (in_branches rest) (value_words kind bytes) (branch_words kind trees)
      (value_named kind naming.names value bytes stand.0.0) (branches_named kind naming rest trees stand.1))
  branches_named kind naming (branch value (group attr branches inner) rest) nil stand = absurd stand
  branches_named kind naming (branch value (group attr branches inner) rest) (cons (word bytes a b) trees) stand = absurd stand.0
  branches_named kind naming (branch value (group attr branches inner) rest) (cons (list nil a b) trees) stand = absurd stand.0
  branches_named kind naming (branch value (group attr branches inner) rest) (cons (list (cons (list parts c d) more) a b) trees)
      stand = absurd stand.0.0
  branches_named kind naming (branch value (group attr branches inner) rest)
      (cons (list (cons (word bytes c d) groups) a b) trees)
      stand =
      named_as (sym (branch_words-list kind bytes groups trees c d a b))
      (three_named (value_name value) (in_groups (group attr branches inner)) (in_branches rest) _ _ _
      (value_named kind naming.names value bytes stand.0.0.0)
      (groups_named kind naming (group attr branches inner) groups stand.0.1)
      (branches_named kind naming rest trees stand.1))

-- the words of entries
abbrev entry_words : Kind → Trees → List (List ℕ)
entry_words attrs trees = entry_attr_words trees
entry_words values trees = entry_value_words trees
entry_words kind trees = []

-- no entry has none
entry_words-nil : (kind : Kind) → entry_words kind nil ≡ []
entry_words-nil values = refl
entry_words-nil kind = refl

-- the words of an entry's values
abbrev listed_words : Kind → Trees → List (List ℕ)
listed_words values trees = words_of trees
listed_words kind trees = []

-- of none there are none
listed_words-nil : (kind : Kind) → listed_words kind nil ≡ []
listed_words-nil values = refl
listed_words-nil kind = refl

-- the first value, and the others
listed_words-cons : (kind : Kind) (bytes : List ℕ) (a b : ℕ) (trees : Trees)
    → listed_words kind (cons (word bytes a b) trees) ≡ value_words kind bytes ++ listed_words kind trees
listed_words-cons values bytes a b trees = refl
listed_words-cons kind bytes a b trees = refl

-- the first entry, and the others
entry_words-cons : (kind : Kind) (bytes : List ℕ) (listed more rest : Trees) (a b c d e f : ℕ)
    → entry_words kind (cons (list (cons (word bytes a b) (cons (list listed c d) more)) e f) rest)
    ≡ attr_words kind bytes ++ listed_words kind listed ++ entry_words kind rest
entry_words-cons values bytes listed more rest a b c d e f = refl
entry_words-cons kind bytes listed more rest a b c d e f = refl

-- values, one after the other
values_named : (kind : Kind) (naming : Naming) (numbers : List ℕ) (trees : Trees) → StandValues naming numbers trees
    → Named kind naming.names (map value_name numbers) (listed_words kind trees)
values_named kind naming [] nil stand = named_as (sym (listed_words-nil kind)) none_named
values_named kind naming [] (cons tree trees) stand = absurd stand
values_named kind naming (number ∷ numbers) nil stand = absurd stand
values_named kind naming (number ∷ numbers) (cons (list parts a b) trees) stand = absurd stand.0
values_named kind naming (number ∷ numbers) (cons (word bytes a b) trees) stand =
    named_as (sym (listed_words-cons kind bytes a b trees))
    (named-append (value_name number ∷ []) (map value_name numbers) (value_words kind bytes) (listed_words kind trees)
    (value_named kind naming.names number bytes stand.0.0) (values_named kind naming numbers trees stand.1))

-- entries, one after the other
entries_named : (kind : Kind) (naming : Naming) (entries : List Entry) (trees : Trees) → StandEntries naming entries trees
    → Named kind naming.names (flat_map in_entry entries) (entry_words kind trees)
entries_named kind naming [] nil stand = named_as (sym (entry_words-nil kind)) none_named
entries_named kind naming [] (cons tree trees) stand = absurd stand
entries_named kind naming (entry ∷ entries) nil stand = absurd stand
entries_named kind naming (entry ∷ entries) (cons (word bytes a b) trees) stand = absurd stand.0
entries_named kind naming (entry ∷ entries) (cons (list nil a b) trees) stand = absurd stand.0
entries_named kind naming (entry ∷ entries) (cons (list (cons (list parts c d) more) a b) trees) stand = absurd stand.0.0
entries_named kind naming (entry ∷ entries) (cons (list (cons (word bytes c d) nil) a b) trees) stand = absurd stand.0.1
entries_named kind naming (entry ∷ entries) (cons (list (cons (word bytes c d) (cons (word bytes' e f) more)) a b) trees) stand =
    absurd stand.0.1.0
entries_named kind naming (entry ∷ entries) (cons (list (cons (word bytes c d) (cons (list listed e f) more)) a b) trees) stand =
    named_as (sym (entry_words-cons kind bytes listed more trees c d e f a b))
    (three_named (attr_name entry.attr) (map value_name entry.values) (flat_map in_entry entries) _ _ _
    (attr_named kind naming.names entry.attr bytes stand.0.0.0)
    (values_named kind naming entry.values listed stand.0.1.0.1)
    (entries_named kind naming entries trees stand.1))

-- the words of a line that puts points, and of one that makes a deck
abbrev pub points_words : Kind → Tree → List (List ℕ)
points_words attrs line = entry_attr_words (points_entries line)
points_words values line = entry_value_words (points_entries line)
points_words maps line = points_map line
points_words kind line = []

abbrev pub deck_words : Kind → Tree → List (List ℕ)
deck_words attrs line = group_attr_words (deck_groups line)
deck_words values line = group_value_words (deck_groups line)
deck_words locs line = deck_loc line
deck_words kind line = []

-- the parts of a line that puts points
pub points_only : (P : Tree → Type 0) (naming : Naming) (line : ℕ × List Entry) (tree : Tree) → StandsMap naming line tree
    → ((put points : Tree) (bytes : List ℕ) (parts : Trees) (a b c d from to : ℕ)
    → slice_get naming.names.maps line.0 ≡ Some bytes → StandEntries naming line.1 parts
    → P (list (cons put (cons points (cons (word bytes a b) (cons (list parts c d) nil)))) from to))
    → P tree
points_only P naming line (word bytes from to) stands then = absurd stands
points_only P naming line (list nil from to) stands then = absurd stands
points_only P naming line (list (cons put nil) from to) stands then = absurd stands.1
points_only P naming line (list (cons put (cons points nil)) from to) stands then = absurd stands.1.1
points_only P naming line (list (cons put (cons points (cons (list parts a b) more))) from to) stands then = absurd stands.1.1.0
points_only P naming line (list (cons put (cons points (cons (word bytes a b) nil))) from to) stands then = absurd stands.1.1.1
points_only P naming line (list (cons put (cons points (cons (word bytes a b) (cons (word bytes' c d) more)))) from to) stands
    then =
    absurd stands.1.1.1.0
points_only P naming line (list (cons put (cons points (cons (word bytes a b) (cons (list parts c d) (cons next more))))) from to)
    stands then =
    absurd stands.1.1.1.1
points_only P naming line (list (cons put (cons points (cons (word bytes a b) (cons (list parts c d) nil)))) from to) stands
    then =
    then put points bytes parts a b c d from to stands.1.1.0.0 stands.1.1.1.0.1

-- the parts of a line that makes a deck
pub deck_only : (P : Tree → Type 0) (naming : Naming) (line : DeckLine) (tree : Tree) → StandsDeck naming line tree
    → ((create deck head place : Tree) (parts : Trees) (a b from to : ℕ)
    → Row (Atom "game" ▸ KindOf naming line.loc ▸ StandsName naming.names.locs line.loc ▸ End) place
    → StandsGroups naming line.groups parts
    → P (list (cons create (cons deck (cons place (cons (list (cons head parts) a b) nil)))) from to))
    → P tree
deck_only P naming line (word bytes from to) stands then = absurd stands.0
deck_only P naming line (list nil from to) stands then = absurd stands.0
deck_only P naming line (list (cons create nil) from to) stands then = absurd stands.0.1
deck_only P naming line (list (cons create (cons deck nil)) from to) stands then = absurd stands.0.1.1
deck_only P naming line (list (cons create (cons deck (cons place nil))) from to) stands then = absurd stands.0.1.1.1
deck_only P naming line (list (cons create (cons deck (cons place (cons (word bytes a b) more)))) from to) stands then =
    absurd stands.0.1.1.1.0
deck_only P naming line (list (cons create (cons deck (cons place (cons (list nil a b) more)))) from to) stands then =
    absurd stands.0.1.1.1.0
deck_only P naming line
    (list (cons create (cons deck (cons place (cons (list (cons head parts) a b) (cons next more))))) from to) stands then =
    absurd stands.0.1.1.1.1
deck_only P naming line (list (cons create (cons deck (cons place (cons (list (cons head parts) a b) nil)))) from to) stands
    then =
    then create deck head place parts a b from to stands.0.1.1.0 stands.0.1.1.1.0.1.1

-- a map's word, and its entries
points_named : (kind : Kind) (names : Names) (number : ℕ) (entries : List Entry) (put points : Tree) (bytes : List ℕ)
    (parts : Trees) (a b c d from to : ℕ) → slice_get names.maps number ≡ Some bytes
    → Named kind names (flat_map in_entry entries) (entry_words kind parts)
    → Named kind names (in_map (number, entries))
    (points_words kind (list (cons put (cons points (cons (word bytes a b) (cons (list parts c d) nil)))) from to))
points_named attrs names number entries put points bytes parts a b c d from to is all = record { each = all.each }
points_named values names number entries put points bytes parts a b c d from to is all = record { each = all.each }
points_named maps names number entries put points bytes parts a b c d from to is all = record { each = (is, all.each) }
points_named locs names number entries put points bytes parts a b c d from to is all = record { each = all.each }
points_named nums names number entries put points bytes parts a b c d from to is all = record { each = all.each }
points_named vars names number entries put points bytes parts a b c d from to is all = record { each = all.each }

-- a line that puts points
map_line_named : (kind : Kind) (naming : Naming) (line : ℕ × List Entry) (tree : Tree) → StandsMap naming line tree
    → Named kind naming.names (in_map line) (points_words kind tree)
map_line_named kind naming line tree stands =
    points_only (λ tree. Named kind naming.names (in_map line) (points_words kind tree)) naming line tree stands
    (λ put points bytes parts a b c d from to is entries.
    points_named kind naming.names line.0 line.1 put points bytes parts a b c d from to is
    (entries_named kind naming line.1 parts entries))

-- a kind but that of locations
abbrev pub is_unlocated : Kind → Bool
is_unlocated locs = false
is_unlocated kind = true

-- a line that makes a deck
deck_named : (kind : Kind) (names : Names) (loc : ℕ) (groups : Groups) (create deck head place : Tree) (parts : Trees)
    (a b from to : ℕ) → is_unlocated kind ≡ true → Named kind names (in_groups groups) (group_words kind parts)
    → Named kind names (loc_name loc ∷ in_groups groups)
    (deck_words kind (list (cons create (cons deck (cons place (cons (list (cons head parts) a b) nil)))) from to))
deck_named attrs names loc groups create deck head place parts a b from to other all = record { each = all.each }
deck_named values names loc groups create deck head place parts a b from to other all = record { each = all.each }
deck_named maps names loc groups create deck head place parts a b from to other all = record { each = all.each }
deck_named locs names loc groups create deck head place parts a b from to other all = absurd cc
deck_named nums names loc groups create deck head place parts a b from to other all = record { each = all.each }
deck_named vars names loc groups create deck head place parts a b from to other all = record { each = all.each }

deck_line_named : (kind : Kind) (naming : Naming) (line : DeckLine) (tree : Tree) → is_unlocated kind ≡ true
    → StandsDeck naming line tree → Named kind naming.names (in_deck line) (deck_words kind tree)
deck_line_named kind naming line tree other stands =
    deck_only (λ tree. Named kind naming.names (in_deck line) (deck_words kind tree)) naming line tree stands
    (λ create deck head place parts a b from to at groups.
    deck_named kind naming.names line.loc line.groups create deck head place parts a b from to other
    (groups_named kind naming line.groups parts groups))

-- what it says, with its location
deck_said : (kind : Kind) (names : Names) (loc : Loc) (groups : Groups) (create deck head place : Tree)
    (parts : Trees) (a b from to : ℕ) → Says kind names (in_loc loc) place
    → said kind names (in_groups groups) ≡ group_words kind parts
    → said kind names (loc_name loc.name ∷ in_groups groups)
    ≡ deck_words kind (list (cons create (cons deck (cons place (cons (list (cons head parts) a b) nil)))) from to)
deck_said attrs names loc groups create deck head place parts a b from to first all = all
deck_said values names loc groups create deck head place parts a b from to first all = all
deck_said maps names loc groups create deck head place parts a b from to first all = all
deck_said locs names loc groups create deck head place parts a b from to first all =
    ap₂ ◌++◌ (first.same) all ∙ append-nil _
deck_said nums names loc groups create deck head place parts a b from to first all = all
deck_said vars names loc groups create deck head place parts a b from to first all = all

deck_line_said : (kind : Kind) (naming : Naming) (line : DeckLine) (tree : Tree) → StandsDeck naming line tree
    → said kind naming.names (in_deck line) ≡ deck_words kind tree
deck_line_said kind naming line tree stands =
    deck_only (λ tree. said kind naming.names (in_deck line) ≡ deck_words kind tree) naming line tree stands
    (λ create deck head place parts a b from to at groups.
    let loc : Loc = record { who = game; name = line.loc; at = 0 } in
    deck_said kind naming.names loc line.groups create deck head place parts a b from to
    (loc_list_says kind naming [] loc place at)
    (named_said (groups_named kind naming line.groups parts groups)))

-- all lines of one kind
module _ {A : Type 0} (kind : Kind) (names : Names) (mentions : A → List Mention) (words : Tree → List (List ℕ))
    (Stands : A → Tree → Type 0) where
  lines_said : ((a : A) (tree : Tree) → Stands a tree → said kind names (mentions a) ≡ words tree)
      → (all : List A) (trees : List Tree) → AllZip Stands all trees
      → said kind names (flat_map mentions all) ≡ flat_map words trees
  lines_said one [] [] stand = refl
  lines_said one [] (tree ∷ trees) stand = absurd stand
  lines_said one (a ∷ all) [] stand = absurd stand
  lines_said one (a ∷ all) (tree ∷ trees) stand =
      said-append kind names (mentions a) (flat_map mentions all)
      ∙ ap₂ ◌++◌ (one a tree stand.0) (lines_said one all trees stand.1)

  lines_named : ((a : A) (tree : Tree) → Stands a tree → Named kind names (mentions a) (words tree))
      → (all : List A) (trees : List Tree) → AllZip Stands all trees
      → Named kind names (flat_map mentions all) (flat_map words trees)
  lines_named one [] [] stand = none_named
  lines_named one [] (tree ∷ trees) stand = absurd stand
  lines_named one (a ∷ all) [] stand = absurd stand
  lines_named one (a ∷ all) (tree ∷ trees) stand =
      named-append (mentions a) (flat_map mentions all) (words tree) (flat_map words trees) (one a tree stand.0)
      (lines_named one all trees stand.1)

-- decks, and point maps
pub decks_said : (kind : Kind) (naming : Naming) (decks : List DeckLine) (lines : List Tree)
    → AllZip (StandsDeck naming) decks lines
    → said kind naming.names (flat_map in_deck decks) ≡ flat_map (deck_words kind) lines
decks_said kind naming =
    lines_said kind naming.names in_deck (deck_words kind) (StandsDeck naming) (deck_line_said kind naming)

pub maps_said : (kind : Kind) (naming : Naming) (maps : List (ℕ × List Entry)) (lines : List Tree)
    → AllZip (StandsMap naming) maps lines
    → said kind naming.names (flat_map in_map maps) ≡ flat_map (points_words kind) lines
maps_said kind naming =
    lines_said kind naming.names in_map (points_words kind) (StandsMap naming)
    (λ line tree stands. named_said (map_line_named kind naming line tree stands))

-- the numbers that both say, but for those of locations, are those of their words
pub setup_named : (kind : Kind) (naming : Naming) (decks : List DeckLine) (points : List (ℕ × List Entry))
    (deck_lines points_lines : List Tree) → is_unlocated kind ≡ true → AllZip (StandsDeck naming) decks deck_lines
    → AllZip (StandsMap naming) points points_lines
    → Named kind naming.names (flat_map in_deck decks ++ flat_map in_map points)
    (flat_map (deck_words kind) deck_lines ++ flat_map (points_words kind) points_lines)
setup_named kind naming decks points deck_lines points_lines other first second =
    named-append (flat_map in_deck decks) (flat_map in_map points) (flat_map (deck_words kind) deck_lines)
    (flat_map (points_words kind) points_lines)
    (lines_named kind naming.names in_deck (deck_words kind) (StandsDeck naming)
    (λ line tree stands. deck_line_named kind naming line tree other stands) decks deck_lines first)
    (lines_named kind naming.names in_map (points_words kind) (StandsMap naming) (map_line_named kind naming) points
    points_lines second)
