-- What is read stands for its form: the words of a rule, names, owners, locations and stored numbers.
use Rattle.std.proofs.Common.{◌≡◌, ℕ, suc, ◌+◌, true, ◌&&◌, ◌==◌, nat_le, nat_lt, List, [], ◌∷◌, length, Option, Some, None, is_none, slice_get, position, option_map, bytes_eq, refl, sym, subst, ap, ap₂, ◌∙◌, arith, ltb-true, le-leb, eqb-true}
use Rattle.std.proofs.lemmas.Bool.{and_parts}
use Rattle.std.proofs.lemmas.Slice.Eq.{bytes_eq-Decides}
use Rattle.rc_base.specs.Tree.{Tree, word, list, Trees, nil, cons, count}
use Rattle.rc_sheet_spec.specs.Sheet.{Class, game_class, player_class, team_class, Sort, player_sort, card_sort, group_sort, LocKind, vloc, iloc, hloc, mem, LocName, NumName, Who, game, current_player, current_team, who_var}
use Rattle.rc_sheet_spec.specs.Rows.{◌▸◌, End, Row, Word, Atom}
use Rattle.rc_base.specs.Limits.{most_variables}
use Rattle.rc_sheet_spec.specs.Naming.{Naming, Variable, Scope, class_of, Named, Binder, InScope}
use Rattle.rc_base.specs.Words.{is_variable}
use Rattle.rc_sheet_spec.specs.Naming.{kind_word as kind_bytes}
use Rattle.rc_sheet_spec.specs.StandsExpressions.{StandsOwner, StandsHolder, StandsLoc, StandsNum}
use Rattle.rc_sheet_spec.specs.Sheet.{same_sort, same_class}
use Rattle.rc_check.specs.Grammar.{forms_of, front_of}
use Rattle.rc_check.specs.Keyword.{text_of}
use Rattle.rc_check.specs.Faults.{is_form_word, fits_head, begins, second_word, is_told, told_rule, plain_rule, or_else, rule_of, fits}
use Rattle.rc_sheet.specs.ReadNames.{◌>>=◌, ensure, sized, rule_at, name_at, binder_at, has_sort, place_in, sorted, variable_in, player_of_rule, player_at, team_of, owner_rule, owner_at, holder_at, is_loc_name, is_num_name, loc_parts, loc_rule, loc_at, num_parts, num_rule, num_at, map_at, kind_keyword}
use Rattle.rc_sheet.proofs.Means.{Means, nothing, something, weaker, mapped, behind, either, ensured, found_passes, place_passes}
use Rattle.rc_check.specs.declared.keyword.Keyword.{Keyword}
use Rattle.rc_check.specs.declared.keyword.Keyword.TheVariants as keyword
use Rattle.rc_check.specs.declared.grammar.Symbol.{Symbol}
use Rattle.rc_check.specs.declared.grammar.Symbol.TheVariants as symbol
use Rattle.rc_check.specs.declared.grammar.Rule.{Rule}
use Rattle.rc_check.specs.declared.grammar.Rule.TheVariants as rule

-- equal bytes
pub same_bytes : (xs ys : List ℕ) → bytes_eq xs ys ≡ true → xs ≡ ys
same_bytes xs ys is = (bytes_eq-Decides xs ys).0 is

-- a word that is a keyword has its bytes
pub word_form : (keyword : Keyword) (tree : Tree) → is_form_word keyword tree ≡ true
    → Word (λ bytes. bytes ≡ text_of keyword) tree
word_form keyword (word bytes from to) is = same_bytes bytes (text_of keyword) is
word_form keyword (list parts from to) is = absurd cc

-- the head is the word that stands first in a rule, where one does
abbrev pub HeadIs : List Symbol → Tree → Type 0
HeadIs (symbol.Word keyword ∷ places) tree = Word (λ bytes. bytes ≡ text_of keyword) tree
HeadIs places tree = Unit {0}

-- the part behind the head is this word, where one is told
abbrev pub SecondIs : Option Keyword → Trees → Type 0
SecondIs None parts = Unit {0}
SecondIs (Some keyword) nil = ⊥
SecondIs (Some keyword) (cons second parts) = Word (λ bytes. bytes ≡ text_of keyword) second

-- the parts begin with a rule's words
abbrev pub Begins : Rule → Tree → Trees → Type 0
Begins rule head parts = HeadIs (front_of rule) head × SecondIs (second_word rule) parts

-- and there are as many of them as the rule has
abbrev pub Told : Rule → Trees → Type 0
Told rule nil = ⊥
Told rule (cons head parts) =
    HeadIs (front_of rule) head × SecondIs (second_word rule) parts × (fits (count (cons head parts)) rule ≡ true)

-- where a list may begin so, its head is the word that stands first
head_is : (places : List Symbol) (tree : Tree) → fits_head places tree ≡ true → HeadIs places tree
head_is [] tree is = tt
head_is (symbol.Word keyword ∷ places) (word bytes from to) is = same_bytes bytes (text_of keyword) is
head_is (symbol.Word keyword ∷ places) (list parts from to) is = absurd cc
head_is (first ∷ places) tree is = tt

-- where the second word is told, it stands there
second_is : (told : Option Keyword) (parts : Trees) → is_told told parts ≡ true → SecondIs told parts
second_is None parts is = absurd cc
second_is (Some keyword) nil is = absurd cc
second_is (Some keyword) (cons second parts) is = word_form keyword second is

-- where no second word is told, none is asked for
no_second : (told : Option Keyword) (parts : Trees) → is_none told ≡ true → SecondIs told parts
no_second None parts is = tt
no_second (Some keyword) parts is = absurd cc

-- the rule that the words tell
told_begins : (place : Symbol) (head : Tree) (parts : Trees) → Means (told_rule place head parts) (λ rule. Begins rule head parts)
told_begins place head parts =
    weaker (told_rule place head parts)
    (found_passes (λ rule. begins head rule && is_told (second_word rule) parts) (forms_of place))
    (λ rule is.
    let fits = and_parts (begins head rule) (is_told (second_word rule) parts) is in
    (head_is (front_of rule) head fits.0, second_is (second_word rule) parts fits.1))

-- the rule that the head alone tells
plain_begins : (place : Symbol) (head : Tree) (parts : Trees) → Means (plain_rule place head) (λ rule. Begins rule head parts)
plain_begins place head parts =
    weaker (plain_rule place head)
    (found_passes (λ rule. begins head rule && is_none (second_word rule)) (forms_of place))
    (λ rule is.
    let fits = and_parts (begins head rule) (is_none (second_word rule)) is in
    (head_is (front_of rule) head fits.0, no_second (second_word rule) parts fits.1))

-- the first of two
first_or_else : {P : Rule → Type 0} (first second : Option Rule) → Means first P → Means second P → Means (or_else first second) P
first_or_else None second p q = q
first_or_else (Some rule) second p q = p

-- of the right count
sized_told : (head : Tree) (parts : Trees) (found : Option Rule) → Means found (λ rule. Begins rule head parts)
    → Means (sized (count (cons head parts)) found) (λ rule. Told rule (cons head parts))
sized_told head parts None means = nothing
sized_told head parts (Some rule) means =
    either (fits (count (cons head parts)) rule) (Some rule) None
    (λ is. something rule (means.holds.0, means.holds.1, is)) (λ is. nothing)

-- the rule of a list begins with its words and has so many parts
pub told_at : (place : Symbol) (parts : Trees) → Means (rule_at place parts) (λ rule. Told rule parts)
told_at place nil = nothing
told_at place (cons head parts) =
    sized_told head parts (rule_of place (cons head parts))
    (first_or_else (told_rule place head parts) (plain_rule place head)
    (told_begins place head parts) (plain_begins place head parts))

-- as many parts are left behind the first of a form
pub least_left : (least front n : ℕ) (parts : Trees) → nat_lt front n ≡ true → front + count parts + 1 ≡ n + least
    → nat_le least (count parts) ≡ true
least_left least front n parts more is =
    let less = ltb-true front n more in
    le-leb least (count parts) (omega (arith, less, is))

-- two words that tell a rule are all of it
pub two_words : (first second : Keyword) (parts : Trees) (from to : ℕ)
    → (head : Tree) → Word (λ bytes. bytes ≡ text_of first) head → SecondIs (Some second) parts → (suc (count parts) == 2) ≡ true
    → Row (Word (λ bytes. bytes ≡ text_of first) ▸ Word (λ bytes. bytes ≡ text_of second) ▸ End) (list (cons head parts) from to)
two_words first second nil from to head a b n = absurd b
two_words first second (cons tree nil) from to head a b n = (a, (b, tt))
two_words first second (cons tree (cons next parts)) from to head a b n =
    let two = eqb-true (suc (count (cons tree (cons next parts)))) 2 n in absurd (omega (arith, two))

-- a word's place among words
place_of : (words : List (List ℕ)) (bytes : List ℕ)
    → Means (position (bytes_eq bytes) words) (λ n. slice_get words n ≡ Some bytes)
place_of words bytes =
    weaker (position (bytes_eq bytes) words) (place_passes (bytes_eq bytes) words)
    (λ n found. found.1 ∙ ap Some (sym (same_bytes bytes found.0 found.2)))

-- a plain word by its number
pub name_means : (words : List (List ℕ)) (tree : Tree) → Means (name_at words tree) (λ n. Named words n tree)
unfolding name_at
name_means words (word bytes from to) =
    either (is_variable bytes) None (position (bytes_eq bytes) words) (λ is. nothing)
    (λ is. weaker (position (bytes_eq bytes) words) (place_of words bytes) (λ n found. (found, is)))
name_means words (list parts from to) = nothing

-- a binder by its variable's number
pub binder_means : (naming : Naming) (scope : Scope) (tree : Tree)
    → Means (binder_at naming.names.vars scope tree) (λ bound. Binder naming bound tree)
unfolding binder_at
binder_means naming scope (word bytes from to) =
    either (is_variable bytes && nat_le (length scope) most_variables) (position (bytes_eq bytes) naming.names.vars) None
    (λ is. weaker (position (bytes_eq bytes) naming.names.vars) (place_of naming.names.vars bytes)
    (λ n found. (found, (and_parts (is_variable bytes) (nat_le (length scope) most_variables) is).0)))
    (λ is. nothing)
binder_means naming scope (list parts from to) = nothing

-- sorts and classes that are the same
pub sorts_same : (sort sort' : Sort) → same_sort sort sort' ≡ true → sort ≡ sort'
sorts_same player_sort player_sort is = refl
sorts_same card_sort card_sort is = refl
sorts_same group_sort group_sort is = refl
sorts_same sort sort' is = absurd cc

-- the same of classes
-- a class is the same as itself
pub class_same : (class : Class) → same_class class class ≡ true
class_same game_class = refl
class_same player_class = refl
class_same team_class = refl

-- and as no other
pub classes_same : (class class' : Class) → same_class class class' ≡ true → class ≡ class'
classes_same game_class game_class is = refl
classes_same player_class player_class is = refl
classes_same team_class team_class is = refl
classes_same class class' is = absurd cc

-- the variable in a place of a scope
pub place_means : (scope : Scope) (bytes : List ℕ)
    → Means (place_in scope bytes)
    (λ var. (variable : Variable) × (slice_get scope var ≡ Some variable) × (bytes ≡ variable.word))
place_means scope bytes =
    weaker (place_in scope bytes) (place_passes (λ variable. bytes_eq bytes variable.word) scope)
    (λ var found. (found.0, found.1, same_bytes bytes (found.0).word found.2))

-- its word and sort
pub variable_is : (variable : Variable) (bytes : List ℕ) (sort : Sort) → bytes ≡ variable.word → variable.sort ≡ sort
    → variable ≡ record { word = bytes; sort = sort }
variable_is variable bytes sort same sorts = ap₂ (λ w s. record { word = w; sort = s }) (sym same) sorts

-- the same of what is found, where it has the sort
sorted_is : (variable : Variable) (bytes : List ℕ) (sort : Sort) (found : Option Variable) → found ≡ Some variable
    → bytes ≡ variable.word → has_sort sort found ≡ true → found ≡ Some (record { word = bytes; sort = sort })
sorted_is variable bytes sort found is same has =
    let sorts = sorts_same variable.sort sort (subst (λ o. has_sort sort o ≡ true) is has) in
    is ∙ ap Some (variable_is variable bytes sort same sorts)

-- a variable of this sort in scope
pub variable_means : (scope : Scope) (sort : Sort) (bytes : List ℕ) (from to : ℕ)
    → Means (variable_in scope sort bytes) (λ var. InScope scope sort var (word bytes from to))
unfolding variable_in
variable_means scope sort bytes from to =
    either (is_variable bytes) (place_in scope bytes >>= sorted scope sort) None
    (λ is. behind (place_in scope bytes) (sorted scope sort) (place_means scope bytes)
    (λ var found. either (has_sort sort (slice_get scope var)) (Some var) None
    (λ has. something var
    (sorted_is found.0 bytes sort (slice_get scope var) found.1 found.2 has, is))
    (λ has. nothing)))
    (λ is. nothing)

-- PLAYER
abbrev pub StandsPlayer : Scope → Who → Tree → Type 0
StandsPlayer scope current_player tree = Row (Atom "current" ▸ Atom "player" ▸ End) tree
StandsPlayer scope (who_var var) tree = InScope scope player_sort var tree
StandsPlayer scope who tree = ⊥

-- `(current player)`
player_rule_means : (scope : Scope) (from to : ℕ) (rule : Rule) (parts : Trees) → Told rule parts
    → Means (player_of_rule rule) (λ who. StandsPlayer scope who (list parts from to))
player_rule_means scope from to rule.CurrentPlayer (cons head parts) told =
    something current_player (two_words keyword.Current keyword.Player parts from to head told.0 told.1 told.2)
player_rule_means scope from to rule nil told = absurd told
player_rule_means scope from to rule parts told = nothing

-- a player
player_means : (scope : Scope) (tree : Tree) → Means (player_at scope tree) (λ who. StandsPlayer scope who tree)
unfolding player_at
player_means scope (word bytes from to) =
    mapped (variable_in scope player_sort bytes) who_var (variable_means scope player_sort bytes from to) (λ var stands. stands)
player_means scope (list parts from to) =
    behind (rule_at symbol.Player parts) player_of_rule (told_at symbol.Player parts)
    (λ rule told. player_rule_means scope from to rule parts told)

-- the team of a player, as an owner
team_of_means : (scope : Scope) (who : Who) (from to : ℕ) (head second player : Tree) → Atom "team" head → Atom "of" second
    → StandsPlayer scope who player → StandsOwner scope (team_of who) (list (cons head (cons second (cons player nil))) from to)
team_of_means scope current_player from to head second player team of stands = (team, (of, (stands, tt)))
team_of_means scope (who_var var) from to head second player team of stands = (team, (of, (stands, tt)))
team_of_means scope who from to head second player team of stands = absurd stands

-- an owner, by its rule
pub owner_rule_means : (scope : Scope) (from to : ℕ) (rule : Rule) (parts : Trees) → Told rule parts
    → Means (owner_rule scope rule parts) (λ who. StandsOwner scope who (list parts from to))
owner_rule_means scope from to rule.CurrentPlayer (cons head parts) told =
    something current_player (two_words keyword.Current keyword.Player parts from to head told.0 told.1 told.2)
owner_rule_means scope from to rule.CurrentTeam (cons head parts) told =
    something current_team (two_words keyword.Current keyword.Team parts from to head told.0 told.1 told.2)
owner_rule_means scope from to rule.TeamOf (cons head (cons second (cons player nil))) told =
    mapped (player_at scope player) team_of (player_means scope player)
    (λ who stands. team_of_means scope who from to head second player told.0 told.1 stands)
owner_rule_means scope from to rule nil told = absurd told
owner_rule_means scope from to rule parts told = nothing

-- an owner
pub owner_means : (scope : Scope) (tree : Tree) → Means (owner_at scope tree) (λ who. StandsOwner scope who tree)
unfolding owner_at
owner_means scope (word bytes from to) =
    mapped (variable_in scope player_sort bytes) who_var (variable_means scope player_sort bytes from to) (λ var stands. stands)
owner_means scope (list parts from to) =
    behind (rule_at symbol.Owner parts) (λ rule. owner_rule scope rule parts) (told_at symbol.Owner parts)
    (λ rule told. owner_rule_means scope from to rule parts told)

-- an owner as a holder
owner_holds : (scope : Scope) (who : Who) (tree : Tree) → StandsOwner scope who tree → StandsHolder scope who tree
owner_holds scope game tree stands = absurd stands
owner_holds scope who tree stands = stands

-- a holder
pub holder_means : (scope : Scope) (tree : Tree) → Means (holder_at scope tree) (λ who. StandsHolder scope who tree)
holder_means scope tree =
    either (is_form_word keyword.Game tree) (Some game) (owner_at scope tree)
    (λ is. something game (word_form keyword.Game tree is))
    (λ is. weaker (owner_at scope tree) (owner_means scope tree) (λ who stands. owner_holds scope who tree stands))

-- the word of a kind
pub kind_is : (kind : LocKind) → text_of (kind_keyword kind) ≡ kind_bytes kind
kind_is vloc = refl
kind_is kind = refl

-- the word of the kind of the locations of a name
kind_means : (found : LocName) (tree : Tree) → is_form_word (kind_keyword found.kind) tree ≡ true
    → Word (λ bytes. Some (kind_bytes found.kind) ≡ Some bytes) tree
kind_means found (word bytes from to) is =
    ap Some (sym (kind_is found.kind) ∙ sym (same_bytes bytes (text_of (kind_keyword found.kind)) is))
kind_means found (list parts from to) is = absurd cc

-- the kind and the class of the locations of a name
pub loc_name_means : (tree : Tree) (class : Class) (found : Option LocName) → is_loc_name tree class found ≡ true
    → Word (λ bytes. option_map (λ loc. kind_bytes loc.kind) found ≡ Some bytes) tree
    × (option_map (λ loc. loc.class) found ≡ Some class)
loc_name_means tree class None is = absurd cc
loc_name_means tree class (Some loc) is =
    let both = and_parts (is_form_word (kind_keyword loc.kind) tree) (same_class loc.class class) is in
    (kind_means loc tree both.0, ap Some (classes_same loc.class class both.1))

-- the class of the numbers of a name
pub num_name_means : (class : Class) (found : Option NumName) → is_num_name class found ≡ true
    → option_map (λ num. num.class) found ≡ Some class
num_name_means class None is = absurd cc
num_name_means class (Some num) is = ap Some (classes_same num.class class is)

-- LOC
pub loc_parts_mean : (naming : Naming) (scope : Scope) (from to : ℕ) (parts : Trees)
    → Means (loc_parts naming scope from parts) (λ loc. StandsLoc naming scope loc (list parts from to))
unfolding loc_parts
loc_parts_mean naming scope from to (cons holder (cons kind (cons name nil))) =
    behind (holder_at scope holder) _ (holder_means scope holder)
    (λ who holds. behind (name_at naming.names.locs name) _ (name_means naming.names.locs name)
    (λ number named. behind (ensure (is_loc_name kind (class_of who) (slice_get naming.locs number))) _
    (ensured (is_loc_name kind (class_of who) (slice_get naming.locs number)))
    (λ u is.
    let fine = loc_name_means kind (class_of who) (slice_get naming.locs number) is in
    something (record { who = who; name = number; at = from }) ((holds, (fine.0, (named, tt))), fine.1, refl))))
loc_parts_mean naming scope from to parts = nothing

-- a location, by its rule
loc_rule_means : (naming : Naming) (scope : Scope) (from to : ℕ) (parts : Trees) (rule : Rule)
    → Means (loc_rule naming scope from parts rule) (λ loc. StandsLoc naming scope loc (list parts from to))
loc_rule_means naming scope from to parts rule.Location = loc_parts_mean naming scope from to parts
loc_rule_means naming scope from to parts rule = nothing

-- a location
pub loc_means : (naming : Naming) (scope : Scope) (tree : Tree)
    → Means (loc_at naming scope tree) (λ loc. StandsLoc naming scope loc tree)
unfolding loc_at
loc_means naming scope (word bytes from to) = nothing
loc_means naming scope (list parts from to) =
    behind (rule_at symbol.Location parts) (loc_rule naming scope from parts) (told_at symbol.Location parts)
    (λ rule told. loc_rule_means naming scope from to parts rule)

-- NUM
pub num_parts_mean : (naming : Naming) (scope : Scope) (from to : ℕ) (parts : Trees)
    → Means (num_parts naming scope parts) (λ num. StandsNum naming scope num (list parts from to))
unfolding num_parts
num_parts_mean naming scope from to (cons holder (cons sto (cons name nil))) =
    behind (ensure (is_form_word keyword.Sto sto)) _ (ensured (is_form_word keyword.Sto sto))
    (λ u stored. behind (holder_at scope holder) _ (holder_means scope holder)
    (λ who holds. behind (name_at naming.names.nums name) _ (name_means naming.names.nums name)
    (λ number named. behind (ensure (is_num_name (class_of who) (slice_get naming.nums number))) _
    (ensured (is_num_name (class_of who) (slice_get naming.nums number)))
    (λ u is.
    let fine = num_name_means (class_of who) (slice_get naming.nums number) is in
    something (record { who = who; name = number }) ((holds, (word_form keyword.Sto sto stored, (named, tt))), fine)))))
num_parts_mean naming scope from to parts = nothing

-- a stored number, by its rule
num_rule_means : (naming : Naming) (scope : Scope) (from to : ℕ) (parts : Trees) (rule : Rule)
    → Means (num_rule naming scope parts rule) (λ num. StandsNum naming scope num (list parts from to))
num_rule_means naming scope from to parts rule.Counter = num_parts_mean naming scope from to parts
num_rule_means naming scope from to parts rule = nothing

-- a stored number
pub num_means : (naming : Naming) (scope : Scope) (tree : Tree)
    → Means (num_at naming scope tree) (λ num. StandsNum naming scope num tree)
unfolding num_at
num_means naming scope (word bytes from to) = nothing
num_means naming scope (list parts from to) =
    behind (rule_at symbol.Counter parts) (num_rule naming scope parts) (told_at symbol.Counter parts)
    (λ rule told. num_rule_means naming scope from to parts rule)

-- `using MAP`
pub map_means : (naming : Naming) (using map : Tree)
    → Means (map_at naming using map) (λ number. Atom "using" using × Named naming.names.maps number map)
unfolding map_at
map_means naming using map =
    either (is_form_word keyword.Using using) (name_at naming.names.maps map) None
    (λ is. weaker (name_at naming.names.maps map) (name_means naming.names.maps map)
    (λ number named. (word_form keyword.Using using is, named)))
    (λ is. nothing)
