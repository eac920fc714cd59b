-- The first round of faults of a form: parts that are no form of their place, and atoms that are no numbers of their place.
use Rattle.std.specs.Prelude.{ℕ, ◌+◌, Bool, true, false, not, ◌&&◌, ◌||◌, ◌==◌, nat_lt, if◌then◌else◌, List, [], ◌∷◌, ◌++◌, length, slice_get, find, filter, ℤ, pos, neg_ℤ, int_le, Option, Some, None, is_none, option_map, option_to_list, Result, Ok, Err}
use Rattle.std.specs.List.{list_any}
use Rattle.std.specs.Str.{bytes_eq}
use Rattle.rc_base.specs.Clamp.{largest_number}
use Rattle.rc_base.specs.Literal.{integer}
use Rattle.rc_base.specs.Tree.{Tree, word, list, Trees, nil, cons}
pub use Rattle.rc_base.specs.Tree.{count, start_of}
pub use Rattle.rc_base.specs.Words.{is_variable}
use Rattle.rc_check.specs.Keyword.{text_of}
use Rattle.rc_check.specs.Grammar.{forms_of, front_of, more_of}
use Rattle.rc_check.specs.declared.keyword.Keyword.{Keyword}
use Rattle.rc_check.specs.declared.keyword.Keyword.TheVariants as keyword
use Rattle.rc_check.specs.declared.grammar.Symbol.{Symbol}
use Rattle.rc_check.specs.declared.grammar.Symbol.TheVariants as symbol
use Rattle.rc_check.specs.declared.grammar.Rule.{Rule}
use Rattle.rc_check.specs.declared.grammar.Rule.TheVariants as rule
use Rattle.rc_check.specs.declared.fault.SheetKind.{SheetKind}
use Rattle.rc_check.specs.declared.fault.SheetKind.TheVariants.{Shape, Number}
use Rattle.rc_check.specs.declared.fault.SheetFault.{SheetFault}

-- the word is this keyword
abbrev pub is_word : Keyword → List ℕ → Bool
is_word keyword bytes = bytes_eq bytes (text_of keyword)

-- the word is a kind of location
abbrev pub is_kind : List ℕ → Bool
is_kind bytes =
    is_word keyword.Vloc bytes || is_word keyword.Iloc bytes || is_word keyword.Hloc bytes || is_word keyword.Mem bytes

-- the word spells a number in this range
abbrev pub is_within : ℤ → ℤ → Option ℤ → Bool
is_within least most None = false
is_within least most (Some n) = int_le least n && int_le n most

abbrev pub is_number : List ℕ → Bool
is_number bytes = is_within (neg_ℤ (pos largest_number)) (pos largest_number) (integer bytes)

-- what a test refuses is of this kind
abbrev pub unless : Bool → SheetKind → Option SheetKind
unless holds kind = if holds then None else Some kind

-- what is wrong with an atom at a place
abbrev pub atom_kind : Symbol → List ℕ → Option SheetKind
atom_kind (symbol.Word keyword) bytes = unless (is_word keyword bytes) Shape
atom_kind symbol.Kind bytes = unless (is_kind bytes) Shape
atom_kind symbol.Best bytes = unless (is_word keyword.Max bytes || is_word keyword.Min bytes) Shape
atom_kind symbol.Name bytes = unless (not (is_variable bytes)) Shape
atom_kind symbol.Branch bytes = unless (not (is_variable bytes)) Shape
atom_kind symbol.Variable bytes = unless (is_variable bytes) Shape
atom_kind symbol.Owner bytes = unless (is_variable bytes) Shape
atom_kind symbol.Player bytes = unless (is_variable bytes) Shape
atom_kind symbol.Card bytes = unless (is_variable bytes) Shape
atom_kind symbol.Collection bytes = unless (is_variable bytes) Shape
atom_kind symbol.Domain bytes = unless (is_word keyword.Player bytes || is_variable bytes) Shape
atom_kind symbol.Members bytes = unless (is_word keyword.Player bytes || is_variable bytes) Shape
atom_kind symbol.Holder bytes = unless (is_word keyword.Game bytes || is_variable bytes) Shape
atom_kind symbol.PlayerCount bytes = unless (is_within (pos 1) (pos 8) (integer bytes)) Number
atom_kind symbol.Member bytes = unless (is_within (pos 0) (pos 7) (integer bytes)) Number
atom_kind symbol.Points bytes = unless (is_number bytes) Number
atom_kind symbol.Integer bytes = unless (is_number bytes) Number
atom_kind symbol.Side bytes = unless (is_variable bytes || is_number bytes) Number
atom_kind symbol.Sheet bytes = Some Shape
atom_kind symbol.Setup bytes = Some Shape
atom_kind symbol.Line bytes = Some Shape
atom_kind symbol.Team bytes = Some Shape
atom_kind symbol.Deck bytes = Some Shape
atom_kind symbol.Group bytes = Some Shape
atom_kind symbol.Branches bytes = Some Shape
atom_kind symbol.Entries bytes = Some Shape
atom_kind symbol.Entry bytes = Some Shape
atom_kind symbol.Values bytes = Some Shape
atom_kind symbol.Scoring bytes = Some Shape
atom_kind symbol.Item bytes = Some Shape
atom_kind symbol.End bytes = Some Shape
atom_kind symbol.Alternative bytes = Some Shape
atom_kind symbol.Effect bytes = Some Shape
atom_kind symbol.Spot bytes = Some Shape
atom_kind symbol.Location bytes = Some Shape
atom_kind symbol.Counter bytes = Some Shape
atom_kind symbol.Test bytes = Some Shape

-- the tree is this word
abbrev pub is_form_word : Keyword → Tree → Bool
is_form_word keyword (word bytes from to) = is_word keyword bytes
is_form_word keyword (list parts from to) = false

-- A list may begin with this part, where this is the place of its first part. Where a word is fixed only that word may, and
-- where a holder stands its atoms and any list. Elsewhere any part may, and is looked at with the others.
abbrev pub may_begin : Symbol → Tree → Bool
may_begin (symbol.Word keyword) tree = is_form_word keyword tree
may_begin symbol.Holder (word bytes from to) = is_none (atom_kind symbol.Holder bytes)
may_begin place tree = true

-- the word behind a form's head, where both are fixed
abbrev pub second_in : List Symbol → Option Keyword
second_in [] = None
second_in (first ∷ []) = None
second_in (symbol.Word head ∷ symbol.Word second ∷ places) = Some second
second_in (first ∷ second ∷ places) = None

abbrev pub second_word : Rule → Option Keyword
second_word rule = second_in (front_of rule)

-- the form has such a word
abbrev pub has_second_word : Rule → Bool
has_second_word rule = not (is_none (second_word rule))

-- a list of this form may begin with this part
abbrev pub fits_head : List Symbol → Tree → Bool
fits_head [] tree = true
fits_head (first ∷ places) tree = may_begin first tree

abbrev pub begins : Tree → Rule → Bool
begins head rule = fits_head (front_of rule) head

-- the part behind a head is this word
abbrev pub is_told : Option Keyword → Trees → Bool
is_told (Some keyword) (cons second parts) = is_form_word keyword second
is_told (Some keyword) nil = false
is_told None parts = false

-- the first, or else the second
abbrev pub or_else : Option Rule → Option Rule → Option Rule
or_else (Some rule) other = Some rule
or_else None other = other

-- the form that may begin with this part and that the word behind it tells, and the form that no such word tells
abbrev pub told_rule : Symbol → Tree → Trees → Option Rule
told_rule place head parts = find (λ rule. begins head rule && is_told (second_word rule) parts) (forms_of place)

abbrev pub plain_rule : Symbol → Tree → Option Rule
plain_rule place head = find (λ rule. begins head rule && is_none (second_word rule)) (forms_of place)

-- all forms of the place that may begin with this part, by the word behind it or with none such
abbrev pub told_forms : Symbol → Tree → Trees → List Rule
told_forms place head parts = filter (λ rule. begins head rule && is_told (second_word rule) parts) (forms_of place)

abbrev pub plain_forms : Symbol → Tree → List Rule
plain_forms place head = filter (λ rule. begins head rule && is_none (second_word rule)) (forms_of place)

-- the form that a list of these parts is to be
abbrev pub rule_of : Symbol → Trees → Option Rule
rule_of place nil = None
rule_of place (cons head parts) = or_else (told_rule place head parts) (plain_rule place head)

-- how many parts stand behind those of which there may be more
abbrev pub back_of : Rule → ℕ
back_of rule.Game = 1
back_of rule = 0

-- the form has so many parts
abbrev pub fits_count : ℕ → Option Symbol → ℕ → ℕ → Bool
fits_count front None back n = n == front
fits_count front (Some more) back n = nat_lt (front + back) n

abbrev pub fits : ℕ → Rule → Bool
fits n rule = fits_count (length (front_of rule)) (more_of rule) (back_of rule) n

-- the place of a part of a form, where it has so many parts: the scoring stands last in a sheet
abbrev pub behind_front : Rule → Bool → Option Symbol
behind_front rule.Game true = Some symbol.Scoring
behind_front rule last = more_of rule

abbrev pub or_behind : Option Symbol → Option Symbol → Option Symbol
or_behind (Some place) other = Some place
or_behind None other = other

abbrev pub place_at : Rule → ℕ → ℕ → Option Symbol
place_at rule n index = or_behind (slice_get (front_of rule) index) (behind_front rule (index + 1 == n))

-- the tree is a line that begins with `create players`
abbrev pub names_players : Tree → Bool
names_players (list (cons head parts) from to) =
    is_form_word keyword.Create head && is_told (Some keyword.Players) parts
names_players (list nil from to) = false
names_players (word bytes from to) = false

abbrev pub some_names_players : Trees → Bool
some_names_players nil = false
some_names_players (cons tree trees) = names_players tree || some_names_players trees

-- a setup without a line for the players
abbrev pub lacks_players : Rule → Trees → Bool
lacks_players rule.Setup parts = not (some_names_players parts)
lacks_players rule parts = false

-- a fault of shape here
abbrev pub shape : ℕ → SheetFault
shape at = record { kind = Shape; at = at }

-- a form that may begin with this part has so many parts
abbrev pub some_form_fits : Symbol → Tree → ℕ → Bool
some_form_fits place head n = list_any (λ rule. begins head rule && fits n rule) (forms_of place)

-- where the first of these trees begins, or else here
abbrev pub first_start : ℕ → Trees → ℕ
first_start here nil = here
first_start here (cons tree trees) = start_of tree

-- Where a list is at fault that is to be no form: at the part behind its head, where a fixed word is missing there and a form
-- with that head has as many parts; else the list itself.
abbrev pub fault_place : Symbol → ℕ → Trees → ℕ
fault_place place from nil = from
fault_place place from (cons head parts) =
    if some_form_fits place head (count (cons head parts)) then first_start from parts else from

-- the faults of a list of these parts that is to be this form, where the parts have the inner faults
abbrev pub rule_faults : ℕ → Trees → List SheetFault → Rule → List SheetFault
rule_faults from parts inner rule =
    if fits (count parts) rule then (if lacks_players rule parts then shape from ∷ inner else inner)
    else shape from ∷ []

-- the faults of a list of these parts that is to be this form, or none
abbrev pub told_faults : Symbol → ℕ → Trees → (Rule → List SheetFault) → Option Rule → List SheetFault
told_faults place from parts inner None = shape (fault_place place from parts) ∷ []
told_faults place from parts inner (Some rule) = rule_faults from parts (inner rule) rule

-- what is wrong with an atom that stands here
abbrev pub atom_faults : Symbol → List ℕ → ℕ → List SheetFault
atom_faults place bytes from =
    option_to_list (option_map (λ kind. record { kind = kind; at = from }) (atom_kind place bytes))

-- All faults of a tree at a place, in the order of the text. A part whose shape is at fault isn't looked into.
abbrev mutual
  pub faults_at : Option Symbol → Tree → List SheetFault
  faults_at (Some place) (word bytes from to) = atom_faults place bytes from
  faults_at (Some place) (list parts from to) =
      told_faults place from parts (λ rule. faults_in rule (count parts) 0 parts) (rule_of place parts)
  faults_at None (word bytes from to) = []
  faults_at None (list parts from to) = []

  -- the faults of a form's parts, where it has so many, from the part at this index on
  pub faults_in : Rule → ℕ → ℕ → Trees → List SheetFault
  faults_in rule n index nil = []
  faults_in rule n index (cons tree trees) =
      faults_at (place_at rule n index) tree ++ faults_in rule n (index + 1) trees

abbrev pub faults : Symbol → Tree → List SheetFault
faults place tree = faults_at (Some place) tree

-- the faults of the parts of a form
abbrev pub part_faults : Rule → Trees → List SheetFault
part_faults rule parts = faults_in rule (count parts) 0 parts

-- the first of these faults
abbrev pub first : List SheetFault → Option SheetFault
first [] = None
first (fault ∷ others) = Some fault

-- the first fault of the shape of a form that is to be a sheet
abbrev pub first_fault : Tree → Option SheetFault
first_fault tree = first (faults symbol.Sheet tree)

-- what a check answers
abbrev pub fault_of : {A : Type 0} → Result A SheetFault → Option SheetFault
fault_of (Ok u) = None
fault_of (Err fault) = Some fault
