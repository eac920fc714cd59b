-- What a form's fine parts say is found and well formed: names, variables, owners, locations and stored numbers.
use Rattle.std.proofs.Common.{◌≡◌, ℕ, Bool, true, false, not, ◌&&◌, ◌||◌, cond, nat_le, nat_lt, List, [], ◌∷◌, length, Option, Some, None, is_none, is_some, slice_get, position, find, option_map, option_to_list, bytes_eq, refl, sym, subst, ap, ◌∙◌, eqb-true, lt-ltb, leb-false}
use Rattle.std.specs.List.{list_any, position_or_len}
use Rattle.std.proofs.lemmas.Bool.{not-true, not-false, and_from, or_from, false_from_ne_true, true≢false}
use Rattle.std.proofs.lemmas.Option.{slice_get_within, get_or_from_slice_get}
use Rattle.std.proofs.lemmas.List.Folds.{find_at}
use Rattle.std.proofs.lemmas.Slice.Eq.{bytes_eq-Decides}
use Rattle.std.proofs.Math.Bool.{or-false}
use Rattle.rc_base.specs.Tree.{Tree, word, list, Trees, nil, cons}
use Rattle.rc_sheet_spec.specs.Sheet.{Class, game_class, player_class, team_class, Sort, player_sort, LocKind, vloc, iloc, hloc, mem, Who, game, current_player, current_team, who_var, Loc, Sheet}
use Rattle.rc_base.specs.Limits.{most_variables}
use Rattle.rc_sheet_spec.specs.Naming.{Variable, Scope, class_of, sheet_naming}
use Rattle.rc_sheet_spec.specs.Naming.{kind_word as kind_bytes}
use Rattle.rc_sheet_spec.specs.WellFormed.{Around, IsAttr, IsValue, IsMap, HasSort, IsOwner, IsHolder, var_word, IsBinder, behind, is_mem, holds_references, IsLoc, IsNum}
use Rattle.rc_sheet_spec.specs.Sheet.{same_sort, same_class}
use Rattle.rc_check.specs.Classes.{class_of_rule, class_at, bound_in}
use Rattle.rc_check.specs.SecondParts.{Standing, part_at, bytes_of, word_in}
use Rattle.rc_check.specs.SecondNames.{some_of, mention_of, OwnedMention}
use Rattle.rc_check.specs.SecondFaults.{is_other_sort, is_misplaced, sorts_at}
use Rattle.rc_check.specs.SecondFaults.{variable_in as variable_found}
use Rattle.rc_check.specs.Keyword.{text_of}
use Rattle.rc_check.specs.Faults.{is_word, is_variable, is_form_word, unless, atom_faults, rule_of, fits}
use Rattle.rc_check.specs.declared.role.Role.{Role}
use Rattle.rc_check.specs.declared.role.Role.TheVariants.{UsedAttribute as used_attribute, UsedValue as used_value, UsedMap as used_map, CardLocation as card_location, ReferenceLocation as reference_location}
use Rattle.rc_check.specs.declared.keyword.Keyword.{Keyword}
use Rattle.rc_check.specs.declared.keyword.Keyword.TheVariants as keyword
use Rattle.rc_check.specs.declared.grammar.Symbol.{Symbol}
use Rattle.rc_check.specs.declared.grammar.Symbol.TheVariants as symbol
use Rattle.rc_check.specs.declared.grammar.Rule.{Rule}
use Rattle.rc_check.specs.declared.grammar.Rule.TheVariants as rule
use Rattle.rc_check.specs.declared.fault.SheetKind.{SheetKind}
use Rattle.rc_check.specs.declared.fault.SheetKind.TheVariants.{Shape}
use Rattle.rc_check.specs.declared.fault.SheetFault.{SheetFault}
use Rattle.rc_sheet.specs.ReadNames.{◌>>=◌, ensure, rule_at, name_at, binder_at, has_sort, place_in, sorted, variable_in, player_of_rule, player_at, team_of, team_parts, owner_rule, owner_at, holder_at, is_loc_name, is_num_name, loc_parts, loc_rule, loc_at, num_parts, num_rule, num_at, map_at, kind_keyword}
use Rattle.rc_sheet.proofs.Fine.Common.{Given, IsNamed, HasNumber, IsFineAtom, IsFineBinder}
use Rattle.rc_sheet.proofs.Means.{means_so, found_passes}
use Rattle.rc_sheet.proofs.ReadOff.Names.{same_bytes, sorts_same, kind_is, class_same}
use Rattle.rc_sheet.proofs.Finds.{Finds, finds, finds_if, implies, makes, follows, follows_this, where_true, where_false, whether, ensures_so}
use Rattle.rc_sheet.proofs.GoodParts.{◌▹◌, IsGood, IsGoodForm, finds_by, list_finds, no_list}
use Rattle.rc_sheet.proofs.Shapes.{three_only}

-- an atom that its place doesn't refuse passes the test there
pub passes_test : (b : Bool) (kind : SheetKind) (from : ℕ)
    → option_to_list {X = SheetFault} (option_map (λ kind. record { kind = kind; at = from }) (unless b kind)) ≡ [] → b ≡ true
passes_test true kind from is = refl
passes_test false kind from is = absurd cc

-- the last of three, where the first two hold
third_false : (a b c : Bool) → (a && b && c) ≡ false → a ≡ true → b ≡ true → c ≡ false
third_false true true c is p q = is
third_false true false c is p q = absurd cc
third_false false b c is p q = absurd cc

-- something is found
something_found : {A : Type 0} (found : Option A) → is_none found ≡ false → (x : A) × (found ≡ Some x)
something_found None is = absurd cc
something_found (Some x) is = (x, refl)

-- the place of what is found
pub found_place : {A : Type 0} (test : A → Bool) (all : List A) (x : A) → find test all ≡ Some x
    → (i : ℕ) × (position test all ≡ Some i) × (slice_get all i ≡ Some x)
found_place test all x is =
    let i = position_or_len test all in
    let there : slice_get all i ≡ Some x = sym (find_at test all) ∙ is in
    let less : nat_lt i (length all) ≡ true = lt-ltb i (length all) (slice_get_within all i x there) in
    (i, ap (λ b. cond b (Some i) None) less, there)

-- one that passes is found
passing_found : {A : Type 0} (test : A → Bool) (all : List A) → list_any test all ≡ true → (x : A) × (find test all ≡ Some x)
passing_found test [] is = absurd cc
passing_found test (x ∷ all) is = by (test x) is (passing_found test all)
  where
    by : (b : Bool) → (b || list_any test all) ≡ true → (list_any test all ≡ true → (y : _) × (find test all ≡ Some y))
        → (y : _) × (cond b (Some x) (find test all) ≡ Some y)
    by true is later = (x, refl)
    by false is later = later is

-- a word among words has a number
pub named_place : (bytes : List ℕ) (words : List (List ℕ)) → IsNamed bytes words
    → (n : ℕ) × (position (bytes_eq bytes) words ≡ Some n) × (slice_get words n ≡ Some bytes)
named_place bytes words is =
    let found = passing_found (bytes_eq bytes) words is in
    let at = found_place (bytes_eq bytes) words found.0 found.1 in
    let passes = means_so (find (bytes_eq bytes) words) found.0 (found_passes (bytes_eq bytes) words) found.1 in
    (at.0, at.1, at.2 ∙ ap Some (sym (same_bytes bytes found.0 passes)))

-- a variable is no fixed word
pub no_keyword : (bytes : List ℕ) → is_variable bytes ≡ true
    → (is_word keyword.Game bytes ≡ false) × (is_word keyword.Player bytes ≡ false)
no_keyword [] is = absurd cc
no_keyword (b ∷ bytes) is =
    let first : b ≡ 39 = eqb-true b 39 is in (
      subst (λ b. is_word keyword.Game (b ∷ bytes) ≡ false) (sym first) refl,
      subst (λ b. is_word keyword.Player (b ∷ bytes) ≡ false) (sym first) refl,
    )

-- either word is the other
pub same_either_way : (xs ys : List ℕ) → bytes_eq xs ys ≡ false → bytes_eq ys xs ≡ false
same_either_way xs ys is =
    false_from_ne_true (bytes_eq ys xs)
    (λ same. true≢false (sym ((bytes_eq-Decides xs ys).1 (sym (same_bytes ys xs same))) ∙ is))

-- a word that no variable in scope has
not_in_scope : (bytes : List ℕ) (scope : Scope) → is_some (variable_found scope bytes) ≡ false
    → list_any (λ variable. bytes_eq variable.word bytes) scope ≡ false
not_in_scope bytes [] is = refl
not_in_scope bytes (variable ∷ scope) is =
    by (bytes_eq bytes variable.word) refl is (λ is. not_in_scope bytes scope is)
  where
    by : (b : Bool) → bytes_eq bytes variable.word ≡ b
        → is_some (cond b (Some variable) (variable_found scope bytes)) ≡ false
        → (is_some (variable_found scope bytes) ≡ false
        → list_any (λ variable. bytes_eq variable.word bytes) scope ≡ false)
        → (bytes_eq variable.word bytes || list_any (λ variable. bytes_eq variable.word bytes) scope) ≡ false
    by true same is later = absurd cc
    by false same is later =
        or_from (bytes_eq variable.word bytes) _ (same_either_way bytes variable.word same) (later is)

-- the word of a kind is the keyword of no other
kind_fits : (kind : LocKind) (bytes : List ℕ) → kind_bytes kind ≡ bytes → is_word (kind_keyword kind) bytes ≡ true
kind_fits kind bytes is = (bytes_eq-Decides bytes (text_of (kind_keyword kind))).1 (sym is ∙ sym (kind_is kind))

-- whether locations hold references is told by the word of their kind
pub kind_tells : (kind : LocKind) (bytes : List ℕ) → kind_bytes kind ≡ bytes → is_mem kind ≡ is_word keyword.Mem bytes
kind_tells vloc bytes is = ap (is_word keyword.Mem) is
kind_tells iloc bytes is = ap (is_word keyword.Mem) is
kind_tells hloc bytes is = ap (is_word keyword.Mem) is
kind_tells mem bytes is = ap (is_word keyword.Mem) is

-- an attribute, a value and a map that the setup gives are the sheet's
pub record Gives (sheet : Sheet) (given : Given) : Type 0 where
  pub attrs : (bytes : List ℕ) (n : ℕ) → IsNamed bytes given.attributes
      → position (bytes_eq bytes) sheet.names.attrs ≡ Some n → IsAttr sheet n
  pub values : (bytes : List ℕ) (n : ℕ) → IsNamed bytes given.values
      → position (bytes_eq bytes) sheet.names.values ≡ Some n → IsValue sheet n
  pub maps : (bytes : List ℕ) (n : ℕ) → IsNamed bytes given.maps
      → position (bytes_eq bytes) sheet.names.maps ≡ Some n → IsMap sheet n

module _ (sheet : Sheet) (given : Given) where
  -- a tree and a form that stand well, with the names of the sheet
  abbrev pub Good : Standing → Tree → Type 0
  Good = IsGood given (sheet_naming sheet)

  -- the same of a form
  abbrev pub GoodForm : Standing → Rule → Trees → Type 0
  GoodForm = IsGoodForm given (sheet_naming sheet)

  -- a variable in scope, at a place of it, and of a sort that its own place takes
  pub record IsBound (at : Standing) (bytes : List ℕ) : Type 0 where
    pub variable : Variable
    pub found : variable_found at.around.scope bytes ≡ Some variable
    pub var : ℕ
    pub placed : place_in at.around.scope bytes ≡ Some var
    pub there : slice_get at.around.scope var ≡ Some variable
    pub fits : list_any (same_sort variable.sort) (sorts_at at.place) ≡ true

  -- where its part is fine
  pub bound_variable : (at : Standing) (bytes : List ℕ) → is_variable bytes ≡ true → some_of (sorts_at at.place) ≡ true
      → IsFineAtom given (sheet_naming sheet) at bytes → IsBound at bytes
  bound_variable at bytes is some fine =
      let found = variable_found at.around.scope bytes in
      let bound = something_found found
      (third_false (is_variable bytes) (some_of (sorts_at at.place)) (is_none found) fine.bound is some) in
      let place = found_place (λ variable. bytes_eq bytes variable.word) at.around.scope bound.0 bound.1 in
      let kept = third_false (is_variable bytes) (some_of (sorts_at at.place)) (is_other_sort (sorts_at at.place) found)
      fine.sort_fits is some in
      record {
        variable = bound.0;
        found = bound.1;
        var = place.0;
        placed = place.1;
        there = place.2;
        fits = not-false _ (subst (λ o. is_other_sort (sorts_at at.place) o ≡ false) bound.1 kept);
      }

  -- its place has its sort
  pub has_its_sort : (at : Standing) (bytes : List ℕ) (sort : Sort) (bound : IsBound at bytes) → bound.variable.sort ≡ sort
      → HasSort at.around sort bound.var
  has_its_sort at bytes sort bound is = ap (option_map (λ variable. variable.sort)) bound.there ∙ ap Some is

  -- a variable of the one sort that its place takes
  pub variable_finds : (at : Standing) (sort : Sort) (bytes : List ℕ) → is_variable bytes ≡ true → sorts_at at.place ≡ sort ∷ []
      → IsFineAtom given (sheet_naming sheet) at bytes
      → Finds (variable_in at.around.scope sort bytes) (HasSort at.around sort)
  unfolding variable_in
  variable_finds at sort bytes is sorts fine =
      let scope = at.around.scope in
      let bound = bound_variable at bytes is (ap some_of sorts) fine in
      let fits = sym (or-false _) ∙ subst (λ sorts. list_any (same_sort bound.variable.sort) sorts ≡ true) sorts bound.fits in
      where_true (is_variable bytes) (place_in scope bytes >>= sorted scope sort) None is
      (follows_this (place_in scope bytes) bound.var (sorted scope sort) (finds_if _ bound.var bound.placed refl)
      (where_true (has_sort sort (slice_get scope bound.var)) (Some bound.var) None (ap (has_sort sort) bound.there ∙ fits)
      (finds bound.var (has_its_sort at bytes sort bound (sorts_same _ sort fits)))))

  -- an owner of the class that its form tells
  abbrev pub OwnerAt : Around → Tree → Who → Type 0
  OwnerAt around tree who = IsOwner around who × (class_of who ≡ class_at tree)

  -- a variable that an owner's place takes is a player
  who_finds : (at : Standing) (bytes : List ℕ) (from to : ℕ) → is_variable bytes ≡ true
      → sorts_at at.place ≡ player_sort ∷ [] → IsFineAtom given (sheet_naming sheet) at bytes
      → Finds (option_map who_var (variable_in at.around.scope player_sort bytes)) (OwnerAt at.around (word bytes from to))
  who_finds at bytes from to is sorts fine =
      makes (variable_in at.around.scope player_sort bytes) who_var (variable_finds at player_sort bytes is sorts fine)
      (λ var has. (has, sym (ap (λ b. cond b game_class player_class) (no_keyword bytes is).0)))

  -- PLAYER
  abbrev pub IsPlayer : Around → Who → Type 0
  IsPlayer around current_player = around.player_stage ≡ true
  IsPlayer around (who_var var) = HasSort around player_sort var
  IsPlayer around who = ⊥

  -- at an atom
  pub word_is_variable : (at : Standing) (place : Symbol) (bytes : List ℕ) (from to : ℕ) → at.place ≡ place
      → atom_faults place bytes from ≡ option_to_list {X = SheetFault}
      (option_map (λ kind. record { kind = kind; at = from }) (unless (is_variable bytes) Shape))
      → Good at (word bytes from to) → is_variable bytes ≡ true
  word_is_variable at place bytes from to here same good =
      passes_test (is_variable bytes) Shape from (sym same ∙ subst (λ p. atom_faults p bytes from ≡ []) here good.shaped)

  -- as a player
  pub player_finds : (at : Standing) (tree : Tree) → at.place ≡ symbol.Player → Good at tree
      → Finds (player_at at.around.scope tree) (IsPlayer at.around)
  unfolding player_at
  player_finds at (word bytes from to) here good =
      makes (variable_in at.around.scope player_sort bytes) who_var
      (variable_finds at player_sort bytes (word_is_variable at symbol.Player bytes from to here refl good) (ap sorts_at here)
      good.fine.0) (λ var has. has)
  player_finds at (list parts from to) here good =
      list_finds given (sheet_naming sheet) player_of_rule symbol.Player at parts from to here good
      ((λ form. finds current_player form.fine.fits), tt)

  -- the team of a player
  team_is_owner : (around : Around) (who : Who) → IsPlayer around who
      → IsOwner around (team_of who) × (class_of (team_of who) ≡ team_class)
  team_is_owner around current_player is = (is, refl)
  team_is_owner around (who_var var) is = (is, refl)
  team_is_owner around who is = absurd is

  -- OWNER, by each of its forms
  abbrev pub IsOwnerOf : Around → Class → Who → Type 0
  IsOwnerOf around class who = IsOwner around who × (class_of who ≡ class)

  -- `(current player)`
  pub current_player_finds : (at : Standing) (parts : Trees) → GoodForm at rule.CurrentPlayer parts
      → Finds (owner_rule at.around.scope rule.CurrentPlayer parts) (IsOwnerOf at.around player_class)
  current_player_finds at parts form = finds current_player (form.fine.fits, refl)

  -- `(current team)`
  pub current_team_finds : (at : Standing) (parts : Trees) → GoodForm at rule.CurrentTeam parts
      → Finds (owner_rule at.around.scope rule.CurrentTeam parts) (IsOwnerOf at.around team_class)
  current_team_finds at parts form = finds current_team (form.fine.fits, refl)

  -- `(team of PLAYER)`
  pub team_of_finds : (at : Standing) (parts : Trees) → GoodForm at rule.TeamOf parts
      → Finds (owner_rule at.around.scope rule.TeamOf parts) (IsOwnerOf at.around team_class)
  team_of_finds at parts form =
      three_only (λ parts. GoodForm at rule.TeamOf parts
      → Finds (team_parts at.around.scope parts) (IsOwnerOf at.around team_class)) parts form.fit
      (λ head second player form. makes (player_at at.around.scope player) team_of (player_finds _ player refl form.good.1.1.0)
      (λ who is. team_is_owner at.around who is)) form

  -- its class is the one that its form tells
  of_its_class : (at : Standing) (parts : Trees) (from to : ℕ) (found : Rule) (class : Class) (who : Option Who)
      → rule_of symbol.Owner parts ≡ Some found → class_of_rule (Some found) ≡ class → Finds who (IsOwnerOf at.around class)
      → Finds who (OwnerAt at.around (list parts from to))
  of_its_class at parts from to found class who told is finds =
      implies who finds (λ who owner. (owner.0, owner.1 ∙ sym is ∙ sym (ap class_of_rule told)))

  -- as a list, also where a holder may stand
  owner_list_finds : (at : Standing) (parts : Trees) (from to : ℕ) → rule_of at.place parts ≡ rule_of symbol.Owner parts
      → Good at (list parts from to)
      → Finds (rule_at symbol.Owner parts >>= λ rule. owner_rule at.around.scope rule parts)
      (OwnerAt at.around (list parts from to))
  owner_list_finds at parts from to same good =
      finds_by given (sheet_naming sheet) (λ rule. owner_rule at.around.scope rule parts) symbol.Owner at parts from to same good
      ((λ form. of_its_class at parts from to rule.CurrentPlayer player_class _ (sym same ∙ form.told) refl
      (current_player_finds at parts form))
      ▹ (λ form. of_its_class at parts from to rule.CurrentTeam team_class _ (sym same ∙ form.told) refl
      (current_team_finds at parts form))
      ▹ (λ form. of_its_class at parts from to rule.TeamOf team_class _ (sym same ∙ form.told) refl
      (team_of_finds at parts form))
      ▹ tt)

  -- an owner
  pub owner_finds : (at : Standing) (tree : Tree) → at.place ≡ symbol.Owner → Good at tree
      → Finds (owner_at at.around.scope tree) (OwnerAt at.around tree)
  unfolding owner_at
  owner_finds at (word bytes from to) here good =
      who_finds at bytes from to (word_is_variable at symbol.Owner bytes from to here refl good) (ap sorts_at here) good.fine.0
  owner_finds at (list parts from to) here good =
      owner_list_finds at parts from to (ap (λ p. rule_of p parts) here) good

  -- HOLDER
  abbrev pub HolderAt : Around → Tree → Who → Type 0
  HolderAt around tree who = IsHolder around who × (class_of who ≡ class_at tree)

  -- an owner holds
  owner_holds : (around : Around) (tree : Tree) (who : Who) → OwnerAt around tree who → HolderAt around tree who
  owner_holds around tree game is = absurd is.0
  owner_holds around tree who is = is

  -- a holder that is a list has the forms of an owner
  same_owners : (parts : Trees) → rule_of symbol.Holder parts ≡ rule_of symbol.Owner parts
  same_owners nil = refl
  same_owners (cons head parts) = refl

  -- a holder
  pub holder_finds : (at : Standing) (tree : Tree) → at.place ≡ symbol.Holder → Good at tree
      → Finds (holder_at at.around.scope tree) (HolderAt at.around tree)
  unfolding owner_at
  holder_finds at (word bytes from to) here good =
      let taken = passes_test (is_word keyword.Game bytes || is_variable bytes) Shape from
      (subst (λ p. atom_faults p bytes from ≡ []) here good.shaped) in
      whether (is_word keyword.Game bytes) (Some game) _
      (λ is. finds game (tt, sym (ap (λ b. cond b game_class player_class) is)))
      (λ other. implies _
      (who_finds at bytes from to (ap (λ b. b || is_variable bytes) (sym other) ∙ taken) (ap sorts_at here) good.fine.0)
      (λ who is. owner_holds at.around (word bytes from to) who is))
  holder_finds at (list parts from to) here good =
      implies _ (owner_list_finds at parts from to (ap (λ p. rule_of p parts) here ∙ same_owners parts) good)
      (λ who is. owner_holds at.around (list parts from to) who is)

  -- a plain word that has this number
  pub name_finds : {P : ℕ → Type 0} (words : List (List ℕ)) (at : Standing) (tree : Tree) (n : ℕ) → at.place ≡ symbol.Name
      → Good at tree → position (bytes_eq (bytes_of tree)) words ≡ Some n → P n → Finds (name_at words tree) P
  unfolding name_at
  name_finds words at (word bytes from to) n here good is p =
      let plain = passes_test (not (is_variable bytes)) Shape from
      (subst (λ p. atom_faults p bytes from ≡ []) here good.shaped) in
      where_false (is_variable bytes) None (position (bytes_eq bytes) words) (not-true (is_variable bytes) plain)
      (finds_if (position (bytes_eq bytes) words) n is p)
  name_finds words at (list parts from to) n here good is p =
      absurd (no_list given (sheet_naming sheet) symbol.Name at parts from to here good refl)

  -- what is said of a name's number, where the name is an atom of this role
  role_of_name : (at : Standing) (tree : Tree) (role : Role) → at.place ≡ symbol.Name → at.role ≡ role → Good at tree
      → HasNumber given (sheet_naming sheet) role (bytes_of tree)
  role_of_name at (word bytes from to) role here is good =
      subst (λ r. HasNumber given (sheet_naming sheet) r bytes) is good.fine.0.numbered
  role_of_name at (list parts from to) role here is good =
      absurd (no_list given (sheet_naming sheet) symbol.Name at parts from to here good refl)

  -- the name of an attribute, of a value and of a map that are used
  pub attr_finds : Gives sheet given → (at : Standing) (tree : Tree) → at.place ≡ symbol.Name → at.role ≡ used_attribute
      → Good at tree → Finds (name_at sheet.names.attrs tree) (IsAttr sheet)
  attr_finds gives at tree here is good =
      let named = role_of_name at tree used_attribute here is good in
      let n = named_place (bytes_of tree) sheet.names.attrs named.1 in
      name_finds sheet.names.attrs at tree n.0 here good n.1 (gives.attrs (bytes_of tree) n.0 named.0 n.1)

  -- the name of a value
  pub value_finds : Gives sheet given → (at : Standing) (tree : Tree) → at.place ≡ symbol.Name → at.role ≡ used_value
      → Good at tree → Finds (name_at sheet.names.values tree) (IsValue sheet)
  value_finds gives at tree here is good =
      let named = role_of_name at tree used_value here is good in
      let n = named_place (bytes_of tree) sheet.names.values named.1 in
      name_finds sheet.names.values at tree n.0 here good n.1 (gives.values (bytes_of tree) n.0 named.0 n.1)

  -- a fixed word stands at its place
  pub keyword_is : (keyword : Keyword) (at : Standing) (tree : Tree) → at.place ≡ symbol.Word keyword → Good at tree
      → is_form_word keyword tree ≡ true
  keyword_is keyword at (word bytes from to) here good =
      passes_test (is_word keyword bytes) Shape from (subst (λ p. atom_faults p bytes from ≡ []) here good.shaped)
  keyword_is keyword at (list parts from to) here good =
      absurd (no_list given (sheet_naming sheet) (symbol.Word keyword) at parts from to here good refl)

  -- `using MAP`
  pub map_finds : Gives sheet given → (at at' : Standing) (using map : Tree) → at.place ≡ symbol.Word keyword.Using
      → Good at using → at'.place ≡ symbol.Name → at'.role ≡ used_map → Good at' map
      → Finds (map_at (sheet_naming sheet) using map) (IsMap sheet)
  unfolding map_at
  map_finds gives at at' using map there fixed here is good =
      let named = role_of_name at' map used_map here is good in
      let n = named_place (bytes_of map) sheet.names.maps named.1 in
      where_true (is_form_word keyword.Using using) (name_at sheet.names.maps map) None
      (keyword_is keyword.Using at using there fixed)
      (name_finds sheet.names.maps at' map n.0 here good n.1 (gives.maps (bytes_of map) n.0 named.0 n.1))

  -- a binder's variable, behind which the scope is the form's
  abbrev pub BinderAt : Around → List ℕ → ℕ → Type 0
  BinderAt around bytes bound =
      IsBinder sheet around bound × ((sort : Sort) → behind sheet around bound sort ≡ bound_in around bytes sort)

  -- where its form is fine
  pub binder_finds : (outer at : Standing) (parts : Trees) (tree : Tree) → IsFineBinder (sheet_naming sheet) outer parts
      → part_at 2 parts ≡ tree → at.place ≡ symbol.Variable → Good at tree
      → Finds (binder_at sheet.names.vars outer.around.scope tree) (BinderAt outer.around (bytes_of tree))
  unfolding binder_at
  binder_finds outer at parts (word bytes from to) fine third here good =
      let scope = outer.around.scope in
      let word_is : word_in 2 parts ≡ bytes = ap bytes_of third in
      let variable = word_is_variable at symbol.Variable bytes from to here refl good in
      let n = named_place bytes sheet.names.vars (subst (λ w. IsNamed w sheet.names.vars) word_is fine.numbered) in
      let same : var_word sheet n.0 ≡ bytes = get_or_from_slice_get sheet.names.vars n.0 bytes [] n.2 in
      let fresh = not_in_scope bytes scope (subst (λ w. is_some (variable_found scope w) ≡ false) word_is fine.fresh) in
      where_true (is_variable bytes && nat_le (length scope) most_variables) (position (bytes_eq bytes) sheet.names.vars) None
      (and_from _ _ variable fine.room)
      (finds_if (position (bytes_eq bytes) sheet.names.vars) n.0 n.1 (
        (
          slice_get_within sheet.names.vars n.0 bytes n.2,
          subst (λ w. list_any (λ variable. bytes_eq variable.word w) scope ≡ false) (sym same) fresh,
          leb-false most_variables outer.around.binders fine.few,
        ),
        (λ sort. ap (λ w. bound_in outer.around w sort) same),
      ))
  binder_finds outer at parts (list inner from to) fine third here good =
      absurd (no_list given (sheet_naming sheet) symbol.Variable at inner from to here good refl)

  -- what holds behind a binder, where its variable's sort is known
  pub behind_binder : (F : Around → Type 0) (around : Around) (bytes : List ℕ) (bound : ℕ) (sort sort' : Sort)
      → BinderAt around bytes bound → sort' ≡ sort → F (bound_in around bytes sort') → F (behind sheet around bound sort)
  behind_binder F around bytes bound sort sort' binds same holds =
      subst F (ap (bound_in around bytes) same ∙ sym (binds.1 sort)) holds

  -- the word of a kind
  kind_is_told : (kind : LocKind) (at : Standing) (tree : Tree) → at.place ≡ symbol.Kind → Good at tree
      → kind_bytes kind ≡ bytes_of tree → is_form_word (kind_keyword kind) tree ≡ true
  kind_is_told kind at (word bytes from to) here good is = kind_fits kind bytes is
  kind_is_told kind at (list parts from to) here good is =
      absurd (no_list given (sheet_naming sheet) symbol.Kind at parts from to here good refl)

  -- a location, which holds cards or references as the word of its kind says
  abbrev pub LocAt : Around → List ℕ → Loc → Type 0
  LocAt around kind loc =
      IsLoc sheet around loc × (holds_references sheet loc.name ≡ Some (is_word keyword.Mem kind))

  -- by its parts
  pub loc_parts_finds : (at : Standing) (parts : Trees) (from : ℕ) → GoodForm at rule.Location parts
      → Finds (loc_parts (sheet_naming sheet) at.around.scope from parts) (LocAt at.around (word_in 1 parts))
  unfolding loc_parts
  loc_parts_finds at parts from form =
      three_only (λ parts. GoodForm at rule.Location parts
      → Finds (loc_parts (sheet_naming sheet) at.around.scope from parts) (LocAt at.around (word_in 1 parts))) parts form.fit
      (λ holder kind name form.
      let m = form.fine.fits.1 in
      follows (holder_at at.around.scope holder) _ (holder_finds _ holder refl form.good.0)
      (λ who holds.
      let class : m.loc.class ≡ class_of who = m.same_class ∙ sym holds.1 in
      let fits = and_from _ _ (kind_is_told m.loc.kind _ kind refl form.good.1.0 m.same_kind)
      (ap (λ c. same_class c (class_of who)) class ∙ class_same (class_of who)) in
      follows_this (name_at sheet.names.locs name) m.number _
      (name_finds sheet.names.locs _ name m.number refl form.good.1.1.0 m.numbered refl)
      (follows_this (ensure (is_loc_name kind (class_of who) (slice_get sheet.locs m.number))) tt _
      (ensures_so _ (ap (is_loc_name kind (class_of who)) m.is ∙ fits) refl)
      (finds _ (
        (holds.0, ap (option_map (λ loc. loc.class)) m.is ∙ ap Some class),
        ap (option_map (λ loc. is_mem loc.kind)) m.is ∙ ap Some (kind_tells m.loc.kind (bytes_of kind) m.same_kind),
      ))))) form

  -- the locations of a name hold what a role wants
  abbrev pub IsPlaced : Role → ℕ → Type 0
  IsPlaced card_location name = holds_references sheet name ≡ Some false
  IsPlaced reference_location name = holds_references sheet name ≡ Some true
  IsPlaced role name = Unit {0}

  -- where it is not misplaced
  is_placed : (role : Role) (mention : OwnedMention) (name : ℕ)
      → holds_references sheet name ≡ Some (is_word keyword.Mem mention.kind) → is_misplaced role mention ≡ false
      → IsPlaced role name
  is_placed card_location mention name holds fits = holds ∙ ap Some fits
  is_placed reference_location mention name holds fits = holds ∙ ap Some (not-false _ fits)
  is_placed role mention name holds fits = tt

  -- a location, as its role wants it
  pub loc_finds : (at : Standing) (tree : Tree) → at.place ≡ symbol.Location → Good at tree
      → Finds (loc_at (sheet_naming sheet) at.around.scope tree)
      (λ loc. IsLoc sheet at.around loc × IsPlaced at.role loc.name)
  unfolding loc_at
  loc_finds at (word bytes from to) here good =
      absurd (refused (subst (λ p. atom_faults p bytes from ≡ []) here good.shaped))
    where
      refused : atom_faults symbol.Location bytes from ≡ [] → ⊥
      refused is = cc
  loc_finds at (list parts from to) here good =
      list_finds given (sheet_naming sheet) (loc_rule (sheet_naming sheet) at.around.scope from parts) symbol.Location at parts from to
      here good
      ((λ form. implies _ (loc_parts_finds at parts from form)
      (λ loc is. (is.0, is_placed at.role (mention_of parts) loc.name is.1 form.fine.fits.0)))
      ▹ tt)

  -- a stored number
  pub num_parts_finds : (at : Standing) (parts : Trees) → GoodForm at rule.Counter parts
      → Finds (num_parts (sheet_naming sheet) at.around.scope parts) (IsNum sheet at.around)
  unfolding num_parts
  num_parts_finds at parts form =
      three_only (λ parts. GoodForm at rule.Counter parts
      → Finds (num_parts (sheet_naming sheet) at.around.scope parts) (IsNum sheet at.around)) parts form.fit
      (λ holder sto name form.
      let m = form.fine.fits in
      follows_this (ensure (is_form_word keyword.Sto sto)) tt _
      (ensures_so _ (keyword_is keyword.Sto _ sto refl form.good.1.0) refl)
      (follows (holder_at at.around.scope holder) _ (holder_finds _ holder refl form.good.0)
      (λ who holds.
      let class : m.num.class ≡ class_of who = m.same_class ∙ sym holds.1 in
      follows_this (name_at sheet.names.nums name) m.number _
      (name_finds sheet.names.nums _ name m.number refl form.good.1.1.0 m.numbered refl)
      (follows_this (ensure (is_num_name (class_of who) (slice_get sheet.nums m.number))) tt _
      (ensures_so _
      (ap (is_num_name (class_of who)) m.is ∙ ap (λ c. same_class c (class_of who)) class ∙ class_same (class_of who)) refl)
      (finds _ (holds.0, ap (option_map (λ num. num.class)) m.is ∙ ap Some class)))))) form

  -- a stored number, at its place
  pub num_finds : (at : Standing) (tree : Tree) → at.place ≡ symbol.Counter → Good at tree
      → Finds (num_at (sheet_naming sheet) at.around.scope tree) (IsNum sheet at.around)
  unfolding num_at
  num_finds at (word bytes from to) here good =
      absurd (refused (subst (λ p. atom_faults p bytes from ≡ []) here good.shaped))
    where
      refused : atom_faults symbol.Counter bytes from ≡ [] → ⊥
      refused is = cc
  num_finds at (list parts from to) here good =
      list_finds given (sheet_naming sheet) (num_rule (sheet_naming sheet) at.around.scope parts) symbol.Counter at parts from to here
      good ((λ form. num_parts_finds at parts form) ▹ tt)
