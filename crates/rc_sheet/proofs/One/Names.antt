-- What is read off a form for which a sheet's part stands is that part: names, variables, owners, locations and stored
-- numbers. The reading may go by another table of locations and numbers than the sheet's, with the same names: the two then
-- agree at what is mentioned.
use Rattle.std.proofs.Common.{◌≡◌, ℕ, zero, suc, Bool, true, false, cond, List, [], ◌∷◌, ◌++◌, ◌⊎◌, inl, inr, ⊎_elim, length, Option, Some, None, slice_get, option_map, bytes_eq, refl, sym, subst, ap, ap₂, ◌∙◌, arith, eqb-true}
use Rattle.std.specs.Prelude.{codes}
use Rattle.std.specs.List.{list_any, AllByRecursion, IsDistinct}
use Rattle.std.proofs.lemmas.Option.{same_Some}
use Rattle.std.proofs.lemmas.Bool.{or_parts}
use Rattle.std.proofs.lemmas.Slice.Eq.{bytes_eq-Decides}
use Rattle.rc_base.specs.Tree.{Tree, word, list, Trees, nil, cons}
use Rattle.rc_sheet_spec.specs.Sheet.{Names, Class, player_sort, Sort, LocKind, vloc, iloc, hloc, mem, LocName, NumName, Who, game, current_player, current_team, team_of_current, team_of_var, who_var, Loc, Num, Sheet}
use Rattle.rc_sheet_spec.specs.Mentions.{Mention, attr_name, value_name, map_name, loc_name, num_name, var_name}
use Rattle.rc_sheet_spec.specs.Rows.{◌▸◌, End, Row, Word, Atom}
use Rattle.rc_sheet_spec.specs.Naming.{Naming, Variable, Scope, class_of, Named, Binder, InScope, KindOf, sheet_naming}
use Rattle.rc_base.specs.Words.{is_variable}
use Rattle.rc_sheet_spec.specs.Naming.{kind_word as kind_bytes}
use Rattle.rc_sheet_spec.specs.StandsExpressions.{StandsOwner, StandsHolder, StandsLoc, StandsNum}
use Rattle.rc_check.specs.Faults.{is_form_word, rule_of, count, fits}
use Rattle.rc_resolve.specs.Naming.{kind_by}
use Rattle.rc_sheet.specs.ReadNames.{◌>>=◌, ensure, both, sized, rule_at, name_at, binder_at, variable_in, player_at, team_of, owner_at, holder_at, is_loc_name, is_num_name, loc_parts, loc_at, num_parts, num_at, map_at}
use Rattle.rc_sheet.proofs.Means.{Means, nothing, something, weaker, mapped, behind, both_mean}
use Rattle.rc_sheet.proofs.One.Rows.{row_word, row_word_part, three_parts}
use Rattle.rc_sheet.proofs.ReadOff.Names.{name_means, binder_means, variable_means, loc_name_means, num_name_means}
use Rattle.rc_check.specs.declared.keyword.Keyword.TheVariants as keyword
use Rattle.rc_check.specs.declared.grammar.Symbol.{Symbol}
use Rattle.rc_check.specs.declared.grammar.Symbol.TheVariants as symbol
use Rattle.rc_check.specs.declared.grammar.Rule.{Rule}
use Rattle.rc_check.specs.declared.grammar.Rule.TheVariants as rule

-- WORDS THAT DIFFER

-- no word stands in two places
abbrev pub Alone : List (List ℕ) → Type 0
Alone words = (i j : ℕ) (w : List ℕ) → slice_get words i ≡ Some w → slice_get words j ≡ Some w → i ≡ j

-- what holds of all holds of one
pub all_at : {A : Type 0} (P : A → Type 0) (xs : List A) (i : ℕ) (a : A) → AllByRecursion P xs → slice_get xs i ≡ Some a → P a
all_at P [] i a all is = absurd cc
all_at P (x ∷ xs) zero a all is = subst P (same_Some x a is) all.0
all_at P (x ∷ xs) (suc i) a all is = all_at P xs i a all.1 is

-- a word isn't another
apart : (x w : List ℕ) → x ≡ w → bytes_eq x w ≡ false → ⊥
apart x w same other = let is = (bytes_eq-Decides x w).1 same in absurd cc

-- distinct words stand alone
pub distinct_alone : (words : List (List ℕ)) → IsDistinct bytes_eq words → Alone words
unfolding IsDistinct
distinct_alone [] differ i j w is is' = absurd cc
distinct_alone (x ∷ xs) differ zero zero w is is' = refl
distinct_alone (x ∷ xs) differ zero (suc j) w is is' =
    absurd (apart x w (same_Some x w is) (all_at (λ y. bytes_eq x y ≡ false) xs j w differ.0 is'))
distinct_alone (x ∷ xs) differ (suc i) zero w is is' =
    absurd (apart x w (same_Some x w is') (all_at (λ y. bytes_eq x y ≡ false) xs i w differ.0 is))
distinct_alone (x ∷ xs) differ (suc i) (suc j) w is is' = ap suc (distinct_alone xs differ.1 i j w is is')

-- all names of each kind
pub record Differ (names : Names) : Type 0 where
  pub attrs : Alone names.attrs
  pub values : Alone names.values
  pub maps : Alone names.maps
  pub locs : Alone names.locs
  pub nums : Alone names.nums
  pub vars : Alone names.vars

-- no variable in scope hides another
abbrev pub Apart : Scope → Type 0
Apart scope =
    (i j : ℕ) (v w : Variable) → slice_get scope i ≡ Some v → slice_get scope j ≡ Some w → v.word ≡ w.word → i ≡ j

pub none_apart : Apart []
none_apart i j v w is is' same = absurd cc

pub one_apart : (x : Variable) → Apart (x ∷ [])
one_apart x zero zero v w is is' same = refl
one_apart x zero (suc j) v w is is' same = absurd cc
one_apart x (suc i) j v w is is' same = absurd cc

-- an item of a list with one more
get_more : {A : Type 0} (xs : List A) (x : A) (i : ℕ) (a : A) → slice_get (xs ++ x ∷ []) i ≡ Some a
    → (slice_get xs i ≡ Some a) ⊎ ((i ≡ length xs) × (x ≡ a))
get_more [] x zero a is = inr (refl, same_Some x a is)
get_more [] x (suc i) a is = absurd cc
get_more (y ∷ xs) x zero a is = inl is
get_more (y ∷ xs) x (suc i) a is =
    ⊎_elim (λ old. inl old) (λ new. let n = new.0 in inr (omega (arith, n), new.1)) (get_more xs x i a is)

-- an item that a test doesn't find
none_at : {A : Type 0} (test : A → Bool) (xs : List A) (i : ℕ) (a : A) → list_any test xs ≡ false → slice_get xs i ≡ Some a
    → test a ≡ false
none_at test [] i a none is = absurd cc
none_at test (x ∷ xs) zero a none is =
    ap test (sym (same_Some x a is)) ∙ (or_parts (test x) (list_any test xs) none).0
none_at test (x ∷ xs) (suc i) a none is = none_at test xs i a (or_parts (test x) (list_any test xs) none).1 is

-- a scope with one more variable
pub more_apart : (scope : Scope) (x : Variable) → Apart scope → list_any (λ v. bytes_eq v.word x.word) scope ≡ false
    → Apart (scope ++ x ∷ [])
more_apart scope x apart_before none i j v w is is' same =
    ⊎_elim
    (λ old. ⊎_elim (λ old'. apart_before i j v w old old' same)
    (λ new. absurd (apart v.word x.word (same ∙ ap (λ (v : Variable). v.word) (sym new.1))
    (none_at (λ v. bytes_eq v.word x.word) scope i v none old)))
    (get_more scope x j w is'))
    (λ new. ⊎_elim (λ old. absurd (apart w.word x.word (sym same ∙ ap (λ (v : Variable). v.word) (sym new.1))
    (none_at (λ v. bytes_eq v.word x.word) scope j w none old)))
    (λ new'. new.0 ∙ sym new'.0)
    (get_more scope x j w is'))
    (get_more scope x i v is)

-- WHAT IS READ

-- the tables agree on the kind and the class of the locations of a name, and on the class of its numbers
abbrev pub described : Option LocName → Option (LocKind × Class)
described found = option_map (λ loc. (loc.kind, loc.class)) found

abbrev pub classed : Option NumName → Option Class
classed found = option_map (λ num. num.class) found

-- a word that begins with `'`
pub variable_word : (P : List ℕ → Type 0) (bytes : List ℕ) → is_variable bytes ≡ true → ((rest : List ℕ) → P (39 ∷ rest))
    → P bytes
variable_word P [] is each = absurd cc
variable_word P (b ∷ bytes) is each = subst (λ b. P (b ∷ bytes)) (sym (eqb-true b 39 is)) (each bytes)

-- a holder is the word `game`, a variable, or a list
pub held : (scope : Scope) (who : Who) (P : Tree → Type 0) (tree : Tree) → StandsHolder scope who tree
    → ((from to : ℕ) → P (word (codes "game") from to)) → ((rest : List ℕ) (from to : ℕ) → P (word (39 ∷ rest) from to))
    → ((parts : Trees) (from to : ℕ) → P (list parts from to)) → P tree
held scope who P (list parts from to) stands plain bound row = row parts from to
held scope game P (word bytes from to) stands plain bound row = subst (λ b. P (word b from to)) (sym stands) (plain from to)
held scope (who_var var) P (word bytes from to) stands plain bound row =
    variable_word (λ b. P (word b from to)) bytes stands.1 (λ rest. bound rest from to)
held scope current_player P (word bytes from to) stands plain bound row = absurd stands
held scope current_team P (word bytes from to) stands plain bound row = absurd stands
held scope team_of_current P (word bytes from to) stands plain bound row = absurd stands
held scope (team_of_var var) P (word bytes from to) stands plain bound row = absurd stands

-- the kind of a word of a kind
kind_known : (kind : LocKind) → kind_by (kind_bytes kind) ≡ kind
kind_known vloc = refl
kind_known kind = refl

-- one description for one word and one class
one_description : (x y : Option LocName) (bytes : List ℕ) (class : Class)
    → option_map (λ loc. kind_bytes loc.kind) x ≡ Some bytes → option_map (λ loc. loc.class) x ≡ Some class
    → option_map (λ loc. kind_bytes loc.kind) y ≡ Some bytes → option_map (λ loc. loc.class) y ≡ Some class
    → described x ≡ described y
one_description None y bytes class k c k' c' = absurd cc
one_description (Some x) None bytes class k c k' c' = absurd cc
one_description (Some x) (Some y) bytes class k c k' c' =
    let kinds : x.kind ≡ y.kind =
    sym (kind_known x.kind) ∙ ap kind_by (same_Some _ _ k ∙ sym (same_Some _ _ k')) ∙ kind_known y.kind in
    let classes : x.class ≡ y.class = same_Some _ _ c ∙ sym (same_Some _ _ c') in
    ap₂ (λ k c. Some (k, c)) kinds classes

-- the same, where the words stand in one form
pub kinds_agree : (x y : Option LocName) (tree : Tree) (class : Class)
    → Word (λ bytes. option_map (λ loc. kind_bytes loc.kind) x ≡ Some bytes) tree → option_map (λ loc. loc.class) x ≡ Some class
    → Word (λ bytes. option_map (λ loc. kind_bytes loc.kind) y ≡ Some bytes) tree → option_map (λ loc. loc.class) y ≡ Some class
    → described x ≡ described y
kinds_agree x y (word bytes from to) class k c k' c' = one_description x y bytes class k c k' c'
kinds_agree x y (list parts from to) class k c k' c' = absurd k

-- a name, and a variable, by a form
pub named_once : (words : List (List ℕ)) (m n : ℕ) (tree : Tree) → Alone words → Named words m tree → Named words n tree → m ≡ n
named_once words m n (word bytes from to) alone is is' = alone m n bytes is.0 is'.0
named_once words m n (list parts from to) alone is is' = absurd is

pub bound_once : (naming : Naming) (m n : ℕ) (tree : Tree) → Alone naming.names.vars → Binder naming m tree → Binder naming n tree
    → m ≡ n
bound_once naming m n (word bytes from to) alone is is' = alone m n bytes is.0 is'.0
bound_once naming m n (list parts from to) alone is is' = absurd is

-- a variable in scope is read as its place
pub one_variable : (scope : Scope) (sort : Sort) (var : ℕ) (bytes : List ℕ) (from to : ℕ) → Apart scope
    → InScope scope sort var (word bytes from to) → Means (variable_in scope sort bytes) (λ v. v ≡ var)
one_variable scope sort var bytes from to apart_all stands =
    weaker (variable_in scope sort bytes) (variable_means scope sort bytes from to)
    (λ v is. apart_all v var _ _ is.0 stands.0 refl)

-- PLAYER and OWNER
pub one_player_var : (scope : Scope) (var : ℕ) (tree : Tree) → Apart scope → InScope scope player_sort var tree
    → Means (player_at scope tree) (λ w. w ≡ who_var var)
unfolding player_at
one_player_var scope var (word bytes from to) alone stands =
    mapped (variable_in scope player_sort bytes) who_var (one_variable scope player_sort var bytes from to alone stands)
    (λ v is. ap who_var is)
one_player_var scope var (list parts from to) alone stands = absurd stands

-- the forms of owners
pub owner_forms : (scope : Scope) (P : Who → Tree → Type 0)
    → ((f t f' t' from to : ℕ)
    → P current_player (list (cons (word (codes "current") f t) (cons (word (codes "player") f' t') nil)) from to))
    → ((f t f' t' from to : ℕ)
    → P current_team (list (cons (word (codes "current") f t) (cons (word (codes "team") f' t') nil)) from to))
    → ((f t f' t' g u g' u' start end from to : ℕ)
    → P team_of_current (list (cons (word (codes "team") f t) (cons (word (codes "of") f' t')
    (cons (list (cons (word (codes "current") g u) (cons (word (codes "player") g' u') nil)) start end) nil))) from to))
    → ((f t f' t' from to var : ℕ) (player : Tree) → InScope scope player_sort var player
    → P (team_of_var var) (list (cons (word (codes "team") f t) (cons (word (codes "of") f' t') (cons player nil))) from to))
    → ((bytes : List ℕ) (from to var : ℕ) → InScope scope player_sort var (word bytes from to)
    → P (who_var var) (word bytes from to))
    → (who : Who) (tree : Tree) → StandsOwner scope who tree → P who tree
owner_forms scope P player team of_player of_var var game tree stands = absurd stands
owner_forms scope P player team of_player of_var var current_player tree stands =
    row_word "current" "player" (P current_player) tree stands player
owner_forms scope P player team of_player of_var var current_team tree stands =
    row_word "current" "team" (P current_team) tree stands team
owner_forms scope P player team of_player of_var var team_of_current tree stands =
    row_word_part "team" "of" (Row (Atom "current" ▸ Atom "player" ▸ End)) (P team_of_current) tree stands
    (λ f t f' t' from to inner row. row_word "current" "player"
    (λ inner. P team_of_current (list (cons (word (codes "team") f t) (cons (word (codes "of") f' t') (cons inner nil))) from to))
    inner row (λ g u g' u' start end. of_player f t f' t' g u g' u' start end from to))
owner_forms scope P player team of_player of_var var (team_of_var v) tree stands =
    row_word_part "team" "of" (InScope scope player_sort v) (P (team_of_var v)) tree stands
    (λ f t f' t' from to inner is. of_var f t f' t' from to v inner is)
owner_forms scope P player team of_player of_var var (who_var v) (word bytes from to) stands = var bytes from to v stands
owner_forms scope P player team of_player of_var var (who_var v) (list parts from to) stands = absurd stands

pub one_owner : (scope : Scope) (who : Who) (tree : Tree) → Apart scope → StandsOwner scope who tree
    → Means (owner_at scope tree) (λ w. w ≡ who)
unfolding owner_at player_at
one_owner scope who tree alone stands =
    owner_forms scope (λ who tree. Means (owner_at scope tree) (λ w. w ≡ who))
    (λ f t f' t' from to. something current_player refl)
    (λ f t f' t' from to. something current_team refl)
    (λ f t f' t' g u g' u' start end from to. something team_of_current refl)
    (λ f t f' t' from to var player is. mapped (player_at scope player) team_of (one_player_var scope var player alone is)
    (λ w is. ap team_of is))
    (λ bytes from to var is. mapped (variable_in scope player_sort bytes) who_var
    (one_variable scope player_sort var bytes from to alone is) (λ v is. ap who_var is))
    who tree stands

-- HOLDER
no_game : (scope : Scope) (who : Who) (tree : Tree) → StandsOwner scope who tree → is_form_word keyword.Game tree ≡ false
no_game scope (who_var var) (word bytes from to) stands =
    variable_word (λ b. is_form_word keyword.Game (word b from to) ≡ false) bytes stands.1 (λ rest. refl)
no_game scope game (word bytes from to) stands = absurd stands
no_game scope current_player (word bytes from to) stands = absurd stands
no_game scope current_team (word bytes from to) stands = absurd stands
no_game scope team_of_current (word bytes from to) stands = absurd stands
no_game scope (team_of_var var) (word bytes from to) stands = absurd stands
no_game scope who (list parts from to) stands = refl

abbrev HolderIs : Scope → Who → Tree → Type 0
HolderIs scope who tree = Means (holder_at scope tree) (λ w. w ≡ who)

owner_holds : (scope : Scope) (who : Who) (tree : Tree) → Apart scope → StandsOwner scope who tree → HolderIs scope who tree
owner_holds scope who tree alone stands =
    subst (λ b. Means (cond b (Some game) (owner_at scope tree)) (λ w. w ≡ who)) (sym (no_game scope who tree stands))
    (one_owner scope who tree alone stands)

pub one_holder : (scope : Scope) (who : Who) (tree : Tree) → Apart scope → StandsHolder scope who tree → HolderIs scope who tree
one_holder scope game (word bytes from to) alone stands =
    subst (λ b. HolderIs scope game (word b from to)) (sym stands) (something game refl)
one_holder scope game (list parts from to) alone stands = absurd stands
one_holder scope current_player tree alone stands = owner_holds scope current_player tree alone stands
one_holder scope current_team tree alone stands = owner_holds scope current_team tree alone stands
one_holder scope team_of_current tree alone stands = owner_holds scope team_of_current tree alone stands
one_holder scope (team_of_var var) tree alone stands = owner_holds scope (team_of_var var) tree alone stands
one_holder scope (who_var var) tree alone stands = owner_holds scope (who_var var) tree alone stands

-- a place takes lists that begin with a holder as forms of this rule
abbrev pub TakesHeld : Symbol → Rule → Type 0
TakesHeld q r =
    (scope : Scope) (who : Who) (holder kind name : Tree) → StandsHolder scope who holder
    → rule_at q (cons holder (cons kind (cons name nil))) ≡ Some r

-- it does where it takes those that begin with `game`, with a variable and with a list
takes_held : (q : Symbol) (r : Rule)
    → ((f t : ℕ) (kind name : Tree) → rule_at q (cons (word (codes "game") f t) (cons kind (cons name nil))) ≡ Some r)
    → ((rest : List ℕ) (f t : ℕ) (kind name : Tree)
    → rule_at q (cons (word (39 ∷ rest) f t) (cons kind (cons name nil))) ≡ Some r)
    → ((parts : Trees) (f t : ℕ) (kind name : Tree) → rule_at q (cons (list parts f t) (cons kind (cons name nil))) ≡ Some r)
    → TakesHeld q r
takes_held q r plain bound row scope who holder kind name stands =
    held scope who (λ holder. rule_at q (cons holder (cons kind (cons name nil))) ≡ Some r) holder stands
    (λ f t. plain f t kind name) (λ rest f t. bound rest f t kind name) (λ parts f t. row parts f t kind name)

-- the rule of a location's form, and of a stored number's
pub loc_rule_in_cards : TakesHeld symbol.Collection rule.Location
loc_rule_in_cards =
    takes_held symbol.Collection rule.Location (λ f t kind name. refl) (λ rest f t kind name. refl) (λ parts f t kind name. refl)

pub loc_rule_in_domain : TakesHeld symbol.Domain rule.Location
loc_rule_in_domain =
    takes_held symbol.Domain rule.Location (λ f t kind name. refl) (λ rest f t kind name. refl) (λ parts f t kind name. refl)

pub loc_rule_in_members : TakesHeld symbol.Members rule.Location
loc_rule_in_members =
    takes_held symbol.Members rule.Location (λ f t kind name. refl) (λ rest f t kind name. refl) (λ parts f t kind name. refl)

pub loc_rule_alone : TakesHeld symbol.Location rule.Location
loc_rule_alone =
    takes_held symbol.Location rule.Location (λ f t kind name. refl) (λ rest f t kind name. refl) (λ parts f t kind name. refl)

pub num_rule_in_numbers : TakesHeld symbol.Integer rule.Counter
num_rule_in_numbers =
    takes_held symbol.Integer rule.Counter (λ f t kind name. refl) (λ rest f t kind name. refl) (λ parts f t kind name. refl)

pub num_rule_in_sides : TakesHeld symbol.Side rule.Counter
num_rule_in_sides =
    takes_held symbol.Side rule.Counter (λ f t kind name. refl) (λ rest f t kind name. refl) (λ parts f t kind name. refl)

pub num_rule_alone : TakesHeld symbol.Counter rule.Counter
num_rule_alone =
    takes_held symbol.Counter rule.Counter (λ f t kind name. refl) (λ rest f t kind name. refl) (λ parts f t kind name. refl)

-- a list of so many parts as its rule wants is of that rule
pub rule_told : (q : Symbol) (parts : Trees) (r : Rule) → rule_at q parts ≡ Some r → rule_of q parts ≡ Some r
rule_told q parts r is = by (rule_of q parts) is
  where
    fit : (b : Bool) (found : Rule) → cond b (Some found) None ≡ Some r → Some found ≡ Some r
    fit true found is = is
    fit false found is = absurd cc

    by : (found : Option Rule) → sized (count parts) found ≡ Some r → found ≡ Some r
    by None is = absurd cc
    by (Some found) is = fit (fits (count parts) found) found is

-- A sheet, and a naming that a form is read by.
module _ (sheet : Sheet) (told : Naming) where
  -- the names of the sheet, with that naming's tables
  abbrev pub along : Naming
  along = record { names = sheet.names; locs = told.locs; nums = told.nums }

  -- the sheet's tables and that naming's agree at what is mentioned
  abbrev pub Agrees : Mention → Type 0
  Agrees (loc_name n) =
      (bytes : List ℕ) × (slice_get sheet.names.locs n ≡ Some bytes)
      × (described (slice_get sheet.locs n) ≡ described (slice_get told.locs n))
  Agrees (num_name n) =
      (bytes : List ℕ) × (slice_get sheet.names.nums n ≡ Some bytes)
      × (classed (slice_get sheet.nums n) ≡ classed (slice_get told.nums n))
  Agrees mention = Unit {0}

  abbrev pub Agree : List Mention → Type 0
  Agree [] = Unit {0}
  Agree (mention ∷ mentions) = Agrees mention × Agree mentions

  pub agree_append : (xs ys : List Mention) → Agree xs → Agree ys → Agree (xs ++ ys)
  agree_append [] ys all more = more
  agree_append (x ∷ xs) ys all more = (all.0, agree_append xs ys all.1 more)

  -- if anything is read it is this, and all agree at what it mentions
  abbrev pub Only : {A : Type 0} → A → List Mention → Option A → Type 0
  Only a mentions found = Means found (λ b. (b ≡ a) × Agree mentions)

  pub only_quiet : {A : Type 0} (a : A) (found : Option A) → Means found (λ b. b ≡ a) → Only a [] found
  only_quiet a found means = weaker found means (λ b is. (is, tt))

  pub only_map : {A B : Type 0} (f : A → B) (a : A) (ms : List Mention) (found : Option A) → Only a ms found
      → Only (f a) ms (option_map f found)
  only_map f a ms found one = mapped found f one (λ b is. (ap f is.0, is.1))

  pub only_both : {A B : Type 0} (a : A) (b : B) (ms ms' : List Mention) (found : Option A) (found' : Option B)
      → Only a ms found → Only b ms' found' → Only (a, b) (ms ++ ms') (both found found')
  only_both a b ms ms' found found' one other =
      weaker (both found found') (both_mean found found' one other)
      (λ p is. (ap₂ (λ x y. (x, y)) is.0.0 is.1.0, agree_append ms ms' is.0.1 is.1.1))

  pub only_pair : {A B C : Type 0} (f : A → B → C) (a : A) (b : B) (ms ms' : List Mention) (found : Option A)
      (found' : Option B) → Only a ms found → Only b ms' found'
      → Only (f a b) (ms ++ ms') (option_map (λ p. f p.0 p.1) (both found found'))
  only_pair f a b ms ms' found found' one other =
      only_map (λ p. f p.0 p.1) (a, b) (ms ++ ms') (both found found') (only_both a b ms ms' found found' one other)

  pub only_then : {A B : Type 0} (f : A → Option B) (a : A) (b : B) (ms ms' : List Mention) (found : Option A) → Only a ms found
      → Only b ms' (f a) → Only b (ms ++ ms') (found >>= f)
  only_then f a b ms ms' found one other =
      behind found f one
      (λ x is. subst (λ x. Only b (ms ++ ms') (f x)) (sym is.0)
      (weaker (f a) other (λ y is'. (is'.0, agree_append ms ms' is.1 is'.1))))

  pub only_ensured : {B : Type 0} (holds : Bool) (f : Unit {0} → Option B) (b : B) (ms : List Mention)
      → (holds ≡ true → Only b ms (f tt)) → Only b ms (ensure holds >>= f)
  only_ensured true f b ms each = each refl
  only_ensured false f b ms each = nothing

  pub only_said : {A : Type 0} (a : A) (ms ms' : List Mention) (found : Option A) → ms ≡ ms' → Only a ms found → Only a ms' found
  only_said a ms ms' found same one = subst (λ ms. Only a ms found) same one

  pub by_rule : {A B : Type 0} (r : A) (f : A → Option B) (b : B) (ms : List Mention) (found : Option A) → found ≡ Some r
      → Only b ms (f r) → Only b ms (found >>= f)
  by_rule r f b ms found is one = subst (λ o. Only b ms (o >>= f)) (sym is) one

  pub only_made : {A B : Type 0} (f : A → Option B) (a : A) (b : B) (ms : List Mention) (found : Option A) → f a ≡ Some b
      → Only a ms found → Only b ms (found >>= f)
  only_made f a b ms found makes one =
      behind found f one
      (λ x is. subst (λ x. Only b ms (f x)) (sym is.0) (subst (Only b ms) (sym makes) (something b (refl, is.1))))

  pub only_sized : {B : Type 0} (n : ℕ) (r : Rule) (f : Rule → Option B) (b : B) (ms : List Mention) → Only b ms (f r)
      → Only b ms (sized n (Some r) >>= f)
  only_sized {B} n r f b ms one = by (fits n r)
    where
      by : (fit : Bool) → Only b ms (cond fit (Some r) None >>= f)
      by true = one
      by false = nothing

  pub of_rule : {A B : Type 0} (r : A) (f : A → Option B) (b : B) (ms : List Mention) (found : Option A) → found ≡ Some r
      → Only b ms (found >>= f) → Only b ms (f r)
  of_rule r f b ms found is one = subst (λ o. Only b ms (o >>= f)) is one

  pub sized_too : {B C : Type 0} (n : ℕ) (r : Rule) (f : Rule → Option B) (g : Rule → Option C) (b : B) (c : C)
      (ms : List Mention) → (Only b ms (f r) → Only c ms (g r)) → Only b ms (sized n (Some r) >>= f)
      → Only c ms (sized n (Some r) >>= g)
  sized_too {B} {C} n r f g b c ms more = by (fits n r)
    where
      by : (fit : Bool) → Only b ms (cond fit (Some r) None >>= f) → Only c ms (cond fit (Some r) None >>= g)
      by true one = more one
      by false one = nothing

  -- names and binders
  pub one_name : (words : List (List ℕ)) (n : ℕ) (tree : Tree) → Alone words → Named words n tree → Only n [] (name_at words tree)
  one_name words n tree alone named =
      only_quiet n (name_at words tree)
      (weaker (name_at words tree) (name_means words tree) (λ m is. named_once words m n tree alone is named))

  pub one_attr : (n : ℕ) (tree : Tree) → Differ sheet.names → Named sheet.names.attrs n tree
      → Only n (attr_name n ∷ []) (name_at sheet.names.attrs tree)
  one_attr n tree differ named =
      weaker (name_at sheet.names.attrs tree) (one_name sheet.names.attrs n tree differ.attrs named) (λ m is. (is.0, (tt, tt)))

  pub one_value : (n : ℕ) (tree : Tree) → Differ sheet.names → Named sheet.names.values n tree
      → Only n (value_name n ∷ []) (name_at sheet.names.values tree)
  one_value n tree differ named =
      weaker (name_at sheet.names.values tree) (one_name sheet.names.values n tree differ.values named)
      (λ m is. (is.0, (tt, tt)))

  pub one_binder : (scope : Scope) (bound : ℕ) (tree : Tree) → Differ sheet.names → Binder (sheet_naming sheet) bound tree
      → Only bound (var_name bound ∷ []) (binder_at sheet.names.vars scope tree)
  one_binder scope bound tree differ binds =
      weaker (binder_at sheet.names.vars scope tree) (binder_means (sheet_naming sheet) scope tree)
      (λ m is. (bound_once (sheet_naming sheet) m bound tree differ.vars is binds, (tt, tt)))

  pub one_map : (n f t : ℕ) (tree : Tree) → Differ sheet.names → Named sheet.names.maps n tree
      → Only n (map_name n ∷ []) (map_at along (word (codes "using") f t) tree)
  unfolding map_at
  one_map n f t tree differ named =
      weaker (name_at sheet.names.maps tree) (one_name sheet.names.maps n tree differ.maps named) (λ m is. (is.0, (tt, tt)))

  -- LOC
  pub one_loc_parts : (scope : Scope) (loc : Loc) (parts : Trees) (from to : ℕ) → Differ sheet.names → Apart scope
      → StandsLoc (sheet_naming sheet) scope loc (list parts from to)
      → Only loc (loc_name loc.name ∷ []) (loc_parts along scope from parts)
  unfolding loc_parts
  one_loc_parts scope loc (cons holder (cons kind (cons name nil))) from to differ alone stands =
      only_then _ loc.who loc [] (loc_name loc.name ∷ []) (holder_at scope holder)
      (only_quiet loc.who (holder_at scope holder) (one_holder scope loc.who holder alone stands.0.0))
      (only_then _ loc.name loc [] (loc_name loc.name ∷ []) (name_at sheet.names.locs name)
      (one_name sheet.names.locs loc.name name differ.locs stands.0.1.1.0)
      (only_ensured (is_loc_name kind (class_of loc.who) (slice_get told.locs loc.name)) _ loc (loc_name loc.name ∷ [])
      (λ fine. something (record { who = loc.who; name = loc.name; at = from }) (
        ap (λ (at : ℕ). record { who = loc.who; name = loc.name; at = at }) (sym stands.2),
        (
          located name stands.0.1.1.0
              (let known = loc_name_means kind (class_of loc.who) (slice_get told.locs loc.name) fine in
              kinds_agree (slice_get sheet.locs loc.name) (slice_get told.locs loc.name) kind
              (class_of loc.who) stands.0.1.0 stands.1
              known.0 known.1),
          tt,
        ),
      ))))
    where
      located : (name : Tree) → Named sheet.names.locs loc.name name
          → described (slice_get sheet.locs loc.name) ≡ described (slice_get told.locs loc.name) → Agrees (loc_name loc.name)
      located (word bytes f t) named same = (bytes, named.0, same)
      located (list parts f t) named same = absurd named
  one_loc_parts scope loc parts from to differ alone stands = nothing

  pub one_loc : (scope : Scope) (loc : Loc) (tree : Tree) → Differ sheet.names → Apart scope
      → StandsLoc (sheet_naming sheet) scope loc tree → Only loc (loc_name loc.name ∷ []) (loc_at along scope tree)
  unfolding loc_at
  one_loc scope loc tree differ alone stands =
      three_parts (StandsHolder scope loc.who) (KindOf (sheet_naming sheet) loc.name) (Named sheet.names.locs loc.name)
      (λ tree. StandsLoc (sheet_naming sheet) scope loc tree → Only loc (loc_name loc.name ∷ []) (loc_at along scope tree))
      tree stands.0
      (λ holder kind name from to holds k n stands'. by_rule rule.Location _ loc (loc_name loc.name ∷ [])
      (rule_at symbol.Location (cons holder (cons kind (cons name nil))))
      (loc_rule_alone scope loc.who holder kind name holds)
      (one_loc_parts scope loc (cons holder (cons kind (cons name nil))) from to differ alone stands'))
      stands

  -- NUM
  pub one_num_parts : (scope : Scope) (num : Num) (parts : Trees) (from to : ℕ) → Differ sheet.names → Apart scope
      → StandsNum (sheet_naming sheet) scope num (list parts from to)
      → Only num (num_name num.name ∷ []) (num_parts along scope parts)
  unfolding num_parts
  one_num_parts scope num (cons holder (cons sto (cons name nil))) from to differ alone stands =
      only_ensured (is_form_word keyword.Sto sto) _ num (num_name num.name ∷ [])
      (λ stored. only_then _ num.who num [] (num_name num.name ∷ []) (holder_at scope holder)
      (only_quiet num.who (holder_at scope holder) (one_holder scope num.who holder alone stands.0.0))
      (only_then _ num.name num [] (num_name num.name ∷ []) (name_at sheet.names.nums name)
      (one_name sheet.names.nums num.name name differ.nums stands.0.1.1.0)
      (only_ensured (is_num_name (class_of num.who) (slice_get told.nums num.name)) _ num (num_name num.name ∷ [])
      (λ fine. something (record { who = num.who; name = num.name }) (
        refl,
        (
          counted name stands.0.1.1.0
              (stands.1 ∙ sym (num_name_means (class_of num.who) (slice_get told.nums num.name) fine)),
          tt,
        ),
      )))))
    where
      counted : (name : Tree) → Named sheet.names.nums num.name name
          → classed (slice_get sheet.nums num.name) ≡ classed (slice_get told.nums num.name) → Agrees (num_name num.name)
      counted (word bytes f t) named same = (bytes, named.0, same)
      counted (list parts f t) named same = absurd named
  one_num_parts scope num parts from to differ alone stands = nothing

  pub one_num : (scope : Scope) (num : Num) (tree : Tree) → Differ sheet.names → Apart scope
      → StandsNum (sheet_naming sheet) scope num tree → Only num (num_name num.name ∷ []) (num_at along scope tree)
  unfolding num_at
  one_num scope num tree differ alone stands =
      three_parts (StandsHolder scope num.who) (Atom "sto") (Named sheet.names.nums num.name)
      (λ tree. StandsNum (sheet_naming sheet) scope num tree → Only num (num_name num.name ∷ []) (num_at along scope tree))
      tree stands.0
      (λ holder kind name from to holds k n stands'. by_rule rule.Counter _ num (num_name num.name ∷ [])
      (rule_at symbol.Counter (cons holder (cons kind (cons name nil))))
      (num_rule_alone scope num.who holder kind name holds)
      (one_num_parts scope num (cons holder (cons kind (cons name nil))) from to differ alone stands'))
      stands
