-- Lists of one form have no fault by themselves where their parts have none: the forms of cards, of numbers and of tests.
use Rattle.std.proofs.Common.{◌≡◌, ℕ, suc, Bool, true, false, not, cond, List, [], ◌∷◌, ◌++◌, Option, Some, is_some, slice_get, bytes_eq, nat_le, refl, sym, subst, ap, ap₂, ◌∙◌, arith}
use Prim.Native.String.{String}
use Rattle.std.specs.Prelude.{codes, ℤ, slice_index_or}
use Rattle.std.specs.List.{list_any}
use Rattle.std.proofs.lemmas.Option.{get_or_from_slice_get}
use Rattle.std.proofs.lemmas.Bool.{cond-true, cond-false, or_parts, lt-leb}
use Rattle.std.proofs.lemmas.Slice.Eq.{bytes_eq-Decides}
use Rattle.rc_base.specs.Literal.{integer}
use Rattle.rc_base.specs.Tree.{Tree, word, list, Trees, nil, cons}
use Rattle.rc_sheet_spec.specs.Sheet.{Class, game_class, player_class, team_class, Sort, player_sort, card_sort, group_sort, Who, CollExpr, group_var, cards_in, filtered, union_of, known_in, Domain, each_player, each_card, each_group, Sheet}
use Rattle.rc_base.specs.Limits.{most_variables}
use Rattle.rc_sheet_spec.specs.Rows.{Atom}
use Rattle.rc_sheet_spec.specs.Naming.{Naming, Scope, sort_of, class_of, Named, Binder, InScope, KindOf}
use Rattle.rc_sheet_spec.specs.StandsExpressions.{StandsOwner, StandsHolder, StandsColl, StandsRange, StandsDomain}
use Rattle.rc_sheet_spec.specs.WellFormed.{Around, IsAttr, IsValue, IsMap, IsBinder, behind}
use Rattle.rc_check.specs.Faults.{is_variable, rule_of}
use Rattle.rc_check.specs.declared.keyword.Keyword.{Keyword}
use Rattle.rc_check.specs.declared.grammar.Symbol.{Symbol}
use Rattle.rc_check.specs.declared.grammar.Symbol.TheVariants as symbol
use Rattle.rc_check.specs.declared.grammar.Rule.{Rule}
use Rattle.rc_check.specs.declared.grammar.Rule.TheVariants as rule
use Rattle.rc_check.specs.Classes.{bound_in}
use Rattle.rc_check.specs.declared.role.Role.TheVariants.{No as no_role, UsedAttribute as used_attribute, UsedValue as used_value, UsedMap as used_map, SecondSide as second_side}
use Rattle.rc_check.specs.declared.role.SideSort.{SideSort}
use Rattle.rc_check.specs.declared.role.SideSort.TheVariants.{Number as number_side, Card as card_side, Value as value_side, Player as player_side, Team as team_side}
use Rattle.rc_check.specs.SecondParts.{Standing, Part, parts_at, standing_in, is_binder, part_at, word_in, sort_over}
use Rattle.rc_check.specs.SecondFaults.{side_of, side_of_sort, side_of_variable, differ, same_side, variable_in}
use Rattle.rc_sheet.proofs.GoodParts.{Each}
use Rattle.rc_sheet.proofs.One.Rows.{behind_word, row_one, row_two, row_three, three_parts}
use Rattle.rc_sheet.proofs.One.Names.{Apart, variable_word, held, owner_forms, more_apart}
use Rattle.rc_sheet.proofs.One.Expressions.{variable_unread}
use Rattle.rc_sheet.proofs.Sound.Parts.{standing, StandAt, IsRow, head_seat, plain_seat, all_join, AllSound, Sound, sound_alone, plain_atom, constant_atom, plain_word, FormSound, sound_list, easy_sound, told_then, rest_sound, AreGiven}
use Rattle.rc_sheet.proofs.Sound.Names.{found_at, fixed}

-- SORTS

-- cards are no players and no groups
pub cards_sort : (naming : Naming) (scope : Scope) (cards : CollExpr) (tree : Tree) → StandsColl naming scope cards tree
    → sort_over tree ≡ card_sort
cards_sort naming scope (group_var var) (word bytes from to) stands =
    variable_word (λ b. sort_over (word b from to) ≡ card_sort) bytes stands.1 (λ rest. refl)
cards_sort naming scope (group_var var) (list parts from to) stands = absurd stands
cards_sort naming scope (cards_in loc) tree stands =
    three_parts (StandsHolder scope loc.who) (KindOf naming loc.name) (Named naming.names.locs loc.name)
    (λ tree. sort_over tree ≡ card_sort) tree stands.0
    (λ holder kind name from to holds k n.
    held scope loc.who (λ holder. sort_over (list (cons holder (cons kind (cons name nil))) from to) ≡ card_sort) holder holds
    (λ f t. refl) (λ rest f t. refl) (λ parts f t. refl))
cards_sort naming scope (filtered cards bound t) tree stands =
    row_three "filter" _ _ _ (λ tree. sort_over tree ≡ card_sort) tree stands (λ f g from to c v x here binds there. refl)
cards_sort naming scope (union_of parts) tree stands =
    behind_word "union" _ (λ tree. sort_over tree ≡ card_sort) tree stands (λ f t from to ps here. refl)
cards_sort naming scope (known_in loc) tree stands =
    row_one "known" _ (λ tree. sort_over tree ≡ card_sort) tree stands (λ f t from to l here. refl)

pub domain_sort : (naming : Naming) (scope : Scope) (domain : Domain) (tree : Tree) → StandsDomain naming scope domain tree
    → sort_over tree ≡ sort_of domain
domain_sort naming scope each_player (word bytes from to) stands =
    subst (λ b. sort_over (word b from to) ≡ player_sort) (sym stands) refl
domain_sort naming scope each_player (list parts from to) stands = absurd stands
domain_sort naming scope (each_card cards) tree stands = cards_sort naming scope cards tree stands
domain_sort naming scope (each_group cards attr) tree stands =
    row_two "partition" _ _ (λ tree. sort_over tree ≡ group_sort) tree stands (λ f t from to c n here named. refl)

pub range_sort : (naming : Naming) (scope : Scope) (domain : Domain) (tree : Tree) → StandsRange naming scope domain tree
    → sort_over tree ≡ sort_of domain
range_sort naming scope each_player tree stands = domain_sort naming scope each_player tree stands
range_sort naming scope (each_card cards) tree stands = cards_sort naming scope cards tree stands
range_sort naming scope (each_group cards attr) tree stands = absurd stands

-- SIDES

-- sides of one sort don't differ
pub sides_same : (side : SideSort) (first second : Option SideSort) → first ≡ Some side → second ≡ Some side
    → differ first second ≡ false
sides_same side first second is is' = ap₂ differ is is' ∙ alike side
  where
    alike : (side : SideSort) → not (same_side side side) ≡ false
    alike number_side = refl
    alike side = refl

-- the sort of an owner as a side
abbrev pub side_of_class : Class → SideSort
side_of_class game_class = player_side
side_of_class player_class = player_side
side_of_class team_class = team_side

-- a variable as a side
pub var_side : (scope : Scope) (sort : Sort) (var : ℕ) (side : SideSort) (bytes : List ℕ) (from to : ℕ) → Apart scope
    → InScope scope sort var (word bytes from to) → side_of_sort sort ≡ Some side
    → side_of scope (word bytes from to) ≡ Some side
var_side scope sort var side bytes from to alone stands is =
    let found : variable_in scope bytes ≡ Some (record { word = bytes; sort = sort }) =
    found_at scope var (record { word = bytes; sort = sort }) alone stands.0 in
    cond-true (is_variable bytes) _ _ stands.1 ∙ ap side_of_variable found ∙ is

-- a literal is no variable
pub literal_constant : (bytes : List ℕ) (value : ℤ) → integer bytes ≡ Some value → is_variable bytes ≡ false
literal_constant bytes value said = by (is_variable bytes) refl
  where
    by : (b : Bool) → is_variable bytes ≡ b → b ≡ false
    by true is = absurd (variable_unread bytes value is said)
    by false is = refl

pub literal_side : (scope : Scope) (value : ℤ) (bytes : List ℕ) (from to : ℕ) → integer bytes ≡ Some value
    → side_of scope (word bytes from to) ≡ Some number_side
literal_side scope value bytes from to said = cond-false (is_variable bytes) _ _ (literal_constant bytes value said)

pub owner_side : (scope : Scope) (who : Who) (tree : Tree) → Apart scope → StandsOwner scope who tree
    → side_of scope tree ≡ Some (side_of_class (class_of who))
owner_side scope who tree alone stands =
    owner_forms scope (λ who tree. side_of scope tree ≡ Some (side_of_class (class_of who)))
    (λ f t f' t' from to. refl)
    (λ f t f' t' from to. refl)
    (λ f t f' t' g u g' u' start end from to. refl)
    (λ f t f' t' from to var player is. refl)
    (λ bytes from to var is. var_side scope player_sort var player_side bytes from to alone is refl)
    who tree stands

-- BINDERS

-- a variable that isn't in scope isn't found
not_found : (scope : Scope) (bytes : List ℕ) → list_any (λ variable. bytes_eq variable.word bytes) scope ≡ false
    → is_some (variable_in scope bytes) ≡ false
not_found [] bytes none = refl
not_found (x ∷ scope) bytes none =
    let both = or_parts (bytes_eq x.word bytes) (list_any (λ variable. bytes_eq variable.word bytes) scope) none in
    by (bytes_eq bytes x.word) refl both.0 (not_found scope bytes both.1)
  where
    by : (b : Bool) → bytes_eq bytes x.word ≡ b → bytes_eq x.word bytes ≡ false → is_some (variable_in scope bytes) ≡ false
        → is_some (cond b (Some x) (variable_in scope bytes)) ≡ false
    by true same other later =
        let equal = (bytes_eq-Decides x.word bytes).1 (sym ((bytes_eq-Decides bytes x.word).0 same)) in absurd cc
    by false same other later = later

-- a binder's variable is a word
pub bound_word : (naming : Naming) (bound : ℕ) (P : Tree → Type 0) (tree : Tree) → Binder naming bound tree
    → ((bytes : List ℕ) (f t : ℕ) → slice_get naming.names.vars bound ≡ Some bytes → P (word bytes f t)) → P tree
bound_word naming bound P (word bytes f t) stands each = each bytes f t stands.0
bound_word naming bound P (list parts f t) stands each = absurd stands

-- A sheet, and all parts of a form, which give what the sheet's setup gives.
module _ (sheet : Sheet) (all : List Part) (given : AreGiven sheet all) where
  -- a part of a list that is sound without a role, before others
  pub then : (q : Symbol) (around : Around) (beside : Trees) (above : List (List ℕ)) (tree : Tree) (later : List Part)
      → Sound sheet all q around tree → AllSound sheet all later
      → AllSound sheet all (parts_at (Some (standing q around no_role beside above)) tree ++ later)
  then q around beside above tree later sound more =
      all_join sheet all (parts_at (Some (standing q around no_role beside above)) tree) later
      (sound_alone sheet all q around tree beside above sound) more

  -- a fixed word that isn't a head
  pub fixed_tree : (text : String) (k : Keyword) (around : Around) (tree : Tree) → Atom text tree
      → Sound sheet all (symbol.Word k) around tree
  fixed_tree text k around (word bytes from to) is = plain_word sheet all (symbol.Word k) around bytes from to refl
  fixed_tree text k around (list parts from to) is = absurd is

  -- the word `player` where cards may stand too
  pub player_sound : (q : Symbol) (around : Around) (tree : Tree) → Atom "player" tree → Sound sheet all q around tree
  player_sound q around (word bytes from to) is role beside above plain = (
    constant_atom sheet all (standing q around role beside above) bytes from (ap is_variable is) (plain.named bytes)
        plain.other,
    tt,
  )
  player_sound q around (list parts from to) is role beside above plain = absurd is

  -- ATTR, VALUE and MAP where they are used
  pub attr_sound : (around : Around) (n : ℕ) (tree : Tree) (beside : Trees) (above : List (List ℕ))
      → Named sheet.names.attrs n tree → IsAttr sheet n
      → AllSound sheet all (parts_at (Some (standing symbol.Name around used_attribute beside above)) tree)
  attr_sound around n (word bytes from to) beside above named is = (
    plain_atom sheet all (standing symbol.Name around used_attribute beside above) bytes from refl
        (ap not (given.attrs n bytes named.0 is)) refl,
    tt,
  )
  attr_sound around n (list parts from to) beside above named is = absurd named

  pub value_sound : (around : Around) (n : ℕ) (tree : Tree) (beside : Trees) (above : List (List ℕ))
      → Named sheet.names.values n tree → IsValue sheet n
      → AllSound sheet all (parts_at (Some (standing symbol.Name around used_value beside above)) tree)
  value_sound around n (word bytes from to) beside above named is = (
    plain_atom sheet all (standing symbol.Name around used_value beside above) bytes from refl
        (ap not (given.values n bytes named.0 is)) refl,
    tt,
  )
  value_sound around n (list parts from to) beside above named is = absurd named

  pub map_sound : (around : Around) (n : ℕ) (tree : Tree) (beside : Trees) (above : List (List ℕ))
      → Named sheet.names.maps n tree → IsMap sheet n
      → AllSound sheet all (parts_at (Some (standing symbol.Name around used_map beside above)) tree)
  map_sound around n (word bytes from to) beside above named is = (
    plain_atom sheet all (standing symbol.Name around used_map beside above) bytes from refl
        (ap not (given.maps n bytes named.0 is)) refl,
    tt,
  )
  map_sound around n (list parts from to) beside above named is = absurd named

  -- a binder's form
  pub binder_form : (r : Rule) (around : Around) (parts : Trees) → is_binder r ≡ true
      → is_some (variable_in around.scope (word_in 2 parts)) ≡ false → nat_le most_variables around.binders ≡ false
      → FormSound sheet all r around parts
  binder_form rule.Filter around parts is fresh room p role b a from plain =
      record { once = fresh; known = refl; kind_fits = plain.other; shallow = room; said = tt }
  binder_form rule.AnyOf around parts is fresh room p role b a from plain =
      record { once = fresh; known = refl; kind_fits = plain.other; shallow = room; said = tt }
  binder_form rule.Each around parts is fresh room p role b a from plain =
      record { once = fresh; known = refl; kind_fits = plain.other; shallow = room; said = tt }
  binder_form rule.ForAll around parts is fresh room p role b a from plain =
      record { once = fresh; known = refl; kind_fits = plain.other; shallow = room; said = tt }
  binder_form rule.ForAny around parts is fresh room p role b a from plain =
      record { once = fresh; known = refl; kind_fits = plain.other; shallow = room; said = tt }
  binder_form r around parts is fresh room p role b a from plain = absurd cc

  -- what is known of a binder whose variable is this word
  pub record Binds (around : Around) (bound : ℕ) (bytes : List ℕ) : Type 0 where
    pub fresh : is_some (variable_in around.scope bytes) ≡ false
    pub room : nat_le most_variables around.binders ≡ false
    pub word : slice_index_or sheet.names.vars bound [] ≡ bytes

  pub binds_so : (around : Around) (bound : ℕ) (bytes : List ℕ) → IsBinder sheet around bound
      → slice_get sheet.names.vars bound ≡ Some bytes → Binds around bound bytes
  binds_so around bound bytes is found =
      let same : slice_index_or sheet.names.vars bound [] ≡ bytes = get_or_from_slice_get sheet.names.vars bound bytes [] found in
      record {
        fresh = not_found around.scope bytes
            (subst (λ w. list_any (λ variable. bytes_eq variable.word w) around.scope ≡ false) same is.1);
        room = lt-leb most_variables around.binders is.2;
        word = same;
      }

  -- what is around the body of a binder
  pub behind_is : (around : Around) (bound : ℕ) (bytes : List ℕ) (sort sort' : Sort) → Binds around bound bytes → sort ≡ sort'
      → bound_in around bytes sort ≡ behind sheet around bound sort'
  behind_is around bound bytes sort sort' binds same = ap₂ (λ w s. bound_in around w s) (sym binds.word) same

  pub behind_sound : (q : Symbol) (around : Around) (bound : ℕ) (bytes : List ℕ) (sort sort' : Sort) (tree : Tree)
      → Binds around bound bytes → sort ≡ sort' → Sound sheet all q (behind sheet around bound sort') tree
      → Sound sheet all q (bound_in around bytes sort) tree
  behind_sound q around bound bytes sort sort' tree binds same sound =
      subst (λ a. Sound sheet all q a tree) (sym (behind_is around bound bytes sort sort' binds same)) sound

  -- no variable hides another behind a binder
  pub behind_apart : (around : Around) (bound : ℕ) (sort : Sort) → Apart around.scope → IsBinder sheet around bound
      → Apart (behind sheet around bound sort).scope
  behind_apart around bound sort alone is = more_apart around.scope (record { word = _; sort = sort }) alone is.1

  -- what is known of cards, of a card, and of a number
  abbrev pub CollSound : Around → Tree → Type 0
  CollSound around tree =
      Sound sheet all symbol.Collection around tree × Sound sheet all symbol.Domain around tree
      × Sound sheet all symbol.Members around tree

  abbrev pub SideSound : Around → SideSort → Tree → Type 0
  SideSound around side tree = Sound sheet all symbol.Side around tree × (side_of around.scope tree ≡ Some side)

  abbrev pub CardSound : Around → Tree → Type 0
  CardSound around tree = Sound sheet all symbol.Card around tree × SideSound around card_side tree

  abbrev pub IntSound : Around → Tree → Type 0
  IntSound around tree = Sound sheet all symbol.Integer around tree × SideSound around number_side tree

  abbrev pub TestSound : Around → Tree → Type 0
  TestSound around tree = Sound sheet all symbol.Test around tree

  -- FORMS BY THEIR SHAPES

  -- a head
  head_sound : (around : Around) (k : Keyword) (beside : Trees) (above : List (List ℕ)) (bytes : List ℕ) (f t : ℕ)
      → AllSound sheet all (parts_at (Some (standing (symbol.Word k) around no_role beside above)) (word bytes f t))
  head_sound around k beside above bytes f t = (fixed sheet all k around beside above bytes f, tt)

  -- `(top COLL)` and the like
  pub one_sound : (text : String) (r : Rule) (k : Keyword) (u : Symbol) → IsRow r (head_seat k ∷ plain_seat u ∷ [])
      → (q : Symbol) (around : Around) (f t from to : ℕ) (x : Tree)
      → rule_of q (cons (word (codes text) f t) (cons x nil)) ≡ Some r → Sound sheet all u around x
      → Sound sheet all q around (list (cons (word (codes text) f t) (cons x nil)) from to)
  one_sound text r k u row q around f t from to x told sound =
      let parts = cons (word (codes text) f t) (cons x nil) in
      sound_list sheet all q r around parts from to told (easy_sound sheet all r row.0 around parts)
      (λ p role b a.
      let at = row.1 (standing p around role b a) parts in
      told_then sheet all _ _ (word (codes text) f t) _ at.0 (head_sound around k parts (a ++ []) (codes text) f t)
      (told_then sheet all _ _ x [] at.1.0 (sound_alone sheet all u around x parts (a ++ []) sound) tt))

  -- `(+ INT INT)` and the like
  pub two_sound : (text : String) (r : Rule) (k : Keyword) (u v : Symbol) → IsRow r (head_seat k ∷ plain_seat u ∷ plain_seat v ∷ [])
      → (q : Symbol) (around : Around) (f t from to : ℕ) (x y : Tree)
      → rule_of q (cons (word (codes text) f t) (cons x (cons y nil))) ≡ Some r
      → Sound sheet all u around x → Sound sheet all v around y
      → Sound sheet all q around (list (cons (word (codes text) f t) (cons x (cons y nil))) from to)
  two_sound text r k u v row q around f t from to x y told sound sound' =
      let parts = cons (word (codes text) f t) (cons x (cons y nil)) in
      sound_list sheet all q r around parts from to told (easy_sound sheet all r row.0 around parts)
      (λ p role b a.
      let at = row.1 (standing p around role b a) parts in
      told_then sheet all _ _ (word (codes text) f t) _ at.0 (head_sound around k parts (a ++ []) (codes text) f t)
      (told_then sheet all _ _ x _ at.1.0 (sound_alone sheet all u around x parts (a ++ []) sound)
      (told_then sheet all _ _ y [] at.1.1.0 (sound_alone sheet all v around y parts (a ++ []) sound') tt)))

  -- `(max COLL using MAP)` and the like
  pub using_sound : (text : String) (r : Rule) (k k' : Keyword) (u : Symbol)
      → IsRow r (head_seat k ∷ plain_seat u ∷ head_seat k' ∷ (symbol.Name, used_map) ∷ [])
      → (q : Symbol) (around : Around) (map f t from to : ℕ) (c word_using m : Tree)
      → rule_of q (cons (word (codes text) f t) (cons c (cons word_using (cons m nil)))) ≡ Some r
      → Sound sheet all u around c → Atom "using" word_using → Named sheet.names.maps map m → IsMap sheet map
      → Sound sheet all q around (list (cons (word (codes text) f t) (cons c (cons word_using (cons m nil)))) from to)
  using_sound text r k k' u row q around map f t from to c word_using m told sound using named is =
      let parts = cons (word (codes text) f t) (cons c (cons word_using (cons m nil))) in
      sound_list sheet all q r around parts from to told (easy_sound sheet all r row.0 around parts)
      (λ p role b a.
      let at = row.1 (standing p around role b a) parts in
      let fixed_word = sound_alone sheet all (symbol.Word k') around word_using parts (a ++ [])
      (fixed_tree "using" k' around word_using using) in
      told_then sheet all _ _ (word (codes text) f t) _ at.0 (head_sound around k parts (a ++ []) (codes text) f t)
      (told_then sheet all _ _ c _ at.1.0 (sound_alone sheet all u around c parts (a ++ []) sound)
      (told_then sheet all _ _ word_using _ at.1.1.0 fixed_word
      (told_then sheet all _ _ m [] at.1.1.1.0 (map_sound around map m parts (a ++ []) named is) tt))))

  -- `(= SIDE SIDE)` and the like, with two sides of one sort
  pub sides_sound : (text : String) (r : Rule) (k : Keyword)
      → IsRow r (head_seat k ∷ plain_seat symbol.Side ∷ (symbol.Side, second_side) ∷ [])
      → (around : Around) (side : SideSort) (f t from to : ℕ) (x y : Tree)
      → rule_of symbol.Test (cons (word (codes text) f t) (cons x (cons y nil))) ≡ Some r
      → SideSound around side x → SideSound around side y
      → TestSound around (list (cons (word (codes text) f t) (cons x (cons y nil))) from to)
  sides_sound text r k row around side f t from to x y told sound sound' =
      let parts = cons (word (codes text) f t) (cons x (cons y nil)) in
      sound_list sheet all symbol.Test r around parts from to told (easy_sound sheet all r row.0 around parts)
      (λ p role b a.
      let at = row.1 (standing p around role b a) parts in
      told_then sheet all _ _ (word (codes text) f t) _ at.0 (head_sound around k parts (a ++ []) (codes text) f t)
      (told_then sheet all _ _ x _ at.1.0 (sound_alone sheet all symbol.Side around x parts (a ++ []) sound.0)
      (told_then sheet all _ _ y [] at.1.1.0
      (sound'.0 second_side parts (a ++ []) (record {
        other = sides_same side (side_of around.scope x) (side_of around.scope y) sound.1 sound'.1;
        named = λ bytes. refl;
        placed = λ mention. refl;
      })) tt)))

  -- `(and BOOL BOOL+)` and the like
  pub many_sound : (text : String) (r : Rule) (k : Keyword) (u : Symbol) → IsRow r (head_seat k ∷ [])
      → ((at : Standing) (parts : Trees) (n : ℕ)
      → standing_in at r parts (suc n) ≡ Some (standing u at.around no_role parts (at.above ++ [])))
      → (q : Symbol) (around : Around) (f t from to : ℕ) (parts : Trees)
      → rule_of q (cons (word (codes text) f t) parts) ≡ Some r → Each (Sound sheet all u around) parts
      → Sound sheet all q around (list (cons (word (codes text) f t) parts) from to)
  many_sound text r k u row stands_rest q around f t from to parts told each =
      let whole = cons (word (codes text) f t) parts in
      sound_list sheet all q r around whole from to told (easy_sound sheet all r row.0 around whole)
      (λ p role b a.
      let at = standing p around role b a in
      told_then sheet all _ _ (word (codes text) f t) _ (row.1 at whole).0 (head_sound around k whole (a ++ []) (codes text) f t)
      (rest_sound sheet all suc (λ n. omega arith) at r whole u around (a ++ []) (stands_rest at whole) 0 parts each))

  -- `(filter COLL VAR BOOL)` and the like: what the variable runs over stands at one place, and the body at another
  pub binder_sound : (text : String) (r : Rule) (k : Keyword) (u v : Symbol) → is_binder r ≡ true
      → ((at : Standing) (parts : Trees) → StandAt at r parts 0 (head_seat k ∷ plain_seat u ∷ plain_seat symbol.Variable ∷ []))
      → ((at : Standing) (parts : Trees)
      → standing_in at r parts 3
      ≡ Some (standing v (bound_in at.around (word_in 2 parts) (sort_over (part_at 1 parts))) no_role parts (at.above ++ [])))
      → (q : Symbol) (around : Around) (bound : ℕ) (sort : Sort) (bytes : List ℕ) (f t f' t' from to : ℕ) (c x : Tree)
      → rule_of q (cons (word (codes text) f t) (cons c (cons (word bytes f' t') (cons x nil)))) ≡ Some r
      → Binds around bound bytes → sort_over c ≡ sort → Sound sheet all u around c
      → Sound sheet all v (behind sheet around bound sort) x
      → Sound sheet all q around (list (cons (word (codes text) f t) (cons c (cons (word bytes f' t') (cons x nil)))) from to)
  binder_sound text r k u v is stand stands_body q around bound sort bytes f t f' t' from to c x told binds same sound sound' =
      let parts = cons (word (codes text) f t) (cons c (cons (word bytes f' t') (cons x nil))) in
      let inner = bound_in around bytes (sort_over c) in
      sound_list sheet all q r around parts from to told (binder_form r around parts is binds.fresh binds.room)
      (λ p role b a.
      let at = stand (standing p around role b a) parts in
      let variable = plain_atom sheet all (standing symbol.Variable around no_role parts (a ++ [])) bytes f' refl refl refl in
      let body = behind_sound v around bound bytes (sort_over c) sort x binds same sound' in
      told_then sheet all _ _ (word (codes text) f t) _ at.0 (head_sound around k parts (a ++ []) (codes text) f t)
      (told_then sheet all _ _ c _ at.1.0 (sound_alone sheet all u around c parts (a ++ []) sound)
      (told_then sheet all _ _ (word bytes f' t') _ at.1.1.0 (variable, tt)
      (told_then sheet all _ _ x [] (stands_body (standing p around role b a) parts)
      (sound_alone sheet all v inner x parts (a ++ []) body) tt))))

  -- `(attr CARD ATTR)`
  pub value_of_sound : (around : Around) (attr f t from to : ℕ) (c n : Tree) → Sound sheet all symbol.Card around c
      → Named sheet.names.attrs attr n → IsAttr sheet attr
      → SideSound around value_side (list (cons (word (codes "attr") f t) (cons c (cons n nil))) from to)
  value_of_sound around attr f t from to c n sound named is = (
    sound_list sheet all symbol.Side rule.AttributeOf around (cons (word (codes "attr") f t) (cons c (cons n nil))) from to refl
        (easy_sound sheet all rule.AttributeOf refl around _)
        (λ p r b a. (
          fixed sheet all _ _ _ _ _ _,
          then symbol.Card around _ _ c _ sound
              (all_join sheet all _ [] (attr_sound around attr n _ _ named is) tt),
        )),
    refl,
  )

  -- `(is CARD ATTR VALUE)`
  pub is_sound : (around : Around) (attr value f t from to : ℕ) (c n v : Tree) → Sound sheet all symbol.Card around c
      → Named sheet.names.attrs attr n → IsAttr sheet attr → Named sheet.names.values value v → IsValue sheet value
      → TestSound around (list (cons (word (codes "is") f t) (cons c (cons n (cons v nil)))) from to)
  is_sound around attr value f t from to c n v sound named is named' is' =
      sound_list sheet all symbol.Test rule.Is around (cons (word (codes "is") f t) (cons c (cons n (cons v nil)))) from to refl
      (easy_sound sheet all rule.Is refl around _)
      (λ p r b a. (
        fixed sheet all _ _ _ _ _ _,
        then symbol.Card around _ _ c _ sound
            (all_join sheet all _ _ (attr_sound around attr n _ _ named is)
            (all_join sheet all _ [] (value_sound around value v _ _ named' is') tt)),
      ))
