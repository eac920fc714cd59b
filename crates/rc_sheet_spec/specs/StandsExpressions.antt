-- Which forms stand for expressions and tests, in a scope.
use Prim.Native.String.{String}
use Rattle.std.specs.Prelude.{◌≡◌}
use Rattle.std.specs.Prelude.{Some as Present}
use Rattle.rc_base.specs.Tree.{Tree, Trees, start_of}
use Rattle.rc_sheet_spec.specs.Sheet.{player_sort, card_sort, group_sort, Who, game, current_player, current_team, team_of_current, team_of_var, who_var, Loc, Num, CardExpr, card_var, top_card, bottom_card, max_card, min_card, CollExpr, group_var, cards_in, filtered, union_of, known_in, CollExprs, no_coll, coll, IntExpr, literal, number, size_of, sum_of, worth_of, add, subtract, multiply, Test, eq_int, eq_card, eq_attr, eq_who, ne, less, less_eq, more, more_eq, has_value, and_of, or_of, not_of, all_of, any_of, Tests, no_test, test, Domain, each_player, each_card, each_group}
use Rattle.rc_sheet_spec.specs.Rows.{◌▸◌, End, AtLeast, Some, Row, Atom}
use Rattle.rc_sheet_spec.specs.Naming.{Naming, Scope, bind, sort_of, class_of, Named, Binder, InScope, Literal, KindOf, loc_class, num_class}

-- OWNER
abbrev pub StandsOwner : Scope → Who → Tree → Type 0
StandsOwner scope game form = ⊥
StandsOwner scope current_player form = Row (Atom "current" ▸ Atom "player" ▸ End) form
StandsOwner scope current_team form = Row (Atom "current" ▸ Atom "team" ▸ End) form
StandsOwner scope team_of_current form =
    Row (Atom "team" ▸ Atom "of" ▸ Row (Atom "current" ▸ Atom "player" ▸ End) ▸ End) form
StandsOwner scope (team_of_var var) form = Row (Atom "team" ▸ Atom "of" ▸ InScope scope player_sort var ▸ End) form
StandsOwner scope (who_var var) form = InScope scope player_sort var form

-- HOLDER
abbrev pub StandsHolder : Scope → Who → Tree → Type 0
StandsHolder scope game = Atom "game"
StandsHolder scope who = StandsOwner scope who

-- LOC is `(HOLDER KIND NAME)`
abbrev pub StandsLoc : Naming → Scope → Loc → Tree → Type 0
StandsLoc naming scope loc form =
    Row (StandsHolder scope loc.who ▸ KindOf naming loc.name ▸ Named naming.names.locs loc.name ▸ End) form
    × (loc_class naming loc.name ≡ Present (class_of loc.who)) × (loc.at ≡ start_of form)

-- NUM is `(HOLDER sto NAME)`
abbrev pub StandsNum : Naming → Scope → Num → Tree → Type 0
StandsNum naming scope num form =
    Row (StandsHolder scope num.who ▸ Atom "sto" ▸ Named naming.names.nums num.name ▸ End) form
    × (num_class naming num.name ≡ Present (class_of num.who))

-- two parts behind a head
abbrev pub Two : String → (Tree → Type 0) → (Tree → Type 0) → Tree → Type 0
Two head First Second = Row (Atom head ▸ First ▸ Second ▸ End)

-- two owners of one class
abbrev pub TwoOwners : String → Scope → Who → Who → Tree → Type 0
TwoOwners head scope who who' form =
    Two head (StandsOwner scope who) (StandsOwner scope who') form × (class_of who ≡ class_of who')

abbrev mutual
  -- CARD
  pub StandsCard : Naming → Scope → CardExpr → Tree → Type 0
  StandsCard naming scope (card_var var) = InScope scope card_sort var
  StandsCard naming scope (top_card cards) = Row (Atom "top" ▸ StandsColl naming scope cards ▸ End)
  StandsCard naming scope (bottom_card cards) = Row (Atom "bottom" ▸ StandsColl naming scope cards ▸ End)
  StandsCard naming scope (max_card cards map) =
      Row (Atom "max" ▸ StandsColl naming scope cards ▸ Atom "using" ▸ Named naming.names.maps map ▸ End)
  StandsCard naming scope (min_card cards map) =
      Row (Atom "min" ▸ StandsColl naming scope cards ▸ Atom "using" ▸ Named naming.names.maps map ▸ End)

  -- COLL
  pub StandsColl : Naming → Scope → CollExpr → Tree → Type 0
  StandsColl naming scope (group_var var) = InScope scope group_sort var
  StandsColl naming scope (cards_in loc) = StandsLoc naming scope loc
  StandsColl naming scope (filtered cards bound t) =
      Row (Atom "filter" ▸ StandsColl naming scope cards ▸ Binder naming bound
      ▸ StandsTest naming (bind naming scope bound card_sort) t ▸ End)
  StandsColl naming scope (union_of parts) = Row (Atom "union" ▸ AtLeast 2 (StandColls naming scope parts))
  StandsColl naming scope (known_in loc) = Row (Atom "known" ▸ StandsLoc naming scope loc ▸ End)

  pub StandColls : Naming → Scope → CollExprs → Trees → Type 0
  StandColls naming scope no_coll = End
  StandColls naming scope (coll cards parts) = StandsColl naming scope cards ▸ StandColls naming scope parts

  -- INT
  pub StandsInt : Naming → Scope → IntExpr → Tree → Type 0
  StandsInt naming scope (literal value) = Literal value
  StandsInt naming scope (number num) = StandsNum naming scope num
  StandsInt naming scope (size_of cards) = Row (Atom "size" ▸ StandsColl naming scope cards ▸ End)
  StandsInt naming scope (sum_of cards map) =
      Row (Atom "sum" ▸ StandsColl naming scope cards ▸ Atom "using" ▸ Named naming.names.maps map ▸ End)
  StandsInt naming scope (worth_of card map) =
      Row (Atom "points" ▸ StandsCard naming scope card ▸ Atom "using" ▸ Named naming.names.maps map ▸ End)
  StandsInt naming scope (add a b) = Two "+" (StandsInt naming scope a) (StandsInt naming scope b)
  StandsInt naming scope (subtract a b) = Two "-" (StandsInt naming scope a) (StandsInt naming scope b)
  StandsInt naming scope (multiply a b) = Two "*" (StandsInt naming scope a) (StandsInt naming scope b)

  -- BOOL, where `=` and `!=` compare two SIDEs of one sort
  pub StandsTest : Naming → Scope → Test → Tree → Type 0
  StandsTest naming scope (eq_int a b) = Two "=" (StandsInt naming scope a) (StandsInt naming scope b)
  StandsTest naming scope (eq_card a b) = Two "=" (StandsCard naming scope a) (StandsCard naming scope b)
  StandsTest naming scope (eq_attr a attr b attr') =
      Two "="
      (Row (Atom "attr" ▸ StandsCard naming scope a ▸ Named naming.names.attrs attr ▸ End))
      (Row (Atom "attr" ▸ StandsCard naming scope b ▸ Named naming.names.attrs attr' ▸ End))
  StandsTest naming scope (eq_who who who') = TwoOwners "=" scope who who'
  StandsTest naming scope (ne (eq_int a b)) = Two "!=" (StandsInt naming scope a) (StandsInt naming scope b)
  StandsTest naming scope (ne (eq_card a b)) = Two "!=" (StandsCard naming scope a) (StandsCard naming scope b)
  StandsTest naming scope (ne (eq_attr a attr b attr')) =
      Two "!="
      (Row (Atom "attr" ▸ StandsCard naming scope a ▸ Named naming.names.attrs attr ▸ End))
      (Row (Atom "attr" ▸ StandsCard naming scope b ▸ Named naming.names.attrs attr' ▸ End))
  StandsTest naming scope (ne (eq_who who who')) = TwoOwners "!=" scope who who'
  StandsTest naming scope (ne t) = λ form. ⊥
  StandsTest naming scope (less a b) = Two "<" (StandsInt naming scope a) (StandsInt naming scope b)
  StandsTest naming scope (less_eq a b) = Two "<=" (StandsInt naming scope a) (StandsInt naming scope b)
  StandsTest naming scope (more a b) = Two ">" (StandsInt naming scope a) (StandsInt naming scope b)
  StandsTest naming scope (more_eq a b) = Two ">=" (StandsInt naming scope a) (StandsInt naming scope b)
  StandsTest naming scope (has_value card attr value) =
      Row (Atom "is" ▸ StandsCard naming scope card ▸ Named naming.names.attrs attr ▸ Named naming.names.values value ▸ End)
  StandsTest naming scope (and_of tests) = Row (Atom "and" ▸ Some (StandTests naming scope tests))
  StandsTest naming scope (or_of tests) = Row (Atom "or" ▸ Some (StandTests naming scope tests))
  StandsTest naming scope (not_of t) = Row (Atom "not" ▸ StandsTest naming scope t ▸ End)
  StandsTest naming scope (all_of domain bound t) =
      Row (Atom "all" ▸ StandsRange naming scope domain ▸ Binder naming bound
      ▸ StandsTest naming (bind naming scope bound (sort_of domain)) t ▸ End)
  StandsTest naming scope (any_of domain bound t) =
      Row (Atom "any" ▸ StandsRange naming scope domain ▸ Binder naming bound
      ▸ StandsTest naming (bind naming scope bound (sort_of domain)) t ▸ End)

  pub StandTests : Naming → Scope → Tests → Trees → Type 0
  StandTests naming scope no_test = End
  StandTests naming scope (test t tests) = StandsTest naming scope t ▸ StandTests naming scope tests

  -- `player` or COLL, over which `all` and `any` run but in an alternative
  pub StandsRange : Naming → Scope → Domain → Tree → Type 0
  StandsRange naming scope each_player = Atom "player"
  StandsRange naming scope (each_card cards) = StandsColl naming scope cards
  StandsRange naming scope (each_group cards attr) = λ form. ⊥

-- DOMAIN, over which `any` runs in an alternative
abbrev pub StandsDomain : Naming → Scope → Domain → Tree → Type 0
StandsDomain naming scope each_player = Atom "player"
StandsDomain naming scope (each_card cards) = StandsColl naming scope cards
StandsDomain naming scope (each_group cards attr) =
    Row (Atom "partition" ▸ StandsColl naming scope cards ▸ Named naming.names.attrs attr ▸ End)
