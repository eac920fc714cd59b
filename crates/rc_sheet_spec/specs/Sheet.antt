-- A sheet as a tree: what a game's form says, without its spelling and without memory. Names, variables and offsets are
-- numbers here.
use Rattle.std.specs.Prelude.{ℕ, Bool, List, ℤ, Option}
use Rattle.rc_base.specs.Deck.{Groups, Entry}
pub use Rattle.rc_base.specs.declared.classes.Class.{Class}
pub use Rattle.rc_base.specs.declared.classes.Class.TheVariants.{Game as game_class, Player as player_class, Team as team_class}
pub use Rattle.rc_base.specs.declared.classes.Sort.{Sort}
pub use Rattle.rc_base.specs.declared.classes.Sort.TheVariants.{Player as player_sort, Card as card_sort, Group as group_sort}
pub use Rattle.rc_base.specs.declared.classes.LocKind.{LocKind}
pub use Rattle.rc_base.specs.declared.classes.LocKind.TheVariants.{Vloc as vloc, Iloc as iloc, Hloc as hloc, Mem as mem}
use Rattle.rc_base.specs.contracts.classes.ClassPartialEq.TheImpl.{eq-value as class_eq}
use Rattle.rc_base.specs.contracts.classes.SortPartialEq.TheImpl.{eq-value as sort_eq}

-- The tests by which the code compares classes and sorts.
abbrev pub same_class : Class → Class → Bool
same_class = class_eq.it

abbrev pub same_sort : Sort → Sort → Bool
same_sort = sort_eq.it

-- The words of a sheet, each kind numbered by its place in its list: attributes, values, point maps, locations, numbers,
-- and the variables that binders name.
pub record Names : Type 0 where
  pub attrs : List (List ℕ)
  pub values : List (List ℕ)
  pub maps : List (List ℕ)
  pub locs : List (List ℕ)
  pub nums : List (List ℕ)
  pub vars : List (List ℕ)

-- the teams, each the list of its players
abbrev pub Teams : Type 0
Teams = List (List ℕ)

-- which scores are best
pub data Best : Type 0 where
  highest : Best
  lowest : Best

-- the locations of one name, and the numbers of one name
pub record LocName : Type 0 where
  pub name : ℕ
  pub kind : LocKind
  pub class : Class

pub record NumName : Type 0 where
  pub name : ℕ
  pub class : Class

pub data End : Type 0 where
  top : End
  bottom : End

-- An owner. A variable is a number: its place among the variables in scope, the outermost being 0.
pub data Who : Type 0 where
  game : Who
  current_player : Who
  current_team : Who
  team_of_current : Who
  team_of_var : (var : ℕ) → Who
  who_var : (var : ℕ) → Who

-- a location, with the offset of its form
pub record Loc : Type 0 where
  pub who : Who
  pub name : ℕ
  pub at : ℕ

pub record Num : Type 0 where
  pub who : Who
  pub name : ℕ

-- Expressions for a card, for a list of cards, for a number, and tests. Where a variable is bound its word's number stands
-- beside the domain.
mutual
  pub data CardExpr : Type 0 where
    card_var : (var : ℕ) → CardExpr
    top_card : (cards : CollExpr) → CardExpr
    bottom_card : (cards : CollExpr) → CardExpr
    max_card : (cards : CollExpr) (map : ℕ) → CardExpr
    min_card : (cards : CollExpr) (map : ℕ) → CardExpr

  pub data CollExpr : Type 0 where
    group_var : (var : ℕ) → CollExpr
    cards_in : (loc : Loc) → CollExpr
    filtered : (cards : CollExpr) (bound : ℕ) (test : Test) → CollExpr
    union_of : (parts : CollExprs) → CollExpr
    known_in : (loc : Loc) → CollExpr

  -- a list of them
  pub data CollExprs : Type 0 where
    no_coll : CollExprs
    coll : CollExpr → CollExprs → CollExprs

  pub data IntExpr : Type 0 where
    literal : (value : ℤ) → IntExpr
    number : (num : Num) → IntExpr
    size_of : (cards : CollExpr) → IntExpr
    sum_of : (cards : CollExpr) (map : ℕ) → IntExpr
    worth_of : (card : CardExpr) (map : ℕ) → IntExpr
    add : IntExpr → IntExpr → IntExpr
    subtract : IntExpr → IntExpr → IntExpr
    multiply : IntExpr → IntExpr → IntExpr

  pub data Test : Type 0 where
    eq_int : IntExpr → IntExpr → Test
    eq_card : CardExpr → CardExpr → Test
    eq_attr : CardExpr → (attr : ℕ) → CardExpr → (attr' : ℕ) → Test
    eq_who : Who → Who → Test
    ne : Test → Test
    less : IntExpr → IntExpr → Test
    less_eq : IntExpr → IntExpr → Test
    more : IntExpr → IntExpr → Test
    more_eq : IntExpr → IntExpr → Test
    has_value : (card : CardExpr) (attr value : ℕ) → Test
    and_of : (tests : Tests) → Test
    or_of : (tests : Tests) → Test
    not_of : Test → Test
    all_of : (domain : Domain) (bound : ℕ) (test : Test) → Test
    any_of : (domain : Domain) (bound : ℕ) (test : Test) → Test

  -- a list of tests
  pub data Tests : Type 0 where
    no_test : Tests
    test : Test → Tests → Tests

  -- what a variable runs over: the players, the cards of a list, or the groups of its cards with equal values
  pub data Domain : Type 0 where
    each_player : Domain
    each_card : (cards : CollExpr) → Domain
    each_group : (cards : CollExpr) (attr : ℕ) → Domain

mutual
  pub data Effect : Type 0 where
    move : (card : CardExpr) (end : End) (loc : Loc) → Effect
    move_all : (cards : CollExpr) (end : End) (loc : Loc) → Effect
    remember : (card : CardExpr) (end : End) (loc : Loc) → Effect
    forget : (card : CardExpr) → Effect
    shuffle : (loc : Loc) → Effect
    set_to : (num : Num) (value : IntExpr) → Effect
    increase : (num : Num) (value : IntExpr) → Effect
    decrease : (num : Num) (value : IntExpr) → Effect
    when : (test : Test) (effects : Effects) → Effect
    repeat : (count : IntExpr) (effects : Effects) → Effect
    for_each : (domain : Domain) (bound : ℕ) (effects : Effects) → Effect
    next_is : (who : Who) → Effect
    turn_round : Effect
    peek : (cards : CollExpr) (who : Who) → Effect

  -- a list of effects
  pub data Effects : Type 0 where
    no_effect : Effects
    effect : Effect → Effects → Effects

-- an alternative of a choice
pub data Alt : Type 0 where
  do_alt : (effects : Effects) → Alt
  if_alt : (guard : Test) (effects : Effects) → Alt
  any_alt : (domain : Domain) (bound : ℕ) (alt : Alt) → Alt

-- Stages and choice sites are numbered in the order of the text.
mutual
  pub data SheetItem : Type 0 where
    do_item : (effects : Effects) → SheetItem
    stage : (number : ℕ) (class : Class) (end : Test) (body : SheetItems) → SheetItem
    choice : (site : ℕ) (alts : List Alt) → SheetItem

  -- a list of items
  pub data SheetItems : Type 0 where
    no_item : SheetItems
    item : SheetItem → SheetItems → SheetItems

-- a deck, and the location that its cards begin in
pub record DeckLine : Type 0 where
  pub loc : ℕ
  pub groups : Groups

-- a whole sheet
pub record Sheet : Type 0 where
  pub players : ℕ
  pub teams : Option Teams
  pub names : Names
  pub decks : List DeckLine
  pub points : List (List Entry)
  pub locs : List LocName
  pub nums : List NumName
  pub items : SheetItems
  pub best : Best
  pub score : IntExpr
