-- What names and cards come to.
use Rattle.std.specs.Prelude.{◌≡◌, ℕ, ◌+◌, nat_lt, if◌then◌else◌, length, List, [], ◌∷◌, map}
use Rattle.std.specs.Prelude.{Option, Some, None, ℤ, Vec}
use Rattle.std.specs.Global.{Global}
use Rattle.rc_base.specs.Numbers.{below}
use Rattle.rc_base.specs.Deck.{Face, Entry, value_at, points_of}
use Rattle.rc_sheet_spec.specs.Sheet.{Class, Sheet, game_class, player_class, team_class}
use Rattle.rc_sheet_spec.specs.WellFormed.{owner_count}
use Rattle.rc_play_spec.specs.Owners.{class_eq, classes_in}
use Rattle.rc_play_spec.specs.Shape.{Shape}
use Rattle.rc_rules.specs.declared.range.Range.{Range}
use Rattle.rc_rules.specs.declared.lookup.Lookup.{Lookup}

-- the places of a name: the first, and how many owners of each class it has
pub record Places : Type 0 where
  pub first : ℕ
  pub game : ℕ
  pub player : ℕ
  pub team : ℕ

abbrev pub count_of : Class → Places → ℕ
count_of game_class places = places.game
count_of player_class places = places.player
count_of team_class places = places.team

-- those of a name of this class, of so many owners: it has none of another class
abbrev pub places_of : ℕ → Class → ℕ → Places
places_of first class count = record {
  first = first;
  game = if class_eq class game_class then count else 0;
  player = if class_eq class player_class then count else 0;
  team = if class_eq class team_class then count else 0;
}

abbrev pub range_seen : Range → Places
range_seen range = record { first = range.first; game = range.game; player = range.player; team = range.team }

abbrev pub ranges_seen : List Range → List Places
ranges_seen ranges = map range_seen ranges

-- the places of names of these classes, one behind the other
abbrev pub ranges_from : Sheet → ℕ → List Class → List Places
ranges_from sheet first [] = []
ranges_from sheet first (class ∷ classes) =
    places_of first class (owner_count sheet class) ∷ ranges_from sheet (first + owner_count sheet class) classes

-- an owner's place among those of a name, if there is such a name
abbrev pub place_in : Class → ℕ → Option Places → Option ℕ
place_in wanted owner None = None
place_in wanted owner (Some places) =
    if nat_lt owner (count_of wanted places) then Some (places.first + owner) else None

-- the value of each face for an attribute, and what each face is worth
abbrev pub value_row : List Face → ℕ → List (Option ℕ)
value_row faces attr = map (λ face. value_at face attr) faces

abbrev pub worth_row : List Face → List Entry → List ℤ
worth_row faces entries = map (points_of entries) faces

abbrev pub rows_seen : {A : Type 0} → List (Vec A Global) → List (List A)
rows_seen rows = map (λ row. row.items) rows

-- the classes of all stages, by their numbers
abbrev pub AreStages : Sheet → List Class → Type 0
AreStages sheet classes = classes ≡ classes_in sheet.items

-- Each name of a location or number, each stage, each attribute and each point map has its row: no table is cut short.
pub record IsLookup (sheet : Sheet) (shape : Shape) (lookup : Lookup) : Type 0 where
  pub locs : ranges_seen lookup.locs.items ≡ ranges_from sheet 0 (map (λ loc. loc.class) sheet.locs)
  pub nums : ranges_seen lookup.nums.items ≡ ranges_from sheet 0 (map (λ num. num.class) sheet.nums)
  pub stages : AreStages sheet lookup.stages.items
  pub attrs : length lookup.values.items ≡ length sheet.names.attrs
  pub values : rows_seen lookup.values.items ≡ map (value_row shape.faces) (below (length lookup.values.items))
  pub worths : rows_seen lookup.worths.items ≡ map (worth_row shape.faces) sheet.points
