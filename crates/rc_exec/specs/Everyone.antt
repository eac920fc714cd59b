-- What changes a number at each player's turn, and what gathers the cards of each player's location.
use Rattle.std.specs.Prelude.{◌≡◌, ◌≢◌, ℕ, ◌+◌, ◌<◌, ℤ, pos, if◌then◌else◌, List, [], ◌∷◌, ◌++◌, map, slice_index_or}
use Rattle.std.specs.Prelude.{Option, Some}
use Rattle.rc_base.specs.Clamp.{IsWithinClamp}
use Rattle.rc_sheet_spec.specs.Sheet.{Sheet, NumName, LocName, Loc, Num, Who, IntExpr, Effect, Effects, player_class}
use Rattle.rc_sheet_spec.specs.Sheet.{team_of_var, who_var, move_all, cards_in, top}
use Rattle.rc_play_spec.specs.About.{About, scene_at}
use Rattle.rc_play_spec.specs.Control.{Frame}
use Rattle.rc_play_spec.specs.Owners.{place_among}
use Rattle.rc_play_spec.specs.Shape.{Shape}
use Rattle.rc_play_spec.specs.Scene.{CardValue, Vars}
use Rattle.rc_play_spec.specs.Table.{Table}
use Rattle.rc_play_spec.specs.Value.{Bind, player_bound, player_of, num_place, int_value}
use Rattle.rc_play_spec.specs.Effects.{Dealing, Point, with_table, if_some, change, does}
use Rattle.rc_value.specs.Leads.{new_by}
use Rattle.rc_undo.specs.Piled.{piled}
use Rattle.rc_exec.specs.declared.changes.EachPlace.{EachPlace}
use Rattle.rc_exec.specs.declared.changes.EachValue.{EachValue}
use Rattle.rc_exec.specs.declared.changes.EachValue.TheVariants.{Literal, Number}
use Rattle.rc_exec.specs.declared.changes.EachChange.{EachChange}

-- TURNS

-- these effects do to the table at each player's turn, while these stages are open, what this step does
abbrev pub AreTurns : About → Vars → List Frame → Effects → (Table → Bind CardValue → Table) → Type 0
AreTurns about vars frames effects step =
    (dealing : Dealing ℕ) (player : ℕ) → player < about.sheet.players → (now : Point ℕ) → now.frames ≡ frames →
    does about dealing (vars ++ player_bound player ∷ []) effects now
    ≡ with_table now (step now.table (player_bound player))

-- NUMBERS

-- the place of a player's number, if there is one
abbrev pub number_of : Sheet → (name player : ℕ) → Option ℕ
number_of sheet name player = place_among sheet player_class (map (λ (num : NumName). num.class) sheet.nums) name player

-- where the number that is meant stands at a player's turn, and what a number changes by
abbrev pub place_of : EachPlace → ℕ → ℕ
place_of place player = if place.own then place.first + player else place.first

abbrev pub value_of : List ℤ → EachValue → ℕ → ℤ
value_of numbers (Literal value) player = value
value_of numbers (Number place) player = slice_index_or numbers (place_of place player) (pos 0)

abbrev pub IsInRange : EachValue → Type 0
IsInRange (Literal value) = IsWithinClamp value
IsInRange (Number place) = Unit {0}

-- they are those of a number and of an expression, under a variable for the player, while these stages are open
abbrev pub IsPlaceOf : About → Vars → List Frame → Num → EachPlace → Type 0
IsPlaceOf about vars frames num place =
    (player : ℕ) → player < about.sheet.players → (t : Table) →
    num_place (scene_at about t frames).known (vars ++ player_bound player ∷ []) num ≡ Some (place_of place player)

abbrev pub IsValueOf : About → Vars → List Frame → IntExpr → EachValue → Type 0
IsValueOf about vars frames expr value =
    (player : ℕ) → player < about.sheet.players → (t : Table) →
    int_value (scene_at about t frames) (vars ++ player_bound player ∷ []) expr ≡ value_of t.numbers value player

-- the table with the number changed at a member's turn
abbrev pub change_for : EachChange → Table → Bind CardValue → Table
change_for each table member =
    let player = player_of (Some member) in
    change (new_by each.how) (value_of table.numbers each.value player) (place_of each.place player) table

-- CARDS

-- all cards of a location moved to the top of another one
abbrev pub gathering : (from to : Loc) → Effect
gathering from to = move_all (cards_in from) top to

-- an owner that isn't found by this variable
abbrev pub IsApart : ℕ → Who → Type 0
IsApart var (team_of_var other) = other ≢ var
IsApart var (who_var other) = other ≢ var
IsApart var other = Unit {0}

-- the place of a player's location, if there is one
abbrev pub location_of : Sheet → (name player : ℕ) → Option ℕ
location_of sheet name player =
    place_among sheet player_class (map (λ (loc : LocName). loc.class) sheet.locs) name player

-- the table with the cards of a member's location on top of another one
abbrev pub gather_for : Sheet → Shape → (name to : ℕ) → Table → Bind CardValue → Table
gather_for sheet shape name to table member =
    if_some (piled shape to) (location_of sheet name (player_of (Some member))) table
