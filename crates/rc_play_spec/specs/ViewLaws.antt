-- Statements of laws: of menus, views and alike states.
use Rattle.std.specs.Prelude.{◌≡◌, ◌↔◌, ℕ, ◌≤◌, List, length, map, Option}
use Rattle.rc_base.specs.Limits.{most_items}
use Rattle.rc_sheet_spec.specs.Sheet.{Alt, Sheet}
use Rattle.rc_sheet_spec.specs.Sight.{IsInSight}
use Rattle.rc_play_spec.specs.Control.{Control}
use Rattle.rc_play_spec.specs.Owners.{mover}
use Rattle.rc_play_spec.specs.Shape.{Shape, face_number, shape_of}
use Rattle.rc_play_spec.specs.Value.{Scene, known_there}
use Rattle.rc_play_spec.specs.Table.{Table}
use Rattle.rc_play_spec.specs.Scene.{CardValue, id_of, scene_of}
use Rattle.rc_play_spec.specs.Menu.{paths_of, menu_of}
use Rattle.rc_play_spec.specs.Offers.{AreOffers}
use Rattle.rc_play_spec.specs.View.{view_of, view_scene}
use Rattle.rc_play_spec.specs.Alike.{IsAlike}

-- a menu is a function of what its mover sees
abbrev pub MenuOfView : Type 0
MenuOfView =
    (sheet : Sheet) (shape : Shape) (table : Table) (control : Control) (site : ℕ) → shape ≡ shape_of sheet →
    IsInSight sheet →
    menu_of (scene_of sheet shape table control.frames) site
    ≡ menu_of (view_scene sheet shape (view_of shape (mover sheet control.frames) table control)) site

-- where the mover's views are equal, the menus are
abbrev pub EqualViewsEqualMenus : Type 0
EqualViewsEqualMenus =
    (sheet : Sheet) (shape : Shape) (table table' : Table) (control control' : Control) (site : ℕ) →
    shape ≡ shape_of sheet → IsInSight sheet →
    view_of shape (mover sheet control.frames) table control
    ≡ view_of shape (mover sheet control.frames) table' control' →
    menu_of (scene_of sheet shape table control.frames) site
    ≡ menu_of (scene_of sheet shape table' control'.frames) site

-- the views of a seat are equal exactly where the states are alike to it
abbrev pub EqualViewsAlike : Type 0
EqualViewsAlike =
    (shape : Shape) (seat : ℕ) (table table' : Table) (control control' : Control) →
    IsAlike shape seat table table' control control' ↔ (view_of shape seat table control
    ≡ view_of shape seat table' control')

-- where states are alike to the mover, the menus are equal
abbrev pub AlikeEqualMenus : Type 0
AlikeEqualMenus =
    (sheet : Sheet) (shape : Shape) (table table' : Table) (control control' : Control) (site : ℕ) →
    shape ≡ shape_of sheet → IsInSight sheet →
    IsAlike shape (mover sheet control.frames) table table' control control' →
    menu_of (scene_of sheet shape table control.frames) site
    ≡ menu_of (scene_of sheet shape table' control'.frames) site

-- what the mover knows of a location is what its view tells
abbrev pub KnownOfView : Type 0
KnownOfView =
    (sheet : Sheet) (shape : Shape) (table : Table) (control : Control) (place : Option ℕ) → shape ≡ shape_of sheet →
    known_there (view_scene sheet shape (view_of shape (mover sheet control.frames) table control)) place
    ≡ map (λ c. face_number shape (id_of c)) (known_there (scene_of sheet shape table control.frames) place)

-- where states are alike to the mover, it knows as many cards of each location, with equal faces at equal places
abbrev pub AlikeEqualKnown : Type 0
AlikeEqualKnown =
    (sheet : Sheet) (shape : Shape) (table table' : Table) (control control' : Control) (place : Option ℕ) →
    shape ≡ shape_of sheet →
    IsAlike shape (mover sheet control.frames) table table' control control' →
    map (λ c. face_number shape (id_of c)) (known_there (scene_of sheet shape table control.frames) place)
    ≡ map (λ c. face_number shape (id_of c)) (known_there (scene_of sheet shape table' control'.frames) place)

-- what a menu lists of an alternative is what it offers
abbrev pub ListsOffers : Type 0
ListsOffers = (scene : Scene CardValue) (alts : List Alt) → AreOffers scene alts (paths_of scene alts)

-- and a menu has at most so many items
abbrev pub MenusAreShort : Type 0
MenusAreShort = (scene : Scene CardValue) (site : ℕ) → length (menu_of scene site) ≤ most_items
