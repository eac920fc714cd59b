-- Statements of laws of redrawn tables: they are sound, their view is the view, and so is the mover's menu.
use Rattle.std.specs.Prelude.{◌≡◌, ℕ, List, [], length}
use Rattle.rc_sheet_spec.specs.Sheet.{Sheet}
use Rattle.rc_sheet_spec.specs.Sight.{IsInSight}
use Rattle.rc_play_spec.specs.Owners.{mover}
use Rattle.rc_play_spec.specs.Shape.{Shape, shape_of}
use Rattle.rc_play_spec.specs.Table.{Table, IsSound}
use Rattle.rc_play_spec.specs.Scene.{scene_of}
use Rattle.rc_play_spec.specs.Menu.{menu_of}
use Rattle.rc_play_spec.specs.View.{View, view_of, view_scene}
use Rattle.rc_play_spec.specs.Redraw.{mems_of, redraw, seen_faces, seen_ids, seen_of, hidden_count, unused}
use Rattle.rc_play_spec.specs.Smallest.{TakeSmallest, AreEnough}

-- a view of some sound table
abbrev pub IsViewOfSound : Shape → View → Type 0
IsViewOfSound shape view = (table : Table) × IsSound shape table × (view ≡ view_of shape view.seat table view.control)

-- what a view of a sound table is redrawn to is sound
abbrev pub RedrawsSound : Type 0
RedrawsSound = (shape : Shape) (view : View) (key : List ℕ) → IsViewOfSound shape view →
    IsSound shape (redraw shape view key)

-- and the view of it is the view
abbrev pub RedrawsKeepViews : Type 0
RedrawsKeepViews =
    (shape : Shape) (view : View) (key : List ℕ) → IsViewOfSound shape view →
    view_of shape view.seat (redraw shape view key) view.control ≡ view

-- and the mover's menu in it is that of the view, so that of each table with this view
abbrev pub RedrawsKeepMenus : Type 0
RedrawsKeepMenus =
    (sheet : Sheet) (shape : Shape) (view : View) (key : List ℕ) (site : ℕ) → shape ≡ shape_of sheet → IsInSight sheet →
    IsViewOfSound shape view →
    view.seat ≡ mover sheet view.control.frames →
    menu_of (scene_of sheet shape (redraw shape view key) view.control.frames) site
    ≡ menu_of (view_scene sheet shape view) site

-- each seen card place takes the smallest id of its face that no place before it took, and what is so taken is one list
abbrev pub RedrawsTakeSmallest : Type 0
RedrawsTakeSmallest =
    (shape : Shape) (view : View) → IsViewOfSound shape view →
    TakeSmallest shape (seen_faces (mems_of shape.places) view.sights) (seen_of shape view)
    × ((ids : List ℕ) → TakeSmallest shape (seen_faces (mems_of shape.places) view.sights) ids →
    ids ≡ seen_of shape view)

-- a view of a sound table doesn't see a face more often than it is there
abbrev pub SeesFew : Type 0
SeesFew = (shape : Shape) (view : View) → IsViewOfSound shape view →
    AreEnough shape (seen_faces (mems_of shape.places) view.sights)

-- and what it doesn't see are as many places as there are other ids
abbrev pub HidesTheRest : Type 0
HidesTheRest =
    (shape : Shape) (view : View) → IsViewOfSound shape view → hidden_count (mems_of shape.places) view.sights
    ≡ length (unused shape (seen_of shape view))

-- whatever faces are seen, no more than are there
abbrev pub TakesSmallest : Type 0
TakesSmallest = (shape : Shape) (fs : List ℕ) → AreEnough shape fs → TakeSmallest shape fs (seen_ids shape [] fs)
