-- Menus at states that are alike.
use Rattle.std.specs.Prelude.{◌≡◌, ℕ, List}
use Rattle.rc_sheet_spec.specs.Sight.{IsInSight}
use Rattle.rc_play_spec.specs.Control.{Control}
use Rattle.rc_play_spec.specs.Owners.{mover}
use Rattle.rc_play_spec.specs.Shape.{shape_of}
use Rattle.rc_play_spec.specs.Table.{Table}
use Rattle.rc_play_spec.specs.Scene.{scene_of}
use Rattle.rc_play_spec.specs.Menu.{Item, menu_of}
use Rattle.rc_play_spec.specs.Alike.{IsAlike}
use Rattle.rc_ast.specs.Sheet.{sheet_seen}
use Rattle.rc_rules.specs.Control.{frames_seen}
use Rattle.rc_value.specs.declared.scene.Scene.{Scene}

-- At each table and control that are alike to the mover, this is the menu of the site too, where the sheet keeps the sight rule.
abbrev pub EqualAtAlike : Scene → ℕ → List Item → Type 0
EqualAtAlike s site menu =
    s.table.now.shape ≡ shape_of (sheet_seen s.sheet.now) → IsInSight (sheet_seen s.sheet.now) →
    (control : Control) (table' : Table) (control' : Control) → control.frames ≡ frames_seen s.frames.now →
    IsAlike s.table.now.shape
    (mover (sheet_seen s.sheet.now) control.frames) s.table.now.table table' control control' →
    menu ≡ menu_of (scene_of (sheet_seen s.sheet.now) s.table.now.shape table' control'.frames) site
