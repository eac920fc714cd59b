-- What is kept for tables that are redrawn for a view time and again.
use Rattle.std.specs.Prelude.{◌≡◌, ℕ, ◌≤◌, List, length, Option}
use Rattle.rc_base.specs.Limits.{most_cards}
use Rattle.rc_play_spec.specs.Shape.{Shape}
use Rattle.rc_play_spec.specs.Table.{Table}
use Rattle.rc_play_spec.specs.View.{View}
use Rattle.rc_play_spec.specs.Redraw.{mems_of, seen_of, unused as unused_ids, redrawn, redraw}
use Rattle.rc_play_spec.specs.RedrawLaws.{IsViewOfSound}
use Rattle.rc_redraw.specs.Hiding.{hiding_from, patterns, IsKept}

-- a view of a table of a shape, and a table that looks like it
pub record Redrawn : Type 0 where
  pub shape : Shape
  pub view : View
  pub table : Table

-- the same with the table of a key
abbrev pub redealt : List ℕ → Redrawn → Redrawn
redealt key r = record { shape = r.shape; view = r.view; table = redraw r.shape r.view key }

-- The locations that hide cards, what is known of their places, if anything is, with room for all that they hold then,
-- the ids for the other places in ascending order, and as many in that order in which the table has them.
pub record Keeps (r : Redrawn) (hidden : List ℕ) (pattern : List (Option ℕ))
    (content unused order : List ℕ) : Type 0 where
  pub of : IsViewOfSound r.shape r.view
  pub hiding : hidden ≡ hiding_from 0 (mems_of r.shape.places) r.view.sights
  pub known : IsKept pattern (patterns (mems_of r.shape.places) r.view.sights (seen_of r.shape r.view))
  pub long : length content ≡ length pattern
  pub rest : unused ≡ unused_ids r.shape (seen_of r.shape r.view)
  pub few : length unused ≤ most_cards
  pub each : length order ≡ length unused
  pub is : r.table ≡ redrawn r.shape r.view order
