-- Statements of laws: that the opening table is sound, and that effects, steps and choices keep tables sound, so that what is seen of
-- each table of a match can be redrawn.
use Rattle.std.specs.Prelude.{◌≡◌, ℕ, List, Some, All}
use Rattle.std.specs.List.Sorted.{IsPermutation}
use Rattle.rc_base.specs.Numbers.{below}
use Rattle.rc_sheet_spec.specs.Sheet.{Effects, Sheet}
use Rattle.rc_sheet_spec.specs.Sight.{IsInSight}
use Rattle.rc_sheet_spec.specs.WellFormed.{Around, AreEffects, IsWellFormed}
use Rattle.rc_play_spec.specs.Shape.{Shape, shape_of}
use Rattle.rc_play_spec.specs.Table.{IsSound, opening}
use Rattle.rc_play_spec.specs.Scene.{Vars}
use Rattle.rc_play_spec.specs.Bound.{IsBindOf, HasHomes}
use Rattle.rc_play_spec.specs.View.{view_of}
use Rattle.rc_play_spec.specs.About.{About, menu_at}
use Rattle.rc_play_spec.specs.Effects.{Dealing, Point, does}
use Rattle.rc_play_spec.specs.Step.{decide}
use Rattle.rc_play_spec.specs.Stop.{Stopped}
use Rattle.rc_play_spec.specs.Play.{reached}
use Rattle.rc_play_spec.specs.Keyed.{dealing_of}
use Rattle.rc_play_spec.specs.Redraw.{redraw}
use Rattle.rc_play_spec.specs.RedrawLaws.{IsViewOfSound}

-- a dealer gives each list an order of its places
abbrev pub DealsOrders : Dealing ℕ → Type 0
DealsOrders dealing = (k size : ℕ) → IsPermutation (below size) (dealing.order k size)

-- the cards of a well formed sheet begin in locations that hold cards
abbrev pub SheetsHaveHomes : Type 0
SheetsHaveHomes = (sheet : Sheet) → IsWellFormed sheet → HasHomes (shape_of sheet)

-- the opening table is sound
abbrev pub OpeningIsSound : Type 0
OpeningIsSound = (shape : Shape) → HasHomes shape → IsSound shape (opening shape)

-- well formed effects leave a sound table sound
abbrev pub EffectsKeepSound : Type 0
EffectsKeepSound =
    (about : About) (dealing : Dealing ℕ) (around : Around) (vars : Vars) (effects : Effects) (now : Point ℕ) →
    about.shape ≡ shape_of about.sheet → DealsOrders dealing → AreEffects about.sheet around effects →
    All (IsBindOf about.shape) vars →
    IsSound about.shape now.table → IsSound about.shape (does about dealing vars effects now).table

-- wherever items lead in a match of a well formed sheet, the table is sound
abbrev pub ReachedIsSound : Type 0
ReachedIsSound =
    (about : About) (dealing : Dealing ℕ) → about.shape ≡ shape_of about.sheet → IsWellFormed about.sheet →
    DealsOrders dealing →
    (items : List ℕ) (k : ℕ) (at : Stopped ℕ) → reached about dealing items k ≡ Some at →
    IsSound about.shape at.config.table

-- so each view there is one of a sound table
abbrev pub ReachedViewsAreOfSound : Type 0
ReachedViewsAreOfSound =
    (about : About) (dealing : Dealing ℕ) → about.shape ≡ shape_of about.sheet → IsWellFormed about.sheet →
    DealsOrders dealing →
    (items : List ℕ) (k seat : ℕ) (at : Stopped ℕ) → reached about dealing items k ≡ Some at →
    IsViewOfSound about.shape (view_of about.shape seat at.config.table at.config.control)

-- the shuffles of each match are orders
abbrev pub MatchesDealOrders : Type 0
MatchesDealOrders = (deal : ℕ) → DealsOrders (dealing_of deal)

-- At each decision of a match of a checked sheet, what the mover sees can be redrawn by any key: the table is sound, looks the same
-- to the mover, and has the same menu.
abbrev pub DecisionsCanBeRedrawn : Type 0
DecisionsCanBeRedrawn =
    (about : About) (dealing : Dealing ℕ) → about.shape ≡ shape_of about.sheet → IsWellFormed about.sheet →
    IsInSight about.sheet → DealsOrders dealing →
    (items key : List ℕ) (k seat site : ℕ) (at : Stopped ℕ) → reached about dealing items k ≡ Some at →
    at.stop ≡ decide seat site →
    let view = view_of about.shape seat at.config.table at.config.control in
    let table = redraw about.shape view key in
    IsSound about.shape table × (view_of about.shape seat table at.config.control ≡ view)
    × (menu_at about site table at.config.control ≡ menu_at about site at.config.table at.config.control)
