-- Where a machine stands, and where it may be made.
use Rattle.std.specs.Prelude.{ℕ, ◌<◌, List, length, unwrap_or}
use Rattle.rc_play_spec.specs.About.{About, menu_at}
use Rattle.rc_play_spec.specs.Menu.{Item}
use Rattle.rc_play_spec.specs.ItemBounds.{Bound, bounds_at}
use Rattle.rc_play_spec.specs.Step.{Config, Stop, decide, is_done, is_limit}
use Rattle.rc_play_spec.specs.Control.{Control}
use Rattle.rc_play_spec.specs.Table.{Table}
use Rattle.rc_play_spec.specs.Fits.{IsDecision, FitsSite}

-- the menu at the site of the control
abbrev pub menu_here : About → Config → List Item
menu_here about c = menu_at about (unwrap_or c.control.site 0) c.table c.control

-- what the x-th item of that menu binds
abbrev pub bounds_here : About → ℕ → Config → List Bound
bounds_here about x c = bounds_at about (unwrap_or c.control.site 0) x c

-- this seat decides at this site, where something is offered
pub record Decides (about : About) (seat site : ℕ) (c : Config) : Type 0 where
  pub decision : IsDecision about seat site c
  pub offered : 0 < length (menu_at about site c.table c.control)

-- some seat decides at some site
abbrev pub StopsAtDecision : About → Config → Type 0
StopsAtDecision about c = (seat : ℕ) × (site : ℕ) × Decides about seat site c

-- at a decision, where it stops at one
abbrev pub IsWhereItStops : About → Stop → Config → Type 0
IsWhereItStops about (decide seat site) c = Decides about seat site c
IsWhereItStops about is_done c = Unit {0}
IsWhereItStops about is_limit c = Unit {0}

-- a table and a control at a decision of some site: the control fits the site, something is offered there, and the turn limit
-- isn't met
pub record CanDecide (about : About) (table : Table) (control : Control) : Type 0 where
  pub site : ℕ
  pub fits : FitsSite about site control
  pub some : 0 < length (menu_at about site table control)
  pub below : control.turn < about.turns
