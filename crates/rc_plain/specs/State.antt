-- States as the definitions of play have them, and what their steps lead to.
use Rattle.std.specs.Prelude.{◌≡◌, ℕ, ◌<◌, false, length, Option, Some, None}
use Rattle.rc_sheet_spec.specs.Sheet.{choice}
use Rattle.rc_play_spec.specs.Menu.{alts_at}
use Rattle.rc_play_spec.specs.About.{About, menu_at}
use Rattle.rc_play_spec.specs.Effects.{Dealing}
use Rattle.rc_play_spec.specs.Step.{Config, Next, goes, stops, step}
use Rattle.rc_rules.specs.Control.{control_seen, frames_seen, stop_seen}
use Rattle.rc_rules.specs.Menu.{menu_seen}
use Rattle.rc_rules.specs.declared.control.Stop.{Stop}
use Rattle.rc_value.specs.Current.{IsCurrent}
use Rattle.rc_plain.specs.Paths.{item_at}
use Rattle.rc_plain.specs.Plain.{Plain, config_of, IsInPlay}
use Rattle.rc_plain.specs.declared.state.PlainState.{PlainState}

abbrev pub plain_of : About → PlainState → Plain
plain_of about state =
    record { about = about; path = state.path; table = state.board.laid.table; control = control_seen state.control }

-- the choice with this site is next, and it offers something
pub record IsOffered (m : Plain) (site : ℕ) : Type 0 where
  pub there : item_at m.about.sheet m.path ≡ Some (choice site (alts_at m.about.sheet site))
  pub some : 0 < length (menu_at m.about site m.table m.control)

-- its menu is kept
pub record KeepsMenu (about : About) (state : PlainState) (site : ℕ) : Type 0 where
  pub offered : IsOffered (plain_of about state) site
  pub menu : menu_seen state.menu.items ≡ menu_at about site state.board.laid.table (control_seen state.control)

-- The table is laid for the shape, its edits aren't noted, the state is one of a match, and it is known who is current. Where the control has a
-- site, the choice with it is next, and its menu is kept.
pub record IsReady (about : About) (state : PlainState) : Type 0 where
  pub laid : state.board.laid.shape ≡ about.shape
  pub quiet : state.board.notes ≡ false
  pub play : IsInPlay (plain_of about state)
  pub current : IsCurrent about.sheet (frames_seen state.control.frames.items) state.current
  pub kept : (site : ℕ) → state.control.site ≡ Some site → KeepsMenu about state site

abbrev pub config_at : About → PlainState → Config
config_at about state = config_of (plain_of about state)

-- what a step leads to: on, or to a stop
abbrev pub next_seen : Option Stop → Config → ℕ → Next ℕ
next_seen None c dealer = goes dealer c
next_seen (Some stop) c dealer = stops (stop_seen stop) c

-- a step without a shuffle: it leads there whatever the dealer
abbrev pub LeadsTo : About → Config → Option Stop → Config → Type 0
LeadsTo about c r after = (dealing : Dealing ℕ) (k : ℕ) → step about dealing k c ≡ next_seen r after k
