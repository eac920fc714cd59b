-- States as the definitions of play have them, and what their steps lead to.
use Rattle.std.specs.Prelude.{◌≡◌, ℕ, List, Option, Some, None}
use Rattle.rc_play_spec.specs.About.{About, menu_at}
use Rattle.rc_play_spec.specs.Effects.{Dealing}
use Rattle.rc_play_spec.specs.Step.{Config, Next, goes, stops, step}
use Rattle.rc_rules.specs.Control.{control_seen, frames_seen, stop_seen}
use Rattle.rc_rules.specs.Menu.{menu_seen}
use Rattle.rc_rules.specs.declared.control.Stop.{Stop}
use Rattle.rc_value.specs.Current.{IsCurrent}
use Rattle.rc_code.specs.Instruction.{Instruction}
use Rattle.rc_flat.specs.Flat.{Flat, config_of, IsInPlay, IsOffered}
use Rattle.rc_flat.specs.declared.state.State.{State}

abbrev pub flat_of : About → List Instruction → State → Flat
flat_of about code state =
    record {
      about = about;
      code = code;
      place = state.place;
      table = state.board.laid.table;
      control =
          control_seen state.control;
    }

-- its menu is kept
pub record KeepsMenu (about : About) (code : List Instruction) (state : State) (site : ℕ) : Type 0 where
  pub offered : IsOffered (flat_of about code state) site
  pub menu : menu_seen state.menu.items ≡ menu_at about site state.board.laid.table (control_seen state.control)

-- The table is laid for the shape, the state is one of a match, and it is known who is current. Where the control has a site, the choice
-- with it is next, and its menu is kept.
pub record IsReady (about : About) (code : List Instruction) (state : State) : Type 0 where
  pub laid : state.board.laid.shape ≡ about.shape
  pub play : IsInPlay (flat_of about code state)
  pub current : IsCurrent about.sheet (frames_seen state.control.frames.items) state.current
  pub kept : (site : ℕ) → state.control.site ≡ Some site → KeepsMenu about code state site

abbrev pub config_at : About → List Instruction → State → Config
config_at about code state = config_of (flat_of about code state)

-- what a step leads to: on, or to a stop
abbrev pub next_seen : Option Stop → Config → ℕ → Next ℕ
next_seen None c dealer = goes dealer c
next_seen (Some stop) c dealer = stops (stop_seen stop) c

-- a step without a shuffle: it leads there whatever the dealer
abbrev pub LeadsTo : About → Config → Option Stop → Config → Type 0
LeadsTo about c r after = (dealing : Dealing ℕ) (k : ℕ) → step about dealing k c ≡ next_seen r after k
