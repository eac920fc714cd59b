-- Moments to which machines go.
use Rattle.std.specs.Prelude.{◌≡◌, ℕ, List, Some}
use Rattle.rc_play_spec.specs.Table.{Table}
use Rattle.rc_play_spec.specs.About.{About, menu_at}
use Rattle.rc_play_spec.specs.Step.{Config}
use Rattle.rc_rules.specs.Control.{control_seen}
use Rattle.rc_rules.specs.Menu.{menu_seen}
use Rattle.rc_value.specs.Current.{IsCurrent}
use Rattle.rc_code.specs.Instruction.{Instruction}
use Rattle.rc_flat.specs.Flat.{Flat, config_of, flat_from}
use Rattle.rc_flat.specs.MarkedMoments.{IsInMatch}
use Rattle.rc_flat.specs.Machine.{Machine}
use Rattle.rc_flat.specs.declared.moments.Moment.{Moment}

-- where a match stands at a moment
abbrev pub flat_then : About → List Instruction → Moment → Flat
flat_then about code moment =
    flat_from about code moment.stand.place moment.table.table (control_seen moment.stand.control)

-- The moment is that at which a match of this about stands here on this code: with its table a match goes on at its place, and who is
-- current there and the menu are kept.
pub record IsMoment (about : About) (code : List Instruction) (config : Config) (moment : Moment) : Type 0 where
  pub shape : moment.table.shape ≡ about.shape
  pub on : IsInMatch (flat_then about code moment)
  pub there : config_of (flat_then about code moment) ≡ config
  pub current : IsCurrent about.sheet config.control.frames moment.current
  pub menu : (site : ℕ) → config.control.site ≡ Some site →
      menu_seen moment.stand.menu.items ≡ menu_at about site config.table config.control

-- the same with another table
abbrev pub with_table : Table → Config → Config
with_table table config = record { left = config.left; table = table; control = config.control }

-- it plays a match of the same about on the same code, and its home stays
pub record StaysInMatch (old new : Machine) : Type 0 where
  pub about : new.about ≡ old.about
  pub code : new.code ≡ old.code
  pub home : new.home ≡ old.home
