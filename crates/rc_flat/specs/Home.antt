-- Machines that go home, as the definitions of play have them.
use Rattle.std.specs.Prelude.{◌≡◌, ℕ, Bool, List, [], Option, Some, unwrap_or}
use Rattle.rc_play_spec.specs.Control.{Control}
use Rattle.rc_play_spec.specs.Table.{Table}
use Rattle.rc_play_spec.specs.About.{About, menu_at}
use Rattle.rc_play_spec.specs.Step.{Config}
use Rattle.rc_play_spec.specs.Decision.{at_site}
use Rattle.rc_play_spec.specs.Path.{Path}
use Rattle.rc_rules.specs.Control.{control_seen}
use Rattle.rc_rules.specs.Machine.{CanDecide}
use Rattle.rc_rules.specs.Menu.{menu_seen}
use Rattle.rc_code.specs.Instruction.{Instruction}
use Rattle.rc_flat.specs.Flat.{config_of, flat_from}
use Rattle.rc_flat.specs.MarkedMoments.{IsInMatch}
use Rattle.rc_flat.specs.declared.stand.Stand.{Stand}

-- what a match is played by, where it stands, where it stood at home, and whether memory was lacking
pub record Homing : Type 0 where
  pub about : About
  pub config : Config
  pub home : Config
  pub spent : Bool

-- where a match stands at home
abbrev pub config_at_home : About → List Instruction → Option Table → Stand → Config
config_at_home about code home stand =
    config_of (flat_from about code stand.place (unwrap_or home (record { lists = []; numbers = []; marks = [] }))
    (control_seen stand.control))

-- with each table for the decision of this control a match goes on at the place, at the control's site
abbrev pub IsAtSite : About → List Instruction → Path → Control → Type 0
IsAtSite about code place control =
    (table : Table) → CanDecide about table control →
    IsInMatch (flat_from about code place table control)
    × (config_of (flat_from about code place table control) ≡ at_site about table control)

-- there is a home, where a match goes on, and the menu is kept
pub record IsHome (about : About) (code : List Instruction) (home : Option Table) (stand : Stand) : Type 0 where
  pub table : Table
  pub is : home ≡ Some table
  pub on : IsInMatch (flat_from about code stand.place table (control_seen stand.control))
  pub menu : (site : ℕ) → stand.control.site ≡ Some site →
      menu_seen stand.menu.items ≡ menu_at about site table (control_seen stand.control)
  pub site : IsAtSite about code stand.place (control_seen stand.control)
