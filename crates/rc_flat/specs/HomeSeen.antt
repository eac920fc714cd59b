-- A machine that goes home as the definitions of play have it.
use Rattle.std.specs.Prelude.{◌≡◌, false, List}
use Rattle.rc_play_spec.specs.About.{About}
use Rattle.rc_code.specs.Instruction.{Instruction}
use Rattle.rc_code.specs.Seen.{code_seen, list_seen}
use Rattle.rc_code.specs.Stands.{StandsFor}
use Rattle.rc_code.specs.declared.code.Code.{Code}
use Rattle.rc_flat.specs.Home.{Homing, config_at_home, IsHome}
use Rattle.rc_flat.specs.declared.homing.HomeMachine.TheInside.{Inside}

abbrev pub homing_seen : Inside → Homing
homing_seen h =
    record {
      about = h.machine.about;
      config = h.machine.config;
      home = config_at_home h.machine.about h.machine.code h.machine.home h.stand;
      spent = h.machine.spent;
    }

-- code with the places of its choices that stands for the sheet, and has this list
pub record IsCodeOf (about : About) (list : List Instruction) (code : Code) : Type 0 where
  pub stands : StandsFor about.sheet (code_seen code)
  pub same : list_seen code.list.items ≡ list

-- it has a home, notes nothing, and has its code
abbrev pub KeepsHome : Inside → Type 0
KeepsHome h =
    IsHome h.machine.about h.machine.code h.machine.home h.stand × (h.machine.notes ≡ false)
    × IsCodeOf h.machine.about h.machine.code h.code.value
