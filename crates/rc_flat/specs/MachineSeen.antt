-- A machine as the definitions of play have it.
use Rattle.std.specs.Prelude.{◌≡◌, Bool, false, List}
use Rattle.rc_play_spec.specs.About.{About}
use Rattle.rc_code.specs.Instruction.{Instruction}
use Rattle.rc_code.specs.Seen.{list_seen}
use Rattle.rc_code.specs.Implements.{Implements}
use Rattle.rc_flat.specs.State.{config_at, IsReady}
use Rattle.rc_flat.specs.declared.state.State.{State}
use Rattle.rc_flat.specs.Machine.{Machine}
use Rattle.rc_flat.specs.declared.machine.FlatMachine.TheInside.{Inside}

abbrev pub machine_seen : Inside → Machine
machine_seen m =
    record {
      about = m.about;
      code = list_seen m.code.value.list.items;
      config = config_at m.about (list_seen m.code.value.list.items) m.state;
      before = m.state.board.before;
      notes = m.state.board.notes;
      home = m.state.board.home;
      spent = m.spent;
    }

-- What a machine keeps: its code implements the sheet, its table is laid for the shape, and where it isn't spent a match stands there.
pub record IsMachine (about : About) (code : List Instruction) (state : State) (spent : Bool) : Type 0 where
  pub implements : Implements about.sheet code
  pub laid : state.board.laid.shape ≡ about.shape
  pub ready : spent ≡ false → IsReady about code state

abbrev pub KeepsMachine : Inside → Type 0
KeepsMachine m = IsMachine m.about (list_seen m.code.value.list.items) m.state m.spent
