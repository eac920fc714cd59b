use Rattle.rc_play_spec.specs.Faults.{script_number}
use Rattle.rc_plan.specs.Reads.{IsNumberBetween}
use Rattle.rc_plan.proofs.Turns.{read_all}
use Rattle.rc_plan.proofs.strategies.read_script.Goals as goal

pub returns : goal.returns
returns c =
    read_all (IsNumberBetween 0 65535) script_number c.loop-part.numbers.items c.args.parts.now c.loop-part.part-index c.loop-part-test.false c.loop-part.invariant
