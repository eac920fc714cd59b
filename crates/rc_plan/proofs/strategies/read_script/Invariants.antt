use Rattle.std.proofs.Common.{drop}
use Rattle.rc_form.specs.Form.{trees_of, packed}
use Rattle.rc_play_spec.specs.Faults.{script_number}
use Rattle.rc_plan.specs.Reads.{IsReadSoFar, IsNumberBetween}
use Rattle.rc_plan.proofs.strategies.read_script.Given as goal

abbrev pub invariant-loop-part : goal.invariant-loop-part
invariant-loop-part l =
    IsReadSoFar (IsNumberBetween 0 65535) script_number l.numbers.items (packed (trees_of (drop l.part-index l.parts))) (packed (trees_of l.parts))
