use Rattle.std.proofs.Common.{◌≡◌, drop, true}
use Rattle.rc_form.specs.Form.{trees_of, packed}
use Rattle.rc_play_spec.specs.Faults.{each, match}
use Rattle.rc_plan.proofs.matches.fault_among.Given as goal

abbrev pub invariant-loop-part : goal.invariant-loop-part
invariant-loop-part l =
    each (match true) (packed (trees_of (drop l.part-index l.parts))) ≡ each (match true) (packed (trees_of l.parts))
