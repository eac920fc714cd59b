use Rattle.std.proofs.Common.{◌≡◌, ◌+◌, ◌≤◌, drop}
use Rattle.rc_form.specs.Form.{trees_of, packed}
use Rattle.rc_play_spec.specs.Faults.{lists_among}
use Rattle.rc_plan.proofs.matches.lists_among.Given as goal

abbrev pub invariant-loop-part : goal.invariant-loop-part
invariant-loop-part l =
    (l.lists ≤ l.part-index) × (l.lists + lists_among (packed (trees_of (drop l.part-index l.parts))) ≡ lists_among (packed (trees_of l.parts)))
