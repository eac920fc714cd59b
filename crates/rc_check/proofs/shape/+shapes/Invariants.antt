use Rattle.std.proofs.Common.{◌≡◌, drop}
use Rattle.rc_form.specs.Form.{trees_of, packed}
use Rattle.rc_check.specs.Faults.{first, faults_in, part_faults, count}
use Rattle.rc_check.proofs.shape.+shapes.Given as goal

-- the first fault of the parts that are left is the first of all
abbrev pub invariant-check_parts-loop-index : goal.invariant-check_parts-loop-index
invariant-check_parts-loop-index l =
    let parts = packed (trees_of l.parts) in
    first (faults_in l.rule (count parts) l.index (packed (trees_of (drop l.index l.parts)))) ≡ first (part_faults l.rule parts)
