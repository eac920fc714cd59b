use Rattle.std.proofs.Common.{◌∷◌, [], arith}
use Rattle.rc_play_spec.specs.Faults.{any_number}
use Rattle.rc_plan.proofs.Lengths.{other_length}
use Rattle.rc_plan.proofs.Told.{shape_told}
use Rattle.rc_plan.proofs.matches.read_count.Goals as goal

pub returns-in_default : goal.returns-in_default
returns-in_default c =
    shape_told _ _ c.args.from c.shape.ensures
    (other_length (any_number ∷ any_number ∷ any_number ∷ []) c.args.from c.args.parts.now (λ long. grind arith))
