use Rattle.rc_check.proofs.FirstKind.{or_first, or_second}
use Rattle.rc_check.proofs.kinds.is_wrong_atom.Goals as goal

pub returns-then-is_misused : goal.returns-then-is_misused
returns-then-is_misused c = λ above. or_first _ _ _ (c.is_misused.ensures above) c.if-is_misused.true

pub returns-else-is_misused : goal.returns-else-is_misused
returns-else-is_misused c = λ above. or_second _ _ _ _ (c.is_misused.ensures above) c.if-is_misused.false
    (c.is_other_side.ensures above)
