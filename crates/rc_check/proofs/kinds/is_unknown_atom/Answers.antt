use Rattle.std.proofs.Common.{sym, ◌∙◌}
use Rattle.rc_check.proofs.FirstKind.{or_one, or_two, or_three}
use Rattle.rc_check.proofs.kinds.is_unknown_atom.Goals as goal
use Rattle.rc_check.proofs.kinds.is_unknown_atom.Goals.{then-is_unbound-via-then-is_unbound, then-is_unbound-via-else-is_unbound+then-lacks}

pub returns-then-is_unbound : goal.returns-then-is_unbound
returns-then-is_unbound c = λ above. elim c.then-is_unbound.branch [
  | then-is_unbound-via-then-is_unbound w ↦ or_one _ _ _ (sym (c.is_unbound.ensures above) ∙ w.if-is_unbound.true)
  | then-is_unbound-via-else-is_unbound+then-lacks w ↦ or_two _ _ _ (sym (c.is_unbound.ensures above) ∙ w.if-is_unbound.false)
      (sym w.lacks.ensures ∙ w.if-lacks.true)
]

pub returns : goal.returns
returns c = λ above.
    or_three _ _ _ _ (sym (c.is_unbound.ensures above) ∙ c.if-is_unbound.false)
    (sym c.lacks.ensures ∙ c.if-lacks.false) c.is_stranger.ensures
