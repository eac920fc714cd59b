use Rattle.std.proofs.Common.{ℕ, IfSome, subst}
use Rattle.rc_sheet_spec.specs.Sheet.{any_alt}
use Rattle.rc_ast.specs.Items.{alt_seen}
use Rattle.rc_code.specs.Guards.{IsGuardOf}
use Rattle.rc_code.proofs.guards.guard_among.Goals as goal

pub returns-in-Some-clause-meaning : goal.returns-in-Some-clause-meaning
returns-in-Some-clause-meaning c =
    subst (λ domain. IfSome c.guard_in.result (λ guard. (bound : ℕ) → IsGuardOf (any_alt domain bound (alt_seen c.args.alt.now)) guard))
    c.in-Some.ensures.same c.guard_in.ensures.meaning
