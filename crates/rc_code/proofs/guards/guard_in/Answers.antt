use Rattle.std.proofs.Common.{ap, sym, ◌∙◌}
use Rattle.rc_sheet_spec.specs.Sheet.{if_alt}
use Rattle.rc_ast.specs.Expressions.{test_seen}
use Rattle.rc_ast.specs.Effects.{effects_seen}
use Rattle.rc_ast.specs.Items.{alt_seen}
use Rattle.rc_code.proofs.GuardLemmas.{guards}
use Rattle.rc_code.proofs.guards.guard_in.Goals as goal

pub returns-in-If-clause-meaning : goal.returns-in-If-clause-meaning
returns-in-If-clause-meaning c =
    let effects = effects_seen c.in-If.field-1.items in
    guards c.args.loc (test_seen c.deref.result.now) effects (alt_seen c.args.alt.now)
    (ap alt_seen c.in-If.is ∙ ap (λ t. if_alt (test_seen t) effects) (sym c.deref.ensures))
    c.guard_by.result c.guard_by.ensures.place c.guard_by.ensures.same c.guard_by.ensures.fixed
