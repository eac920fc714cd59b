use Rattle.std.proofs.Common.{ap, sym, ◌∙◌}
use Rattle.rc_sheet_spec.specs.Sheet.{any_alt}
use Rattle.rc_ast.specs.Expressions.{domain_seen}
use Rattle.rc_ast.specs.Items.{alt_seen}
use Rattle.rc_code.proofs.GuardLemmas.{guards_bound}
use Rattle.rc_code.proofs.guards.guard_of.Goals as goal

pub returns-in-Any-clause-meaning : goal.returns-in-Any-clause-meaning
returns-in-Any-clause-meaning c =
    let domain = domain_seen c.in-Any.domain in
    let bound = c.in-Any.field-1 in
    guards_bound domain bound (alt_seen c.deref.result.now) (alt_seen c.args.alt.now)
    (ap alt_seen c.in-Any.is ∙ ap (λ inner. any_alt domain bound (alt_seen inner)) (sym c.deref.ensures))
    c.guard_among.result c.guard_among.ensures.meaning
