use Rattle.std.proofs.Common.{subst}
use Rattle.rc_ast.specs.Expressions.{domain_seen}
use Rattle.rc_ast.specs.Items.{alt_seen}
use Rattle.rc_sheet.specs.Gives.{Gives}
use Rattle.rc_sheet.proofs.AlternativeLemmas.{any_read}
use Rattle.rc_sheet.proofs.reader.Reader.+alternatives.Goals as goal

pub alternative_list-returns-in_ok-domain-in-AnyOf : goal.alternative_list-returns-in_ok-domain-in-AnyOf
alternative_list-returns-in_ok-domain-in-AnyOf t c =
    let given = c.in_ok-rule.ensures in
    let found = c.in_ok-domain-in-AnyOf in
    let over = c.index-parts-1 in
    let variable = c.index-parts-2 in
    let alt = c.index-parts-3 in
    let read = any_read c.args.self.now c.args.scope.now found.inner c.args.parts.now _ over.result variable.result alt.result
    (domain_seen found.domain) found.bound given.given given.sized c.in-AnyOf.is over.is variable.is alt.is
    found.ensures.given found.ensures.inner in
    subst (Gives alt_seen c.any.result) read (c.any.ensures _ c.alternative-alt.ensures)
