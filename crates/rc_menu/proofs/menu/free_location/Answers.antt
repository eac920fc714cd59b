use Rattle.std.proofs.Common.{ap, ◌∙◌}
use Rattle.rc_sheet_spec.specs.Sheet.{each_card}
use Rattle.rc_ast.specs.Expressions.{coll_seen, domain_seen}
use Rattle.rc_ast.specs.Items.{alt_seen}
use Rattle.rc_menu.proofs.menu.free_location.Goals as goal

pub returns-in-Loc : goal.returns-in-Loc
returns-in-Loc c =
    let domain = ap domain_seen c.in-Coll.is ∙ ap (λ x. each_card (coll_seen x)) c.in-Loc.is in
    (_, domain, ap alt_seen c.in-Do.is)
