use Rattle.std.proofs.Common.{[], ◌∷◌, refl}
use Rattle.rc_base.specs.Tree.{Tree}
use Rattle.rc_sheet_spec.specs.Printing.{keyword, row, who_form, coll_form}
use Rattle.rc_ast.specs.Names.{who_seen}
use Rattle.rc_ast.specs.Expressions.{coll_seen}
use Rattle.rc_print.specs.Printing.{naming_seen, bound_seen}
use Rattle.rc_print.proofs.Rows.{opened, with_part, closed}
use Rattle.rc_print.proofs.effects.push_peeked.Goals as goal

pub returns : goal.returns
returns c =
    let sheet = c.args.sheet.now in
    let bound = bound_seen sheet c.args.bound.now in
    let cards : Tree = coll_form (naming_seen sheet) bound (coll_seen c.args.cards.now) in
    let who : Tree = who_form bound (who_seen c.args.who) in
    let begun-0 = opened c.in_ok-open_part.ensures in
    let begun-1 = with_part cards begun-0 c.in_ok-push_coll.ensures in
    let begun-2 = with_part who begun-1 c.in_ok-push_part_who.ensures in
    closed _ c.close.result (row (keyword "peek" ∷ cards ∷ who ∷ [])) begun-2 c.close.ensures refl
