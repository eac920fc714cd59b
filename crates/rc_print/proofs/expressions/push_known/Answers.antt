use Rattle.std.proofs.Common.{[], ◌∷◌, refl}
use Rattle.rc_base.specs.Tree.{Tree}
use Rattle.rc_sheet_spec.specs.Printing.{keyword, row, loc_form}
use Rattle.rc_ast.specs.Names.{loc_seen}
use Rattle.rc_print.specs.Printing.{naming_seen, bound_seen}
use Rattle.rc_print.proofs.Rows.{opened, with_part, closed}
use Rattle.rc_print.proofs.expressions.push_known.Goals as goal

pub returns : goal.returns
returns c =
    let sheet = c.args.sheet.now in
    let naming = naming_seen sheet in
    let bound = bound_seen sheet c.args.bound.now in
    let loc : Tree = loc_form naming bound (loc_seen c.args.loc.now) in
    let begun-0 = opened c.in_ok-open_part.ensures in
    let begun-1 = with_part loc begun-0 c.in_ok-push_loc.ensures in
    closed _ c.close.result (row (keyword "known" ∷ loc ∷ [])) begun-1 c.close.ensures refl
