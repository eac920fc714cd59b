use Rattle.std.proofs.Common.{[], ◌∷◌, refl}
use Rattle.rc_base.specs.Tree.{Tree}
use Rattle.rc_sheet_spec.specs.Printing.{atom, row, num_form, int_form}
use Rattle.rc_ast.specs.Names.{num_seen}
use Rattle.rc_ast.specs.Expressions.{int_seen}
use Rattle.rc_print.specs.Printing.{naming_seen, bound_seen}
use Rattle.rc_print.proofs.Rows.{opened, with_part, closed}
use Rattle.rc_print.proofs.effects.push_change.Goals as goal

pub returns : goal.returns
returns c =
    let sheet = c.args.sheet.now in
    let naming = naming_seen sheet in
    let bound = bound_seen sheet c.args.bound.now in
    let num : Tree = num_form naming bound (num_seen c.args.num.now) in
    let value : Tree = int_form naming bound (int_seen c.args.value.now) in
    let begun-0 = opened c.in_ok-open_part.ensures in
    let begun-1 = with_part num begun-0 c.in_ok-push_num.ensures in
    let begun-2 = with_part value begun-1 c.in_ok-push_int.ensures in
    closed _ c.close.result (row (atom c.args.head.now ∷ num ∷ value ∷ [])) begun-2 c.close.ensures refl
