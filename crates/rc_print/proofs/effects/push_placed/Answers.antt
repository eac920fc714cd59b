use Rattle.std.proofs.Common.{[], ◌∷◌, refl}
use Rattle.rc_base.specs.Tree.{Tree}
use Rattle.rc_sheet_spec.specs.Printing.{atom, row, card_form, spot_form}
use Rattle.rc_ast.specs.Names.{loc_seen}
use Rattle.rc_ast.specs.Expressions.{card_seen}
use Rattle.rc_ast.specs.Effects.{end_seen}
use Rattle.rc_print.specs.Printing.{naming_seen, bound_seen}
use Rattle.rc_print.proofs.Rows.{opened, with_part, closed}
use Rattle.rc_print.proofs.effects.push_placed.Goals as goal

pub returns : goal.returns
returns c =
    let sheet = c.args.sheet.now in
    let naming = naming_seen sheet in
    let bound = bound_seen sheet c.args.bound.now in
    let card : Tree = card_form naming bound (card_seen c.args.card.now) in
    let spot : Tree = spot_form naming bound (end_seen c.args.end) (loc_seen c.args.loc.now) in
    let begun-0 = opened c.in_ok-open_part.ensures in
    let begun-1 = with_part card begun-0 c.in_ok-push_card.ensures in
    let begun-2 = with_part spot begun-1 c.in_ok-push_spot.ensures in
    closed _ c.close.result (row (atom c.args.head.now ∷ card ∷ spot ∷ [])) begun-2 c.close.ensures refl
