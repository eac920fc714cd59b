use Rattle.rc_base.specs.Tree.{Tree}
use Rattle.rc_deck.proofs.EachLemmas.{on_ok}
use Rattle.rc_sheet_spec.specs.Printing.{coll_form, spot_form}
use Rattle.rc_ast.specs.Names.{loc_seen}
use Rattle.rc_ast.specs.Expressions.{coll_seen}
use Rattle.rc_ast.specs.Effects.{end_seen}
use Rattle.rc_print.specs.Printing.{naming_seen, bound_seen}
use Rattle.rc_print.proofs.Rows.{opened, with_part, ended}
use Rattle.rc_print.proofs.effects.push_moved.Goals as goal

-- the head's two words are printed as one atom would be
pub returns : goal.returns
returns c =
    let sheet = c.args.sheet.now in
    let naming = naming_seen sheet in
    let bound = bound_seen sheet c.args.bound.now in
    let cards : Tree = coll_form naming bound (coll_seen c.args.cards.now) in
    let spot : Tree = spot_form naming bound (end_seen c.args.end) (loc_seen c.args.loc.now) in
    let begun = with_part spot (with_part cards (opened c.in_ok-open_part.ensures) c.in_ok-push_coll.ensures)
    c.in_ok-push_spot.ensures in
    on_ok c.close.result c.close.ensures (λ is. ended begun is)
