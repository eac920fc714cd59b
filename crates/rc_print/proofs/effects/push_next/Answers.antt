use Rattle.rc_base.specs.Tree.{Tree}
use Rattle.rc_deck.proofs.EachLemmas.{on_ok}
use Rattle.rc_sheet_spec.specs.Printing.{who_form}
use Rattle.rc_ast.specs.Names.{who_seen}
use Rattle.rc_print.specs.Printing.{bound_seen}
use Rattle.rc_print.proofs.Rows.{opened, with_part, ended}
use Rattle.rc_print.proofs.effects.push_next.Goals as goal

-- the head's two words are printed as one atom would be
pub returns : goal.returns
returns c =
    let sheet = c.args.sheet.now in
    let bound = bound_seen sheet c.args.bound.now in
    let who : Tree = who_form bound (who_seen c.args.who) in
    let begun = with_part who (opened c.in_ok-open_part.ensures) c.in_ok-push_part_who.ensures in
    on_ok c.close.result c.close.ensures (λ is. ended begun is)
