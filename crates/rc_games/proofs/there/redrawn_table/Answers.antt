use Rattle.std.proofs.Common.{◌≡◌}
use Rattle.rc_redraw.specs.Need.{need_seen}
use Rattle.rc_games.proofs.RedrawnLemmas.{can_decide}
use Rattle.rc_games.proofs.there.redrawn_table.Goals as goal

pub returns-clause-decides : goal.returns-clause-decides
returns-clause-decides c =
    let need = need_seen c.args.need.now in
    let own : c.deref.result.now ≡ need.about = cc in
    let shape : c.shape.result.now.value ≡ need.about.shape = cc in
    can_decide need.about c.deref.result.now need.view c.key32-key.result c.shape.result.now.value c.in_ok-table.table
    c.menu_sizes_are_functions_of_views.ensures.redrawn own c.sheet-sheet.ensures.shape c.sheet-sheet.ensures.sight
    c.requires.decision shape c.in_ok-table.ensures.table
