use Rattle.std.proofs.Common.{◌∙◌}
use Rattle.rc_ast.specs.Names.{loc_seen}
use Rattle.rc_play_spec.specs.Value.{coll_value}
use Rattle.rc_sheet_spec.specs.Sheet.{cards_in}
use Rattle.rc_value.specs.Scene.{scene_seen}
use Rattle.rc_value.proofs.RowLemmas.{over_met}
use Rattle.rc_menu.proofs.known.are_there.Goals as goal

pub returns-in-Some : goal.returns-in-Some
returns-in-Some c =
    c.are_met_in.ensures
    ∙ over_met c.args.any c.args.scene.now c.args.wanted c.in-Some.row.now c.ids_of.result.now (coll_value (scene_seen c.args.scene.now) c.args.scope.now (cards_in (loc_seen c.args.loc.now)))
    c.in-Some.ensures c.ids_of.ensures.ids
