use Rattle.std.proofs.Common.{ap, ◌∙◌}
use Rattle.rc_play_spec.specs.Ends.{last_of}
use Rattle.rc_play_spec.specs.Scene.{id_of}
use Rattle.rc_play_spec.specs.Value.{cards_there, cut, loc_place}
use Rattle.rc_ast.specs.Names.{loc_seen}
use Rattle.rc_play_spec.proofs.Parts.{last_map}
use Rattle.rc_value.specs.Scene.{scene_seen}
use Rattle.rc_value.proofs.rows.top_id.Goals as goal

pub returns : goal.returns
returns c =
    let scene = scene_seen c.args.scene.now in
    c.last.ensures ∙ ap last_of c.ids_of.ensures.ids
    ∙ last_map id_of (cut (cards_there scene (loc_place scene.known c.args.scope.now (loc_seen c.args.loc.now))))
