use Rattle.std.proofs.Common.{ap, ◌∙◌}
use Rattle.rc_play_spec.specs.Value.{loc_place}
use Rattle.rc_ast.specs.Names.{loc_seen}
use Rattle.rc_rules.specs.Control.{frames_seen}
use Rattle.rc_value.proofs.Readings.{loc_there}
use Rattle.rc_value.proofs.reading.loc_now.Goals as goal

pub returns-clause-holds : goal.returns-clause-holds
returns-clause-holds c =
    let context = c.args.context.now in
    loc_there context.about.now c.args.table.now.table (frames_seen c.args.frames.now.items) context.scope.now (loc_seen c.args.loc.now) c.loc_at.result
    c.sheet-fits.ensures.shape (c.loc_at.ensures ∙ ap (λ scene. loc_place scene.known context.scope.now (loc_seen c.args.loc.now)) c.scene_now.ensures)
