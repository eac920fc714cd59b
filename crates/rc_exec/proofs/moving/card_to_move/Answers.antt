use Rattle.std.proofs.Common.{ap, sym, ◌∙◌}
use Rattle.rc_play_spec.specs.Ends.{last_of}
use Rattle.rc_play_spec.specs.Value.{card_value, coll_value}
use Rattle.rc_ast.specs.Expressions.{card_seen, coll_seen}
use Rattle.rc_rules.specs.Control.{frames_seen}
use Rattle.rc_value.specs.Context.{scene_in}
use Rattle.rc_value.proofs.Readings.{card_there}
use Rattle.rc_exec.proofs.moving.card_to_move.Goals as goal

pub returns-in-Some-clause-there : goal.returns-in-Some-clause-there
returns-in-Some-clause-there c =
    let context = c.args.context.now in
    let vars = context.scope.now in
    let scene = scene_in context c.args.table.now c.args.frames.now.items in
    let is = c.last.ensures
    ∙ ap last_of c.in-Some.ensures
    ∙ ap (λ s. last_of (coll_value s vars (coll_seen c.deref.result.now))) c.scene_now-scene.ensures
    ∙ ap (λ coll. last_of (coll_value scene vars (coll_seen coll))) c.deref.ensures
    ∙ ap (λ e. card_value scene vars (card_seen e)) (sym c.in-Top.is) in
    card_there context.about.now c.sheet-fits.ensures.shape c.args.table.now c.requires.stands.0 c.shape-sound.ensures.sound (frames_seen c.args.frames.now.items)
    vars c.requires.stands.2 (card_seen c.args.expr.now) c.last.result is
