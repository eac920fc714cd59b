use Rattle.rc_ast.specs.Expressions.{card_seen}
use Rattle.rc_rules.specs.Control.{frames_seen}
use Rattle.rc_value.proofs.Readings.{card_there}
use Rattle.rc_value.proofs.reading.card_now.Goals as goal

pub returns-clause-there : goal.returns-clause-there
returns-clause-there c =
    let context = c.args.context.now in
    card_there context.about.now c.sheet-fits.ensures.shape c.args.table.now c.requires.stands.0 c.shape-sound.ensures.sound (frames_seen c.args.frames.now.items)
    context.scope.now c.requires.stands.2 (card_seen c.args.expr.now) c.found_card.result c.found_card.ensures
