use Rattle.std.proofs.Common.{◌∙◌}
use Rattle.rc_resolve.specs.Known.{decks_in, deck_in}
use Rattle.rc_resolve.proofs.Steps.{step, decks-split}
use Rattle.rc_resolve.proofs.known.Known.add_decks.Goals as goal

pub loop-line-preserved : goal.loop-line-preserved
loop-line-preserved c =
    step decks_in deck_in decks-split c.loop-line.self _ c.args.lines.now _ c.line-item.result
    c.loop-line-test.true c.line-item.is c.in_ok-add_deck.ensures
    ∙ c.loop-line.invariant
