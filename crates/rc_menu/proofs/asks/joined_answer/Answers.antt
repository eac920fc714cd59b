use Rattle.rc_menu.specs.Asks.{ask_value}
use Rattle.rc_value.specs.Cards.{value_seen}
use Rattle.rc_value.specs.Scene.{scene_seen}
use Rattle.rc_menu.proofs.AskLemmas.{joined_on, joined_stop, joined_end, fit_here}
use Rattle.rc_menu.proofs.asks.joined_answer.Goals as goal

pub answer-requires : goal.answer-requires
answer-requires c = record { fits = fit_here (scene_seen c.args.scene.now) c.args.scope.now c.args.asks.now c.loop-place.place c.index-asks-place.result c.requires.fits c.loop-place-test.true c.index-asks-place.is }

pub loop-place-preserved : goal.loop-place-preserved
loop-place-preserved c =
    joined_on (ask_value (scene_seen c.args.scene.now) c.args.scope.now (value_seen c.args.card)) c.args.any c.args.asks.now c.loop-place.place c.index-asks-place.result c.answer.result _
    c.loop-place-test.true c.index-asks-place.is c.answer.ensures c.if-answer-any.false c.loop-place.invariant

pub returns-then-answer-any : goal.returns-then-answer-any
returns-then-answer-any c =
    joined_stop (ask_value (scene_seen c.args.scene.now) c.args.scope.now (value_seen c.args.card)) c.args.any c.args.asks.now c.loop-place.place c.index-asks-place.result c.answer.result _
    c.loop-place-test.true c.index-asks-place.is c.answer.ensures c.if-answer-any.true c.loop-place.invariant

pub returns : goal.returns
returns c =
    joined_end (ask_value (scene_seen c.args.scene.now) c.args.scope.now (value_seen c.args.card)) c.args.any c.args.asks.now c.loop-place.place _
    c.loop-place-test.false c.loop-place.invariant
