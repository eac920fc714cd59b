use Rattle.std.proofs.Common.{arith, ap, sym}
use Rattle.rc_base.specs.Numbers.{below}
use Rattle.rc_deck.proofs.RangeLemmas.{below_length}
use Rattle.rc_value.specs.Comparing.{suits}
use Rattle.rc_value.specs.Over.{over}
use Rattle.rc_value.specs.Scene.{scene_seen}
use Rattle.rc_value.proofs.OverLemmas.{over_on, over_stop, over_end}
use Rattle.rc_value.proofs.Steps.{players_are, player_here}
use Rattle.rc_value.proofs.comparing.over_each.Goals as goal

pub loop-player-init : goal.loop-player-init
loop-player-init c = ap (λ n. over c.args.any (suits (scene_seen c.args.scene.now) c.args.suited) (below n)) (sym (players_are c.args.scene.now))

pub does_suit-requires-clause-there : goal.does_suit-requires-clause-there
unfolding scene_seen
does_suit-requires-clause-there c = c.loop-player-test.true

pub loop-player-preserved : goal.loop-player-preserved
loop-player-preserved c =
    let n = below_length c.args.scene.now.sheet.now.players in
    over_on c.args.any (suits (scene_seen c.args.scene.now) c.args.suited) (below c.args.scene.now.sheet.now.players) c.loop-player.player c.loop-player.player c.does_suit.result _ (omega arith)
    (player_here c.args.scene.now.sheet.now.players c.loop-player.player c.loop-player-test.true) c.does_suit.ensures c.if-does_suit-any.false c.loop-player.invariant

pub returns-then-does_suit-any : goal.returns-then-does_suit-any
returns-then-does_suit-any c =
    let n = below_length c.args.scene.now.sheet.now.players in
    over_stop c.args.any (suits (scene_seen c.args.scene.now) c.args.suited) (below c.args.scene.now.sheet.now.players) c.loop-player.player c.loop-player.player c.does_suit.result _ (omega arith)
    (player_here c.args.scene.now.sheet.now.players c.loop-player.player c.loop-player-test.true) c.does_suit.ensures c.if-does_suit-any.true c.loop-player.invariant

pub returns : goal.returns
returns c =
    let n = below_length c.args.scene.now.sheet.now.players in
    over_end c.args.any (suits (scene_seen c.args.scene.now) c.args.suited) (below c.args.scene.now.sheet.now.players) c.loop-player.player _ (omega arith) c.loop-player.invariant
