use Rattle.std.proofs.Common.{arith}
use Rattle.std.proofs.lemmas.Int.{ints}
use Rattle.rc_ast.specs.Sheet.{sheet_seen}
use Rattle.rc_rules.proofs.PointLemmas.{sum_below_push}
use Rattle.rc_search.proofs.sides.score_of_side.Goals as goal

pub loop-player-preserved : goal.loop-player-preserved
loop-player-preserved c =
    let more = sum_below_push (sheet_seen c.args.sheet.now) c.args.scores.now.items c.args.team c.loop-player.player in
    record { is = omega (arith, ints, more); above = omega (arith, ints); below = omega (arith, ints) }
