use Rattle.std.proofs.Common.{sym, arith}
use Rattle.std.proofs.lemmas.Int.{ints}
use Rattle.rc_ast.specs.Sheet.{sheet_seen}
use Rattle.rc_rules.proofs.PointLemmas.{sum_alone, sum_absent}
use Rattle.rc_rules.proofs.points.score_alone.Goals as goal

pub returns-then-team-sheet : goal.returns-then-team-sheet
returns-then-team-sheet c =
    let sheet = sheet_seen c.args.sheet.now in
    let alone = sum_alone sheet c.requires c.args.scores.now.items c.args.team sheet.players (omega (arith, c.if-team-sheet.true)) in
    omega (arith, ints, alone)

pub returns-else-team-sheet : goal.returns-else-team-sheet
returns-else-team-sheet c =
    let sheet = sheet_seen c.args.sheet.now in
    sym (sum_absent sheet c.requires c.args.scores.now.items c.args.team (omega (arith, c.if-team-sheet.false)))
