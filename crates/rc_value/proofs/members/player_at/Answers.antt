use Rattle.std.proofs.Common.{ap, arith}
use Rattle.rc_sheet_spec.specs.Sheet.{Sheet}
use Rattle.rc_value.proofs.MemberLemmas.{player_there, player_none}
use Rattle.rc_value.proofs.members.player_at.Goals as goal

pub returns-then-spot-from : goal.returns-then-spot-from
returns-then-spot-from c =
    let players = ap (λ (s : Sheet). s.players) c.sheet.ensures.same in
    player_there c.args.context.now.about.now.sheet.players c.args.spot (omega (arith, players, c.from.ensures, c.if-spot-from.true))

pub returns-else-spot-from : goal.returns-else-spot-from
returns-else-spot-from c =
    let players = ap (λ (s : Sheet). s.players) c.sheet.ensures.same in
    player_none c.args.context.now.about.now.sheet.players c.args.spot (omega (arith, players, c.from.ensures, c.if-spot-from.false))
