use Rattle.std.proofs.Common.{◌<◌, length, get_or, ap, ◌∙◌, arith}
use Rattle.std.proofs.lemmas.List.FromFn.{length-map-range_with_len, get_or-map-range_with_len}
use Rattle.rc_play_spec.specs.Shape.{team_in}
use Rattle.rc_ast.specs.Sheet.{sheet_seen}
use Rattle.rc_search.proofs.sides.side_of.Goals as goal

pub returns-then-player-len : goal.returns-then-player-len
returns-then-player-len c =
    let sheet = sheet_seen c.args.sheet.now in
    let f = team_in sheet.teams in
    let player = c.args.player in
    let count = ap length c.requires ∙ length-map-range_with_len f 0 sheet.players in
    let lt : player < sheet.players = omega (arith, count) in
    let there = get_or-map-range_with_len f 0 sheet.players player player 0 lt (omega arith) in
    ap (λ xs. get_or xs player 0) (c.deref.ensures.0 ∙ c.requires) ∙ there
