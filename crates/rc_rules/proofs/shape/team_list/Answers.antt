use Rattle.std.proofs.Common.{◌++◌, ◌∷◌, [], ap₂, sym, ◌∙◌, arith}
use Rattle.rc_play_spec.specs.Shape as play
use Rattle.rc_ast.specs.Sheet.{sheet_seen}
use Rattle.rc_rules.proofs.PointLemmas.{mapped_push}
use Rattle.rc_rules.proofs.ShapeLemmas.{team_few}
use Rattle.rc_rules.proofs.shape.team_list.Goals as goal

pub overflow_cast-team_in : goal.overflow_cast-team_in
overflow_cast-team_in c =
    let few = team_few (sheet_seen c.args.sheet.now) c.requires c.loop-player.player c.loop-player-test.true in
    let is = c.team_in.ensures in
    omega (arith, few, is)

pub loop-player-preserved : goal.loop-player-preserved
loop-player-preserved c =
    c.in_ok-push.ensures.items ∙ ap₂ (λ before last. before ++ last ∷ []) c.loop-player.invariant c.team_in.ensures
    ∙ sym (mapped_push (play.team_in (sheet_seen c.args.sheet.now).teams) c.loop-player.player)
