use Rattle.std.proofs.Common.{◌+◌, ◌++◌, ◌∷◌, [], ap, ap₂, sym, ◌∙◌}
use Rattle.rc_play_spec.specs.Scores as play
use Rattle.rc_ast.specs.Sheet.{sheet_seen}
use Rattle.rc_rules.proofs.PointLemmas.{mapped_push}
use Rattle.rc_rules.proofs.points.rank_points.Goals as goal

pub loop-player-preserved : goal.loop-player-preserved
loop-player-preserved c =
    let points = play.rank_points (sheet_seen c.args.sheet.now) c.args.scores.now.items in
    record {
      is =
          c.push.ensures.items
          ∙ ap₂ (λ before last. before ++ last ∷ []) c.loop-player.invariant.is c.rank_points_of.ensures
          ∙ sym (mapped_push points c.loop-player.player);
      many = c.push.ensures.len ∙ ap (λ n. n + 1) c.loop-player.invariant.many;
    }
