use Rattle.std.proofs.Common.{◌+◌, ◌++◌, ◌∷◌, [], ap, ap₂, sym, ◌∙◌}
use Rattle.rc_play_spec.specs.Shape.{team_in}
use Rattle.rc_ast.specs.Sheet.{sheet_seen}
use Rattle.rc_rules.proofs.PointLemmas.{mapped_push}
use Rattle.rc_search.proofs.sides.sides_of.Goals as goal

pub loop-player-preserved : goal.loop-player-preserved
loop-player-preserved c =
    record {
      is =
          c.push.ensures.items
          ∙ ap₂ (λ before last. before ++ last ∷ []) c.loop-player.invariant.is c.team_in.ensures
          ∙ sym (mapped_push (team_in (sheet_seen c.args.sheet.now).teams) c.loop-player.player);
      many = c.push.ensures.len ∙ ap (λ n. n + 1) c.loop-player.invariant.many;
    }
