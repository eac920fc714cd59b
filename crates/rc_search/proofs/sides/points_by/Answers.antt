use Rattle.std.proofs.Common.{◌+◌, ap₂, sym, ◌∙◌, arith}
use Rattle.rc_play_spec.specs.Scores as play
use Rattle.rc_play_spec.specs.Shape.{team_in}
use Rattle.rc_ast.specs.Sheet.{sheet_seen}
use Rattle.rc_rules.proofs.PointLemmas.{summed_push}
use Rattle.rc_search.proofs.sides.points_by.Goals as goal

pub loop-other-preserved : goal.loop-other-preserved
loop-other-preserved c =
    let sheet = sheet_seen c.args.sheet.now in
    let against = play.points_against sheet c.args.scores.now.items in
    record {
      is =
          ap₂ ◌+◌ c.loop-other.invariant.is (c.points_known-points.ensures.points ∙ ap₂ against c.side_of-team.ensures c.side_of-side.ensures)
          ∙ sym (summed_push (λ other. against (team_in sheet.teams c.args.player) (team_in sheet.teams other)) c.loop-other.other);
      few = omega arith;
      known = c.points_known-points.ensures.last;
      small = c.points_known-points.ensures.small;
    }
