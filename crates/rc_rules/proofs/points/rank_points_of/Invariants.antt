use Rattle.std.proofs.Common.{◌≡◌, ◌*◌, ◌≤◌}
use Rattle.std.specs.Prelude.{sum_by}
use Rattle.rc_base.specs.Numbers.{below}
use Rattle.rc_play_spec.specs.Scores as play
use Rattle.rc_play_spec.specs.Shape.{team_in}
use Rattle.rc_ast.specs.Sheet.{sheet_seen}
use Rattle.rc_rules.proofs.points.rank_points_of.Given as goal

abbrev pub invariant-loop-other : goal.invariant-loop-other
invariant-loop-other l =
    let sheet = sheet_seen l.sheet in
    record {
      is : l.points
          ≡ sum_by (λ other. play.points_against sheet l.scores.items (team_in sheet.teams l.player) (team_in sheet.teams other)) (below l.other);
      few : l.points ≤ 2 * l.other;
    }
