use Rattle.std.proofs.Common.{◌≡◌, map}
use Rattle.rc_base.specs.Numbers.{below}
use Rattle.rc_play_spec.specs.Scores as play
use Rattle.rc_ast.specs.Sheet.{sheet_seen}
use Rattle.arrayvec.specs.ArrayVec.{array_vec_len}
use Rattle.rc_rules.proofs.points.rank_points.Given as goal

abbrev pub invariant-loop-player : goal.invariant-loop-player
invariant-loop-player l = record {
  is : l.points.items ≡ map (play.rank_points (sheet_seen l.sheet) l.scores.items) (below l.player);
  many : array_vec_len l.points ≡ l.player;
}
