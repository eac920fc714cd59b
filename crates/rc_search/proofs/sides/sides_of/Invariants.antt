use Rattle.std.proofs.Common.{◌≡◌, map}
use Rattle.rc_base.specs.Numbers.{below}
use Rattle.rc_play_spec.specs.Shape.{team_in}
use Rattle.rc_ast.specs.Sheet.{sheet_seen}
use Rattle.arrayvec.specs.ArrayVec.{array_vec_len}
use Rattle.rc_search.proofs.sides.sides_of.Given as goal

abbrev pub invariant-loop-player : goal.invariant-loop-player
invariant-loop-player l = record {
  is : l.sides.items ≡ map (team_in (sheet_seen l.sheet).teams) (below l.player);
  many : array_vec_len l.sides ≡ l.player;
}
