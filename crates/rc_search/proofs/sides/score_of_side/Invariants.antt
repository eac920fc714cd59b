use Rattle.std.proofs.Common.{◌≡◌, ◌*◌, pos, neg_ℤ, ◌≤ℤ◌}
use Rattle.rc_ast.specs.Sheet.{sheet_seen}
use Rattle.rc_rules.proofs.PointLemmas.{sum_below}
use Rattle.rc_search.proofs.sides.score_of_side.Given as goal

-- Each player moves the sum by at most 2^63.
abbrev pub invariant-loop-player : goal.invariant-loop-player
invariant-loop-player l = record {
  is : l.sum ≡ sum_below (sheet_seen l.sheet) l.scores.items l.team l.player;
  above : neg_ℤ (pos (9223372036854775808 * l.player)) ≤ℤ l.sum;
  below : l.sum ≤ℤ pos (9223372036854775808 * l.player);
}
