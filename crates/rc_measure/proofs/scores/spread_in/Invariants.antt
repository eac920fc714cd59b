use Rattle.std.proofs.Common.{◌≡◌, ◌*◌, map, take, pos, neg_ℤ, ◌≤ℤ◌}
use Rattle.rc_rules.specs.Record.{record_seen}
use Rattle.rc_measure.specs.Scores.{spread_in}
use Rattle.rc_measure.proofs.scores.spread_in.Given as goal

abbrev pub invariant-loop-played : goal.invariant-loop-played
invariant-loop-played l = record {
  is : l.sum ≡ spread_in (map record_seen (take l.played-index l.matches));
  low : neg_ℤ (pos (2000000000 * l.played-index)) ≤ℤ l.sum;
  high : l.sum ≤ℤ pos (2000000000 * l.played-index);
}
