use Rattle.std.proofs.Common.{◌≡◌, ◌≤◌, ◌*◌, map, take, sum_by}
use Rattle.rc_rules.specs.Record.{record_seen}
use Rattle.rc_play_spec.specs.House.{points_at}
use Rattle.rc_measure.proofs.measures.seat_points.Given as goal

abbrev pub invariant-loop-played : goal.invariant-loop-played
invariant-loop-played l = record {
  is : l.points ≡ sum_by (λ r. points_at r l.seat) (map record_seen (take l.played-index l.matches));
  small : l.points ≤ 255 * l.played-index;
}
