use Rattle.std.proofs.Common.{◌≡◌, ◌≤◌, map, take, count_by}
use Rattle.rc_rules.specs.Record.{record_seen}
use Rattle.rc_measure.specs.Measures.{is_limited}
use Rattle.rc_measure.proofs.measures.limits_in.Given as goal

abbrev pub invariant-loop-played : goal.invariant-loop-played
invariant-loop-played l = record {
  is : l.count ≡ count_by is_limited (map record_seen (take l.played-index l.matches));
  few : l.count ≤ l.played-index;
}
