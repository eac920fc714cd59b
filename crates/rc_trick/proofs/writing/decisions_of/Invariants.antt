use Rattle.std.proofs.Common.{◌≡◌, ◌≤◌, ◌*◌, map, take}
use Rattle.rc_rules.specs.Record.{record_seen}
use Rattle.rc_trick.specs.Bench.{decisions}
use Rattle.rc_trick.proofs.writing.decisions_of.Given as goal

abbrev pub invariant-loop-played : goal.invariant-loop-played
invariant-loop-played l =
    record {
      value : l.count ≡ decisions (map record_seen (take l.played-index l.matches));
      small : l.count ≤ l.played-index * 18446744073709551615;
    }
