use Rattle.std.proofs.Common.{◌≡◌, ◌≤◌, ◌+◌, [], length, true}
use Rattle.rc_play_spec.specs.Reading.{before, lines_in, read_from}
use Rattle.rc_text.specs.PlaceSeen.{stand_seen, StandsFit}
use Rattle.rc_text.proofs.reading.read_body.Given as goal

abbrev pub invariant-loop-line : goal.invariant-loop-line
invariant-loop-line l =
    record {
      reads : read_from l.named l.number (stand_seen l.place) (lines_in l.rest).0 (lines_in l.rest).1
          ≡ read_from l.named l.from (before []) (lines_in l.bytes).0 (lines_in l.bytes).1;
      fits : l.number + length l.rest ≤ 33554433;
      fit : l.named ≡ true → StandsFit l.place;
    }

abbrev pub decreases-loop-line : goal.decreases-loop-line
decreases-loop-line l = length l.rest
