use Rattle.std.proofs.Common.{◌≡◌, ◌≤◌, ◌+◌, ◌++◌, ℕ, Bool, List, [], length}
use Rattle.rc_play_spec.specs.Reading.{before, lines_in, read_from}
use Rattle.rc_text.proofs.reading.behind_head.Given as goal

-- what is read from here is what is read from the start
abbrev pub invariant-loop-want : goal.invariant-loop-want
invariant-loop-want l =
    record {
      reads : (named : Bool) (more : List (List ℕ)) →
          read_from named l.from (before ((lines_in l.head).0 ++ more)) (lines_in l.bytes).0 (lines_in l.bytes).1
          ≡ read_from named l.number (before ((lines_in l.wanted).0 ++ more)) (lines_in l.rest).0 (lines_in l.rest).1;
      fits : l.number + length l.rest ≤ l.from + length l.bytes;
      whole : (lines_in l.wanted).1 ≡ [];
    }

abbrev pub decreases-loop-want : goal.decreases-loop-want
decreases-loop-want l = length l.wanted
