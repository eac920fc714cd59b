use Rattle.std.proofs.Common.{◌≡◌, ◌≤◌, ◌+◌, List, length, true}
use Rattle.rc_base.specs.Transcript.{Record}
use Rattle.rc_play_spec.specs.ItemBounds.{Bound}
use Rattle.rc_play_spec.specs.Reading.{lines_in, read_from}
use Rattle.rc_text.specs.PlaceSeen.{open_stand, IsFit}
use Rattle.rc_text.proofs.reading.take_choices.Given as goal

-- what is read from here on is what is read from the start
abbrev pub invariant-loop-pick : goal.invariant-loop-pick
invariant-loop-pick l =
    record {
      reads : (before : List Record) (marks : List (List Bound)) →
          read_from l.named l.from (open_stand before marks l.fn.played) (lines_in l.bytes).0 (lines_in l.bytes).1
          ≡ read_from l.named l.number (open_stand before marks l.played) (lines_in l.rest).0 (lines_in l.rest).1;
      fits : l.number + length l.rest ≤ l.from + length l.bytes;
      shorter : length l.rest ≤ length l.bytes;
      fit : l.named ≡ true → IsFit l.fn.played → IsFit l.played;
    }

abbrev pub decreases-loop-pick : goal.decreases-loop-pick
decreases-loop-pick l = length l.rest
