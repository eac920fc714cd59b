use Rattle.std.proofs.Common.{◌≡◌, ◌++◌, map, take, flat_map, string_bytes}
use Rattle.rc_base.specs.Transcript.{standing_line}
use Rattle.rc_rules.specs.Record.{standing_seen}
use Rattle.rc_text.proofs.write.write_standings.Given as goal

abbrev pub invariant-loop-standing : goal.invariant-loop-standing
invariant-loop-standing l = string_bytes l.out ≡ string_bytes l.initial.out ++ flat_map standing_line (map standing_seen (take l.standing-index l.standings))
