use Rattle.std.proofs.Common.{◌≡◌, ◌++◌, map, take, flat_map}
use Rattle.std.specs.Prelude.{string_bytes}
use Rattle.rc_base.specs.Transcript.{line}
use Rattle.rc_view.specs.Seen.{sight_seen}
use Rattle.rc_log_spec.specs.Log.{place_lines}
use Rattle.rc_seatlog.proofs.write.write_places.Given as goal

abbrev pub invariant-loop-loc : goal.invariant-loop-loc
invariant-loop-loc l = string_bytes l.out ≡ string_bytes l.initial.out ++ flat_map line (place_lines 0 (map sight_seen (take l.loc l.sights)))
