use Rattle.std.proofs.Common.{◌≡◌, ◌++◌, map, take, flat_map}
use Rattle.std.specs.Prelude.{string_bytes}
use Rattle.rc_base.specs.Transcript.{line}
use Rattle.rc_view.specs.Seen.{view_seen}
use Rattle.rc_log_spec.specs.Log.{blocks_from}
use Rattle.rc_seatlog.proofs.write.write_blocks.Given as goal

abbrev pub invariant-loop-n : goal.invariant-loop-n
invariant-loop-n l = string_bytes l.out ≡ string_bytes l.initial.out ++ flat_map line (blocks_from 0 (map view_seen (take l.n l.views)))
