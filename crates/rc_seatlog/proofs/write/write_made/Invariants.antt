use Rattle.std.proofs.Common.{◌≡◌, ◌++◌, take, flat_map}
use Rattle.std.specs.Prelude.{string_bytes}
use Rattle.rc_log_spec.specs.Lines.{count_text}
use Rattle.rc_seatlog.proofs.write.write_made.Given as goal

abbrev pub invariant-loop-count : goal.invariant-loop-count
invariant-loop-count l = string_bytes l.out ≡ string_bytes l.initial.out ++ flat_map count_text (take l.count-index l.made)
