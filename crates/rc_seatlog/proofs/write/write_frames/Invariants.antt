use Rattle.std.proofs.Common.{◌≡◌, ◌++◌, map, take, flat_map}
use Rattle.std.specs.Prelude.{string_bytes}
use Rattle.rc_base.specs.Transcript.{line}
use Rattle.rc_rules.specs.Control.{frame_seen}
use Rattle.rc_log_spec.specs.Lines.{frame_text}
use Rattle.rc_seatlog.proofs.write.write_frames.Given as goal

abbrev pub invariant-loop-frame : goal.invariant-loop-frame
invariant-loop-frame l = string_bytes l.out ≡ string_bytes l.initial.out ++ flat_map line (map frame_text (map frame_seen (take l.frame-index l.frames)))
