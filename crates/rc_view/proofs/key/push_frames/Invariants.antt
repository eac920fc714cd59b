use Rattle.std.proofs.Common.{◌≡◌, ◌++◌, map, take}
use Rattle.std.specs.Prelude.{flat_map}
use Rattle.rc_rules.specs.Control.{frame_seen}
use Rattle.rc_view.specs.Key.{frame_key}
use Rattle.rc_view.proofs.key.push_frames.Given as goal

abbrev pub invariant-loop-frame : goal.invariant-loop-frame
invariant-loop-frame l = l.bytes.items ≡ l.initial.bytes.items ++ flat_map frame_key (map frame_seen (take l.frame-index l.frames))
