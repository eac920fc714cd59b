use Rattle.std.proofs.Common.{◌≡◌, ◌++◌, take}
use Rattle.std.specs.Prelude.{flat_map}
use Rattle.std.specs.Int.{w32, to_le_bytes}
use Rattle.rc_view.proofs.key.push_counts.Given as goal

abbrev pub invariant-loop-count : goal.invariant-loop-count
invariant-loop-count l = l.bytes.items ≡ l.initial.bytes.items ++ flat_map (to_le_bytes w32) (take l.count-index l.counts)
