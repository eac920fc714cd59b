use Rattle.std.proofs.Common.{◌≡◌, ◌++◌, take}
use Rattle.std.specs.Prelude.{flat_map}
use Rattle.std.specs.Int.{w16, to_le_bytes}
use Rattle.rc_view.proofs.key.push_faces.Given as goal

abbrev pub invariant-loop-number : goal.invariant-loop-number
invariant-loop-number l = l.bytes.items ≡ l.initial.bytes.items ++ flat_map (to_le_bytes w16) (take l.number-index l.numbers)
