use Rattle.std.proofs.Common.{◌≡◌, length, drop}
use Rattle.rc_play_spec.specs.Table.{cleared}
use Rattle.rc_table.proofs.marks.Marks.clear_all.Given as goal

abbrev pub invariant-loop-id : goal.invariant-loop-id
invariant-loop-id l =
    (length l.self ≡ length l.initial.self) × (cleared (drop l.id-index l.ids) l.self ≡ cleared l.ids l.initial.self)
