use Rattle.std.proofs.Common.{◌≡◌, map, take}
use Rattle.rc_play_spec.specs.Table.{marks_of}
use Rattle.rc_table.specs.Marks.{seats_in}
use Rattle.rc_undo.proofs.past.marks_of.Given as goal

abbrev pub invariant-loop-at : goal.invariant-loop-at
invariant-loop-at l = map seats_in l.marks.items ≡ map (marks_of l.table.table.marks) (take l.at l.ids)
