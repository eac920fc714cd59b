use Rattle.std.proofs.Common.{◌≡◌, take}
use Rattle.rc_play_spec.specs.Table.{taken}
use Rattle.rc_table.proofs.edits.put_in_order.Given as goal

abbrev pub invariant-loop-at : goal.invariant-loop-at
invariant-loop-at l = take l.at l.room ≡ taken (take l.at l.order) l.list
