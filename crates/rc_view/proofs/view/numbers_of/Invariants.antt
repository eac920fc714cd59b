use Rattle.std.proofs.Common.{◌≡◌, take}
use Rattle.rc_view.proofs.view.numbers_of.Given as goal

abbrev pub invariant-loop-num : goal.invariant-loop-num
invariant-loop-num l = l.numbers.items ≡ take l.num l.table.table.numbers
