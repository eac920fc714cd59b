use Rattle.std.proofs.Common.{◌≡◌, ◌++◌, replicate}
use Rattle.rc_rules.proofs.shape.push_homes.Given as goal

abbrev pub invariant-loop : goal.invariant-loop
invariant-loop l = l.list.items ≡ l.fn.list.items ++ replicate l.counter l.home
