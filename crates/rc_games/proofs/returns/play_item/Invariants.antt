use Rattle.rc_flat.specs.Machine.{KeepsTables}
use Rattle.rc_games.proofs.returns.play_item.Given as goal

abbrev pub invariant-loop : goal.invariant-loop
invariant-loop l = KeepsTables l.fn.flat l.flat
