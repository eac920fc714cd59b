use Rattle.std.proofs.Common.{◌≡◌, drop}
use Rattle.std.specs.List.{list_all}
use Rattle.rc_menu.specs.Asks.{asks_value}
use Rattle.rc_menu.proofs.asks.are_sought.Given as goal

abbrev pub invariant-loop-place : goal.invariant-loop-place
invariant-loop-place l = list_all asks_value (drop l.place l.asks) ≡ list_all asks_value l.asks
