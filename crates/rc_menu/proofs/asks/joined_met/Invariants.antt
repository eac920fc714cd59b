use Rattle.std.proofs.Common.{◌≡◌, map, drop}
use Rattle.rc_menu.specs.Asks.{met_value, joined}
use Rattle.rc_menu.proofs.asks.joined_met.Given as goal

abbrev pub invariant-loop-place : goal.invariant-loop-place
invariant-loop-place l = joined l.any (map (met_value l.id) (drop l.place l.asks)) ≡ joined l.any (map (met_value l.id) l.asks)
