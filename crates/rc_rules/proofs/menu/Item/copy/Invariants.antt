use Rattle.std.proofs.Common.{◌≡◌, take, length}
use Rattle.rc_rules.proofs.menu.Item.copy.Given as goal

abbrev pub invariant-loop-place : goal.invariant-loop-place
invariant-loop-place l = record {
  told : l.spots.items ≡ take l.place l.own;
  count : length l.spots.items ≡ l.place;
}
