use Rattle.std.proofs.Common.{◌≡◌, ◌≤◌, length, take}
use Rattle.rc_value.specs.Cards.{values_seen}
use Rattle.rc_value.specs.Held.{held_among}
use Rattle.rc_value.proofs.held.held_among.Given as goal

abbrev pub invariant-loop-at : goal.invariant-loop-at
invariant-loop-at l = record {
  is : l.ids.items ≡ held_among (values_seen (take l.at l.cards));
  few : length l.ids.items ≤ l.at;
}
