use Rattle.std.proofs.Common.{◌≡◌, ◌++◌, ◌≤◌, length, drop, map}
use Rattle.std.specs.List.{filter}
use Rattle.rc_play_spec.specs.Table.{is_marked}
use Rattle.rc_play_spec.specs.Scene.{held}
use Rattle.rc_play_spec.specs.Value.{cut}
use Rattle.rc_value.specs.Cards.{values_seen}
use Rattle.rc_value.proofs.known.add_marked.Given as goal

abbrev pub invariant-loop-place : goal.invariant-loop-place
invariant-loop-place l = record {
  few : length l.out.items ≤ 512;
  told : cut (values_seen l.out.items ++ map held (filter (is_marked l.table.table.marks l.seat) (drop l.place l.ids)))
      ≡ cut (values_seen l.fn.out.items ++ map held (filter (is_marked l.table.table.marks l.seat) l.ids));
}
