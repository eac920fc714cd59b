use Rattle.std.proofs.Common.{◌≡◌, ◌++◌, take, drop}
use Rattle.rc_redraw.specs.Asking.{key_seen}
use Rattle.rc_cache.specs.Replay.{is_among, without}
use Rattle.rc_core.proofs.entries.take_entry.Given as goal

abbrev pub invariant-loop-at : goal.invariant-loop-at
invariant-loop-at l = record {
  same : l.entries ≡ l.fn.entries;
  found : is_among (key_seen l.key) l.fn.entries.items ≡ is_among (key_seen l.key) (drop l.at l.entries.items);
  rest : without (key_seen l.key) l.fn.entries.items ≡ take l.at l.entries.items ++ without (key_seen l.key) (drop l.at l.entries.items);
}
