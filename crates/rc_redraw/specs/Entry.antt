-- Entries: keys with their totals.
use Rattle.std.specs.Prelude.{◌≡◌}
use Rattle.rc_play_spec.specs.Tally.{tally as tally_of}
use Rattle.rc_redraw.specs.Asking.{Key, key_seen}
use Rattle.rc_redraw.specs.declared.entry.Entry.TheInside.{Inside}

abbrev pub entry_seen : Inside → Key
entry_seen entry = key_seen entry.key

-- the totals are those of the key
abbrev pub IsTrue : Inside → Type 0
IsTrue entry = entry.tally.totals.items ≡ tally_of (key_seen entry.key).about (key_seen entry.key).ask
