-- Entries of a log as edits.
use Rattle.std.specs.Prelude.{List, map, reverse}
use Rattle.rc_undo.specs.Undo.{Edit, moved, changed, ordered, marked, noted, forgotten, gathered}
use Rattle.rc_undo.specs.declared.entry.LogEntry.{LogEntry}
use Rattle.rc_undo.specs.declared.entry.LogEntry.TheVariants.{Moved, Changed, Ordered, Marked, Noted, Forgotten, Gathered}

abbrev pub entry_seen : LogEntry → Edit
entry_seen (Moved from place to at marks) = moved from place to at marks
entry_seen (Changed num value) = changed num value
entry_seen (Ordered loc list marks) = ordered loc list.items marks.items
entry_seen (Marked id seats) = marked id seats
entry_seen (Noted loc at) = noted loc at
entry_seen (Forgotten id loc place) = forgotten id loc place
entry_seen (Gathered from list to other) = gathered from list.items to other.items

-- the edits of a log, the last one first
abbrev pub log_seen : List LogEntry → List Edit
log_seen entries = reverse (map entry_seen entries)
