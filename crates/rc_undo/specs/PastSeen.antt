-- What a board keeps, as edits and tables.
use Rattle.rc_undo.specs.Entry.{log_seen}
use Rattle.rc_undo.specs.Past.{Past as PurePast, none_kept, edits_kept, home_kept}
use Rattle.rc_undo.specs.declared.past.Past.{Past}
use Rattle.rc_undo.specs.declared.past.Past.TheVariants.{Nothing, Edits, Home}

abbrev pub past_seen : Past → PurePast
past_seen Nothing = none_kept
past_seen (Edits log) = edits_kept (log_seen log.items)
past_seen (Home home) = home_kept home
