use Rattle.std.proofs.Common.{◌≡◌, drop}
use Rattle.rc_form.specs.Form.{trees_of, packed}
use Rattle.rc_resolve.specs.Known.{with_all, in_entries}
use Rattle.rc_resolve.proofs.known.Known.add_entries.Given as goal

-- what is known so far and what is left to mention are the whole
abbrev pub invariant-loop-entry : goal.invariant-loop-entry
invariant-loop-entry l =
    with_all l.self (in_entries (packed (trees_of (drop l.entry-index l.entries))))
    ≡ with_all l.initial.self (in_entries (packed (trees_of l.entries)))
