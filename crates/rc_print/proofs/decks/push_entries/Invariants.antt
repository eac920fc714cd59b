use Rattle.std.proofs.Common.{◌≡◌, ◌++◌, map, drop}
use Rattle.rc_base.specs.Tree.{printed_behind}
use Rattle.rc_deck.specs.Points.{entry_of}
use Rattle.rc_sheet_spec.specs.Printing.{packed, entry_form}
use Rattle.rc_print.specs.Printing.{naming_seen}
use Rattle.rc_print.proofs.decks.push_entries.Given as goal

-- what is printed and what is left are the whole
abbrev pub invariant-loop-entry : goal.invariant-loop-entry
invariant-loop-entry l =
    l.out.bytes.items ++ printed_behind (packed (map (entry_form (naming_seen l.sheet))
    (map entry_of (drop l.entry-index l.others))))
    ≡ l.initial.out.bytes.items ++ printed_behind (packed (map (entry_form (naming_seen l.sheet)) (map entry_of l.others)))
