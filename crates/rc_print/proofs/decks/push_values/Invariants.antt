use Rattle.std.proofs.Common.{◌≡◌, ◌++◌, map, drop}
use Rattle.rc_base.specs.Tree.{printed_behind}
use Rattle.rc_sheet_spec.specs.Printing.{packed, named}
use Rattle.rc_print.specs.Printing.{naming_seen}
use Rattle.rc_print.proofs.decks.push_values.Given as goal

-- what is printed and what is left are the whole
abbrev pub invariant-loop-value : goal.invariant-loop-value
invariant-loop-value l =
    l.out.bytes.items ++ printed_behind (packed (map (named (naming_seen l.sheet).names.values) (drop l.value-index l.others)))
    ≡ l.initial.out.bytes.items ++ printed_behind (packed (map (named (naming_seen l.sheet).names.values) l.others))
