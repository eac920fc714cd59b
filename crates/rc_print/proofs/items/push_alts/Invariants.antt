use Rattle.std.proofs.Common.{◌≡◌, [], ◌++◌, map, drop}
use Rattle.rc_base.specs.Tree.{printed_behind}
use Rattle.rc_sheet_spec.specs.Printing.{packed, alt_form}
use Rattle.rc_ast.specs.Items.{alts_seen}
use Rattle.rc_print.specs.Printing.{naming_seen}
use Rattle.rc_print.proofs.items.push_alts.Given as goal

-- what is printed and what is left are the whole
abbrev pub invariant-loop-alt : goal.invariant-loop-alt
invariant-loop-alt l =
    l.out.bytes.items ++ printed_behind (packed (map (alt_form (naming_seen l.sheet) [])
    (alts_seen (drop l.alt-index l.alt-items))))
    ≡ l.initial.out.bytes.items ++ printed_behind (packed (map (alt_form (naming_seen l.sheet) []) (alts_seen l.alt-items)))
