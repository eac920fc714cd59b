use Rattle.std.proofs.Common.{◌≡◌, ◌++◌, map, drop}
use Rattle.rc_base.specs.Tree.{printed_behind}
use Rattle.rc_sheet_spec.specs.Printing.{packed, deck_form}
use Rattle.rc_ast.specs.Sheet.{deck_line_seen}
use Rattle.rc_print.specs.Printing.{naming_seen}
use Rattle.rc_print.proofs.setup.push_decks.Given as goal

-- what is printed and what is left are the whole
abbrev pub invariant-loop-line : goal.invariant-loop-line
invariant-loop-line l =
    l.out.bytes.items ++ printed_behind (packed (map (deck_form (naming_seen l.sheet))
    (map deck_line_seen (drop l.line-index l.decks))))
    ≡ l.initial.out.bytes.items ++ printed_behind (packed (map (deck_form (naming_seen l.sheet)) (map deck_line_seen l.decks)))
