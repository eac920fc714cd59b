use Rattle.std.proofs.Common.{◌≡◌, ◌++◌, map, drop, pos}
use Rattle.rc_base.specs.Tree.{printed_behind}
use Rattle.rc_sheet_spec.specs.Printing.{packed, number_form}
use Rattle.rc_print.proofs.setup.push_members.Given as goal

-- what is printed and what is left are the whole
abbrev pub invariant-loop-player : goal.invariant-loop-player
invariant-loop-player l =
    l.out.bytes.items ++ printed_behind (packed (map (λ player. number_form (pos player)) (drop l.player-index l.others)))
    ≡ l.initial.out.bytes.items ++ printed_behind (packed (map (λ player. number_form (pos player)) l.others))
