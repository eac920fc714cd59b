use Rattle.std.proofs.Common.{◌≡◌, map, take}
use Rattle.std.specs.Prelude.{sum_by}
use Rattle.rc_sheet_spec.specs.WellFormed.{owner_count}
use Rattle.rc_ast.specs.Sheet.{sheet_seen}
use Rattle.rc_ast.specs.Names.{num_name_seen}
use Rattle.rc_rules.proofs.shape.number_count.Given as goal

abbrev pub invariant-loop-name : goal.invariant-loop-name
invariant-loop-name l =
    l.count ≡ sum_by (λ num. owner_count (sheet_seen l.sheet) num.class) (map num_name_seen (take l.name-index l.name-items))
