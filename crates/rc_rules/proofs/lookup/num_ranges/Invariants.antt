use Rattle.std.proofs.Common.{◌≡◌, ◌++◌, map, take, drop}
use Rattle.std.specs.Prelude.{sum_by}
use Rattle.rc_sheet_spec.specs.WellFormed.{owner_count}
use Rattle.rc_ast.specs.Sheet.{sheet_seen}
use Rattle.rc_rules.specs.Lookup.{ranges_from, ranges_seen}
use Rattle.rc_rules.proofs.lookup.num_ranges.Given as goal

abbrev pub invariant-loop-place : goal.invariant-loop-place
invariant-loop-place l = record {
  before : l.first ≡ sum_by (λ name. owner_count (sheet_seen l.sheet) name.class) (take l.place (sheet_seen l.sheet).nums);
  told : ranges_seen l.list.items ++ ranges_from (sheet_seen l.sheet) l.first (drop l.place (map (λ name. name.class) (sheet_seen l.sheet).nums))
      ≡ ranges_from (sheet_seen l.sheet) 0 (map (λ name. name.class) (sheet_seen l.sheet).nums);
}
