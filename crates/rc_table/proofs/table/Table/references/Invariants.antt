use Rattle.std.proofs.Common.{◌≡◌, ◌+◌, drop, sum_by, zip}
use Rattle.rc_play_spec.specs.Table.{references_in, references}
use Rattle.rc_table.proofs.table.Table.references.Given as goal

abbrev pub invariant-loop-loc : goal.invariant-loop-loc
invariant-loop-loc l =
    l.sum + sum_by references_in (zip (drop l.loc l.self.shape.places) (drop l.loc l.self.table.lists)) ≡ references l.self.shape l.self.table
