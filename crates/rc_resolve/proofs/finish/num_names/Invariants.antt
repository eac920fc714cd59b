use Rattle.std.proofs.Common.{◌≡◌, ◌++◌, length, map, drop}
use Rattle.rc_ast.specs.Names.{num_name_seen}
use Rattle.rc_resolve.specs.Known.{num_seen}
use Rattle.rc_resolve.specs.Naming.{num_names}
use Rattle.rc_resolve.proofs.finish.num_names.Given as goal

-- what is listed so far and what is left to list are the whole
abbrev pub invariant-loop-entry : goal.invariant-loop-entry
invariant-loop-entry l =
    (map num_name_seen l.list.items ++ num_names l.entry-index (map num_seen (drop l.entry-index l.nums)) ≡ num_names 0 (map num_seen l.nums))
    × (length l.list.items ≡ l.entry-index)
