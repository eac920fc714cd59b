use Rattle.std.proofs.Common.{◌≡◌, ◌++◌, length, map, drop}
use Rattle.rc_ast.specs.Names.{loc_name_seen}
use Rattle.rc_resolve.specs.Known.{loc_seen}
use Rattle.rc_resolve.specs.Naming.{loc_names}
use Rattle.rc_resolve.proofs.finish.loc_names.Given as goal

-- what is listed so far and what is left to list are the whole
abbrev pub invariant-loop-entry : goal.invariant-loop-entry
invariant-loop-entry l =
    (map loc_name_seen l.list.items ++ loc_names l.entry-index (map loc_seen (drop l.entry-index l.locs)) ≡ loc_names 0 (map loc_seen l.locs))
    × (length l.list.items ≡ l.entry-index)
