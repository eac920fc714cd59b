use Rattle.std.proofs.Common.{◌≡◌, map, flat_map, drop}
use Rattle.rc_sheet_spec.specs.Sight.{locs_in_alt}
use Rattle.rc_ast.specs.Names.{loc_name_seen}
use Rattle.rc_ast.specs.Items.{alts_seen}
use Rattle.rc_flow.specs.Least.{least_with}
use Rattle.rc_flow.proofs.alternatives.in_alts.Given as goal

abbrev pub invariant-loop-alt : goal.invariant-loop-alt
invariant-loop-alt l =
    least_with (map loc_name_seen l.names) l.least (flat_map locs_in_alt (alts_seen (drop l.alt-index l.alt-items)))
    ≡ least_with (map loc_name_seen l.names) l.fn.found (flat_map locs_in_alt (alts_seen l.alt-items))
