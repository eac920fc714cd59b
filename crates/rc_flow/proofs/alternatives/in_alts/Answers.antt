use Rattle.std.proofs.Common.{map, flat_map, drop, refl, ap, ◌+◌, ◌∙◌}
use Rattle.rc_sheet_spec.specs.Sight.{locs_in_alt}
use Rattle.rc_ast.specs.Names.{loc_name_seen}
use Rattle.rc_ast.specs.Items.{alt_seen, alts_seen}
use Rattle.rc_flow.specs.Least.{least_with}
use Rattle.rc_flow.proofs.LeastLemmas.{least_drop}
use Rattle.rc_flow.proofs.alternatives.in_alts.Goals as goal

pub loop-alt-preserved : goal.loop-alt-preserved
loop-alt-preserved c =
    let names = map loc_name_seen c.args.names.now in
    let rest = flat_map locs_in_alt (alts_seen (drop (c.loop-alt.alt-index + 1) c.deref-alt-items.result.now)) in
    ap (λ found. least_with names found rest) c.in_alt-least.ensures
    ∙ least_drop names c.loop-alt.least (λ xs. flat_map locs_in_alt (alts_seen xs)) (λ x. locs_in_alt (alt_seen x))
    (λ _ _. refl) c.deref-alt-items.result.now
    c.loop-alt.alt-index c.alt-item.result c.loop-alt-test.true c.alt-item.is
    ∙ c.loop-alt.invariant
