use Rattle.std.proofs.Common.{arith}
use Rattle.rc_sheet_spec.specs.Sheet.{LocName, game_class, vloc}
use Rattle.rc_sheet_spec.specs.WellFormed.{owner_count}
use Rattle.rc_ast.specs.Sheet.{sheet_seen}
use Rattle.rc_ast.specs.Names.{loc_name_seen}
use Rattle.rc_rules.proofs.ShapeLemmas.{part_at}
use Rattle.rc_rules.proofs.shape.location_count.Goals as goal

pub overflow_add-count : goal.overflow_add-count
overflow_add-count c =
    let count = λ (name : LocName). owner_count (sheet_seen c.args.sheet.now) name.class in
    let most = part_at count loc_name_seen c.args.names.now c.loop-name.name-index (record { name = 0; kind = vloc; class = game_class }) c.loop-name-test.true in
    let here = c.owner_count-count.ensures in
    let before = c.loop-name.invariant in
    let few = c.requires in
    omega (arith, most, here, before, few)
