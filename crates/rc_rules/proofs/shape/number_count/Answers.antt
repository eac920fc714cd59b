use Rattle.std.proofs.Common.{map, ap, arith}
use Rattle.std.specs.Prelude.{sum_by}
use Rattle.rc_sheet_spec.specs.Sheet.{NumName, game_class}
use Rattle.rc_sheet_spec.specs.WellFormed.{owner_count}
use Rattle.rc_ast.specs.Sheet.{sheet_seen}
use Rattle.rc_ast.specs.Names.{num_name_seen}
use Rattle.rc_rules.proofs.ShapeLemmas.{part_at}
use Rattle.rc_rules.proofs.shape.number_count.Goals as goal

pub overflow_add-count : goal.overflow_add-count
overflow_add-count c =
    let count = λ (name : NumName). owner_count (sheet_seen c.args.sheet.now) name.class in
    let most = part_at count num_name_seen c.deref-name-items.result.now c.loop-name.name-index (record { name = 0; class = game_class }) c.loop-name-test.true in
    let same = ap (λ names. sum_by count (map num_name_seen names)) c.deref-name-items.ensures.value in
    let here = c.owner_count-count.ensures in
    let before = c.loop-name.invariant in
    let few = c.requires.limits.numbers in
    omega (arith, most, same, here, before, few)
