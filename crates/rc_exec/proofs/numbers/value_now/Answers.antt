use Rattle.std.proofs.Common.{◌≡◌, sym, subst, arith, w64, to_z, of_z}
use Rattle.std.proofs.lemmas.Grind.{common_steps}
use Rattle.rc_base.specs.Clamp.{IsWithinClamp}
use Rattle.rc_play_spec.specs.Value.{int_value}
use Rattle.rc_ast.specs.Expressions.{int_seen}
use Rattle.rc_value.specs.Context.{scene_in}
use Rattle.rc_exec.proofs.numbers.value_now.Goals as goal

pub returns-in-Some-clause-clamped : goal.returns-in-Some-clause-clamped
returns-in-Some-clause-clamped c =
    let context = c.args.context.now in
    let well = c.requires.well in
    let scene = scene_in context c.args.table.now c.args.frames.now.items in
    let same : to_z w64 (of_z w64 c.in-Some.value) ≡ int_value scene context.scope.now (int_seen c.args.expr.now) =
    grind (arith, common_steps) in
    subst IsWithinClamp (sym same)
    (c.values_stay_within_limits.ensures.numbers context.about.now.sheet well.0 scene context.scope.now
    (int_seen c.args.expr.now) well.3 c.shape-sound.ensures.sound.clamped)
