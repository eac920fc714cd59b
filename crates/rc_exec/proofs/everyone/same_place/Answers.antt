use Rattle.std.proofs.Common.{◌≤◌, subst, sym, ◌∙◌}
use Rattle.std.specs.Prelude.{IfSome}
use Rattle.rc_base.specs.Limits.{most_numbers}
use Rattle.rc_sheet_spec.specs.Naming.{class_of}
use Rattle.rc_sheet_spec.specs.Sheet.{NumName}
use Rattle.rc_play_spec.specs.Value.{who_value}
use Rattle.rc_ast.specs.Names.{num_seen}
use Rattle.rc_value.specs.Context.{scene_in}
use Rattle.rc_value.proofs.OwnLemmas.{few_places}
use Rattle.rc_exec.proofs.everyone.same_place.Goals as goal

pub invariant_of-result : goal.invariant_of-result
invariant_of-result c =
    let context = c.args.context.now in
    let sheet = context.about.now.sheet in
    let known = (scene_in context c.args.table.now c.args.frames.now.items).known in
    let num = num_seen c.args.num.now in
    let is = sym c.num_now.ensures ∙ c.in-Some.is in
    record {
      few = subst (λ place. IfSome place (λ n. n ≤ most_numbers)) is
          (few_places (λ (num : NumName). num.class) sheet (class_of num.who) (who_value known context.scope.now num.who)
          sheet.nums num.name most_numbers c.sheet-fits.ensures.well.limits.numbers);
    }
