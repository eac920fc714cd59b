use Rattle.std.proofs.Common.{ap, sym, ◌∙◌, rules, SFits, w64}
use Rattle.std.proofs.lemmas.Int.{to_z-of_z}
use Rattle.rc_play_spec.specs.Effects.{change}
use Rattle.rc_value.specs.Leads.{new_by}
use Rattle.rc_ast.specs.Names.{num_seen}
use Rattle.rc_ast.specs.Expressions.{int_seen}
use Rattle.rc_play_spec.specs.Value.{num_place, int_value}
use Rattle.rc_table.specs.Laid.{Laid}
use Rattle.rc_value.specs.Point.{point_of}
use Rattle.rc_value.specs.Context.{scene_in}
use Rattle.rc_exec.proofs.NumberLemmas.{number_leads}
use Rattle.rc_exec.proofs.numbers.change.Goals as goal

pub returns-in-Ok-clause-leads : goal.returns-in-Ok-clause-leads
returns-in-Ok-clause-leads c =
    let context = c.args.context.now in
    let frames = c.args.frames.now.items in
    let num = num_seen c.args.num.now in
    let value = int_seen c.args.value.now in
    let laid = c.change_at.new.board.laid in
    let fits : SFits w64 c.value_now-value.result = search rules in
    λ dealing state.
    number_leads context.about.now dealing context.scope.now num value (point_of c.args.board.now.laid frames state) c.args.how c.in-Some.at c.value_now-value.result
    laid.table
    (ap (λ (laid : Laid). num_place (scene_in context laid frames).known context.scope.now num) (sym c.table-table.ensures) ∙ sym c.num_now.ensures ∙ c.in-Some.is)
    (c.value_now-value.ensures.value ∙ ap (λ (laid : Laid). int_value (scene_in context laid frames) context.scope.now value) c.table-table.ensures)
    (ap (λ (laid : Laid). laid.table) c.in-Ok.ensures.leads ∙ ap (λ v. change (new_by c.args.how) v c.in-Some.at c.args.board.now.laid.table) (to_z-of_z w64 c.value_now-value.result fits))
