use Rattle.std.proofs.Common.{◌≡◌, ℕ, ◌+◌, ◌++◌, ◌∷◌, [], None, Some, get_or, map, drop, append_assoc, arith, sym, ap, subst, ◌∙◌}
use Rattle.rc_play_spec.specs.Keyed.{dealing_of}
use Rattle.rc_play_spec.specs.Plan.{Plan, deal_at}
use Rattle.rc_play_spec.specs.Along.{marks_from, next_stop, picks_along}
use Rattle.rc_play_spec.specs.HouseText.{first_marks}
use Rattle.rc_play_spec.specs.Rows.{chosen_row, decision_row}
use Rattle.rc_rules.specs.declared.record.Pick.{Pick}
use Rattle.rc_rules.specs.Control.{stop_seen, stopped_of}
use Rattle.rc_rules.specs.Machine.{IsWhereItStops, bounds_here}
use Rattle.rc_rules.specs.Record.{pick_seen}
use Rattle.rc_judge.specs.Seen.{marks_row, row_seen}
use Rattle.rc_judge.proofs.Steps.{hands_on, marks_noted, marks_row_is, next_is, pick_halts, pick_leads, pick_noted}
use Rattle.rc_judge.proofs.playing.picks_along.Goals as goal

pub returns-in_err-on_row-2-clause-verdict : goal.returns-in_err-on_row-2-clause-verdict
returns-in_err-on_row-2-clause-verdict g c = λ plan m deal.
    let about = g.M.Machine.about c.args.machine.now in
    let here = g.M.Machine.config c.loop-pick.machine in
    let picks = c.args.picks.now in
    let i = c.loop-pick.pick-index in
    let none : Pick = record { seat = 0; site = 0; item = 0; size = 0 } in
    let pick = pick_seen (get_or picks i none) in
    let at = stopped_of c.loop-pick.stop here c.loop-pick.dealer.count in
    let told = g.N.Margin.told c.loop-pick.margin in
    let same = c.loop-pick.invariant.same in
    let stands = subst (λ about. IsWhereItStops about (stop_seen c.loop-pick.stop) here) same c.loop-pick.invariant.stands in
    let stopped : decision_row about pick (stop_seen c.loop-pick.stop) here ≡ None =
    ap (λ about. decision_row about pick (stop_seen c.loop-pick.stop) here) (sym same) ∙ sym c.stopped_row.ensures.row ∙ ap row_seen c.in_ok-on_row.ensures.free in
    let row : row_seen c.in_ok-row.field-0 ≡ chosen_row about (Some at) pick (first_marks told) =
    c.in_ok-row.ensures.row ∙ ap (λ about. marks_row (first_marks told) (bounds_here about pick.item here)) same ∙ sym (marks_row_is about at pick (first_marks told) stands stopped) in
    let halt = c.in_err-on_row-2.field-0.0 in
    hands_on _ c.from_residual-in_err-on_row-2.result halt _ c.from_residual-in_err-on_row-2.ensures.1
    (pick_halts about plan m c.loop-pick.line at told picks i none halt (row_seen c.in_ok-row.field-0) _ c.loop-pick-test.true row
    (c.loop-pick.invariant.on plan m deal) c.in_err-on_row-2.ensures.verdict)

pub loop-pick-preserved : goal.loop-pick-preserved
loop-pick-preserved g c =
    let about = g.M.Machine.about c.args.machine.now in
    let here = g.M.Machine.config c.loop-pick.machine in
    let picks = c.args.picks.now in
    let i = c.loop-pick.pick-index in
    let n = c.loop-pick.line in
    let none : Pick = record { seat = 0; site = 0; item = 0; size = 0 } in
    let pick = pick_seen (get_or picks i none) in
    let rest = map pick_seen (drop (i + 1) picks) in
    let at = stopped_of c.loop-pick.stop here c.loop-pick.dealer.count in
    let next = stopped_of c.in_ok-stop.stop (g.M.Machine.config c.go_on.new.machine) c.go_on.new.dealer.count in
    let told = g.N.Margin.told c.loop-pick.margin in
    let same = c.loop-pick.invariant.same in
    let stands = subst (λ about. IsWhereItStops about (stop_seen c.loop-pick.stop) here) same c.loop-pick.invariant.stands in
    let stopped : decision_row about pick (stop_seen c.loop-pick.stop) here ≡ None =
    ap (λ about. decision_row about pick (stop_seen c.loop-pick.stop) here) (sym same) ∙ sym c.stopped_row.ensures.row ∙ ap row_seen c.in_ok-on_row.ensures.free in
    let row : row_seen c.in_ok-row.field-0 ≡ chosen_row about (Some at) pick (first_marks told) =
    c.in_ok-row.ensures.row ∙ ap (λ about. marks_row (first_marks told) (bounds_here about pick.item here)) same ∙ sym (marks_row_is about at pick (first_marks told) stands stopped) in
    let leads : (plan : Plan) (m : ℕ) → dealing_of (deal_at plan m).deal ≡ dealing_of c.args.dealer.now.deal → next_stop about dealing_of plan m (Some at) pick ≡ Some next =
    λ plan m deal. next_is about (g.M.Machine.about c.loop-pick.machine) plan m at next pick (dealing_of c.loop-pick.dealer.deal) same
    (c.loop-pick.invariant.dealing ∙ sym deal) stopped c.in_ok-stop.ensures.leads in
    record {
      fresh = c.in_ok-stop.ensures.fresh;
      same = c.in_ok-stop.ensures.same ∙ same;
      stands = c.in_ok-stop.ensures.stands;
      dealing = c.in_ok-stop.ensures.dealing ∙ c.loop-pick.invariant.dealing;
      line = omega (arith, c.loop-pick.invariant.line);
      on = λ plan m deal.
          ap (λ marks. picks_along about dealing_of plan m (n + 1) (Some next) marks rest) c.in_ok-row.ensures.told
          ∙ sym (pick_leads about plan m n at next told picks i none c.loop-pick-test.true (sym row ∙ ap row_seen c.in_ok-on_row-2.ensures.free) (leads plan m deal))
          ∙ c.loop-pick.invariant.on plan m deal;
      noted = λ notes plan m deal.
          let before = g.N.Margin.here c.loop-pick.margin in
          let bounds = bounds_here about pick.item here in
          let later = marks_from about dealing_of plan m (Some next) rest in
          ap (λ xs. xs ++ later) (c.in_ok-row.ensures.noted notes ∙ ap (λ about. before ++ bounds_here about pick.item here ∷ []) same)
          ∙ append_assoc before (bounds ∷ []) later
          ∙ ap (λ xs. before ++ xs) (sym (pick_noted about plan m at next bounds picks i none c.loop-pick-test.true (marks_noted about at pick stands stopped) (leads plan m deal)))
          ∙ c.loop-pick.invariant.noted notes plan m deal;
      before = c.in_ok-row.ensures.before ∙ c.loop-pick.invariant.before;
    }
