use Rattle.std.proofs.Common.{◌<◌, List, [], ◌∷◌, map, ℤ, ap, ◌∙◌, Vec, Global, arith}
use Rattle.rc_rules.specs.Plan.{plan_seen}
use Rattle.rc_rules.specs.Record.{record_seen}
use Rattle.rc_measure.specs.Tally.{Tally}
use Rattle.rc_measure.specs.Measures.{numbers, strategy_row, strategy_points, strategy_best}
use Rattle.rc_measure.proofs.CodeLemmas.{row_more}
use Rattle.rc_measure.proofs.GroupLemmas.{at_place}
use Rattle.rc_measure.proofs.measures.strategy_rows.Goals as goal

pub loop-strategy-preserved : goal.loop-strategy-preserved
loop-strategy-preserved c =
    let plan = plan_seen c.args.plan.now in
    let records = map record_seen c.args.matches.now in
    let strategy = c.loop-strategy.strategy in
    let items : Vec ℤ Global → List ℤ = λ row. row.items in
    let less : strategy < 64 = omega (arith, c.loop-strategy-test.true, c.len-strategy-end.ensures, c.requires.strategies) in
    ap (map items) c.in_ok-push.ensures.items
    ∙ row_more items (strategy_row plan records) c.loop-strategy.rows.items strategy c.in_ok-strategy_row.field-0 c.loop-strategy.invariant
    (c.in_ok-strategy_row.ensures
    ∙ ap (λ (t : Tally). numbers (strategy ∷ t.choices ∷ strategy_points plan records strategy ∷ strategy_best plan records strategy ∷ []))
    (at_place c.tallies_by-tallies.result c.from.result strategy _ _ c.from.ensures (c.tallies_by-tallies.ensures.tallies strategy _ less)))
