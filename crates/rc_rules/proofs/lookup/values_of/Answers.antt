use Rattle.std.proofs.Common.{[], arith}
use Rattle.rc_base.specs.Deck.{Face, value_at}
use Rattle.rc_rules.proofs.Rows.{row_more}
use Rattle.rc_rules.proofs.lookup.values_of.Goals as goal

pub loop-id-preserved : goal.loop-id-preserved
loop-id-preserved c =
    row_more (λ (face : Face). value_at face c.args.name) [] c.args.shape.now.faces c.loop-id.row.items _ c.loop-id.id _
    (omega (arith, c.loop-id-test.true, c.cards-id-end.ensures)) c.value_of.ensures c.in_ok-push.ensures.items c.loop-id.invariant
