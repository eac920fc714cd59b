use Rattle.std.proofs.Common.{length, arith}
use Rattle.rc_table.proofs.Orders.{order_within, order_long, taken_more}
use Rattle.rc_table.proofs.edits.put_in_order.Goals as goal

pub bounds-list-place : goal.bounds-list-place
bounds-list-place c = order_within (length c.args.list.now) c.args.order.now c.requires.order c.loop-at.at 0 (omega arith)

pub bounds-room-at : goal.bounds-room-at
bounds-room-at c = let long = order_long _ _ c.requires.order in omega (arith, long, c.requires.fits, c.loop-at.auto.room)

pub loop-at-preserved : goal.loop-at-preserved
loop-at-preserved c =
    let long = order_long _ _ c.requires.order in
    taken_more c.args.list.now c.args.order.now c.loop-at.room c.loop-at.at (omega arith) (omega (arith, long, c.requires.fits, c.loop-at.auto.room))
    c.loop-at.invariant

pub returns-clause-count : goal.returns-clause-count
returns-clause-count c = order_long _ _ c.requires.order
