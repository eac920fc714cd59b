use Rattle.std.proofs.Common.{slice_index, sym, ap, ◌∙◌}
use Rattle.rc_play_spec.specs.Effects.{put}
use Rattle.rc_table.specs.Laid.{relaid}
use Rattle.rc_table.specs.Runs.{end_of}
use Rattle.rc_table.proofs.RunSteps.{one_more_put}
use Rattle.rc_table.proofs.table.Table.put_one_by_one.Goals as goal
use Rattle.rc_table.proofs.table.Table.put_one_by_one.Goals.{in-Top, in-Bottom}

pub loop-id-preserved : goal.loop-id-preserved
loop-id-preserved c =
    let loop = c.loop-id in
    let ids = c.args.ids.now in
    let old = c.args.self.now in
    let more = one_more_put old loop.self c.match-side.self (end_of c.args.side) c.args.loc ids loop.id-index c.loop-id-test.true
    loop.invariant.shape loop.invariant.leads in
    elim c.match-side.branch [
      | in-Top w ↦ more (w.self-is ∙ w.put_top.ensures ∙ ap (λ side. relaid loop.self (put loop.self.shape (end_of side) (slice_index ids loop.id-index) c.args.loc loop.self.table)) (sym w.in-Top.is))
      | in-Bottom w ↦ more (w.self-is ∙ w.put_bottom.ensures ∙ ap (λ side. relaid loop.self (put loop.self.shape (end_of side) (slice_index ids loop.id-index) c.args.loc loop.self.table)) (sym w.in-Bottom.is))
    ]
