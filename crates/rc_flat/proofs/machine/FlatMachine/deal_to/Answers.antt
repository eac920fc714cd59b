use Rattle.std.proofs.Common.{sym, ap, ◌∙◌}
use Rattle.rc_play_spec.specs.About.{About}
use Rattle.rc_flat.specs.Moments.{with_table}
use Rattle.rc_flat.proofs.GoingLemmas.{dealt_then}
use Rattle.rc_flat.proofs.machine.FlatMachine.deal_to.Goals as goal

pub stand_at-requires-clause-on : goal.stand_at-requires-clause-on
stand_at-requires-clause-on c =
    let then = c.requires.moment in
    dealt_then c.args.self.now.about c.args.self.now.code then.0 c.args.moment.now then.1 c.args.table.now.table then.2

pub keep-requires-clause-shape : goal.keep-requires-clause-shape
keep-requires-clause-shape c = c.requires.moment.1.shape ∙ sym (ap (λ (a : About). a.shape) c.stand_at.ensures.stays.about)

pub returns-clause-at : goal.returns-clause-at
returns-clause-at c = λ config is. c.stand_at.ensures.at ∙ ap (with_table c.args.table.now.table) is.there
