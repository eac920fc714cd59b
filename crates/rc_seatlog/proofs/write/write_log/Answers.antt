use Rattle.std.proofs.Common.{◌≡◌, IfOk, subst}
use Rattle.rc_seatlog.proofs.WriteLemmas.{log_is}
use Rattle.rc_seatlog.proofs.write.write_log.Goals as goal

pub returns : goal.returns
returns c =
    subst (λ text. IfOk c.write_first.result (λ bytes. bytes.items ≡ text))
    (log_is c.args.seat c.args.number c.args.views.now c.first_told.result.now c.first_told.ensures) c.write_first.ensures
