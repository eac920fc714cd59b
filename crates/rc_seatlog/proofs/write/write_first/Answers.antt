use Rattle.std.specs.Prelude.{string_bytes}
use Rattle.std.proofs.Common.{ap}
use Rattle.rc_seatlog.proofs.WriteLemmas.{text_is}
use Rattle.rc_seatlog.proofs.write.write_first.Goals as goal

pub returns : goal.returns
returns c =
    text_is c.args.seat c.args.number c.args.views.now c.args.stops (string_bytes c.new-out.result) (string_bytes c.write_head.new.out) (string_bytes c.write_blocks.new.out)
    (string_bytes c.write_total.new.out) c.into_bytes.result.items c.new-out.ensures.bytes c.in_ok-write_head.ensures c.in_ok-write_blocks.ensures
    c.in_ok-write_total.ensures (ap (λ v. v.items) c.into_bytes.ensures.value)
