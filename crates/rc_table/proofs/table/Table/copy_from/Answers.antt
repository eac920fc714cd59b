use Rattle.std.proofs.Common.{sym, ap, ◌∙◌, arith}
use Rattle.rc_table.specs.Laid.{Laid, rooms}
use Rattle.rc_table.proofs.table.Table.copy_from.Goals as goal

pub copy_from-requires-clause-room : goal.copy_from-requires-clause-room
copy_from-requires-clause-room c =
    let same = ap (λ (laid : Laid). laid.shape) c.self.view_is ∙ c.requires ∙ sym (ap (λ (laid : Laid). laid.shape) c.other.view_is) in
    c.other.invariant.fits ∙ sym (ap rooms same) ∙ sym c.self.invariant.fits

pub copy_from-requires-clause-few : goal.copy_from-requires-clause-few
copy_from-requires-clause-few c =
    let few = c.other.invariant.limits.locations in
    let each = c.other.invariant.sound.locations in
    omega (arith, few, each)
