use Rattle.std.proofs.Common.{◌≡◌, subst}
use Rattle.rc_play_spec.specs.Tally.{tally as tally_of}
use Rattle.rc_redraw.proofs.entry.Entry.tally.Goals as goal

pub returns : goal.returns
returns c = subst (λ key. c.self.inside.tally.totals.items ≡ tally_of key.about key.ask) c.self.view_is c.self.invariant
