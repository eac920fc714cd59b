use Rattle.std.proofs.Common.{sym, ap, ◌∙◌}
use Rattle.rc_redraw.specs.Need.{need_seen}
use Rattle.rc_rollout.specs.Alone.{keys_of}
use Rattle.rc_match.specs.Lane.{phase_seen}
use Rattle.rc_core.specs.Events.{found, looked_up}
use Rattle.rc_core.proofs.sharing.look_up.Goals as goal

pub returns-in-Ok-Some-clause-after : goal.returns-in-Ok-Some-clause-after
returns-in-Ok-Some-clause-after c = λ capacity.
    let entries = c.args.entries.now.items in
    let need = need_seen c.in-Asks.need in
    let asking = ap phase_seen c.in-Asks.is in
    c.find.ensures need capacity asking
    ∙ sym (ap (looked_up capacity entries) asking ∙ ap (found capacity entries need) (c.in-Ok-Some.ensures ∙ ap keys_of c.in-Ok-Some.field-0-is))
