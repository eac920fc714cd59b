use Rattle.std.proofs.Common.{◌≡◌, Some, ap, ◌∙◌}
use Rattle.rc_redraw.specs.Counts.{kept}
use Rattle.rc_redraw.specs.Need.{need_seen}
use Rattle.rc_match.specs.Lane.{ready, phase_seen}
use Rattle.rc_cache.specs.Replay.{after}
use Rattle.rc_core.proofs.SharingLemmas.{asked_menu, handed_is, held_wants}
use Rattle.rc_core.proofs.sharing.hand_over.Goals as goal

pub best_of-item-requires : goal.best_of-item-requires
best_of-item-requires c =
    let wants = held_wants c.requires.wants.0 (phase_seen c.args.phase.now) (need_seen c.in-Holds.need) c.in-Holds.entry (ap phase_seen c.in-Holds.is) c.requires.wants.1 in
    asked_menu (need_seen c.in-Holds.need) c.in-Holds.entry wants.0 wants.1

pub returns-in-Some-clause-after : goal.returns-in-Some-clause-after
returns-in-Some-clause-after c =
    let xs = c.args.entries.now.items in
    let held : Some c.in-Some.entry ≡ Some c.in-Holds.entry = c.in-Some.ensures.entry (need_seen c.in-Holds.need) c.in-Holds.entry (ap phase_seen c.in-Holds.is) in
    let same : c.in-Some.entry ≡ c.in-Holds.entry = cc in
    handed_is c.args.capacity xs c.keep.new.entries.items (phase_seen c.args.phase.now) (phase_seen c.release.new.phase) (need_seen c.in-Holds.need) c.in-Holds.entry
    (ap phase_seen c.in-Holds.is)
    (c.release.ensures.ready ∙ ap (λ n. ready (Some n)) c.best_of-item.ensures)
    (c.keep.ensures ∙ ap (λ es. after c.args.capacity es (kept c.in-Some.entry)) c.reserve.ensures.items ∙ ap (λ k. after c.args.capacity xs (kept k)) same)
