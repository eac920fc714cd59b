use Rattle.std.proofs.Common.{◌∷◌, Some, sym, ap, ◌∙◌}
use Rattle.rc_play_spec.specs.Strategy.{menu_size}
use Rattle.rc_redraw.specs.Asking.{Key, key_seen}
use Rattle.rc_match.specs.Lane.{ready, phase_seen}
use Rattle.rc_core.specs.Events.{best_of}
use Rattle.rc_core.proofs.EntryLemmas.{same_equal}
use Rattle.rc_core.proofs.SharingLemmas.{found_is, missed_is}
use Rattle.rc_core.proofs.sharing.find.Goals as goal

pub best_of-item-requires : goal.best_of-item-requires
best_of-item-requires c =
    let key = key_seen c.args.key.now in
    let own = c.in-Some.ensures.own key.about c.requires.own in
    let same = same_equal key c.in-Some.entry (sym own) c.in-Some.ensures.same in
    c.requires.menu ∙ ap (λ (k : Key). menu_size k.about k.ask.view) same

pub returns-in-Some : goal.returns-in-Some
returns-in-Some c need capacity asking =
    let key = key_seen c.args.key.now in
    let own = c.in-Some.ensures.own key.about c.requires.own in
    let same = same_equal key c.in-Some.entry (sym own) c.in-Some.ensures.same in
    found_is capacity c.args.entries.now.items c.put_in_front.new.entries.items (phase_seen c.make_ready.new.phase) need key c.in-Some.ensures.found
    (c.make_ready.ensures ∙ ap (λ n. ready (Some n)) (c.best_of-item.ensures ∙ ap best_of (sym same)))
    (c.put_in_front.ensures ∙ ap (λ (k : Key). k ∷ c.take_entry.new.entries.items) (sym same) ∙ ap (λ es. key ∷ es) c.in-Some.ensures.rest)

pub returns-in-None : goal.returns-in-None
returns-in-None c need capacity asking =
    missed_is capacity c.args.entries.now.items c.take_entry.new.entries.items (phase_seen c.miss.new.phase) need (key_seen c.args.key.now)
    c.in-None.ensures.found (c.miss.ensures need asking) c.in-None.ensures.kept
