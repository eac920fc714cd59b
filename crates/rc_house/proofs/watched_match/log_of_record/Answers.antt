use Rattle.std.proofs.Common.{◌≡◌, IfOk, length, map, take, rules, sym, ap, ◌∙◌, subst}
use Rattle.std.proofs.lemmas.List.{length-map}
use Rattle.rc_play_spec.specs.Keyed.{dealing_of}
use Rattle.rc_rules.specs.Record.{pick_seen, record_seen}
use Rattle.rc_view.specs.Seen.{view_seen}
use Rattle.rc_log_spec.specs.Log.{most_told, text_of}
use Rattle.rc_log_spec.specs.Views.{views_in}
use Rattle.rc_house.proofs.WatchedSites.{first_stand}
use Rattle.rc_house.proofs.watched_match.log_of_record.Goals as goal

pub write_first-requires : goal.write_first-requires
write_first-requires c =
    let about = c.args.about.now in
    let r = record_seen c.args.played.now in
    let seen = ap (map view_seen) c.deref-2.ensures.value ∙ c.in_ok-views.ensures
    ∙ ap (λ about. take most_told (views_in about (dealing_of r.deal) c.args.seat r.picks)) c.in_ok-machine.ensures.about in
    record { sites = first_stand about.shape c.args.seat most_told c.deref-2.result.now (views_in about (dealing_of r.deal) c.args.seat r.picks) seen c.requires.counts.0 }

pub returns : goal.returns
returns c =
    let about = c.args.about.now in
    let r = record_seen c.args.played.now in
    let views = views_in about (dealing_of r.deal) c.args.seat r.picks in
    let seen : map view_seen c.deref-2.result.now ≡ take most_told views = ap (map view_seen) c.deref-2.ensures.value ∙ c.in_ok-views.ensures
    ∙ ap (λ about. take most_told (views_in about (dealing_of r.deal) c.args.seat r.picks)) c.in_ok-machine.ensures.about in
    let picks = c.args.played.now.picks.items in
    let long : c.len.result ≡ length picks = search rules in
    let stops : c.len.result ≡ length views = long ∙ sym (c.requires.each ∙ length-map picks pick_seen) in
    subst (λ text. IfOk c.write_first.result (λ bytes. bytes.items ≡ text))
    (λ i. text_of (record { seat = c.args.seat; number = c.args.number; views = seen i; stops = stops i })) c.write_first.ensures
