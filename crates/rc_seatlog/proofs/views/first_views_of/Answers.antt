use Rattle.std.proofs.Common.{◌≡◌, IfOk, map, take, ap, sym, ◌∙◌, subst}
use Rattle.std.proofs.lemmas.List.{take-map}
use Rattle.rc_play_spec.specs.Keyed.{dealing_of}
use Rattle.rc_play_spec.specs.Step.{start}
use Rattle.rc_play_spec.specs.Stop.{stop_of}
use Rattle.rc_rules.specs.Record.{pick_seen}
use Rattle.rc_view.specs.Seen.{view_seen}
use Rattle.rc_log_spec.specs.Log.{most_told}
use Rattle.rc_log_spec.specs.Views.{views_in}
use Rattle.rc_log_spec.specs.Plays.{IsPlayOf}
use Rattle.rc_seatlog.proofs.PlayLemmas.{first_play, first_views}
use Rattle.rc_seatlog.proofs.views.first_views_of.Goals as goal

pub views_at-requires-clause-legal : goal.views_at-requires-clause-legal
views_at-requires-clause-legal g c =
    let about = g.M.Machine.about c.args.machine in
    let deal = dealing_of c.args.played.now.deal in
    let picks = c.args.played.now.picks.items in
    let few : map pick_seen c.first_told.result.now ≡ take most_told (map pick_seen picks) =
    ap (map pick_seen) (c.first_told.ensures ∙ ap (take most_told) c.deref.ensures.value) ∙ sym (take-map pick_seen most_told picks) in
    subst (IsPlayOf about deal) (sym few) (first_play about deal most_told (map pick_seen picks) c.requires.legal)

pub returns : goal.returns
returns g c =
    let about = g.M.Machine.about c.args.machine in
    let deal = dealing_of c.args.played.now.deal in
    let picks = c.args.played.now.picks.items in
    let few : map pick_seen c.first_told.result.now ≡ take most_told (map pick_seen picks) =
    ap (map pick_seen) (c.first_told.ensures ∙ ap (take most_told) c.deref.ensures.value) ∙ sym (take-map pick_seen most_told picks) in
    subst (λ seen. IfOk c.views_at.result (λ views. map view_seen views.items ≡ seen))
    (ap (views_in about deal c.args.seat) few ∙ first_views about deal c.args.seat most_told (map pick_seen picks) (stop_of about deal 0 (start about)))
    c.views_at.ensures
