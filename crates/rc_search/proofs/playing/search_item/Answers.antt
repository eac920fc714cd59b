use Rattle.std.proofs.Common.{sym, ap, ◌∙◌}
use Rattle.rc_play_spec.specs.Strategy.{first_largest}
use Rattle.rc_redraw.specs.Need.{need_seen}
use Rattle.rc_view.specs.Seen.{view_seen}
use Rattle.rc_play_spec.specs.Search.{totals}
use Rattle.rc_search.specs.Rival.{rival_seen}
use Rattle.rc_search.proofs.TotalLemmas.{long}
use Rattle.rc_search.proofs.playing.search_item.Goals as goal

pub best_item-requires : goal.best_item-requires
best_item-requires g c =
    let need = need_seen c.args.need.now in
    let rival = rival_seen c.args.rival.now in
    let seen = c.in_ok-seen.seen in
    let is = c.in_ok-seen.ensures in
    let found = c.deref.ensures.value ∙ c.in_ok-found.ensures ∙ ap (λ a. totals a rival seen.seed (view_seen seen.view)) is.about
    ∙ ap (λ seed. totals need.about rival seed (view_seen seen.view)) is.seed ∙ ap (totals need.about rival need.seed) is.view in
    long need.about rival need.seed need.view rival.rounds c.deref.result.now found ∙ sym c.requires.need.menu

pub returns : goal.returns
returns g c =
    let need = need_seen c.args.need.now in
    let rival = rival_seen c.args.rival.now in
    let seen = c.in_ok-seen.seen in
    let is = c.in_ok-seen.ensures in
    let found = c.deref.ensures.value ∙ c.in_ok-found.ensures ∙ ap (λ a. totals a rival seen.seed (view_seen seen.view)) is.about
    ∙ ap (λ seed. totals need.about rival seed (view_seen seen.view)) is.seed ∙ ap (totals need.about rival need.seed) is.view in
    c.best_item.ensures ∙ ap first_largest found
