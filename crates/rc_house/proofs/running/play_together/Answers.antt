use Rattle.std.proofs.Common.{IfOk, ◌<◌, sym, subst}
use Rattle.rc_play_spec.specs.About.{about_of}
use Rattle.rc_series.specs.Series.{IsTold}
use Rattle.rc_rules.specs.Plan.{plan_seen}
use Rattle.rc_house.specs.Running.{IsSeriesOf}
use Rattle.rc_house.proofs.PlayingLemmas.{played_together}
use Rattle.rc_house.proofs.running.play_together.Goals as goal

pub returns : goal.returns
returns g c =
    let about = about_of c.args.game.checked c.args.game.plan.turns in
    let plan = plan_seen c.args.game.plan in
    let options = c.options-workers.result in
    let several = subst (λ options. 1 < options.workers) (sym c.options-workers.ensures) c.requires.many in
    let played = c.series_by_workers.ensures in
    let named = subst (λ noted. IfOk c.series_by_workers.result (λ series. IsTold noted about plan series.named)) c.is_named-noted.ensures played.named in
    subst (λ options. IfOk c.series_by_workers.result (IsSeriesOf options about plan 0 0)) c.options-workers.ensures
    (played_together options about plan c.series_by_workers.result several
    played.matches played.standings named played.book played.looks played.hits played.missed)
