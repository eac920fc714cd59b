use Rattle.std.proofs.Common.{◌≤◌, ◌+◌, IfOk, subst}
use Rattle.rc_play_spec.specs.About.{about_of}
use Rattle.rc_series.specs.Series.{IsTold, looks_of}
use Rattle.rc_rules.specs.Plan.{plan_seen}
use Rattle.rc_house.specs.Command.{options_of}
use Rattle.rc_house.specs.Players.{counted_playouts}
use Rattle.rc_house.proofs.PlayingLemmas.{are_of_one, played_by_one}
use Rattle.rc_house.proofs.running.play_alone.Goals as goal

pub returns-clause-series : goal.returns-clause-series
returns-clause-series g c =
    let about = about_of c.args.game.checked c.args.game.plan.turns in
    let plan = plan_seen c.args.game.plan in
    let options = c.options-cache.result in
    let played = c.series_of.ensures in
    let named = subst (λ noted. IfOk c.series_of.result (λ series. IsTold noted about plan series.named)) c.is_named.ensures played.named in
    played_by_one options (options_of c.args.command) about plan c.args.steps.now c.series_of.new.steps c.series_of.result c.options-cache.ensures c.requires.alone
    played.matches played.standings named played.book played.looks played.hits played.counted

pub returns-clause-few : goal.returns-clause-few
returns-clause-few g c =
    let about = about_of c.args.game.checked c.args.game.plan.turns in
    let plan = plan_seen c.args.game.plan in
    subst (λ options. c.series_of.new.steps ≤ c.args.steps.now + counted_playouts options (looks_of about plan))
    (are_of_one c.options-cache.result (options_of c.args.command) c.options-cache.ensures c.requires.alone) c.series_of.ensures.bounded
