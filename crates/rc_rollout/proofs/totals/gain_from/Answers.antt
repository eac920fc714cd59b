use Rattle.std.proofs.Common.{length, arith, sym, ap, subst, ◌∙◌}
use Rattle.rc_play_spec.specs.Step.{Config}
use Rattle.rc_rules.specs.Machine.{StopsAtDecision, menu_here}
use Rattle.rc_redraw.specs.Asking.{ask_seen}
use Rattle.rc_rollout.proofs.HomeLemmas.{home_stays}
use Rattle.rc_rollout.proofs.totals.gain_from.Goals as goal

pub gain_of-requires-clause-decides : goal.gain_of-requires-clause-decides
gain_of-requires-clause-decides c =
    subst (StopsAtDecision c.args.about.now) (sym c.go_home_but_first.ensures.at) c.requires.home.decides

pub gain_of-requires-clause-offered : goal.gain_of-requires-clause-offered
gain_of-requires-clause-offered c =
    let there = ap (λ (at : Config). length (menu_here c.args.about.now at)) c.go_home_but_first.ensures.at in
    omega (arith, there, c.requires.offered, c.requires.home.size)

pub returns-clause-home : goal.returns-clause-home
returns-clause-home c =
    home_stays c.args.about.now (ask_seen c.args.ask.now) c.args.round c.args.machine.now c.gain_of.new.machine c.gain_of.ensures.about
    (c.gain_of.ensures.home ∙ c.go_home_but_first.ensures.home) c.requires.home
