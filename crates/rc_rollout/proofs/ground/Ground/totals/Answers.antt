use Rattle.std.proofs.Common.{◌≡◌, ◌+◌, ◌*◌, ◌≤◌, ap, sym, subst, ◌∙◌}
use Rattle.std.specs.Prelude.{IfSome}
use Rattle.rc_play_spec.specs.About.{About}
use Rattle.rc_play_spec.specs.Strategy.{menu_size}
use Rattle.rc_play_spec.specs.Tally.{tally}
use Rattle.rc_redraw.specs.Asking.{ask_seen}
use Rattle.rc_rollout.proofs.ground.Ground.totals.Goals as goal

pub totals_on-requires-clause-plays : goal.totals_on-requires-clause-plays
totals_on-requires-clause-plays g c =
    subst (λ (a : About). IfSome c.self.inside.machine (λ machine. machine.about ≡ a)) (sym c.deref-2.ensures) c.self.invariant.plays

pub returns-clause-are : goal.returns-clause-are
returns-clause-are g c =
    c.in_ok-totals.ensures.are ∙ ap (λ (a : About). tally a (ask_seen c.args.ask.now)) (c.deref-2.ensures ∙ c.self.view_is)

pub returns-clause-counted : goal.returns-clause-counted
returns-clause-counted g c =
    let ask = ask_seen c.args.ask.now in
    c.in_ok-totals.ensures.counted
    ∙ ap (λ (a : About). c.args.steps.now + ask.rounds * menu_size a ask.view) (c.deref-2.ensures ∙ c.self.view_is)

pub returns-clause-bounded : goal.returns-clause-bounded
returns-clause-bounded g c =
    let ask = ask_seen c.args.ask.now in
    subst (λ (a : About). c.totals_on.new.steps ≤ c.args.steps.now + ask.rounds * menu_size a ask.view)
    (c.deref-2.ensures ∙ c.self.view_is) c.in_ok-totals.ensures.bounded
