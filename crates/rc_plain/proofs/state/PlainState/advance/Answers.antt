use Rattle.std.proofs.Common.{ap, sym, refl, ◌∙◌, Some}
use Rattle.rc_play_spec.specs.Stop.{stop_of}
use Rattle.rc_play_spec.proofs.StopLemmas.{steps_less, step_keeps, stop_here}
use Rattle.rc_rules.specs.Control.{stop_seen}
use Rattle.rc_plain.specs.State.{config_at, next_seen, plain_of}
use Rattle.rc_plain.proofs.MachineLemmas.{stands_there}
use Rattle.rc_plain.proofs.state.PlainState.advance.Goals as goal

pub loop-stop-smaller : goal.loop-stop-smaller
loop-stop-smaller g c =
    let about = c.args.about.now in
    let after = config_at about c.step.new.self in
    let k = g.D.Dealer.state c.step.new.dealer in
    steps_less about (g.D.Dealer.dealing c.loop-stop.dealer) (g.D.Dealer.state c.loop-stop.dealer) k (config_at about c.loop-stop.self) after
    (c.step.ensures.leads ∙ ap (λ r. next_seen r after k) c.in-None.is)

pub loop-stop-preserved : goal.loop-stop-preserved
loop-stop-preserved g c =
    let about = c.args.about.now in
    let after = config_at about c.step.new.self in
    let k = g.D.Dealer.state c.step.new.dealer in
    record {
      ready = c.step.ensures.ready;
      dealing = c.step.ensures.dealing ∙ c.loop-stop.invariant.dealing;
      stop = c.loop-stop.invariant.stop
          ∙ step_keeps about (g.D.Dealer.dealing c.loop-stop.dealer) (g.D.Dealer.state c.loop-stop.dealer) k (config_at about c.loop-stop.self) after
          (c.step.ensures.leads ∙ ap (λ r. next_seen r after k) c.in-None.is)
          ∙ ap (λ dealing. stop_of about dealing k after) (sym c.step.ensures.dealing);
    }

pub returns-in-Some-clause-leads : goal.returns-in-Some-clause-leads
returns-in-Some-clause-leads g c =
    let about = c.args.about.now in
    let after = config_at about c.step.new.self in
    let k = g.D.Dealer.state c.step.new.dealer in
    c.loop-stop.invariant.stop
    ∙ stop_here about (g.D.Dealer.dealing c.loop-stop.dealer) (g.D.Dealer.state c.loop-stop.dealer) (config_at about c.loop-stop.self) (stop_seen c.in-Some.stop) after
    (c.step.ensures.leads ∙ ap (λ r. next_seen r after k) c.in-Some.is)
    ∙ ap (λ dealer. Some (record { stop = stop_seen c.in-Some.stop; config = after; dealer = dealer })) (sym (c.in-Some.ensures.kept refl))

pub returns-in-Some-clause-stands : goal.returns-in-Some-clause-stands
returns-in-Some-clause-stands g c =
    let about = c.args.about.now in
    let after = config_at about c.step.new.self in
    stands_there (plain_of about c.step.new.self) c.step.ensures.ready.play.stands c.sheet-sheet.ensures.well (stop_seen c.in-Some.stop)
    (c.stops_stay.ensures.there about (g.D.Dealer.dealing c.args.dealer.now) (g.D.Dealer.state c.args.dealer.now) (config_at about c.args.self.now)
    (record { stop = stop_seen c.in-Some.stop; config = after; dealer = g.D.Dealer.state c.step.new.dealer }) (returns-in-Some-clause-leads g c))
