use Rattle.std.proofs.Common.{◌≡◌}
use Rattle.rc_play_spec.specs.Stop.{stop_of, effort}
use Rattle.rc_plain.specs.State.{IsReady, config_at}
use Rattle.rc_plain.proofs.state.PlainState.advance.Given as goal

abbrev pub invariant-loop-stop : goal.invariant-loop-stop
invariant-loop-stop g l =
    record {
      ready : IsReady l.about l.self;
      dealing : g.D.Dealer.dealing l.dealer ≡ g.D.Dealer.dealing l.initial.dealer;
      stop : stop_of l.about (g.D.Dealer.dealing l.initial.dealer) (g.D.Dealer.state l.initial.dealer) (config_at l.about l.initial.self)
          ≡ stop_of l.about (g.D.Dealer.dealing l.dealer) (g.D.Dealer.state l.dealer) (config_at l.about l.self);
    }

abbrev pub decreases-loop-stop : goal.decreases-loop-stop
decreases-loop-stop g l = effort l.about (config_at l.about l.self)
