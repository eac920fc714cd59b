use Rattle.std.proofs.Common.{◌≡◌}
use Rattle.rc_play_spec.specs.Stop.{stop_of, effort}
use Rattle.rc_rules.specs.Dealer.{HasShuffled}
use Rattle.rc_code.specs.Seen.{list_seen}
use Rattle.rc_undo.specs.Undo.{Keeps}
use Rattle.rc_flat.specs.State.{IsReady, config_at}
use Rattle.rc_flat.proofs.calls.FlatMachineMachine.advance.Given as goal

abbrev pub invariant-loop-next : goal.invariant-loop-next
invariant-loop-next g l =
    record {
      ready : IsReady l.about (list_seen l.code) l.state;
      keeps : Keeps l.initial.state.board l.state.board;
      dealing : g.D.Dealer.dealing l.dealer ≡ g.D.Dealer.dealing l.initial.dealer;
      shuffled : HasShuffled (g.D.Dealer.dealing l.initial.dealer) (g.D.Dealer.state l.initial.dealer) (g.D.Dealer.state l.dealer);
      stop : stop_of l.about (g.D.Dealer.dealing l.initial.dealer) (g.D.Dealer.state l.initial.dealer) (config_at l.about (list_seen l.code) l.initial.state)
          ≡ stop_of l.about (g.D.Dealer.dealing l.dealer) (g.D.Dealer.state l.dealer) (config_at l.about (list_seen l.code) l.state);
    }

abbrev pub decreases-loop-next : goal.decreases-loop-next
decreases-loop-next g l = effort l.about (config_at l.about (list_seen l.code) l.state)
