use Rattle.std.proofs.Common.{◌≡◌}
use Rattle.rc_games.proofs.returns.play_out_on_both.Given as goal

abbrev pub invariant-loop : goal.invariant-loop
invariant-loop l =
    record {
      about : l.home.about ≡ l.fn.home.about;
      home : l.home.home ≡ l.fn.home.home;
    }
