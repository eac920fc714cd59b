use Rattle.std.proofs.Common.{◌≡◌}
use Rattle.rc_redraw.specs.Need.{need_seen}
use Rattle.rc_games.proofs.returns.with_playouts.Given as goal

abbrev pub invariant-loop-round : goal.invariant-loop-round
invariant-loop-round l =
    record {
      about : l.home.about ≡ (need_seen l.need).about;
      control : l.home.home.control ≡ (need_seen l.need).view.control;
    }
