use Rattle.std.proofs.Common.{◌≡◌, true}
use Rattle.rc_games.proofs.returns.playouts_from.Given as goal

abbrev pub invariant-loop-item : goal.invariant-loop-item
invariant-loop-item l =
    record {
      about : l.home.about ≡ l.fn.home.about;
      home : l.home.home ≡ l.fn.home.home;
      notes : l.flat.notes ≡ true;
    }
