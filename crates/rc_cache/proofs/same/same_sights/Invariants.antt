use Rattle.std.specs.Prelude.{◌≡◌, drop, length, map}
use lib.Pointwise.{pointwise}
use Rattle.rc_view.specs.Seen.{sight_seen}
use Rattle.rc_cache.specs.Same.{same_sight}
use Rattle.rc_cache.proofs.same.same_sights.Given as goal

abbrev pub invariant-loop-at : goal.invariant-loop-at
invariant-loop-at l =
    record {
      long : length l.first ≡ length l.second;
      rest : pointwise same_sight (map sight_seen (drop l.at l.first)) (map sight_seen (drop l.at l.second)) ≡ pointwise same_sight (map sight_seen l.first) (map sight_seen l.second);
    }
