use Rattle.std.proofs.Common.{◌≡◌, ◌*◌, take, pos, neg_ℤ, ◌≤ℤ◌}
use Rattle.rc_deck.proofs.PointLemmas.{sum_of}
use Rattle.rc_deck.proofs.scoring.points.Given as goal

-- Each entry moves the sum by at most 1,000,000,000.
abbrev pub invariant-loop-entry : goal.invariant-loop-entry
invariant-loop-entry l = record {
  added : l.sum ≡ sum_of l.face (take l.entry-index l.entry-items);
  above : neg_ℤ (pos (1000000000 * l.entry-index)) ≤ℤ l.sum;
  below : l.sum ≤ℤ pos (1000000000 * l.entry-index);
}
