use Rattle.std.proofs.Common.{◌≡◌, take, fold}
use Rattle.rc_base.specs.Clamp.{IsWithinClamp}
use Rattle.std.specs.Int.{int_min}
use Rattle.rc_measure.proofs.CodeLemmas.{scores_of}
use Rattle.rc_measure.proofs.scores.smallest.Given as goal

abbrev pub invariant-loop-score : goal.invariant-loop-score
invariant-loop-score l = record {
  is : l.least ≡ fold int_min l.first (scores_of (take l.score-index l.rest));
  within : IsWithinClamp l.least;
}
