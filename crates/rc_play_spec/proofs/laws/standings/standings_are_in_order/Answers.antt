use Rattle.std.proofs.Common.{map, subst}
use Rattle.std.specs.Prelude.{IsPermutation}
use Rattle.rc_base.specs.Numbers.{below}
use Rattle.rc_play_spec.specs.House.{points_of, standings_of}
use Rattle.rc_play_spec.proofs.StandingLemmas.{each_once, ordered, tells_points, places, points_long}
use Rattle.rc_play_spec.proofs.laws.standings.standings_are_in_order.Goals as goal

pub returns-clause-once : goal.returns-clause-once
returns-clause-once c = λ plan records.
    subst (λ n. IsPermutation (below n) (map (λ s. s.strategy) (standings_of plan records))) (points_long plan records) (each_once (points_of plan records))

pub returns-clause-order : goal.returns-clause-order
returns-clause-order c = λ plan records. ordered (points_of plan records)

pub returns-clause-points : goal.returns-clause-points
returns-clause-points c = λ plan records. tells_points (points_of plan records)

pub returns-clause-places : goal.returns-clause-places
returns-clause-places c = λ plan records. places (points_of plan records)
