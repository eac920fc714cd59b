use Rattle.std.proofs.Common.{◌≡◌, ℕ, ◌-◌, Option}
use Rattle.rc_play_spec.specs.About.{About}
use Rattle.rc_rules.specs.Plan.{plan_seen}
use Rattle.rc_match.specs.Asks.{decisions_in}
use Rattle.rc_match.specs.Lane.{ready, lane_seen, phase_seen}
use Rattle.rc_match.specs.Way.{BelongsTo}
use Rattle.rc_match.specs.Sound.{IsSoundBy}
use Rattle.rc_match.proofs.PlayLemmas.{decided_in}
use Rattle.rc_play_spec.specs.Rivals.{rival_play}
use Rattle.rc_search.specs.Rival.{rival_seen}
use Rattle.rc_search.proofs.SoundLemmas.{choices}
use Rattle.rc_search.proofs.playing.play_rival.Given as goal

abbrev pub invariant-loop-lane : goal.invariant-loop-lane
invariant-loop-lane g l =
    let about = l.job.about.value in
    let plan = plan_seen l.job.plan.value in
    let m = l.job.number in
    record {
      own : BelongsTo g.M.Machine.about g.M.Machine.spent about plan m l.lane;
      sound : IsSoundBy about (choices about (rival_seen l.rival) plan m) plan m (lane_seen g.M.Machine.config l.lane);
      ready : (pick : Option ℕ) × (phase_seen l.lane.phase ≡ ready pick);
      same : (a : About) → g.C.Chooser.serves l.fn.chooser a → g.C.Chooser.serves l.chooser a;
    }

abbrev pub decreases-loop-lane : goal.decreases-loop-lane
decreases-loop-lane g l =
    decisions_in (rival_play l.job.about.value (rival_seen l.rival) (plan_seen l.job.plan.value) l.job.number)
    - decided_in (lane_seen g.M.Machine.config l.lane)
