use Rattle.rc_code.specs.Seen.{list_seen}
use Rattle.rc_flat.specs.State.{flat_of}
use Rattle.rc_flat.proofs.PlaceLemmas.{innermost_stage}
use Rattle.rc_flat.proofs.state.State.step_round.Goals as goal

pub stage_there-stage-requires : goal.stage_there-stage-requires
stage_there-stage-requires c =
    let within = c.in-Some.ensures in
    innermost_stage (flat_of c.args.about.now (list_seen c.args.code.now) c.args.self.now) c.requires.ready.play within.0 c.in-Some.place within.1
