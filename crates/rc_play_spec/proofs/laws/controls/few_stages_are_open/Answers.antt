use Rattle.rc_play_spec.proofs.DepthLemmas.{few_stages, shallow_path, few_frames}
use Rattle.rc_play_spec.proofs.laws.controls.few_stages_are_open.Goals as goal

pub returns-clause-stages : goal.returns-clause-stages
returns-clause-stages c = few_stages

pub returns-clause-paths : goal.returns-clause-paths
returns-clause-paths c = shallow_path

pub returns-clause-frames : goal.returns-clause-frames
returns-clause-frames c = λ about dealing formed items k at is. few_frames about dealing formed items k at is
