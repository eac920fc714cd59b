use Rattle.rc_play_spec.proofs.FrameLemmas.{start_frames, stop_frames, step_frames, choice_frames}
use Rattle.rc_play_spec.proofs.laws.steps.frames_are_those_of_open_stages.Goals as goal

pub returns-clause-start : goal.returns-clause-start
returns-clause-start c = start_frames

pub returns-clause-stop : goal.returns-clause-stop
returns-clause-stop c = λ about dealing k config at has is. stop_frames about dealing k config at has is

pub returns-clause-step : goal.returns-clause-step
returns-clause-step c = λ about dealing k k2 config config2 has is. step_frames about dealing k k2 config config2 has is

pub returns-clause-choice_made : goal.returns-clause-choice_made
returns-clause-choice_made c = λ about dealing k k2 x config config2 has is. choice_frames about dealing k k2 x config config2 has is
