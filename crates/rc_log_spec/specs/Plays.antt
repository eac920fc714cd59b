-- Which choices lead from the start of a match to some stop.
use Rattle.std.specs.Prelude.{◌≡◌, ℕ, List, Some}
use Rattle.rc_base.specs.Transcript.{Pick}
use Rattle.rc_play_spec.specs.About.{About}
use Rattle.rc_play_spec.specs.Effects.{Dealing}
use Rattle.rc_play_spec.specs.Step.{start}
use Rattle.rc_play_spec.specs.Stop.{Stopped, stop_of}
use Rattle.rc_play_spec.specs.Legal.{Leads}

-- these choices lead from the first stop of the match to some stop
pub record IsPlayOf (about : About) (dealing : Dealing ℕ) (picks : List Pick) : Type 0 where
  pub first : Stopped ℕ
  pub end : Stopped ℕ
  pub begins : stop_of about dealing 0 (start about) ≡ Some first
  pub leads : Leads about dealing picks first end
