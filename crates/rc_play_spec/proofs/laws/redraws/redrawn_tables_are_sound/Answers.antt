use Rattle.rc_play_spec.proofs.Redrawn.{redrawn-of}
use Rattle.rc_play_spec.proofs.laws.redraws.redrawn_tables_are_sound.Goals as goal

pub returns : goal.returns
returns c = λ shape view key of. (redrawn-of shape view key of).0
