use Rattle.std.proofs.Common.{refl}
use Rattle.rc_play_spec.specs.Keyed.{keyed_house_text}
use Rattle.rc_play_spec.proofs.Behind.{dropped_behind, spelled_behind}
use Rattle.rc_play_spec.proofs.what_is_played.what_is_played_may_stand_behind.Goals as goal

pub returns : goal.returns
returns c = λ about plan source want forms spelled count.
    (spelled_behind source want forms _ _ spelled count refl, dropped_behind source (keyed_house_text about plan))
