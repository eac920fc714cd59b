use Rattle.std.proofs.Common.{subst}
use Rattle.rc_play_spec.specs.HouseText.{plain}
use Rattle.rc_play_spec.specs.Reading.{read_in}
use Rattle.rc_text.specs.Gives.{Gives}
use Rattle.rc_text.specs.House.{named_seen}
use Rattle.rc_text.proofs.Exactly.{no_marks_read}
use Rattle.rc_text.proofs.reading.without_marks.Goals as goal

pub returns-in-Ok : goal.returns-in-Ok
returns-in-Ok c = λ bytes only gives.
    no_marks_read c.in-Ok.named bytes (subst (λ r. Gives named_seen r (read_in plain bytes)) c.in-Ok.is gives) only
