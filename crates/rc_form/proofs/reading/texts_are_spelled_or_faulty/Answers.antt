use Rattle.rc_form.proofs.ReadIsFault.{spelled_or_faulty}
use Rattle.rc_form.proofs.reading.texts_are_spelled_or_faulty.Goals as goal

pub returns : goal.returns
returns c = spelled_or_faulty
