use Rattle.rc_play_spec.proofs.OpeningLemmas.{sheet_homes, opening_sound}
use Rattle.rc_play_spec.proofs.laws.soundness.opening_tables_are_sound.Goals as goal

pub returns-clause-homes : goal.returns-clause-homes
returns-clause-homes c = sheet_homes

pub returns-clause-sound : goal.returns-clause-sound
returns-clause-sound c = opening_sound
