use Rattle.rc_play_spec.proofs.RivalLemmas.{rival_recorded, each_recorded}
use Rattle.rc_play_spec.proofs.search_laws.every_rival_match_has_a_record.Goals as goal

pub returns : goal.returns
returns c = record { record_there = rival_recorded; each = each_recorded }
