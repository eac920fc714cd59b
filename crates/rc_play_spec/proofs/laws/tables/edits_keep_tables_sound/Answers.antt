use Rattle.std.proofs.Common.{get_or}
use Rattle.rc_sheet_spec.specs.Sheet.{hloc, game_class}
use Rattle.rc_play_spec.specs.Shape.{Place}
use Rattle.std.proofs.lemmas.Option.{slice_get-get_or}
use Rattle.rc_play_spec.proofs.SoundLemmas.{put_top_sound, put_bottom_sound, remember_top_sound, remember_bottom_sound, forget_sound, number_sound, reorder_sound, cleared_sound}
use Rattle.rc_play_spec.proofs.ShownLemmas.{marks-sound, marked-unseen}
use Rattle.rc_play_spec.proofs.laws.tables.edits_keep_tables_sound.Goals as goal

pub returns-clause-put : goal.returns-clause-put
returns-clause-put c = λ shape table id loc sound card holds.
    (put_top_sound shape table id loc holds.0 sound card holds.1 holds.2, put_bottom_sound shape table id loc holds.0 sound card holds.1 holds.2)

pub returns-clause-remembered : goal.returns-clause-remembered
returns-clause-remembered c = λ shape table id loc sound card holds.
    (remember_top_sound shape table id loc holds.0 sound card holds.1 holds.2, remember_bottom_sound shape table id loc holds.0 sound card holds.1 holds.2)

pub returns-clause-forgotten : goal.returns-clause-forgotten
returns-clause-forgotten c = λ shape table id loc sound holds. forget_sound shape table id loc holds.0 sound holds.1 holds.2

pub returns-clause-number : goal.returns-clause-number
returns-clause-number c = λ shape table num value sound within. number_sound shape table num value sound within

pub returns-clause-reordered : goal.returns-clause-reordered
returns-clause-reordered c = λ shape table loc order sound within permutes.
    let any : Place = record { kind = hloc; class = game_class; owner = 0 } in
    reorder_sound shape table loc order (get_or shape.places loc any) sound (slice_get-get_or shape.places loc any within) permutes

pub returns-clause-marked : goal.returns-clause-marked
returns-clause-marked c = λ shape table id seats sound card are unseen. marks-sound shape table id sound card seats are unseen

pub returns-clause-cleared : goal.returns-clause-cleared
returns-clause-cleared c = λ shape table ids sound. cleared_sound shape table ids sound

pub returns-clause-unseen : goal.returns-clause-unseen
returns-clause-unseen c = λ shape table id sound card. marked-unseen shape table id sound card
