use Rattle.std.proofs.Common.{◌≡◌, ◌<◌, false, ap, sym, ◌∙◌, subst}
use Rattle.std.specs.Prelude.{All}
use Rattle.rc_play_spec.specs.Effects.{is_named as is_named_by, joined}
use Rattle.rc_play_spec.specs.Sees.{sees as sees_faces}
use Rattle.rc_play_spec.specs.Table.{loc_of, marks_of}
use Rattle.rc_value.proofs.ShownLemmas.{joined_within, joined_unseen}
use Rattle.rc_value.proofs.peeking.joined_marks.Goals as goal

pub returns-clause-marks : goal.returns-clause-marks
returns-clause-marks c =
    let laid = c.args.table.now in
    c.joined_bits.ensures
    ∙ ap (λ at. joined laid.shape (is_named_by laid.shape c.args.class c.args.owner) at.0 (marks_of laid.table.marks c.args.id)) c.place_of-loc.ensures.place

pub returns-clause-players : goal.returns-clause-players
returns-clause-players c =
    let laid = c.args.table.now in
    subst (All (λ seat. seat < laid.shape.players)) (sym c.joined_bits.ensures)
    (joined_within laid.shape (is_named_by laid.shape c.args.class c.args.owner) c.place_of-loc.result.0 (marks_of laid.table.marks c.args.id))

pub returns-clause-unseen : goal.returns-clause-unseen
returns-clause-unseen c =
    let laid = c.args.table.now in
    let named = is_named_by laid.shape c.args.class c.args.owner in
    let marks = marks_of laid.table.marks c.args.id in
    let loc = loc_of laid.shape laid.table c.args.id in
    let old = (c.edits_keep_tables_sound.ensures.unseen laid.shape laid.table c.args.id c.shape-shape.ensures.sound c.requires.card).1 in
    subst (All (λ seat. sees_faces laid.shape seat loc ≡ false))
    (sym (c.joined_bits.ensures ∙ ap (λ at. joined laid.shape named at.0 marks) c.place_of-loc.ensures.place))
    (joined_unseen laid.shape named loc marks old)
