use Rattle.std.proofs.Common.{length, arith, ap, sym, subst}
use Rattle.rc_play_spec.specs.Table.{IsSound}
use Rattle.rc_table.proofs.Held.{noted_top}
use Rattle.rc_table.proofs.PutBack.{onto_is}
use Rattle.rc_table.proofs.table.Table.note_top.Goals as goal

pub put_reference-requires-clause-sound : goal.put_reference-requires-clause-sound
put_reference-requires-clause-sound c =
    let laid = c.args.self.now in
    let top = ap length c.list.ensures.list in
    let noted = c.edits_keep_tables_sound.ensures.remembered laid.shape laid.table c.args.id c.args.loc c.shape-shape.ensures.sound c.requires.card c.requires.loc in
    subst (IsSound laid.shape) (sym (onto_is laid.table c.args.id c.args.loc (length c.list.result.now) (omega (arith, top))))
    (noted_top laid.shape laid.table c.args.id c.args.loc c.requires.room noted.0)
