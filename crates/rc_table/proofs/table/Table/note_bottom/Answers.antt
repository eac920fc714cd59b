use Rattle.rc_table.proofs.Held.{noted_bottom}
use Rattle.rc_table.proofs.table.Table.note_bottom.Goals as goal

pub put_reference-requires-clause-sound : goal.put_reference-requires-clause-sound
put_reference-requires-clause-sound c =
    let laid = c.args.self.now in
    let noted = c.edits_keep_tables_sound.ensures.remembered laid.shape laid.table c.args.id c.args.loc c.shape-shape.ensures.sound c.requires.card c.requires.loc in
    noted_bottom laid.shape laid.table c.args.id c.args.loc c.requires.room noted.1
