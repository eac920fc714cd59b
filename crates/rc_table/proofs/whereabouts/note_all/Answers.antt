use Rattle.std.proofs.Common.{refl, arith}
use Rattle.rc_play_spec.specs.Table.{Table}
use Rattle.rc_table.proofs.WhereaboutEdits.{can_note, row_noted, rows_noted}
use Rattle.rc_table.proofs.whereabouts.note_all.Goals as goal

pub note_cards-requires-clause-ids : goal.note_cards-requires-clause-ids
note_cards-requires-clause-ids c =
    let all = c.args.lists.now.all in
    let table : Table = record { lists = all; numbers = c.requires.sound.0; marks = c.requires.sound.1 } in
    (can_note c.args.shape.now table c.requires.sound.2 c.requires.limits all c.loop-loc.stand c.loop-loc.loc refl c.loop-loc.invariant.long).0

pub note_cards-requires-clause-few : goal.note_cards-requires-clause-few
note_cards-requires-clause-few c =
    let all = c.args.lists.now.all in
    let table : Table = record { lists = all; numbers = c.requires.sound.0; marks = c.requires.sound.1 } in
    (can_note c.args.shape.now table c.requires.sound.2 c.requires.limits all c.loop-loc.stand c.loop-loc.loc refl c.loop-loc.invariant.long).1

pub loop-loc-preserved : goal.loop-loc-preserved
loop-loc-preserved c =
    let table : Table = record { lists = c.args.lists.now.all; numbers = c.requires.sound.0; marks = c.requires.sound.1 } in
    let noted = row_noted c.args.shape.now table c.requires.sound.2 c.loop-loc.stand _ c.loop-loc.loc c.loop-loc.invariant.long c.note_cards.ensures
    c.loop-loc.invariant.right in
    record {
      long = noted.0;
      right = noted.1;
    }

pub returns : goal.returns
returns c =
    let table : Table = record { lists = c.args.lists.now.all; numbers = c.requires.sound.0; marks = c.requires.sound.1 } in
    let test = c.loop-loc-test.false in
    let last = c.locations-loc-end.ensures in
    rows_noted c.args.shape.now table c.requires.sound.2 c.loop-loc.stand c.loop-loc.loc (omega (arith, last, test)) c.loop-loc.invariant.long
    c.loop-loc.invariant.right
