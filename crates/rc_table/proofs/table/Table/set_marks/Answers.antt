use Rattle.std.proofs.Common.{◌≡◌, ◌<◌, false, length, sym, subst}
use Rattle.std.specs.Prelude.{All}
use Rattle.rc_play_spec.specs.Sees.{sees}
use Rattle.rc_play_spec.specs.Table.{Table, loc_of}
use Rattle.rc_table.specs.Laid.{Laid}
use Rattle.rc_table.specs.Marks.{seats_in}
use Rattle.rc_table.proofs.MarkBytes.{seats_are}
use Rattle.rc_table.proofs.table.Table.set_marks.Goals as goal

pub invariant_of-self : goal.invariant_of-self
invariant_of-self c =
    let id = c.args.id in
    let seats = seats_in c.args.seats in
    let shape = c.self.inside.shape.value in
    let table : Table = record { lists = c.self.inside.lists.all; numbers = c.self.inside.numbers.items; marks = c.self.inside.marks } in
    let card = subst (λ (laid : Laid). id < length laid.shape.faces) (sym c.self.view_is) c.requires.card in
    let players = subst (λ (laid : Laid). All (λ seat. seat < laid.shape.players) seats) (sym c.self.view_is) c.requires.players in
    let unseen = subst (λ (laid : Laid). All (λ seat. sees laid.shape seat (loc_of laid.shape laid.table id) ≡ false) seats) (sym c.self.view_is) c.requires.unseen in
    rw c.set.ensures
    (record {
      limits = c.self.invariant.limits;
      sound = c.edits_keep_tables_sound.ensures.marked shape table id seats c.self.invariant.sound card (seats_are shape.players c.args.seats players) unseen;
      fits = c.self.invariant.fits;
      noted = c.self.invariant.noted;
    })
