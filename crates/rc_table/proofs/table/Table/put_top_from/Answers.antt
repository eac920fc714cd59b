use Rattle.std.proofs.Common.{◌≡◌, ◌<◌, length, ap, ap₂, ◌∙◌, sym, subst, arith, [], get_or}
use Rattle.std.proofs.lemmas.Option.{slice_get_within}
use Rattle.rc_play_spec.specs.Bound.{HoldsCards}
use Rattle.rc_play_spec.specs.Table.{Table, place_of, put_top}
use Rattle.rc_table.specs.Laid.{Laid}
use Rattle.rc_table.specs.Rows.{Lists}
use Rattle.rc_table.specs.Whereabouts.{noted_in}
use Rattle.rc_table.proofs.Held.{room_few}
use Rattle.rc_table.proofs.WhereaboutLemmas.{noted_all, length-noted_in}
use Rattle.rc_table.proofs.WhereaboutEdits.{refilled, can_note}
use Rattle.rc_table.proofs.TopLemmas.{from_within, to_within_out, room_on_top, put_lists, put_room, put_last, put_noted}
use Rattle.rc_table.proofs.table.Table.put_top_from.Goals as goal

pub take_out-requires-clause-list : goal.take_out-requires-clause-list
take_out-requires-clause-list c =
    let id = c.args.id in
    let loc = c.args.loc in
    let shape = c.self.inside.shape.value in
    let table : Table = record { lists = c.self.inside.lists.all; numbers = c.self.inside.numbers.items; marks = c.self.inside.marks } in
    let card = subst (λ (laid : Laid). id < length laid.shape.faces) (sym c.self.view_is) c.requires.card in
    let holds = subst (λ (laid : Laid). HoldsCards laid.shape loc) (sym c.self.view_is) c.requires.loc in
    let here = subst (λ (laid : Laid). (c.args.from, c.args.place) ≡ place_of laid.shape laid.table id) (sym c.self.view_is) c.requires.place in
    let sound = c.self.invariant.sound in
    let after = (c.edits_keep_tables_sound.ensures.put shape table id loc sound card holds).0 in
    (from_within shape table c.self.invariant.limits sound id card loc holds c.args.from c.args.place here after).0

pub take_out-requires-clause-place : goal.take_out-requires-clause-place
take_out-requires-clause-place c =
    let id = c.args.id in
    let loc = c.args.loc in
    let shape = c.self.inside.shape.value in
    let table : Table = record { lists = c.self.inside.lists.all; numbers = c.self.inside.numbers.items; marks = c.self.inside.marks } in
    let card = subst (λ (laid : Laid). id < length laid.shape.faces) (sym c.self.view_is) c.requires.card in
    let holds = subst (λ (laid : Laid). HoldsCards laid.shape loc) (sym c.self.view_is) c.requires.loc in
    let here = subst (λ (laid : Laid). (c.args.from, c.args.place) ≡ place_of laid.shape laid.table id) (sym c.self.view_is) c.requires.place in
    let sound = c.self.invariant.sound in
    let after = (c.edits_keep_tables_sound.ensures.put shape table id loc sound card holds).0 in
    (from_within shape table c.self.invariant.limits sound id card loc holds c.args.from c.args.place here after).1

pub put_on-top-requires-clause-list : goal.put_on-top-requires-clause-list
put_on-top-requires-clause-list c =
    let id = c.args.id in
    let loc = c.args.loc in
    let shape = c.self.inside.shape.value in
    let table : Table = record { lists = c.self.inside.lists.all; numbers = c.self.inside.numbers.items; marks = c.self.inside.marks } in
    let card = subst (λ (laid : Laid). id < length laid.shape.faces) (sym c.self.view_is) c.requires.card in
    let holds = subst (λ (laid : Laid). HoldsCards laid.shape loc) (sym c.self.view_is) c.requires.loc in
    let here = subst (λ (laid : Laid). (c.args.from, c.args.place) ≡ place_of laid.shape laid.table id) (sym c.self.view_is) c.requires.place in
    let sound = c.self.invariant.sound in
    let after = (c.edits_keep_tables_sound.ensures.put shape table id loc sound card holds).0 in
    let within = to_within_out shape table c.self.invariant.limits sound id card loc holds c.args.from c.args.place here after in
    subst (λ (lists : Lists). loc < length lists.all) (sym c.take_out.ensures) within

pub put_on-top-requires-clause-room : goal.put_on-top-requires-clause-room
put_on-top-requires-clause-room c =
    let id = c.args.id in
    let loc = c.args.loc in
    let shape = c.self.inside.shape.value in
    let table : Table = record { lists = c.self.inside.lists.all; numbers = c.self.inside.numbers.items; marks = c.self.inside.marks } in
    let card = subst (λ (laid : Laid). id < length laid.shape.faces) (sym c.self.view_is) c.requires.card in
    let holds = subst (λ (laid : Laid). HoldsCards laid.shape loc) (sym c.self.view_is) c.requires.loc in
    let here = subst (λ (laid : Laid). (c.args.from, c.args.place) ≡ place_of laid.shape laid.table id) (sym c.self.view_is) c.requires.place in
    let sound = c.self.invariant.sound in
    let after = (c.edits_keep_tables_sound.ensures.put shape table id loc sound card holds).0 in
    let less = room_on_top shape table c.self.invariant.limits sound id card loc holds c.args.from c.args.place here after in
    let all = ap (λ (lists : Lists). length (get_or lists.all loc [])) c.take_out.ensures in
    let room = ap (λ room. get_or room loc 0) (ap (λ (lists : Lists). lists.room) c.take_out.ensures ∙ c.self.invariant.fits) in
    omega (arith, less, all, room)

pub note_top-requires-clause-ids : goal.note_top-requires-clause-ids
note_top-requires-clause-ids c =
    let id = c.args.id in
    let loc = c.args.loc in
    let shape = c.self.inside.shape.value in
    let table : Table = record { lists = c.self.inside.lists.all; numbers = c.self.inside.numbers.items; marks = c.self.inside.marks } in
    let card = subst (λ (laid : Laid). id < length laid.shape.faces) (sym c.self.view_is) c.requires.card in
    let holds = subst (λ (laid : Laid). HoldsCards laid.shape loc) (sym c.self.view_is) c.requires.loc in
    let here = subst (λ (laid : Laid). (c.args.from, c.args.place) ≡ place_of laid.shape laid.table id) (sym c.self.view_is) c.requires.place in
    let sound = c.self.invariant.sound in
    let after = (c.edits_keep_tables_sound.ensures.put shape table id loc sound card holds).0 in
    let long = ap length (c.deref_mut.ensures.value ∙ c.self.invariant.noted) ∙ noted_all shape table in
    let lists = put_lists shape table c.self.invariant.limits sound id card loc holds c.args.from c.args.place here after c.self.inside.lists.room c.put_on-top.result c.take_out.new.self c.put_on-top.new.self c.take_out.ensures c.put_on-top.ensures.lists c.put_on-top.ensures.place in
    let can = can_note shape (put_top shape id loc table) after c.self.invariant.limits c.put_on-top.new.self.all c.deref_mut.result.now c.args.from lists long in
    can.0

pub note_top-requires-clause-few : goal.note_top-requires-clause-few
note_top-requires-clause-few c =
    let id = c.args.id in
    let loc = c.args.loc in
    let shape = c.self.inside.shape.value in
    let table : Table = record { lists = c.self.inside.lists.all; numbers = c.self.inside.numbers.items; marks = c.self.inside.marks } in
    let card = subst (λ (laid : Laid). id < length laid.shape.faces) (sym c.self.view_is) c.requires.card in
    let holds = subst (λ (laid : Laid). HoldsCards laid.shape loc) (sym c.self.view_is) c.requires.loc in
    let here = subst (λ (laid : Laid). (c.args.from, c.args.place) ≡ place_of laid.shape laid.table id) (sym c.self.view_is) c.requires.place in
    let sound = c.self.invariant.sound in
    let after = (c.edits_keep_tables_sound.ensures.put shape table id loc sound card holds).0 in
    let long = ap length (c.deref_mut.ensures.value ∙ c.self.invariant.noted) ∙ noted_all shape table in
    let lists = put_lists shape table c.self.invariant.limits sound id card loc holds c.args.from c.args.place here after c.self.inside.lists.room c.put_on-top.result c.take_out.new.self c.put_on-top.new.self c.take_out.ensures c.put_on-top.ensures.lists c.put_on-top.ensures.place in
    let can = can_note shape (put_top shape id loc table) after c.self.invariant.limits c.put_on-top.new.self.all c.deref_mut.result.now c.args.from lists long in
    can.1

pub note_top-requires-clause-id : goal.note_top-requires-clause-id
note_top-requires-clause-id c =
    let id = c.args.id in
    let loc = c.args.loc in
    let shape = c.self.inside.shape.value in
    let table : Table = record { lists = c.self.inside.lists.all; numbers = c.self.inside.numbers.items; marks = c.self.inside.marks } in
    let card = subst (λ (laid : Laid). id < length laid.shape.faces) (sym c.self.view_is) c.requires.card in
    let holds = subst (λ (laid : Laid). HoldsCards laid.shape loc) (sym c.self.view_is) c.requires.loc in
    let here = subst (λ (laid : Laid). (c.args.from, c.args.place) ≡ place_of laid.shape laid.table id) (sym c.self.view_is) c.requires.place in
    let sound = c.self.invariant.sound in
    let after = (c.edits_keep_tables_sound.ensures.put shape table id loc sound card holds).0 in
    let long = ap length (c.deref_mut.ensures.value ∙ c.self.invariant.noted) ∙ noted_all shape table in
    omega (arith, long, card)

pub note_top-requires-clause-place : goal.note_top-requires-clause-place
note_top-requires-clause-place c =
    let id = c.args.id in
    let loc = c.args.loc in
    let shape = c.self.inside.shape.value in
    let table : Table = record { lists = c.self.inside.lists.all; numbers = c.self.inside.numbers.items; marks = c.self.inside.marks } in
    let card = subst (λ (laid : Laid). id < length laid.shape.faces) (sym c.self.view_is) c.requires.card in
    let holds = subst (λ (laid : Laid). HoldsCards laid.shape loc) (sym c.self.view_is) c.requires.loc in
    let here = subst (λ (laid : Laid). (c.args.from, c.args.place) ≡ place_of laid.shape laid.table id) (sym c.self.view_is) c.requires.place in
    let sound = c.self.invariant.sound in
    let after = (c.edits_keep_tables_sound.ensures.put shape table id loc sound card holds).0 in
    let less = room_on_top shape table c.self.invariant.limits sound id card loc holds c.args.from c.args.place here after in
    let all = ap (λ (lists : Lists). length (get_or lists.all loc [])) c.take_out.ensures in
    let most = room_few shape c.self.invariant.limits loc (slice_get_within shape.places loc holds.0 holds.1) in
    omega (arith, less, all, most, c.put_on-top.ensures.place)

pub note_top-requires-clause-last : goal.note_top-requires-clause-last
note_top-requires-clause-last c =
    let id = c.args.id in
    let loc = c.args.loc in
    let shape = c.self.inside.shape.value in
    let table : Table = record { lists = c.self.inside.lists.all; numbers = c.self.inside.numbers.items; marks = c.self.inside.marks } in
    let card = subst (λ (laid : Laid). id < length laid.shape.faces) (sym c.self.view_is) c.requires.card in
    let holds = subst (λ (laid : Laid). HoldsCards laid.shape loc) (sym c.self.view_is) c.requires.loc in
    let here = subst (λ (laid : Laid). (c.args.from, c.args.place) ≡ place_of laid.shape laid.table id) (sym c.self.view_is) c.requires.place in
    let sound = c.self.invariant.sound in
    let after = (c.edits_keep_tables_sound.ensures.put shape table id loc sound card holds).0 in
    put_last shape table c.self.invariant.limits sound id card loc holds c.args.from c.args.place here after c.self.inside.lists.room c.put_on-top.result c.take_out.new.self c.put_on-top.new.self c.take_out.ensures c.put_on-top.ensures.lists c.put_on-top.ensures.place

pub invariant_of-self : goal.invariant_of-self
invariant_of-self c =
    let id = c.args.id in
    let loc = c.args.loc in
    let shape = c.self.inside.shape.value in
    let table : Table = record { lists = c.self.inside.lists.all; numbers = c.self.inside.numbers.items; marks = c.self.inside.marks } in
    let card = subst (λ (laid : Laid). id < length laid.shape.faces) (sym c.self.view_is) c.requires.card in
    let holds = subst (λ (laid : Laid). HoldsCards laid.shape loc) (sym c.self.view_is) c.requires.loc in
    let here = subst (λ (laid : Laid). (c.args.from, c.args.place) ≡ place_of laid.shape laid.table id) (sym c.self.view_is) c.requires.place in
    let sound = c.self.invariant.sound in
    let after = (c.edits_keep_tables_sound.ensures.put shape table id loc sound card holds).0 in
    let lists = put_lists shape table c.self.invariant.limits sound id card loc holds c.args.from c.args.place here after c.self.inside.lists.room c.put_on-top.result c.take_out.new.self c.put_on-top.new.self c.take_out.ensures c.put_on-top.ensures.lists c.put_on-top.ensures.place in
    let room = put_room shape table c.self.invariant.limits sound id card loc holds c.args.from c.args.place here after c.self.inside.lists.room c.put_on-top.result c.take_out.new.self c.put_on-top.new.self c.take_out.ensures c.put_on-top.ensures.lists c.put_on-top.ensures.place in
    let stand = c.self.inside.whereabouts in
    let all = c.put_on-top.new.self.all in
    let top = c.put_on-top.result in
    let is = c.note_top.ensures
    ∙ ap₂ (λ shape stand. noted_in shape all loc top (noted_in shape all c.args.from c.args.place stand)) c.deref.ensures c.deref_mut.ensures.value in
    let long = ap length is ∙ length-noted_in shape all loc top (noted_in shape all c.args.from c.args.place stand.items)
    ∙ length-noted_in shape all c.args.from c.args.place stand.items in
    let noted = refilled stand.len stand.items c.note_top.new.stand stand.ok.0 long
    ∙ put_noted shape table c.self.invariant.limits sound id card loc holds c.args.from c.args.place here after c.self.inside.lists.room c.put_on-top.result c.take_out.new.self c.put_on-top.new.self c.take_out.ensures c.put_on-top.ensures.lists c.put_on-top.ensures.place stand.items c.note_top.new.stand c.self.invariant.noted is in
    rw (lists, c.clear.ensures)
    (record {
      limits = c.self.invariant.limits;
      sound = after;
      fits = room ∙ c.self.invariant.fits;
      noted = noted;
    })
