use Rattle.std.proofs.Common.{◌<◌, length, get_or, set, ap, ap₂, ◌∙◌, sym, subst, arith}
use Rattle.rc_play_spec.specs.Table.{Table, IsSound, with_list}
use Rattle.rc_table.specs.Laid.{Laid}
use Rattle.rc_table.specs.Rows.{Lists}
use Rattle.rc_table.specs.Whereabouts.{noted_in}
use Rattle.rc_table.proofs.WhereaboutLemmas.{noted_all, length-noted_in}
use Rattle.rc_table.proofs.WhereaboutEdits.{refilled, can_note}
use Rattle.rc_table.proofs.TwoLists.{first_there, second_there, first_fits, second_fits, two_noted}
use Rattle.rc_table.proofs.table.Table.relist_two.Goals as goal

pub overwrite-requires-clause-list : goal.overwrite-requires-clause-list
overwrite-requires-clause-list c =
    let from = c.args.from in
    let to = c.args.to in
    let list = c.args.list.now in
    let other = c.args.other.now in
    let shape = c.self.inside.shape.value in
    let table : Table = record { lists = c.self.inside.lists.all; numbers = c.self.inside.numbers.items; marks = c.self.inside.marks } in
    let limits = c.self.invariant.limits in
    let sound = c.self.invariant.sound in
    let within = subst (λ (laid : Laid). from < length laid.shape.places) (sym c.self.view_is) c.requires.from in
    let within' = subst (λ (laid : Laid). to < length laid.shape.places) (sym c.self.view_is) c.requires.to in
    let after = subst (λ (laid : Laid). IsSound laid.shape (with_list (with_list laid.table from list) to other)) (sym c.self.view_is) c.requires.sound in
    first_there shape table limits sound from list to other within within' c.requires.apart after

pub overwrite-requires-clause-room : goal.overwrite-requires-clause-room
overwrite-requires-clause-room c =
    let from = c.args.from in
    let to = c.args.to in
    let list = c.args.list.now in
    let other = c.args.other.now in
    let shape = c.self.inside.shape.value in
    let table : Table = record { lists = c.self.inside.lists.all; numbers = c.self.inside.numbers.items; marks = c.self.inside.marks } in
    let limits = c.self.invariant.limits in
    let sound = c.self.invariant.sound in
    let within = subst (λ (laid : Laid). from < length laid.shape.places) (sym c.self.view_is) c.requires.from in
    let within' = subst (λ (laid : Laid). to < length laid.shape.places) (sym c.self.view_is) c.requires.to in
    let after = subst (λ (laid : Laid). IsSound laid.shape (with_list (with_list laid.table from list) to other)) (sym c.self.view_is) c.requires.sound in
    let fits = first_fits shape table limits sound from list to other within within' c.requires.apart after in
    let room = ap (λ room. get_or room from 0) c.self.invariant.fits in
    omega (arith, fits, room)

pub overwrite-requires-2-clause-list : goal.overwrite-requires-2-clause-list
overwrite-requires-2-clause-list c =
    let from = c.args.from in
    let to = c.args.to in
    let list = c.args.list.now in
    let other = c.args.other.now in
    let shape = c.self.inside.shape.value in
    let table : Table = record { lists = c.self.inside.lists.all; numbers = c.self.inside.numbers.items; marks = c.self.inside.marks } in
    let limits = c.self.invariant.limits in
    let sound = c.self.invariant.sound in
    let within = subst (λ (laid : Laid). from < length laid.shape.places) (sym c.self.view_is) c.requires.from in
    let within' = subst (λ (laid : Laid). to < length laid.shape.places) (sym c.self.view_is) c.requires.to in
    let after = subst (λ (laid : Laid). IsSound laid.shape (with_list (with_list laid.table from list) to other)) (sym c.self.view_is) c.requires.sound in
    let all = ap (λ (lists : Lists). lists.all) c.overwrite.ensures in
    subst (λ lists. to < length lists) (sym all) (second_there shape table limits sound from list to other within within' c.requires.apart after)

pub overwrite-requires-2-clause-room : goal.overwrite-requires-2-clause-room
overwrite-requires-2-clause-room c =
    let from = c.args.from in
    let to = c.args.to in
    let list = c.args.list.now in
    let other = c.args.other.now in
    let shape = c.self.inside.shape.value in
    let table : Table = record { lists = c.self.inside.lists.all; numbers = c.self.inside.numbers.items; marks = c.self.inside.marks } in
    let limits = c.self.invariant.limits in
    let sound = c.self.invariant.sound in
    let within = subst (λ (laid : Laid). from < length laid.shape.places) (sym c.self.view_is) c.requires.from in
    let within' = subst (λ (laid : Laid). to < length laid.shape.places) (sym c.self.view_is) c.requires.to in
    let after = subst (λ (laid : Laid). IsSound laid.shape (with_list (with_list laid.table from list) to other)) (sym c.self.view_is) c.requires.sound in
    let fits = second_fits shape table limits sound from list to other within within' c.requires.apart after in
    let room = ap (λ (lists : Lists). get_or lists.room to 0) c.overwrite.ensures ∙ ap (λ room. get_or room to 0) c.self.invariant.fits in
    omega (arith, fits, room)

pub note_move-requires-clause-ids : goal.note_move-requires-clause-ids
note_move-requires-clause-ids c =
    let from = c.args.from in
    let to = c.args.to in
    let list = c.args.list.now in
    let other = c.args.other.now in
    let shape = c.self.inside.shape.value in
    let table : Table = record { lists = c.self.inside.lists.all; numbers = c.self.inside.numbers.items; marks = c.self.inside.marks } in
    let limits = c.self.invariant.limits in
    let sound = c.self.invariant.sound in
    let within = subst (λ (laid : Laid). from < length laid.shape.places) (sym c.self.view_is) c.requires.from in
    let within' = subst (λ (laid : Laid). to < length laid.shape.places) (sym c.self.view_is) c.requires.to in
    let after = subst (λ (laid : Laid). IsSound laid.shape (with_list (with_list laid.table from list) to other)) (sym c.self.view_is) c.requires.sound in
    let all = ap (λ (lists : Lists). lists.all) c.overwrite.ensures in
    let lists = ap (λ (lists : Lists). lists.all) c.overwrite-2.ensures ∙ ap (λ all. set all to other) all in
    let long = ap length (c.deref_mut.ensures.value ∙ c.self.invariant.noted) ∙ noted_all shape table in
    (can_note shape (with_list (with_list table from list) to other) after limits c.overwrite-2.new.self.all c.deref_mut.result.now from lists long).0

pub note_move-requires-clause-few : goal.note_move-requires-clause-few
note_move-requires-clause-few c =
    let from = c.args.from in
    let to = c.args.to in
    let list = c.args.list.now in
    let other = c.args.other.now in
    let shape = c.self.inside.shape.value in
    let table : Table = record { lists = c.self.inside.lists.all; numbers = c.self.inside.numbers.items; marks = c.self.inside.marks } in
    let limits = c.self.invariant.limits in
    let sound = c.self.invariant.sound in
    let within = subst (λ (laid : Laid). from < length laid.shape.places) (sym c.self.view_is) c.requires.from in
    let within' = subst (λ (laid : Laid). to < length laid.shape.places) (sym c.self.view_is) c.requires.to in
    let after = subst (λ (laid : Laid). IsSound laid.shape (with_list (with_list laid.table from list) to other)) (sym c.self.view_is) c.requires.sound in
    let all = ap (λ (lists : Lists). lists.all) c.overwrite.ensures in
    let lists = ap (λ (lists : Lists). lists.all) c.overwrite-2.ensures ∙ ap (λ all. set all to other) all in
    let long = ap length (c.deref_mut.ensures.value ∙ c.self.invariant.noted) ∙ noted_all shape table in
    (can_note shape (with_list (with_list table from list) to other) after limits c.overwrite-2.new.self.all c.deref_mut.result.now from lists long).1

pub note_move-requires-clause-other_ids : goal.note_move-requires-clause-other_ids
note_move-requires-clause-other_ids c =
    let from = c.args.from in
    let to = c.args.to in
    let list = c.args.list.now in
    let other = c.args.other.now in
    let shape = c.self.inside.shape.value in
    let table : Table = record { lists = c.self.inside.lists.all; numbers = c.self.inside.numbers.items; marks = c.self.inside.marks } in
    let limits = c.self.invariant.limits in
    let sound = c.self.invariant.sound in
    let within = subst (λ (laid : Laid). from < length laid.shape.places) (sym c.self.view_is) c.requires.from in
    let within' = subst (λ (laid : Laid). to < length laid.shape.places) (sym c.self.view_is) c.requires.to in
    let after = subst (λ (laid : Laid). IsSound laid.shape (with_list (with_list laid.table from list) to other)) (sym c.self.view_is) c.requires.sound in
    let all = ap (λ (lists : Lists). lists.all) c.overwrite.ensures in
    let lists = ap (λ (lists : Lists). lists.all) c.overwrite-2.ensures ∙ ap (λ all. set all to other) all in
    let long = ap length (c.deref_mut.ensures.value ∙ c.self.invariant.noted) ∙ noted_all shape table in
    (can_note shape (with_list (with_list table from list) to other) after limits c.overwrite-2.new.self.all c.deref_mut.result.now to lists long).0

pub note_move-requires-clause-other_few : goal.note_move-requires-clause-other_few
note_move-requires-clause-other_few c =
    let from = c.args.from in
    let to = c.args.to in
    let list = c.args.list.now in
    let other = c.args.other.now in
    let shape = c.self.inside.shape.value in
    let table : Table = record { lists = c.self.inside.lists.all; numbers = c.self.inside.numbers.items; marks = c.self.inside.marks } in
    let limits = c.self.invariant.limits in
    let sound = c.self.invariant.sound in
    let within = subst (λ (laid : Laid). from < length laid.shape.places) (sym c.self.view_is) c.requires.from in
    let within' = subst (λ (laid : Laid). to < length laid.shape.places) (sym c.self.view_is) c.requires.to in
    let after = subst (λ (laid : Laid). IsSound laid.shape (with_list (with_list laid.table from list) to other)) (sym c.self.view_is) c.requires.sound in
    let all = ap (λ (lists : Lists). lists.all) c.overwrite.ensures in
    let lists = ap (λ (lists : Lists). lists.all) c.overwrite-2.ensures ∙ ap (λ all. set all to other) all in
    let long = ap length (c.deref_mut.ensures.value ∙ c.self.invariant.noted) ∙ noted_all shape table in
    (can_note shape (with_list (with_list table from list) to other) after limits c.overwrite-2.new.self.all c.deref_mut.result.now to lists long).1

pub invariant_of-self : goal.invariant_of-self
invariant_of-self c =
    let from = c.args.from in
    let to = c.args.to in
    let list = c.args.list.now in
    let other = c.args.other.now in
    let shape = c.self.inside.shape.value in
    let table : Table = record { lists = c.self.inside.lists.all; numbers = c.self.inside.numbers.items; marks = c.self.inside.marks } in
    let limits = c.self.invariant.limits in
    let sound = c.self.invariant.sound in
    let within = subst (λ (laid : Laid). from < length laid.shape.places) (sym c.self.view_is) c.requires.from in
    let within' = subst (λ (laid : Laid). to < length laid.shape.places) (sym c.self.view_is) c.requires.to in
    let after = subst (λ (laid : Laid). IsSound laid.shape (with_list (with_list laid.table from list) to other)) (sym c.self.view_is) c.requires.sound in
    let all = ap (λ (lists : Lists). lists.all) c.overwrite.ensures in
    let lists = ap (λ (lists : Lists). lists.all) c.overwrite-2.ensures ∙ ap (λ all. set all to other) all in
    let room = ap (λ (lists : Lists). lists.room) c.overwrite-2.ensures ∙ ap (λ (lists : Lists). lists.room) c.overwrite.ensures in
    let stand = c.self.inside.whereabouts in
    let now = c.overwrite-2.new.self.all in
    let is = c.note_move.ensures ∙ ap₂ (λ shape stand. noted_in shape now to 0 (noted_in shape now from 0 stand)) c.deref.ensures c.deref_mut.ensures.value in
    let long = ap length is ∙ length-noted_in shape now to 0 (noted_in shape now from 0 stand.items) ∙ length-noted_in shape now from 0 stand.items in
    let noted = refilled stand.len stand.items c.note_move.new.stand stand.ok.0 long
    ∙ two_noted shape table limits sound from list to other within within' c.requires.apart after now stand.items c.note_move.new.stand lists c.self.invariant.noted is in
    rw lists
    (record {
      limits = limits;
      sound = after;
      fits = room ∙ c.self.invariant.fits;
      noted = noted;
    })
