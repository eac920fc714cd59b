use Rattle.std.proofs.Common.{◌≡◌, ◌<◌, [], length, get_or, set, ap, ap₂, ◌∙◌, sym, subst, arith}
use Rattle.std.specs.Prelude.{All, filter}
use Rattle.rc_play_spec.specs.Bound.{HoldsCards}
use Rattle.rc_play_spec.specs.Table.{Table, loc_of}
use Rattle.rc_table.specs.Laid.{Laid, relaid}
use Rattle.rc_table.specs.Rows.{Lists}
use Rattle.rc_table.specs.Runs.{end_of, put_each, all_added, run_put, is_free}
use Rattle.rc_table.specs.Whereabouts.{noted_in}
use Rattle.rc_table.proofs.WhereaboutLemmas.{noted_all, length-noted_in}
use Rattle.rc_table.proofs.WhereaboutEdits.{refilled, can_note}
use Rattle.rc_table.proofs.RunEdits.{is_final, final_sound, from_there, loc_out, free_is, flags_cover, few_there, kept_fits, both_fit, joined_fits, run_noted}
use Rattle.rc_table.proofs.table.Table.put_run.Goals as goal

pub push_free-requires-clause-few : goal.push_free-requires-clause-few
push_free-requires-clause-few c =
    let ids = c.args.ids.now in
    let loc = c.args.loc in
    let from = c.args.from in
    let end = end_of c.args.side in
    let shape = c.self.inside.shape.value in
    let table : Table = record { lists = c.self.inside.lists.all; numbers = c.self.inside.numbers.items; marks = c.self.inside.marks } in
    let keeps = c.edits_keep_tables_sound.ensures.put in
    let limits = c.self.invariant.limits in
    let sound = c.self.invariant.sound in
    let cards = subst (λ (laid : Laid). All (λ id. id < length laid.shape.faces) ids) (sym c.self.view_is) c.requires.cards in
    let holds = subst (λ (laid : Laid). HoldsCards laid.shape loc) (sym c.self.view_is) c.requires.loc in
    let are = subst (λ (laid : Laid). All (λ id. loc_of laid.shape laid.table id ≡ from) ids) (sym c.self.view_is) c.requires.from in
    let few = few_there keeps shape table limits sound end from loc ids c.requires.some cards holds are c.requires.fresh in let same = ap length c.list.ensures in omega (arith, few, same)

pub push_free-requires-clause-ids : goal.push_free-requires-clause-ids
push_free-requires-clause-ids c =
    let ids = c.args.ids.now in
    let loc = c.args.loc in
    let from = c.args.from in
    let end = end_of c.args.side in
    let shape = c.self.inside.shape.value in
    let table : Table = record { lists = c.self.inside.lists.all; numbers = c.self.inside.numbers.items; marks = c.self.inside.marks } in
    let keeps = c.edits_keep_tables_sound.ensures.put in
    let limits = c.self.invariant.limits in
    let sound = c.self.invariant.sound in
    let cards = subst (λ (laid : Laid). All (λ id. id < length laid.shape.faces) ids) (sym c.self.view_is) c.requires.cards in
    let holds = subst (λ (laid : Laid). HoldsCards laid.shape loc) (sym c.self.view_is) c.requires.loc in
    let are = subst (λ (laid : Laid). All (λ id. loc_of laid.shape laid.table id ≡ from) ids) (sym c.self.view_is) c.requires.from in
    subst (All (λ id. id < length c.args.flags.now)) (sym c.list.ensures) (flags_cover keeps shape table limits sound end from loc ids c.requires.some cards holds are c.requires.fresh c.args.flags.now c.requires.flags)

pub overwrite-requires-clause-list : goal.overwrite-requires-clause-list
overwrite-requires-clause-list c =
    let ids = c.args.ids.now in
    let loc = c.args.loc in
    let from = c.args.from in
    let end = end_of c.args.side in
    let shape = c.self.inside.shape.value in
    let table : Table = record { lists = c.self.inside.lists.all; numbers = c.self.inside.numbers.items; marks = c.self.inside.marks } in
    let keeps = c.edits_keep_tables_sound.ensures.put in
    let limits = c.self.invariant.limits in
    let sound = c.self.invariant.sound in
    let cards = subst (λ (laid : Laid). All (λ id. id < length laid.shape.faces) ids) (sym c.self.view_is) c.requires.cards in
    let holds = subst (λ (laid : Laid). HoldsCards laid.shape loc) (sym c.self.view_is) c.requires.loc in
    let are = subst (λ (laid : Laid). All (λ id. loc_of laid.shape laid.table id ≡ from) ids) (sym c.self.view_is) c.requires.from in
    from_there keeps shape table limits sound end from loc ids c.requires.some cards holds are c.requires.fresh

pub overwrite-requires-clause-room : goal.overwrite-requires-clause-room
overwrite-requires-clause-room c =
    let ids = c.args.ids.now in
    let loc = c.args.loc in
    let from = c.args.from in
    let end = end_of c.args.side in
    let shape = c.self.inside.shape.value in
    let table : Table = record { lists = c.self.inside.lists.all; numbers = c.self.inside.numbers.items; marks = c.self.inside.marks } in
    let keeps = c.edits_keep_tables_sound.ensures.put in
    let limits = c.self.invariant.limits in
    let sound = c.self.invariant.sound in
    let cards = subst (λ (laid : Laid). All (λ id. id < length laid.shape.faces) ids) (sym c.self.view_is) c.requires.cards in
    let holds = subst (λ (laid : Laid). HoldsCards laid.shape loc) (sym c.self.view_is) c.requires.loc in
    let are = subst (λ (laid : Laid). All (λ id. loc_of laid.shape laid.table id ≡ from) ids) (sym c.self.view_is) c.requires.from in
    let free = c.push_free.ensures ∙ ap (λ list. filter (is_free c.args.flags.now) list) c.list.ensures ∙ free_is keeps shape table limits sound end from loc ids c.requires.some cards holds are c.requires.fresh c.args.flags.now c.requires.flags in
    let kept = c.as_slice.ensures.value ∙ free in
    let fits = kept_fits keeps shape table limits sound end from loc ids c.requires.some cards holds are c.requires.fresh in
    let same = ap length kept in
    let room = ap (λ room. get_or room from 0) c.self.invariant.fits in
    omega (arith, fits, same, room)

pub add_all-requires-clause-fits : goal.add_all-requires-clause-fits
add_all-requires-clause-fits c =
    let ids = c.args.ids.now in
    let loc = c.args.loc in
    let from = c.args.from in
    let end = end_of c.args.side in
    let shape = c.self.inside.shape.value in
    let table : Table = record { lists = c.self.inside.lists.all; numbers = c.self.inside.numbers.items; marks = c.self.inside.marks } in
    let keeps = c.edits_keep_tables_sound.ensures.put in
    let limits = c.self.invariant.limits in
    let sound = c.self.invariant.sound in
    let cards = subst (λ (laid : Laid). All (λ id. id < length laid.shape.faces) ids) (sym c.self.view_is) c.requires.cards in
    let holds = subst (λ (laid : Laid). HoldsCards laid.shape loc) (sym c.self.view_is) c.requires.loc in
    let are = subst (λ (laid : Laid). All (λ id. loc_of laid.shape laid.table id ≡ from) ids) (sym c.self.view_is) c.requires.from in
    let free = c.push_free.ensures ∙ ap (λ list. filter (is_free c.args.flags.now) list) c.list.ensures ∙ free_is keeps shape table limits sound end from loc ids c.requires.some cards holds are c.requires.fresh c.args.flags.now c.requires.flags in
    let kept = c.as_slice.ensures.value ∙ free in
    let all = ap (λ (lists : Lists). lists.all) c.overwrite.ensures ∙ ap (set table.lists from) kept in
    let fits = both_fit keeps shape table limits sound end from loc ids c.requires.some cards holds are c.requires.fresh in
    let same = ap length (c.list-2.ensures ∙ ap (λ all. get_or all loc []) all) in
    omega (arith, fits, same)

pub overwrite-requires-2-clause-list : goal.overwrite-requires-2-clause-list
overwrite-requires-2-clause-list c =
    let ids = c.args.ids.now in
    let loc = c.args.loc in
    let from = c.args.from in
    let end = end_of c.args.side in
    let shape = c.self.inside.shape.value in
    let table : Table = record { lists = c.self.inside.lists.all; numbers = c.self.inside.numbers.items; marks = c.self.inside.marks } in
    let keeps = c.edits_keep_tables_sound.ensures.put in
    let limits = c.self.invariant.limits in
    let sound = c.self.invariant.sound in
    let cards = subst (λ (laid : Laid). All (λ id. id < length laid.shape.faces) ids) (sym c.self.view_is) c.requires.cards in
    let holds = subst (λ (laid : Laid). HoldsCards laid.shape loc) (sym c.self.view_is) c.requires.loc in
    let are = subst (λ (laid : Laid). All (λ id. loc_of laid.shape laid.table id ≡ from) ids) (sym c.self.view_is) c.requires.from in
    let free = c.push_free.ensures ∙ ap (λ list. filter (is_free c.args.flags.now) list) c.list.ensures ∙ free_is keeps shape table limits sound end from loc ids c.requires.some cards holds are c.requires.fresh c.args.flags.now c.requires.flags in
    let kept = c.as_slice.ensures.value ∙ free in
    let all = ap (λ (lists : Lists). lists.all) c.overwrite.ensures ∙ ap (set table.lists from) kept in
    subst (λ lists. loc < length lists) (sym all) (loc_out keeps shape table limits sound end from loc ids c.requires.some cards holds are c.requires.fresh)

pub overwrite-requires-2-clause-room : goal.overwrite-requires-2-clause-room
overwrite-requires-2-clause-room c =
    let ids = c.args.ids.now in
    let loc = c.args.loc in
    let from = c.args.from in
    let end = end_of c.args.side in
    let shape = c.self.inside.shape.value in
    let table : Table = record { lists = c.self.inside.lists.all; numbers = c.self.inside.numbers.items; marks = c.self.inside.marks } in
    let keeps = c.edits_keep_tables_sound.ensures.put in
    let limits = c.self.invariant.limits in
    let sound = c.self.invariant.sound in
    let cards = subst (λ (laid : Laid). All (λ id. id < length laid.shape.faces) ids) (sym c.self.view_is) c.requires.cards in
    let holds = subst (λ (laid : Laid). HoldsCards laid.shape loc) (sym c.self.view_is) c.requires.loc in
    let are = subst (λ (laid : Laid). All (λ id. loc_of laid.shape laid.table id ≡ from) ids) (sym c.self.view_is) c.requires.from in
    let free = c.push_free.ensures ∙ ap (λ list. filter (is_free c.args.flags.now) list) c.list.ensures ∙ free_is keeps shape table limits sound end from loc ids c.requires.some cards holds are c.requires.fresh c.args.flags.now c.requires.flags in
    let kept = c.as_slice.ensures.value ∙ free in
    let all = ap (λ (lists : Lists). lists.all) c.overwrite.ensures ∙ ap (set table.lists from) kept in
    let added = c.add_all.ensures ∙ ap (all_added end ids) (c.list-2.ensures ∙ ap (λ all. get_or all loc []) all) in
    let joined = c.as_slice-2.ensures.value ∙ added in
    let fits = joined_fits keeps shape table limits sound end from loc ids c.requires.some cards holds are c.requires.fresh in
    let same = ap length joined in
    let room = ap (λ (lists : Lists). get_or lists.room loc 0) c.overwrite.ensures ∙ ap (λ room. get_or room loc 0) c.self.invariant.fits in
    omega (arith, fits, same, room)

pub note_move-requires-clause-ids : goal.note_move-requires-clause-ids
note_move-requires-clause-ids c =
    let ids = c.args.ids.now in
    let loc = c.args.loc in
    let from = c.args.from in
    let end = end_of c.args.side in
    let shape = c.self.inside.shape.value in
    let table : Table = record { lists = c.self.inside.lists.all; numbers = c.self.inside.numbers.items; marks = c.self.inside.marks } in
    let keeps = c.edits_keep_tables_sound.ensures.put in
    let limits = c.self.invariant.limits in
    let sound = c.self.invariant.sound in
    let cards = subst (λ (laid : Laid). All (λ id. id < length laid.shape.faces) ids) (sym c.self.view_is) c.requires.cards in
    let holds = subst (λ (laid : Laid). HoldsCards laid.shape loc) (sym c.self.view_is) c.requires.loc in
    let are = subst (λ (laid : Laid). All (λ id. loc_of laid.shape laid.table id ≡ from) ids) (sym c.self.view_is) c.requires.from in
    let free = c.push_free.ensures ∙ ap (λ list. filter (is_free c.args.flags.now) list) c.list.ensures ∙ free_is keeps shape table limits sound end from loc ids c.requires.some cards holds are c.requires.fresh c.args.flags.now c.requires.flags in
    let kept = c.as_slice.ensures.value ∙ free in
    let all = ap (λ (lists : Lists). lists.all) c.overwrite.ensures ∙ ap (set table.lists from) kept in
    let added = c.add_all.ensures ∙ ap (all_added end ids) (c.list-2.ensures ∙ ap (λ all. get_or all loc []) all) in
    let joined = c.as_slice-2.ensures.value ∙ added in
    let lists = ap (λ (lists : Lists). lists.all) c.overwrite-2.ensures ∙ ap₂ (λ all list. set all loc list) all joined in
    let long = ap length (c.deref_mut.ensures.value ∙ c.self.invariant.noted) ∙ noted_all shape table in
    (can_note shape (run_put end from loc ids table) (final_sound keeps shape table limits sound end from loc ids c.requires.some cards holds are c.requires.fresh) limits c.overwrite-2.new.self.all c.deref_mut.result.now from lists long).0

pub note_move-requires-clause-few : goal.note_move-requires-clause-few
note_move-requires-clause-few c =
    let ids = c.args.ids.now in
    let loc = c.args.loc in
    let from = c.args.from in
    let end = end_of c.args.side in
    let shape = c.self.inside.shape.value in
    let table : Table = record { lists = c.self.inside.lists.all; numbers = c.self.inside.numbers.items; marks = c.self.inside.marks } in
    let keeps = c.edits_keep_tables_sound.ensures.put in
    let limits = c.self.invariant.limits in
    let sound = c.self.invariant.sound in
    let cards = subst (λ (laid : Laid). All (λ id. id < length laid.shape.faces) ids) (sym c.self.view_is) c.requires.cards in
    let holds = subst (λ (laid : Laid). HoldsCards laid.shape loc) (sym c.self.view_is) c.requires.loc in
    let are = subst (λ (laid : Laid). All (λ id. loc_of laid.shape laid.table id ≡ from) ids) (sym c.self.view_is) c.requires.from in
    let free = c.push_free.ensures ∙ ap (λ list. filter (is_free c.args.flags.now) list) c.list.ensures ∙ free_is keeps shape table limits sound end from loc ids c.requires.some cards holds are c.requires.fresh c.args.flags.now c.requires.flags in
    let kept = c.as_slice.ensures.value ∙ free in
    let all = ap (λ (lists : Lists). lists.all) c.overwrite.ensures ∙ ap (set table.lists from) kept in
    let added = c.add_all.ensures ∙ ap (all_added end ids) (c.list-2.ensures ∙ ap (λ all. get_or all loc []) all) in
    let joined = c.as_slice-2.ensures.value ∙ added in
    let lists = ap (λ (lists : Lists). lists.all) c.overwrite-2.ensures ∙ ap₂ (λ all list. set all loc list) all joined in
    let long = ap length (c.deref_mut.ensures.value ∙ c.self.invariant.noted) ∙ noted_all shape table in
    (can_note shape (run_put end from loc ids table) (final_sound keeps shape table limits sound end from loc ids c.requires.some cards holds are c.requires.fresh) limits c.overwrite-2.new.self.all c.deref_mut.result.now from lists long).1

pub note_move-requires-clause-other_ids : goal.note_move-requires-clause-other_ids
note_move-requires-clause-other_ids c =
    let ids = c.args.ids.now in
    let loc = c.args.loc in
    let from = c.args.from in
    let end = end_of c.args.side in
    let shape = c.self.inside.shape.value in
    let table : Table = record { lists = c.self.inside.lists.all; numbers = c.self.inside.numbers.items; marks = c.self.inside.marks } in
    let keeps = c.edits_keep_tables_sound.ensures.put in
    let limits = c.self.invariant.limits in
    let sound = c.self.invariant.sound in
    let cards = subst (λ (laid : Laid). All (λ id. id < length laid.shape.faces) ids) (sym c.self.view_is) c.requires.cards in
    let holds = subst (λ (laid : Laid). HoldsCards laid.shape loc) (sym c.self.view_is) c.requires.loc in
    let are = subst (λ (laid : Laid). All (λ id. loc_of laid.shape laid.table id ≡ from) ids) (sym c.self.view_is) c.requires.from in
    let free = c.push_free.ensures ∙ ap (λ list. filter (is_free c.args.flags.now) list) c.list.ensures ∙ free_is keeps shape table limits sound end from loc ids c.requires.some cards holds are c.requires.fresh c.args.flags.now c.requires.flags in
    let kept = c.as_slice.ensures.value ∙ free in
    let all = ap (λ (lists : Lists). lists.all) c.overwrite.ensures ∙ ap (set table.lists from) kept in
    let added = c.add_all.ensures ∙ ap (all_added end ids) (c.list-2.ensures ∙ ap (λ all. get_or all loc []) all) in
    let joined = c.as_slice-2.ensures.value ∙ added in
    let lists = ap (λ (lists : Lists). lists.all) c.overwrite-2.ensures ∙ ap₂ (λ all list. set all loc list) all joined in
    let long = ap length (c.deref_mut.ensures.value ∙ c.self.invariant.noted) ∙ noted_all shape table in
    (can_note shape (run_put end from loc ids table) (final_sound keeps shape table limits sound end from loc ids c.requires.some cards holds are c.requires.fresh) limits c.overwrite-2.new.self.all c.deref_mut.result.now loc lists long).0

pub invariant_of-self : goal.invariant_of-self
invariant_of-self c =
    let ids = c.args.ids.now in
    let loc = c.args.loc in
    let from = c.args.from in
    let end = end_of c.args.side in
    let shape = c.self.inside.shape.value in
    let table : Table = record { lists = c.self.inside.lists.all; numbers = c.self.inside.numbers.items; marks = c.self.inside.marks } in
    let keeps = c.edits_keep_tables_sound.ensures.put in
    let limits = c.self.invariant.limits in
    let sound = c.self.invariant.sound in
    let cards = subst (λ (laid : Laid). All (λ id. id < length laid.shape.faces) ids) (sym c.self.view_is) c.requires.cards in
    let holds = subst (λ (laid : Laid). HoldsCards laid.shape loc) (sym c.self.view_is) c.requires.loc in
    let are = subst (λ (laid : Laid). All (λ id. loc_of laid.shape laid.table id ≡ from) ids) (sym c.self.view_is) c.requires.from in
    let free = c.push_free.ensures ∙ ap (λ list. filter (is_free c.args.flags.now) list) c.list.ensures ∙ free_is keeps shape table limits sound end from loc ids c.requires.some cards holds are c.requires.fresh c.args.flags.now c.requires.flags in
    let kept = c.as_slice.ensures.value ∙ free in
    let all = ap (λ (lists : Lists). lists.all) c.overwrite.ensures ∙ ap (set table.lists from) kept in
    let added = c.add_all.ensures ∙ ap (all_added end ids) (c.list-2.ensures ∙ ap (λ all. get_or all loc []) all) in
    let joined = c.as_slice-2.ensures.value ∙ added in
    let lists = ap (λ (lists : Lists). lists.all) c.overwrite-2.ensures ∙ ap₂ (λ all list. set all loc list) all joined in
    let room = ap (λ (lists : Lists). lists.room) c.overwrite-2.ensures ∙ ap (λ (lists : Lists). lists.room) c.overwrite.ensures in
    let stand = c.self.inside.whereabouts in
    let now = c.overwrite-2.new.self.all in
    let is = c.note_move.ensures ∙ ap₂ (λ shape stand. noted_in shape now loc 0 (noted_in shape now from 0 stand)) c.deref.ensures c.deref_mut.ensures.value in
    let long = ap length is ∙ length-noted_in shape now loc 0 (noted_in shape now from 0 stand.items) ∙ length-noted_in shape now from 0 stand.items in
    let noted = refilled stand.len stand.items c.note_move.new.stand stand.ok.0 long
    ∙ run_noted keeps shape table limits sound end from loc ids c.requires.some cards holds are c.requires.fresh now stand.items c.note_move.new.stand lists c.self.invariant.noted is in
    rw (lists, c.clear_all.ensures)
    (record {
      limits = limits;
      sound = final_sound keeps shape table limits sound end from loc ids c.requires.some cards holds are c.requires.fresh;
      fits = room ∙ c.self.invariant.fits;
      noted = noted;
    })

pub returns : goal.returns
returns c =
    let ids = c.args.ids.now in
    let loc = c.args.loc in
    let from = c.args.from in
    let end = end_of c.args.side in
    let shape = c.self.inside.shape.value in
    let table : Table = record { lists = c.self.inside.lists.all; numbers = c.self.inside.numbers.items; marks = c.self.inside.marks } in
    let keeps = c.edits_keep_tables_sound.ensures.put in
    let limits = c.self.invariant.limits in
    let sound = c.self.invariant.sound in
    let cards = subst (λ (laid : Laid). All (λ id. id < length laid.shape.faces) ids) (sym c.self.view_is) c.requires.cards in
    let holds = subst (λ (laid : Laid). HoldsCards laid.shape loc) (sym c.self.view_is) c.requires.loc in
    let are = subst (λ (laid : Laid). All (λ id. loc_of laid.shape laid.table id ≡ from) ids) (sym c.self.view_is) c.requires.from in
    let free = c.push_free.ensures ∙ ap (λ list. filter (is_free c.args.flags.now) list) c.list.ensures ∙ free_is keeps shape table limits sound end from loc ids c.requires.some cards holds are c.requires.fresh c.args.flags.now c.requires.flags in
    let kept = c.as_slice.ensures.value ∙ free in
    let all = ap (λ (lists : Lists). lists.all) c.overwrite.ensures ∙ ap (set table.lists from) kept in
    let added = c.add_all.ensures ∙ ap (all_added end ids) (c.list-2.ensures ∙ ap (λ all. get_or all loc []) all) in
    let joined = c.as_slice-2.ensures.value ∙ added in
    let lists = ap (λ (lists : Lists). lists.all) c.overwrite-2.ensures ∙ ap₂ (λ all list. set all loc list) all joined in
    rw (lists, c.clear_all.ensures) (ap (relaid (record { shape = shape; table = table })) (sym (is_final keeps shape table limits sound end from loc ids c.requires.some cards holds are c.requires.fresh)) ∙ ap (λ (laid : Laid). relaid laid (put_each laid.shape end loc ids laid.table)) c.self.view_is)
