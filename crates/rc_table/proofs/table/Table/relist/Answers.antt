use Rattle.std.proofs.Common.{length, ap, ap₂, ◌∙◌, sym, subst, arith}
use Rattle.rc_play_spec.specs.Table.{Table, IsSound, with_list}
use Rattle.rc_table.specs.Laid.{Laid}
use Rattle.rc_table.specs.Restored.{relisted}
use Rattle.rc_table.specs.Whereabouts.{noted_in}
use Rattle.rc_table.proofs.WhereaboutLemmas.{noted_all, length-noted_in}
use Rattle.rc_table.proofs.WhereaboutEdits.{refilled, can_note, listed_noted, relisted_sound}
use Rattle.rc_table.proofs.table.Table.relist.Goals as goal

pub note_cards-requires-clause-ids : goal.note_cards-requires-clause-ids
note_cards-requires-clause-ids c =
    let shape = c.self.inside.shape.value in
    let table : Table = record { lists = c.self.inside.lists.all; numbers = c.self.inside.numbers.items; marks = c.self.inside.marks } in
    let loc = c.args.loc in
    let list = c.args.list.now in
    let here = ap length c.list.ensures in
    let sound = relisted_sound shape table loc list (omega (arith, here, c.if-list.true))
    (subst (λ (laid : Laid). IsSound laid.shape (relisted loc list laid.table)) (sym c.self.view_is) c.requires.sound) in
    let lists = ap (λ lists. lists.all) c.rewrite.ensures in
    let long = ap length (c.deref_mut.ensures.value ∙ c.self.invariant.noted) ∙ noted_all shape table in
    (can_note shape (with_list table loc list) sound c.self.invariant.limits c.rewrite.new.self.all c.deref_mut.result.now loc lists long).0

pub note_cards-requires-clause-few : goal.note_cards-requires-clause-few
note_cards-requires-clause-few c =
    let shape = c.self.inside.shape.value in
    let table : Table = record { lists = c.self.inside.lists.all; numbers = c.self.inside.numbers.items; marks = c.self.inside.marks } in
    let loc = c.args.loc in
    let list = c.args.list.now in
    let here = ap length c.list.ensures in
    let sound = relisted_sound shape table loc list (omega (arith, here, c.if-list.true))
    (subst (λ (laid : Laid). IsSound laid.shape (relisted loc list laid.table)) (sym c.self.view_is) c.requires.sound) in
    let lists = ap (λ lists. lists.all) c.rewrite.ensures in
    let long = ap length (c.deref_mut.ensures.value ∙ c.self.invariant.noted) ∙ noted_all shape table in
    (can_note shape (with_list table loc list) sound c.self.invariant.limits c.rewrite.new.self.all c.deref_mut.result.now loc lists long).1

pub invariant_of-self : goal.invariant_of-self
invariant_of-self c =
    let shape = c.self.inside.shape.value in
    let table : Table = record { lists = c.self.inside.lists.all; numbers = c.self.inside.numbers.items; marks = c.self.inside.marks } in
    let loc = c.args.loc in
    let list = c.args.list.now in
    let here = ap length c.list.ensures in
    let sound = relisted_sound shape table loc list (omega (arith, here, c.if-list.true))
    (subst (λ (laid : Laid). IsSound laid.shape (relisted loc list laid.table)) (sym c.self.view_is) c.requires.sound) in
    let lists = ap (λ lists. lists.all) c.rewrite.ensures in
    let stand = c.self.inside.whereabouts in
    let all = c.rewrite.new.self.all in
    let room = ap (λ lists. lists.room) c.rewrite.ensures in
    let is = c.note_cards.ensures ∙ ap₂ (λ shape stand. noted_in shape all loc 0 stand) c.deref.ensures c.deref_mut.ensures.value in
    let long = ap length is ∙ length-noted_in shape all loc 0 stand.items in
    let noted = refilled stand.len stand.items c.note_cards.new.stand stand.ok.0 long
    ∙ listed_noted shape table c.self.invariant.sound loc list all stand.items c.note_cards.new.stand sound lists c.self.invariant.noted is in
    rw lists
    (record {
      limits = c.self.invariant.limits;
      sound = sound;
      fits = room ∙ c.self.invariant.fits;
      noted = noted;
    })
