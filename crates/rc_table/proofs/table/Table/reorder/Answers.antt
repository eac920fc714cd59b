use Rattle.std.proofs.Common.{◌<◌, length, take, ap, ◌∙◌, sym, subst}
use Rattle.std.specs.List.Sorted.{IsPermutation}
use Rattle.rc_base.specs.Numbers.{below}
use Rattle.rc_play_spec.specs.Table.{Table, IsSound, taken, cleared, list_at, reorder}
use Rattle.rc_table.specs.Laid.{Laid, relaid}
use Rattle.rc_table.specs.Restored.{relisted}
use Rattle.rc_table.proofs.Orders.{relisted_is}
use Rattle.rc_table.proofs.table.Table.reorder.Goals as goal

pub invariant_of-self : goal.invariant_of-self
invariant_of-self c =
    let table : Table = record { lists = c.self.inside.lists.all; numbers = c.self.inside.numbers.items; marks = c.self.inside.marks } in
    rw c.clear_all.ensures
    (record {
      limits = c.self.invariant.limits;
      sound = c.edits_keep_tables_sound.ensures.cleared c.self.inside.shape.value table c.list-2.result.now c.self.invariant.sound;
      fits = c.self.invariant.fits;
      noted = c.self.invariant.noted;
    })

pub relist-requires-clause-sound : goal.relist-requires-clause-sound
relist-requires-clause-sound c =
    let loc = c.args.loc in
    let order = c.args.order.now in
    let shape = c.self.inside.shape.value in
    let table : Table = record { lists = c.self.inside.lists.all; numbers = c.self.inside.numbers.items; marks = c.self.inside.marks } in
    let within = subst (λ (laid : Laid). loc < length laid.shape.places) (sym c.self.view_is) c.requires.loc in
    let permutes = subst (λ (laid : Laid). IsPermutation (below (length (list_at laid.table loc))) order) (sym c.self.view_is) c.requires.order in
    let list = c.put_in_order-count.ensures.cards ∙ ap (taken order) (c.list.ensures.list ∙ ap (λ (laid : Laid). list_at laid.table loc) (sym c.self.view_is)) in
    let marks = c.clear_all.ensures ∙ ap (λ ids. cleared ids c.self.inside.marks) c.list-2.ensures in
    let sound = c.edits_keep_tables_sound.ensures.reordered shape table loc order c.self.invariant.sound within permutes in
    rw marks (subst (IsSound shape) (sym (relisted_is table loc order _ permutes list)) sound)

pub returns : goal.returns
returns c =
    let loc = c.args.loc in
    let order = c.args.order.now in
    let shape = c.self.inside.shape.value in
    let table : Table = record { lists = c.self.inside.lists.all; numbers = c.self.inside.numbers.items; marks = c.self.inside.marks } in
    let laid : Laid = record { shape = shape; table = table } in
    let permutes = subst (λ (laid : Laid). IsPermutation (below (length (list_at laid.table loc))) order) (sym c.self.view_is) c.requires.order in
    let list = c.put_in_order-count.ensures.cards ∙ ap (taken order) (c.list.ensures.list ∙ ap (λ (laid : Laid). list_at laid.table loc) (sym c.self.view_is)) in
    let marks = c.clear_all.ensures ∙ ap (λ ids. cleared ids c.self.inside.marks) c.list-2.ensures in
    c.relist.ensures
    ∙ ap (λ marks. relaid laid (relisted loc (take c.put_in_order-count.result c.put_in_order-count.new.room)
    (record { lists = c.self.inside.lists.all; numbers = c.self.inside.numbers.items; marks = marks }))) marks
    ∙ ap (relaid laid) (relisted_is table loc order _ permutes list)
    ∙ ap (λ (laid : Laid). relaid laid (reorder loc order laid.table)) c.self.view_is
