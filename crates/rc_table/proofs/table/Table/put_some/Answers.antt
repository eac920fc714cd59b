use Rattle.std.proofs.Common.{◌≡◌, ◌<◌, length, take, sym, ap, ◌∙◌, subst, arith}
use Rattle.std.specs.Prelude.{All}
use Rattle.std.proofs.lemmas.List.Elements.{All-take}
use Rattle.rc_play_spec.specs.Table.{Table, loc_of}
use Rattle.rc_table.specs.Laid.{Laid}
use Rattle.rc_table.proofs.RunSteps.{all_at}
use Rattle.rc_table.proofs.WhereaboutLemmas.{noted_all}
use Rattle.rc_table.proofs.table.Table.put_some.Goals as goal

pub run_of-count-requires-clause-cards : goal.run_of-count-requires-clause-cards
run_of-count-requires-clause-cards c =
    let ids = c.args.ids.now in
    let shape = c.self.inside.shape.value in
    let table : Table = record { lists = c.self.inside.lists.all; numbers = c.self.inside.numbers.items; marks = c.self.inside.marks } in
    let cards = subst (λ (laid : Laid). All (λ id. id < length laid.shape.faces) ids) (sym c.self.view_is) c.requires.cards in
    let long = ap length (c.deref.ensures.value ∙ c.self.invariant.noted) ∙ noted_all shape table in
    subst (λ n. All (λ id. id < n) ids) (sym long) cards

pub run_of-count-requires-clause-flags : goal.run_of-count-requires-clause-flags
run_of-count-requires-clause-flags c =
    let shape = c.self.inside.shape.value in
    let table : Table = record { lists = c.self.inside.lists.all; numbers = c.self.inside.numbers.items; marks = c.self.inside.marks } in
    let long = ap length (c.deref.ensures.value ∙ c.self.invariant.noted) ∙ noted_all shape table in
    let few = c.self.invariant.limits.cards in
    omega (arith, long, few)

pub put_run-requires-clause-from : goal.put_run-requires-clause-from
put_run-requires-clause-from c =
    let ids = take c.run_of-count.result c.args.ids.now in
    let from = c.place_of-from.result.0 in
    let shape = c.self.inside.shape.value in
    let table : Table = record { lists = c.self.inside.lists.all; numbers = c.self.inside.numbers.items; marks = c.self.inside.marks } in
    let cards = subst (λ (laid : Laid). All (λ id. id < length laid.shape.faces) c.args.ids.now) (sym c.self.view_is) c.requires.cards in
    subst (λ (laid : Laid). All (λ id. loc_of laid.shape laid.table id ≡ from) ids) c.self.view_is
    (all_at shape table c.deref.result.now from ids (c.deref.ensures.value ∙ c.self.invariant.noted)
    (All-take (λ id. id < length shape.faces) c.run_of-count.result c.args.ids.now cards) c.run_of-count.ensures.one)
