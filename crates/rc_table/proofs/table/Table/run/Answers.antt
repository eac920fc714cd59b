use Rattle.std.proofs.Common.{◌≡◌, ◌<◌, length, take, sym, ap, ◌∙◌, subst, arith}
use Rattle.std.specs.Prelude.{All}
use Rattle.std.proofs.lemmas.List.Elements.{All-take}
use Rattle.rc_play_spec.specs.Table.{Table, loc_of}
use Rattle.rc_table.specs.Laid.{Laid}
use Rattle.rc_table.proofs.RunSteps.{all_at}
use Rattle.rc_table.proofs.WhereaboutLemmas.{noted_all}
use Rattle.rc_table.proofs.table.Table.run.Goals as goal

pub run_of-requires-clause-cards : goal.run_of-requires-clause-cards
run_of-requires-clause-cards c =
    let ids = c.args.ids.now in
    let shape = c.self.inside.shape.value in
    let table : Table = record { lists = c.self.inside.lists.all; numbers = c.self.inside.numbers.items; marks = c.self.inside.marks } in
    let cards = subst (λ (laid : Laid). All (λ id. id < length laid.shape.faces) ids) (sym c.self.view_is) c.requires.cards in
    let long = ap length (c.deref.ensures.value ∙ c.self.invariant.noted) ∙ noted_all shape table in
    subst (λ n. All (λ id. id < n) ids) (sym long) cards

pub run_of-requires-clause-flags : goal.run_of-requires-clause-flags
run_of-requires-clause-flags c =
    let shape = c.self.inside.shape.value in
    let table : Table = record { lists = c.self.inside.lists.all; numbers = c.self.inside.numbers.items; marks = c.self.inside.marks } in
    let long = ap length (c.deref.ensures.value ∙ c.self.invariant.noted) ∙ noted_all shape table in
    let few = c.self.invariant.limits.cards in
    omega (arith, long, few)

pub returns-clause-one : goal.returns-clause-one
returns-clause-one c =
    let ids = take c.run_of.result c.args.ids.now in
    let from = c.args.from in
    let shape = c.self.inside.shape.value in
    let table : Table = record { lists = c.self.inside.lists.all; numbers = c.self.inside.numbers.items; marks = c.self.inside.marks } in
    let cards = subst (λ (laid : Laid). All (λ id. id < length laid.shape.faces) c.args.ids.now) (sym c.self.view_is) c.requires.cards in
    subst (λ (laid : Laid). All (λ id. loc_of laid.shape laid.table id ≡ from) ids) c.self.view_is
    (all_at shape table c.deref.result.now from ids (c.deref.ensures.value ∙ c.self.invariant.noted)
    (All-take (λ id. id < length shape.faces) c.run_of.result c.args.ids.now cards) c.run_of.ensures.one)
