use Rattle.std.proofs.Common.{◌≡◌, IfSome, rules, ap, ◌∙◌, subst}
use Rattle.std.specs.Prelude.{Box}
use Rattle.std.specs.Global.{Global}
use Rattle.std.proofs.lemmas.List.Elements.{All-pop}
use Rattle.rc_flat.specs.declared.moments.Moment.{Moment}
use Rattle.rc_search.proofs.rooms.Rooms.take.Goals as goal

pub keep-requires-clause-shape : goal.keep-requires-clause-shape
keep-requires-clause-shape c =
    let P : Box Moment Global → Type 0 = λ room. room.value.table.shape ≡ c.args.machine.now.about.shape in
    let both = All-pop P c.args.self.now.free.items c.pop.new.self.items c.pop.result c.pop.ensures.items c.requires.shape in
    let same : c.deref_mut.result.now ≡ c.in-Some.room.value = search rules in
    ap (λ (moment : Moment). moment.table.shape) same ∙ subst (λ o. IfSome o P) c.in-Some.is both.1

pub returns-clause-shape : goal.returns-clause-shape
returns-clause-shape c =
    let P : Box Moment Global → Type 0 = λ room. room.value.table.shape ≡ c.args.machine.now.about.shape in
    (All-pop P c.args.self.now.free.items c.pop.new.self.items c.pop.result c.pop.ensures.items c.requires.shape).0
