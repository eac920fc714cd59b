use Rattle.std.proofs.Common.{IsSome, refl, sym, ap, ◌∙◌, subst}
use Rattle.rc_code.specs.Seen.{list_seen}
use Rattle.rc_undo.specs.Undo.{Kept}
use Rattle.rc_flat.specs.declared.state.State.{State}
use Rattle.rc_flat.specs.Machine.{Machine}
use Rattle.rc_flat.specs.Moments.{IsMoment}
use Rattle.rc_flat.proofs.GoingLemmas.{config_then, ready_then}
use Rattle.rc_flat.proofs.machine.FlatMachine.go_to.Goals as goal

pub go_to-requires-clause-shape : goal.go_to-requires-clause-shape
go_to-requires-clause-shape c =
    c.self.invariant.laid ∙ ap (λ (m : Machine). m.about.shape) c.self.view_is ∙ sym c.requires.moment.1.shape

pub go_to-requires-clause-home : goal.go_to-requires-clause-home
go_to-requires-clause-home c = subst (λ (m : Machine). IsSome m.home) (sym c.self.view_is) c.requires.home

pub invariant_of-self : goal.invariant_of-self
invariant_of-self c =
    let m = c.self.inside in
    let code = list_seen m.code.value.list.items in
    let moment = c.args.moment.now in
    let is = subst (λ (m : Machine). IsMoment m.about m.code c.requires.moment.0 moment) (sym c.self.view_is) c.requires.moment.1 in
    let moved = c.go_to.new.self in
    let new : State = record { board = moved.board; control = moved.control; place = moved.place; menu = c.write_menu.new.to; current = moment.current } in
    let ready = ready_then m.about code c.requires.moment.0 moment is new (c.go_to.ensures.there m.about code) (ap (λ (k : Kept). k.laid) c.go_to.ensures.board) c.write_menu.ensures refl in
    record { implements = c.self.invariant.implements; laid = ready.laid; ready = λ fresh. ready }

pub returns-clause-at : goal.returns-clause-at
returns-clause-at c = λ config own.
    let m = c.self.inside in
    let code = list_seen m.code.value.list.items in
    let moment = c.args.moment.now in
    let is = subst (λ (m : Machine). IsMoment m.about m.code config moment) (sym c.self.view_is) own in
    let moved = c.go_to.new.self in
    let new : State = record { board = moved.board; control = moved.control; place = moved.place; menu = c.write_menu.new.to; current = moment.current } in
    config_then m.about code config moment is new (c.go_to.ensures.there m.about code)

pub returns-clause-stays : goal.returns-clause-stays
returns-clause-stays c =
    record {
      about = ap (λ (m : Machine). m.about) c.self.view_is;
      code = ap (λ (m : Machine). m.code) c.self.view_is;
      home = ap (λ (k : Kept). k.home) c.go_to.ensures.board ∙ ap (λ (m : Machine). m.home) c.self.view_is;
    }
