use Rattle.std.proofs.Common.{◌≡◌, refl, rules}
use Rattle.rc_core.specs.Events.{looks}
use Rattle.rc_core.proofs.HouseSteps.{checked_of, wants_there, own_waits, look_kept, look_leaves, nothing_left, look_keeps, named_open}
use Rattle.rc_core.proofs.house.House.look.Goals as goal

pub look_up-requires : goal.look_up-requires
look_up-requires c =
    let i = c.self.inside in
    record { wants = (i.about.value, wants_there i c.self.invariant c.args.m c.index_mut.result.now (search rules) c.index_mut.ensures.value, c.self.invariant.sound.own) }

pub invariant_of-self : goal.invariant_of-self
invariant_of-self c =
    let i = c.self.inside in
    let kept = c.self.invariant in
    let state = c.index_mut.result.now in
    let phase = c.look_up.new.phase in
    let checked = checked_of c.deref.result.now i.about.value c.deref.ensures c.sheet-sheet.ensures.shape c.sheet-sheet.ensures.well c.sheet-sheet.ensures.sight in
    record {
      sound = look_kept i kept c.args.m state (search rules) c.index_mut.ensures.value c.look_up.result checked phase c.look_up.new.entries.items
          c.look_up.ensures.lacking c.look_up.ensures.after;
      own = own_waits i kept c.args.m state (search rules) c.index_mut.ensures.value c.look_up.result
          (c.look_up.new.entries.items ≡ i.entries.items) phase c.look_up.ensures.open c.look_up.ensures.lacking;
      seats = kept.seats;
      some = kept.some;
      stands = kept.stands;
    }

pub returns-clause-after : goal.returns-clause-after
returns-clause-after c =
    look_leaves c.self.inside c.self.invariant c.args.m c.index_mut.result.now (search rules) c.index_mut.ensures.value c.look_up.result c.self.view_is
    c.look_up.new.phase c.look_up.new.entries.items c.look_up.ensures.after

pub returns-clause-open : goal.returns-clause-open
returns-clause-open c =
    named_open c.self.inside c.self.invariant c.args.m c.index_mut.result.now (search rules) c.index_mut.ensures.value c.look_up.result c.self.view_is
    (looks c.args.m) refl c.look_up.ensures.open

pub returns-clause-lacking : goal.returns-clause-lacking
returns-clause-lacking c =
    nothing_left c.self.inside c.self.invariant c.args.m c.index_mut.result.now (search rules) c.index_mut.ensures.value c.look_up.result c.self.view_is
    c.look_up.new.phase c.look_up.new.entries.items c.look_up.ensures.lacking

pub returns-clause-spent : goal.returns-clause-spent
returns-clause-spent c =
    look_keeps c.self.inside c.self.invariant c.args.m c.index_mut.result.now (search rules) c.index_mut.ensures.value c.look_up.result c.self.view_is
    c.look_up.new.phase c.look_up.new.entries.items c.look_up.ensures.lacking c.look_up.ensures.after
