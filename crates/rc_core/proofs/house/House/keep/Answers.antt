use Rattle.std.proofs.Common.{◌≡◌, refl, rules}
use Rattle.rc_core.specs.Events.{keeps}
use Rattle.rc_core.proofs.HouseSteps.{checked_of, wants_there, own_waits, keep_kept, keep_leaves, nothing_left, keep_keeps, named_open}
use Rattle.rc_core.proofs.house.House.keep.Goals as goal

pub hand_over-requires : goal.hand_over-requires
hand_over-requires c =
    let i = c.self.inside in
    record { wants = (i.about.value, wants_there i c.self.invariant c.args.m c.index_mut.result.now (search rules) c.index_mut.ensures.value) }

pub invariant_of-self : goal.invariant_of-self
invariant_of-self c =
    let i = c.self.inside in
    let kept = c.self.invariant in
    let state = c.index_mut.result.now in
    let phase = c.hand_over.new.phase in
    let checked = checked_of c.deref.result.now i.about.value c.deref.ensures c.sheet-sheet.ensures.shape c.sheet-sheet.ensures.well c.sheet-sheet.ensures.sight in
    record {
      sound = keep_kept i kept c.args.m state (search rules) c.index_mut.ensures.value c.hand_over.result checked phase c.hand_over.new.entries.items
          c.hand_over.ensures.lacking c.hand_over.ensures.after;
      own = own_waits i kept c.args.m state (search rules) c.index_mut.ensures.value c.hand_over.result
          (c.hand_over.new.entries.items ≡ i.entries.items) phase c.hand_over.ensures.open c.hand_over.ensures.lacking;
      seats = kept.seats;
      some = kept.some;
      stands = kept.stands;
    }

pub returns-clause-after : goal.returns-clause-after
returns-clause-after c =
    keep_leaves c.self.inside c.self.invariant c.args.m c.index_mut.result.now (search rules) c.index_mut.ensures.value c.hand_over.result c.self.view_is
    c.hand_over.new.phase c.hand_over.new.entries.items c.hand_over.ensures.after

pub returns-clause-open : goal.returns-clause-open
returns-clause-open c =
    named_open c.self.inside c.self.invariant c.args.m c.index_mut.result.now (search rules) c.index_mut.ensures.value c.hand_over.result c.self.view_is
    (keeps c.args.m) refl c.hand_over.ensures.open

pub returns-clause-lacking : goal.returns-clause-lacking
returns-clause-lacking c =
    nothing_left c.self.inside c.self.invariant c.args.m c.index_mut.result.now (search rules) c.index_mut.ensures.value c.hand_over.result c.self.view_is
    c.hand_over.new.phase c.hand_over.new.entries.items c.hand_over.ensures.lacking

pub returns-clause-spent : goal.returns-clause-spent
returns-clause-spent c =
    keep_keeps c.self.inside c.self.invariant c.args.m c.index_mut.result.now (search rules) c.index_mut.ensures.value c.hand_over.result c.self.view_is
    c.hand_over.new.phase c.hand_over.new.entries.items c.hand_over.ensures.lacking c.hand_over.ensures.after
