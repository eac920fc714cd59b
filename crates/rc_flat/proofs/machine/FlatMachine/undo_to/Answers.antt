use Rattle.std.proofs.Common.{◌≡◌, rules, sym, ap, ◌∙◌, subst}
use Rattle.rc_code.specs.Seen.{list_seen}
use Rattle.rc_flat.specs.Flat.{config_of}
use Rattle.rc_flat.specs.State.{flat_of, config_at}
use Rattle.rc_flat.specs.MarkedMoments.{IsInMatch}
use Rattle.rc_flat.specs.Machine.{Machine}
use Rattle.rc_flat.specs.Marks.{IsMark}
use Rattle.rc_flat.proofs.MomentLemmas.{config_same}
use Rattle.rc_flat.proofs.machine.FlatMachine.undo_to.Goals as goal

pub refill-requires-clause-on : goal.refill-requires-clause-on
refill-requires-clause-on c =
    let m = c.self.inside in
    let code = list_seen m.code.value.list.items in
    let same : c.deref-2.result.now ≡ m.code.value.list.items = search rules in
    let mark = subst (λ (m : Machine). IsMark m c.args.mark c.requires.0) (sym c.self.view_is) c.requires.1 in
    subst (λ list. IsInMatch (flat_of m.about (list_seen list) c.go_back.new.self)) (sym same)
    (subst IsInMatch (c.go_back.ensures.there m.about code) mark.on)

pub returns-clause-there : goal.returns-clause-there
returns-clause-there c =
    let m = c.self.inside in
    let code = list_seen m.code.value.list.items in
    let mark = subst (λ (m : Machine). IsMark m c.args.mark c.requires.0) (sym c.self.view_is) c.requires.1 in
    let filled = c.refill.ensures in
    subst (λ (m : Machine). IsMark m c.args.mark (config_at c.self.inside.about code c.refill.new.state)) c.self.view_is
    (record {
      notes = mark.notes;
      edits = mark.edits;
      on = mark.on;
      there = ap config_of (c.go_back.ensures.there m.about code)
          ∙ sym (config_same m.about code c.go_back.new.self c.refill.new.state filled.board filled.control filled.place);
    })
