use Rattle.std.proofs.Common.{sym, ap, ◌∙◌, subst, arith}
use Rattle.rc_code.specs.Seen.{list_seen}
use Rattle.rc_flat.specs.Flat.{config_of}
use Rattle.rc_flat.specs.Machine.{Machine}
use Rattle.rc_flat.specs.MarkedMoments.{IsInMatch}
use Rattle.rc_flat.specs.Marks.{IsMark}
use Rattle.rc_flat.proofs.MomentLemmas.{in_match, marked_here}
use Rattle.rc_flat.proofs.machine.FlatMachine.mark.Goals as goal

pub returns-clause-now : goal.returns-clause-now
returns-clause-now c =
    let m = c.self.inside in
    let code = list_seen m.code.value.list.items in
    let mark = c.mark.ensures in
    let fresh = ap (λ (m : Machine). m.spent) c.self.view_is ∙ c.requires.fresh in
    let here = marked_here m.about code m.state c.mark.result mark.control mark.place mark.edits in
    subst (λ (m : Machine). IsMark m c.mark.result m.config) c.self.view_is
    (record {
      notes = ap (λ (m : Machine). m.notes) c.self.view_is ∙ c.requires.notes;
      edits = omega (arith, mark.edits);
      on = subst IsInMatch (sym here) (in_match m.about code m.state (c.self.invariant.ready fresh));
      there = ap config_of here;
    })
