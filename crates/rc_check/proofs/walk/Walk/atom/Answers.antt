use Rattle.std.proofs.Common.{Ok, sym, ap, ◌∙◌}
use Rattle.rc_check.specs.SecondParts.{atom}
use Rattle.rc_check.specs.Seen.{standing_seen}
use Rattle.rc_check.specs.Summary.{see_atom, kind_by}
use Rattle.rc_check.proofs.Checked.{faulty, fine, took}
use Rattle.rc_check.proofs.walk.Walk.atom.Goals as goal

pub returns-in-Some-clause-walked : goal.returns-in-Some-clause-walked
returns-in-Some-clause-walked c =
    let seen = c.args.self.now.seen in
    let at = standing_seen c.args.at.now c.args.self.now.above in
    faulty c.args.whole.now seen (atom at c.args.word.now c.args.from) c.in-Some.kind _ c.new.result
    (ap (λ bytes. kind_by c.args.whole.now seen (atom at bytes c.args.from)) (sym c.bytes.ensures.bytes)
    ∙ sym (c.atom_kind.ensures c.args.self.now.above c.args.from)
    ∙ c.in-Some.is)
    c.new.ensures

pub returns-clause-walked : goal.returns-clause-walked
returns-clause-walked c =
    let seen = c.args.self.now.seen in
    let at = standing_seen c.args.at.now c.args.self.now.above in
    took _ (see_atom seen at c.bytes-2.result.now) c.see_atom.new.self c.see_atom.result
    (fine c.args.whole.now seen (atom at c.args.word.now c.args.from) _
    (ap (λ bytes. kind_by c.args.whole.now seen (atom at bytes c.args.from)) (sym c.bytes.ensures.bytes)
    ∙ sym (c.atom_kind.ensures c.args.self.now.above c.args.from)
    ∙ c.in_default.is)
    ∙ ap (λ bytes. Ok (see_atom seen at bytes)) (sym c.bytes-2.ensures.bytes))
    c.see_atom.ensures.after c.see_atom.ensures.memory
