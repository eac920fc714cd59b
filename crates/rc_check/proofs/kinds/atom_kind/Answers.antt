use Rattle.std.proofs.Common.{refl, sym, ◌∙◌}
use Rattle.rc_check.specs.SecondParts.{atom}
use Rattle.rc_check.specs.Seen.{standing_seen}
use Rattle.rc_check.proofs.FirstKind.{kind_unknown, kind_wrong, kind_over, kind_none}
use Rattle.rc_check.proofs.kinds.atom_kind.Goals as goal

pub returns-then-is_unknown_atom : goal.returns-then-is_unknown_atom
returns-then-is_unknown_atom c = λ above from.
    kind_unknown c.args.whole.now c.args.seen.now (atom (standing_seen c.args.at.now above) c.args.word.now from)
    (sym c.is_member_again.ensures ∙ c.if-is_member_again.false)
    (sym (c.is_unknown_atom.ensures above) ∙ c.if-is_unknown_atom.true)

pub returns-then-is_wrong_atom : goal.returns-then-is_wrong_atom
returns-then-is_wrong_atom c = λ above from.
    kind_wrong c.args.whole.now c.args.seen.now (atom (standing_seen c.args.at.now above) c.args.word.now from)
    (sym c.is_member_again.ensures ∙ c.if-is_member_again.false)
    (sym (c.is_unknown_atom.ensures above) ∙ c.if-is_unknown_atom.false)
    (sym (c.is_wrong_atom.ensures above) ∙ c.if-is_wrong_atom.true)

pub returns-then-is_value_over : goal.returns-then-is_value_over
returns-then-is_value_over c = λ above from.
    kind_over c.args.whole.now c.args.seen.now (atom (standing_seen c.args.at.now above) c.args.word.now from)
    (sym c.is_member_again.ensures ∙ c.if-is_member_again.false)
    (sym (c.is_unknown_atom.ensures above) ∙ c.if-is_unknown_atom.false)
    (sym (c.is_wrong_atom.ensures above) ∙ c.if-is_wrong_atom.false)
    (sym c.is_value_over.ensures ∙ c.if-is_value_over.true)

pub returns : goal.returns
returns c = λ above from.
    kind_none c.args.whole.now c.args.seen.now (atom (standing_seen c.args.at.now above) c.args.word.now from)
    (sym c.is_member_again.ensures ∙ c.if-is_member_again.false)
    (sym (c.is_unknown_atom.ensures above) ∙ c.if-is_unknown_atom.false)
    (sym (c.is_wrong_atom.ensures above) ∙ c.if-is_wrong_atom.false)
    (sym c.is_value_over.ensures ∙ c.if-is_value_over.false)
    refl
