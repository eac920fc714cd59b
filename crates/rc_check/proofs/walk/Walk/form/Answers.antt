use Rattle.std.proofs.Common.{sym, ◌∙◌}
use Rattle.rc_form.specs.Form.{trees_of, packed}
use Rattle.rc_check.specs.Seen.{standing_seen}
use Rattle.rc_check.proofs.SettledParts.{settled_checked, settled_shallow}
use Rattle.rc_check.proofs.walk.Walk.form.Goals as goal

pub returns-then-settles-clause-walked : goal.returns-then-settles-clause-walked
returns-then-settles-clause-walked c =
    settled_checked c.args.whole.now c.args.self.now.seen (standing_seen c.args.at.now c.args.self.now.above) c.args.rule
    (packed (trees_of c.args.parts.now)) c.args.from (sym c.settles.ensures ∙ c.if-settles.true)

pub returns-then-settles-clause-shallow : goal.returns-then-settles-clause-shallow
returns-then-settles-clause-shallow c =
    settled_shallow c.args.self.now.seen (standing_seen c.args.at.now c.args.self.now.above) c.args.rule
    (packed (trees_of c.args.parts.now)) (sym c.settles.ensures ∙ c.if-settles.true)
