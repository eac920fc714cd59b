use Rattle.std.proofs.Common.{subst}
use Rattle.rc_form.specs.Form.{tree_of}
use Rattle.rc_check.specs.Checks.{Checks}
use Rattle.rc_check.proofs.Answered.{from_start, answered_fine, answered_found}
use Rattle.rc_check.proofs.check.check_parts.Goals as goal

pub returns-clause-fine : goal.returns-clause-fine
returns-clause-fine c =
    answered_fine (tree_of c.args.form.now) c.part.new.self.seen c.part.result
    (subst (λ checked. Checks checked c.part.result c.part.new.self.seen)
    (from_start (tree_of c.args.form.now) _ _ _ _
    c.requires.known c.new.ensures.seen c.outside-around.ensures c.new.ensures.above)
    c.part.ensures.walked)

pub returns-clause-found : goal.returns-clause-found
returns-clause-found c =
    answered_found (tree_of c.args.form.now) c.part.new.self.seen c.part.result
    (subst (λ checked. Checks checked c.part.result c.part.new.self.seen)
    (from_start (tree_of c.args.form.now) _ _ _ _
    c.requires.known c.new.ensures.seen c.outside-around.ensures c.new.ensures.above)
    c.part.ensures.walked)
