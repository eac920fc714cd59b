use Rattle.rc_form.specs.Form.{tree_of}
use Rattle.rc_check.proofs.Answered.{answered_least}
use Rattle.rc_check.proofs.check.check_semantics.Goals as goal

pub returns-clause-least : goal.returns-clause-least
returns-clause-least c = answered_least (tree_of c.args.form.now) c.check_parts.result c.check_parts.ensures.found
