use Rattle.std.proofs.Common.{◌∙◌, ap}
use Rattle.rc_check.specs.SecondNames.{is_named}
use Rattle.rc_check.proofs.names.DifferentNames.contains.Goals as goal
use Rattle.rc_check.proofs.Words.{named_entries}

pub returns : goal.returns
returns c = c.contains.ensures ∙ named_entries c.args.word c.self.inside.words ∙ ap (is_named c.args.word.now) c.self.view_is
