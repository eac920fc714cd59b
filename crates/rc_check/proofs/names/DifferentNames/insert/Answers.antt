use Rattle.std.proofs.Common.{◌∙◌, ap}
use Rattle.rc_check.specs.Seen.{entries_seen}
use Rattle.rc_base.specs.Words.{with_word}
use Rattle.rc_check.proofs.names.DifferentNames.insert.Goals as goal
use Rattle.rc_check.proofs.Words.{words_inserted}

pub returns-clause-after : goal.returns-clause-after
returns-clause-after c =
    ap entries_seen c.in_ok-insert.ensures.after ∙ words_inserted c.args.word _ c.self.inside.words
    ∙ ap (λ words. with_word words c.args.word.now) c.self.view_is
