use Rattle.std.proofs.Common.{ap, ◌∙◌}
use Rattle.rc_undo.specs.Undo.{gone_home}
use Rattle.rc_undo.specs.PastSeen.{past_seen}
use Rattle.rc_undo.proofs.PastLemmas.{went_home}
use Rattle.rc_undo.proofs.board.Board.go_home.Goals as goal

pub invariant_of-self : goal.invariant_of-self
invariant_of-self c =
    (went_home (past_seen c.self.inside.past) c.self.inside.table c.go_home.new.table c.go_home.ensures c.self.invariant).0

pub returns : goal.returns
returns c =
    (went_home (past_seen c.self.inside.past) c.self.inside.table c.go_home.new.table c.go_home.ensures c.self.invariant).1
    ∙ ap gone_home c.self.view_is
