use Rattle.rc_undo.specs.Entry.{entry_seen}
use Rattle.rc_undo.specs.PastSeen.{past_seen}
use Rattle.rc_undo.proofs.PastLemmas.{took_last}
use Rattle.rc_undo.proofs.board.Board.undo.Goals as goal

pub take_back-requires-clause-edit : goal.take_back-requires-clause-edit
take_back-requires-clause-edit c =
    (took_last (entry_seen c.in-Some.entry) c.self.inside.table (past_seen c.self.inside.past) (past_seen c.take_last.new.self) c.in-Some.ensures c.self.invariant).edit

pub take_back-requires-clause-through : goal.take_back-requires-clause-through
take_back-requires-clause-through c =
    (took_last (entry_seen c.in-Some.entry) c.self.inside.table (past_seen c.self.inside.past) (past_seen c.take_last.new.self) c.in-Some.ensures c.self.invariant).through
