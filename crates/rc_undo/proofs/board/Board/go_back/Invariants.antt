use Rattle.std.proofs.Common.{◌≡◌, true, List, ◌≤◌, length}
use Rattle.rc_play_spec.specs.Table.{Table}
use Rattle.rc_undo.specs.Undo.{GoesBack}
use Rattle.rc_undo.proofs.board.Board.go_back.Given as goal

-- the tables that are left were there
abbrev pub invariant-loop-self : goal.invariant-loop-self
invariant-loop-self l = record {
  notes : l.self.notes ≡ true;
  fits : l.edits ≤ length l.self.before;
  back : (gone : List Table) × GoesBack l.initial.self l.self gone;
}

abbrev pub decreases-loop-self : goal.decreases-loop-self
decreases-loop-self l = length l.self.before
