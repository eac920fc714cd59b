-- A board as a table with those before it.
use Rattle.rc_undo.specs.Undo.{Kept}
use Rattle.rc_undo.specs.Past.{IsPast, kept_of}
use Rattle.rc_undo.specs.PastSeen.{past_seen}
use Rattle.rc_undo.specs.declared.board.Board.TheInside.{Inside}

abbrev pub board_seen : Inside → Kept
board_seen b = kept_of (past_seen b.past) b.table

abbrev pub IsBoard : Inside → Type 0
IsBoard b = IsPast b.table (past_seen b.past)
