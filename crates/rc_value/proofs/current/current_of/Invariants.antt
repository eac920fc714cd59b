use Rattle.std.proofs.Common.{take}
use Rattle.rc_ast.specs.Sheet.{sheet_seen}
use Rattle.rc_rules.specs.Control.{frames_seen}
use Rattle.rc_value.specs.Current.{IsCurrent}
use Rattle.rc_value.proofs.current.current_of.Given as goal

abbrev pub invariant-loop-place : goal.invariant-loop-place
invariant-loop-place l = IsCurrent (sheet_seen l.sheet) (frames_seen (take l.place l.frames)) l.current
