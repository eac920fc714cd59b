use Rattle.std.proofs.Common.{take}
use Rattle.rc_sheet.specs.Reader.{Numbers}
use Rattle.rc_sheet.proofs.variables.numbers_of.Given as goal

-- so many words are numbered
abbrev pub invariant-loop-place : goal.invariant-loop-place
invariant-loop-place l = Numbers (take l.place l.words) l.numbers
