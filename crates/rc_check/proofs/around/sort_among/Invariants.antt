use Rattle.std.proofs.Common.{◌≡◌, map, drop}
use Rattle.rc_check.specs.Seen.{variable_seen}
use Rattle.rc_check.specs.SecondFaults.{variable_in}
use Rattle.rc_check.proofs.around.sort_among.Given as goal

-- the first variable of the word among those that are left is the first of all
abbrev pub invariant-loop-variable : goal.invariant-loop-variable
invariant-loop-variable l =
    variable_in (map variable_seen (drop l.variable-index l.scope)) l.word ≡ variable_in (map variable_seen l.scope) l.word
