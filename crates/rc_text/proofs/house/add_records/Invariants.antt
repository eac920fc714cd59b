use Rattle.std.proofs.Common.{◌≡◌, ◌++◌, drop}
use Rattle.rc_text.specs.House.{records_told}
use Rattle.rc_text.proofs.house.add_records.Given as goal

-- with what is left it is the whole
abbrev pub invariant-loop-index : goal.invariant-loop-index
invariant-loop-index l =
    l.out.items ++ records_told (drop l.index l.bounds) (drop l.index l.matches) ≡ l.initial.out.items ++ records_told l.bounds l.matches
