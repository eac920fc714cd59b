use Rattle.std.proofs.Common.{◌≡◌, ◌++◌, map, drop}
use Rattle.rc_rules.specs.Record.{record_seen}
use Rattle.rc_text.proofs.copies.copy_matches.Given as goal

-- with what is left it is the whole
abbrev pub invariant-loop-played : goal.invariant-loop-played
invariant-loop-played l = map record_seen l.copies.items ++ map record_seen (drop l.played-index l.matches) ≡ map record_seen l.matches
