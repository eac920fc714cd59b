use Rattle.std.proofs.Common.{◌≡◌, drop}
use Rattle.rc_check.specs.Seen.{words_seen}
use Rattle.rc_check.specs.SecondNames.{is_named}
use Rattle.rc_check.proofs.names.contains_word.Given as goal

-- the word stands among those that are left exactly where it stands among all
abbrev pub invariant-loop-other : goal.invariant-loop-other
invariant-loop-other l =
    is_named l.word (words_seen (drop l.other-index l.words)) ≡ is_named l.word (words_seen l.words)
