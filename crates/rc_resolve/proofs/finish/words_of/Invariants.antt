use Rattle.std.proofs.Common.{◌≡◌, take}
use Rattle.std.specs.Map.{keys_of}
use Rattle.rc_resolve.proofs.finish.words_of.Given as goal

-- the words of the entries so far are listed
abbrev pub invariant-loop-entry : goal.invariant-loop-entry
invariant-loop-entry g l = l.words.items ≡ keys_of (take l.entry-index l.entries)
