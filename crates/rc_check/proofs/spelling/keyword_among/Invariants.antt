use Rattle.std.proofs.Common.{◌≡◌, drop}
use Rattle.rc_check.specs.Spelling.{keyword_among}
use Rattle.rc_check.proofs.spelling.keyword_among.Given as goal

-- the keyword among those that are left is the one among all
abbrev pub invariant-loop-keyword : goal.invariant-loop-keyword
invariant-loop-keyword l = keyword_among (drop l.keyword-index l.keywords) l.word ≡ keyword_among l.keywords l.word
