use Rattle.std.proofs.Common.{◌≡◌, map, drop}
use Rattle.rc_check.specs.Seen.{mention_seen}
use Rattle.rc_check.specs.SecondNames.{first_mention}
use Rattle.rc_check.proofs.owned.first_among.Given as goal

-- the first mention among those that are left is the first of all
abbrev pub invariant-loop-mention : goal.invariant-loop-mention
invariant-loop-mention l =
    first_mention l.name (map mention_seen (drop l.mention-index l.mentions)) ≡ first_mention l.name (map mention_seen l.mentions)
