use Rattle.std.proofs.Common.{◌≡◌, ◌++◌, map, drop}
use Rattle.rc_play_spec.specs.TextParts.{picks_text}
use Rattle.rc_rules.specs.Record.{pick_seen}
use Rattle.rc_rules.specs.Bounds.{bounds_seen}
use Rattle.rc_text.proofs.write.write_picks.Given as goal

-- with what is left it is the whole
abbrev pub invariant-loop-index : goal.invariant-loop-index
invariant-loop-index l =
    l.out.items ++ picks_text (map bounds_seen (drop l.index l.bounds)) (map pick_seen (drop l.index l.picks))
    ≡ l.initial.out.items ++ picks_text (map bounds_seen l.bounds) (map pick_seen l.picks)
