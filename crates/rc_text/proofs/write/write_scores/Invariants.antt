use Rattle.std.proofs.Common.{◌≡◌, ◌++◌, map, take, flat_map}
use Rattle.rc_base.specs.Transcript.{score_line}
use Rattle.rc_rules.specs.Record.{score_seen}
use Rattle.rc_text.proofs.write.write_scores.Given as goal

abbrev pub invariant-loop-score : goal.invariant-loop-score
invariant-loop-score l = l.out.items ≡ l.initial.out.items ++ flat_map score_line (map score_seen (take l.score-index l.scores))
