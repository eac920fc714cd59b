use Rattle.std.proofs.Common.{◌≡◌, ℕ, ◌+◌, ◌≤◌, map, drop, Some}
use Rattle.rc_rules.specs.Control.{stopped_of}
use Rattle.rc_play_spec.specs.Along as along
use Rattle.rc_rules.specs.declared.control.Stop.{Stop}
use Rattle.rc_rules.specs.Record.{score_seen}
use Rattle.rc_judge.proofs.playing.scores_along.Given as goal

-- judging the score lines that are left is judging all
abbrev pub invariant-loop-score : goal.invariant-loop-score
invariant-loop-score g l = record {
  index : l.index ≡ l.score-index;
  line : l.line ≡ l.from + l.index;
  few : l.index ≤ l.about.sheet.players;
  on : (stop : Stop) (count : ℕ) →
      along.scores_along l.about l.line (Some (stopped_of stop (g.M.Machine.config l.machine) count)) l.index (map score_seen (drop l.score-index l.told))
      ≡ along.scores_along l.about l.from (Some (stopped_of stop (g.M.Machine.config l.machine) count)) 0 (map score_seen l.told);
}
