use Rattle.std.proofs.Common.{◌≡◌, ◌+◌, List, map, drop, None}
use Rattle.rc_base.specs.Transcript.{Record}
use Rattle.rc_play_spec.specs.Plan.{Plan}
use Rattle.rc_play_spec.specs.House.{standings_of}
use Rattle.rc_play_spec.specs.Rows.{further_row}
use Rattle.rc_play_spec.specs.Along as along
use Rattle.rc_rules.specs.Record.{standing_seen}
use Rattle.rc_judge.proofs.judging.standings_along.Given as goal

-- judging the standing lines that are left is judging all
abbrev pub invariant-loop-index : goal.invariant-loop-index
invariant-loop-index l = record {
  line : l.line ≡ l.from + l.index;
  on : (plan : Plan) (matches : List Record) → further_row plan matches ≡ None → map standing_seen l.standings ≡ standings_of plan matches →
      along.standings_along plan l.line matches l.index (map standing_seen (drop l.index l.told))
      ≡ along.standings_along plan l.from matches 0 (map standing_seen l.told);
}
