-- Records that can be measured.
use Rattle.std.specs.Prelude.{◌≡◌, ◌<◌, ◌≤◌, List, length, All}
use Rattle.rc_base.specs.Clamp.{IsWithinClamp}
use Rattle.rc_base.specs.Limits.{most_matches, longest_text}
use Rattle.rc_rules.specs.declared.plan.Plan.{Plan}
use Rattle.rc_rules.specs.declared.record.MatchRecord.{MatchRecord}

-- There are a few records, of which each has a score for each strategy, scores are within the clamp, and a record has
-- no more choices than the longest text has bytes.
pub record IsMeasurable (plan : Plan) (matches : List MatchRecord) : Type 0 where
  pub some : 0 < length matches
  pub few : length matches ≤ most_matches
  pub strategies : length plan.strategies.items ≤ 8
  pub scores : All (λ r. length r.scores.items ≡ length plan.strategies.items) matches
  pub clamped : All (λ r. All (λ s. IsWithinClamp s.score) r.scores.items) matches
  pub picks : All (λ r. length r.picks.items ≤ longest_text) matches
