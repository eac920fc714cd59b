use Rattle.std.proofs.Common.{◌≡◌, ◌+◌, ◌++◌, ◌≤◌, [], true, length, map, take, drop, All}
use Rattle.rc_play_spec.specs.Keyed.{dealing_of}
use Rattle.rc_play_spec.specs.Along as along
use Rattle.rc_rules.specs.Plan.{plan_seen}
use Rattle.rc_rules.specs.Record.{record_seen}
use Rattle.rc_judge.specs.Seen.{lines_in_all, lists_over}
use Rattle.rc_judge.proofs.judging.matches_along.Given as goal

-- judging the matches that are left is judging all; and so it is with notes of what their choices bind
abbrev pub invariant-loop-played : goal.invariant-loop-played
invariant-loop-played g l = record {
  number : l.number ≡ l.played-index;
  few : l.number ≤ length l.plan.matches.items;
  line : l.line + lines_in_all (drop l.played-index l.matches) ≡ l.from + lines_in_all l.matches;
  each : All (λ r. length r.scores.items ≡ l.about.sheet.players) (take l.played-index l.matches);
  on : along.matches_along l.about dealing_of (plan_seen l.plan) l.number l.line (g.N.Margin.told l.margin) (map record_seen (drop l.played-index l.matches))
      ≡ along.matches_along l.about dealing_of (plan_seen l.plan) 0 l.from (g.N.Margin.told l.initial.margin) (map record_seen l.matches);
  here : g.N.Margin.here l.initial.margin ≡ [] → g.N.Margin.here l.margin ≡ [];
  noted : g.N.Margin.notes ≡ true → g.N.Margin.here l.initial.margin ≡ [] →
      g.N.Margin.before l.margin ++ lists_over l.about dealing_of (plan_seen l.plan) l.number (map record_seen (drop l.played-index l.matches))
      ≡ g.N.Margin.before l.initial.margin ++ lists_over l.about dealing_of (plan_seen l.plan) 0 (map record_seen l.matches);
}
