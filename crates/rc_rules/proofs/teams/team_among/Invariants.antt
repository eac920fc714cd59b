use Rattle.std.proofs.Common.{◌≡◌, ◌+◌, map, drop}
use Rattle.rc_play_spec.specs.Shape as shape
use Rattle.rc_rules.proofs.teams.team_among.Given as goal

-- the player is in none of the teams before this one
abbrev pub invariant-loop-team : goal.invariant-loop-team
invariant-loop-team l = record {
  place : l.before ≡ l.team-index;
  same : l.before + shape.team_among (map (λ team. team.items) (drop l.team-index l.team-items)) l.player
      ≡ shape.team_among (map (λ team. team.items) l.team-items) l.player;
}
