use Rattle.std.proofs.Common.{◌≡◌, map}
use Rattle.rc_base.specs.Numbers.{below}
use Rattle.rc_play_spec.specs.Shape as play
use Rattle.rc_ast.specs.Sheet.{sheet_seen}
use Rattle.rc_rules.proofs.shape.team_list.Given as goal

abbrev pub invariant-loop-player : goal.invariant-loop-player
invariant-loop-player l = l.list.items ≡ map (play.team_in (sheet_seen l.sheet).teams) (below l.player)
