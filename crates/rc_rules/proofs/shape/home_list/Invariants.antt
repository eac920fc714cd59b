use Rattle.std.proofs.Common.{◌≡◌, map, flat_map, take}
use Rattle.rc_play_spec.specs.Shape as play
use Rattle.rc_ast.specs.Sheet.{sheet_seen, deck_line_seen}
use Rattle.rc_rules.proofs.shape.home_list.Given as goal

abbrev pub invariant-loop-line : goal.invariant-loop-line
invariant-loop-line l =
    l.list.items ≡ flat_map (play.homes_of (sheet_seen l.sheet)) (map deck_line_seen (take l.line-index l.line-items))
