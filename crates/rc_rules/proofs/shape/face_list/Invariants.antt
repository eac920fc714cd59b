use Rattle.std.proofs.Common.{◌≡◌, map, flat_map, take}
use Rattle.rc_ast.specs.Sheet.{deck_line_seen}
use Rattle.rc_deck.specs.Product.{faces_of_groups}
use Rattle.rc_rules.proofs.shape.face_list.Given as goal

abbrev pub invariant-loop-line : goal.invariant-loop-line
invariant-loop-line l =
    l.list.items ≡ flat_map (λ line. faces_of_groups line.groups) (map deck_line_seen (take l.line-index l.line-items))
