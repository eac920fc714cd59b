use Rattle.std.proofs.Common.{◌≡◌, ◌==◌, map, flat_map, filter}
use Rattle.rc_base.specs.Numbers.{below}
use Rattle.rc_base.specs.Transcript.{line}
use Rattle.rc_play_spec.specs.Shape.{face_number}
use Rattle.rc_ast.specs.Sheet.{sheet_seen}
use Rattle.rc_play_spec.specs.Naming.{face_line}
use Rattle.rc_text.proofs.faces.legend.Given as goal

-- the lines of the faces so far
abbrev pub invariant-loop-id : goal.invariant-loop-id
invariant-loop-id l =
    l.out.items ≡ flat_map line (map (face_line (sheet_seen l.sheet) l.shape) (filter (λ id. face_number l.shape id == id) (below l.id)))
