use Rattle.std.proofs.Common.{◌≡◌, ◌≤◌, ◌==◌, filter, length}
use Rattle.rc_base.specs.Numbers.{below}
use Rattle.rc_play_spec.specs.Shape.{face_number}
use Rattle.rc_judge.proofs.legend.face_count.Given as goal

abbrev pub invariant-loop-id : goal.invariant-loop-id
invariant-loop-id l = record {
  count : l.count ≡ length (filter (λ id. face_number l.shape id == id) (below l.id));
  few : l.count ≤ l.id;
}
