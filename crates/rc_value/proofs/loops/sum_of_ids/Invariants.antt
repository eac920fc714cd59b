use Rattle.std.proofs.Common.{◌≡◌, ◌*◌, take, map, pos, neg_ℤ, ◌≤ℤ◌, ◌+ℤ◌}
use Rattle.std.specs.List.{fold}
use Rattle.rc_play_spec.specs.Scene.{held}
use Rattle.rc_play_spec.specs.Value.{worth}
use Rattle.rc_value.specs.Scene.{scene_seen}
use Rattle.rc_value.proofs.loops.sum_of_ids.Given as goal

-- each card moves the sum by at most 1,000,000,000
abbrev pub invariant-loop-place : goal.invariant-loop-place
invariant-loop-place l = record {
  added : l.sum ≡ fold ◌+ℤ◌ (pos 0) (map (λ id. worth (scene_seen l.scene) l.points (held id)) (take l.place l.ids));
  above : neg_ℤ (pos (1000000000 * l.place)) ≤ℤ l.sum;
  below : l.sum ≤ℤ pos (1000000000 * l.place);
}
