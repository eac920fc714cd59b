use Rattle.std.proofs.Common.{◌≡◌, ◌≤◌, length, take}
use Rattle.std.specs.Prelude.{filter_map}
use Rattle.rc_play_spec.specs.Value.{attr_of as attr_value, firsts}
use Rattle.rc_value.specs.Scene.{scene_seen}
use Rattle.rc_value.proofs.groups.note_values.Given as goal

abbrev pub invariant-loop-place : goal.invariant-loop-place
invariant-loop-place l = record {
  few : length l.values.items ≤ l.place;
  told : l.values.items ≡ firsts (filter_map (attr_value (scene_seen l.scene) l.name) (take l.place l.cards));
}
