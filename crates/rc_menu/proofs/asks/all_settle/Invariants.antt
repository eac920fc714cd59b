use Rattle.std.proofs.Common.{◌≡◌, ◌+◌, ◌≤◌, ◌++◌, ◌∷◌, [], length, map, drop}
use Rattle.rc_ast.specs.Expressions.{tests_seen}
use Rattle.rc_play_spec.specs.Scene.{CardValue}
use Rattle.rc_play_spec.specs.Value.{card_bound, tests_value}
use Rattle.rc_menu.specs.Asks.{ask_value, AllFit, joined}
use Rattle.rc_value.specs.Depth.{tests_depth}
use Rattle.rc_value.specs.Scene.{scene_seen}
use Rattle.rc_menu.proofs.asks.all_settle.Given as goal

abbrev pub invariant-loop-test : goal.invariant-loop-test
invariant-loop-test l = record {
  few : length l.asks.items ≤ l.test-index;
  deep : length l.scope + (1 + tests_depth (tests_seen (drop l.test-index l.test-items))) ≤ 5;
  fit : AllFit l.scope l.asks.items;
  told : (c : CardValue) → joined l.any (map (ask_value (scene_seen l.scene) l.scope c) l.asks.items ++ tests_value (scene_seen l.scene) (l.scope ++ card_bound c ∷ []) (tests_seen (drop l.test-index l.test-items)))
      ≡ joined l.any (tests_value (scene_seen l.scene) (l.scope ++ card_bound c ∷ []) (tests_seen l.test-items));
}
