use Rattle.std.proofs.Common.{◌≡◌, ◌+◌, ◌≤◌, ◌++◌, ◌∷◌, [], length, drop, min}
use Rattle.std.specs.List.{filter}
use Rattle.rc_base.specs.Numbers.{below}
use Rattle.rc_play_spec.specs.Scene.{CardValue}
use Rattle.rc_play_spec.specs.Value.{Bind as PureBind, card_bound, player_bound, cut, colls_value, test_value, tests_value}
use Rattle.rc_ast.specs.Expressions.{colls_seen, test_seen, tests_seen}
use Rattle.rc_value.specs.Cards.{values_seen}
use Rattle.rc_value.specs.Depth.{colls_depth, tests_depth}
use Rattle.rc_value.specs.Over.{over}
use Rattle.rc_value.specs.Scene.{scene_seen}
use Rattle.rc_value.proofs.+values.Given as goal

abbrev pub invariant-expressions::add_asked-loop-place : goal.invariant-expressions::add_asked-loop-place
invariant-expressions::add_asked-loop-place l = record {
  few : length l.out.items ≤ 512;
  told : cut (values_seen l.out.items ++ filter
      (λ c. test_value (scene_seen l.scene) (l.scope ++ card_bound c ∷ []) (test_seen l.test)) (drop l.place l.all))
      ≡ cut (values_seen l.fn.out.items ++ filter
      (λ c. test_value (scene_seen l.scene) (l.scope ++ card_bound c ∷ []) (test_seen l.test)) l.all);
  inside : (m : PureBind CardValue) × (l.inside ≡ l.scope ++ m ∷ []);
}

abbrev pub invariant-expressions::add_parts-loop-part : goal.invariant-expressions::add_parts-loop-part
invariant-expressions::add_parts-loop-part l = record {
  few : length l.out.items ≤ 512;
  fits : length l.scope + colls_depth (colls_seen (drop l.part-index l.part-items)) ≤ 5;
  told : cut (values_seen l.out.items ++ colls_value (scene_seen l.scene) l.scope (colls_seen (drop l.part-index l.part-items)))
      ≡ cut (values_seen l.fn.out.items ++ colls_value (scene_seen l.scene) l.scope (colls_seen l.part-items));
}

abbrev pub invariant-tests::over_tests-loop-test : goal.invariant-tests::over_tests-loop-test
invariant-tests::over_tests-loop-test l = record {
  fits : length l.scope + tests_depth (tests_seen (drop l.test-index l.test-items)) ≤ 5;
  told : over l.any (λ b. b) (tests_value (scene_seen l.scene) l.scope (tests_seen (drop l.test-index l.test-items)))
      ≡ over l.any (λ b. b) (tests_value (scene_seen l.scene) l.scope (tests_seen l.test-items));
}

abbrev pub invariant-tests::over_players_asked-loop-player : goal.invariant-tests::over_players_asked-loop-player
invariant-tests::over_players_asked-loop-player l = record {
  told : over l.any (λ n. test_value (scene_seen l.scene) (l.scope ++ player_bound n ∷ []) (test_seen l.test)) (drop l.player (below l.scene.sheet.now.players))
      ≡ over l.any (λ n. test_value (scene_seen l.scene) (l.scope ++ player_bound n ∷ []) (test_seen l.test)) (below l.scene.sheet.now.players);
  inside : (m : PureBind CardValue) × (l.inside ≡ l.scope ++ m ∷ []);
}

abbrev pub invariant-tests::over_list_asked-loop-place : goal.invariant-tests::over_list_asked-loop-place
invariant-tests::over_list_asked-loop-place l = record {
  told : over l.any (λ c. test_value (scene_seen l.scene) (l.scope ++ card_bound c ∷ []) (test_seen l.test)) (drop l.place l.cards)
      ≡ over l.any (λ c. test_value (scene_seen l.scene) (l.scope ++ card_bound c ∷ []) (test_seen l.test)) l.cards;
  inside : (m : PureBind CardValue) × (l.inside ≡ l.scope ++ m ∷ []);
}

abbrev pub invariant-expressions::count_parts-loop-part : goal.invariant-expressions::count_parts-loop-part
invariant-expressions::count_parts-loop-part l = record {
  few : l.count ≤ 512;
  fits : length l.scope + colls_depth (colls_seen (drop l.part-index l.part-items)) ≤ 5;
  told : min 512 (l.count + length (colls_value (scene_seen l.scene) l.scope (colls_seen (drop l.part-index l.part-items))))
      ≡ min 512 (length (colls_value (scene_seen l.scene) l.scope (colls_seen l.part-items)));
}
