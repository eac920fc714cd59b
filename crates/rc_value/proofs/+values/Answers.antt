use Rattle.std.proofs.Common.{◌≡◌, ◌+◌, length, ◌++◌, ◌∷◌, [], true, false, cond, drop, map, option_map, rules, arith, ap, ap₂, sym, subst, ◌∙◌}
use Rattle.std.proofs.lemmas.Grind.{common_steps}
use Rattle.std.proofs.lemmas.List.{drop_all, length-map, take_all}
use Rattle.std.specs.List.{filter}
use Rattle.rc_base.specs.Numbers.{below}
use Rattle.rc_deck.proofs.RangeLemmas.{below_length}
use Rattle.rc_play_spec.specs.Scene.{id_of}
use Rattle.rc_play_spec.specs.Value.{card_bound, player_bound, attr_of_any, cut, card_value, coll_value, colls_value, test_value, tests_value}
use Rattle.rc_ast.specs.Expressions.{test_seen, tests_seen, card_seen, coll_seen, colls_seen, domain_seen}
use Rattle.rc_value.specs.Cards.{value_seen, values_seen}
use Rattle.rc_value.specs.Scene.{scene_seen}
use Rattle.rc_sheet_spec.specs.Sheet.{all_of, any_of, card_var, filtered}
use Rattle.rc_play_spec.proofs.Bounds.{coll_within}
use Rattle.rc_ast.proofs.ViewLemmas.{colls_seen-drop}
use Rattle.rc_value.proofs.ComparingLemmas.{over_players}
use Rattle.rc_value.proofs.OverLemmas.{over-map, over_end, over_none, over_on, over_stop}
use Rattle.rc_value.proofs.Steps.{players_are, player_here}
use Rattle.rc_value.proofs.Steps.{cut_behind, more_on, more_end, passing_on, passing_here, colls_here, tests_here}
use Rattle.rc_value.proofs.Steps.{and_here, or_here, union_here, and_depth, or_depth, union_depth, inner_is, tests_over}
use Rattle.rc_value.proofs.Steps.{count_on, count_end}
use Rattle.rc_ast.specs.declared.expressions.CardExpr.TheFolds
use Rattle.rc_value.proofs.WantedLemmas.{over_told, kept_told, face_is, face_turned, against_is, against_turned}
use Rattle.rc_flow.specs.Reads.{reads_card}
use Rattle.rc_value.specs.Over.{over}
use Rattle.rc_value.specs.Sought.{IsSought, sought_value}
use Rattle.rc_value.proofs.+values.Goals as goal

pub tests::test_of-returns-in-And : goal.tests::test_of-returns-in-And
tests::test_of-returns-in-And t c =
    let e = and_here c.args.expr.now c.in-And.tests c.in-And.is in grind (arith, common_steps, e)

pub tests::test_of-returns-in-Or : goal.tests::test_of-returns-in-Or
tests::test_of-returns-in-Or t c =
    let e = or_here c.args.expr.now c.in-Or.tests c.in-Or.is in grind (arith, common_steps, e)

pub expressions::coll_of-returns : goal.expressions::coll_of-returns
expressions::coll_of-returns t c =
    let all = coll_value (scene_seen c.args.scene.now) c.args.scope.now (coll_seen c.args.expr.now) in
    c.add.ensures.cards ∙ ap (λ xs. cut (values_seen xs ++ all)) c.requires.empty
    ∙ take_all 512 all (coll_within (scene_seen c.args.scene.now) c.args.scope.now (coll_seen c.args.expr.now))

pub expressions::add-returns-in-Union-clause-cards : goal.expressions::add-returns-in-Union-clause-cards
expressions::add-returns-in-Union-clause-cards t c =
    let parts = colls_value (scene_seen c.args.scene.now) c.args.scope.now (colls_seen c.in-Union.parts.items) in
    c.add_parts.ensures.cards ∙ sym (cut_behind 512 512 (values_seen c.args.out.now.items) parts (omega arith))
    ∙ ap (λ e. cut (values_seen c.args.out.now.items ++ coll_value (scene_seen c.args.scene.now) c.args.scope.now e))
    (sym (union_here c.args.expr.now c.in-Union.parts c.in-Union.is))

pub expressions::add_parts-loop-part-preserved : goal.expressions::add_parts-loop-part-preserved
expressions::add_parts-loop-part-preserved t c =
    let e = colls_here c.deref-part-items.result.now c.loop-part.part-index c.part-item.result c.loop-part-test.true c.part-item.is in
    record {
      few = c.add.ensures.few;
      fits = omega arith;
      told =
          more_on (values_seen c.loop-part.out.items) (values_seen c.add.new.out.items) _ _ _ _
          (ap (colls_value (scene_seen c.args.scene.now) c.args.scope.now)
          (colls_seen-drop c.deref-part-items.result.now c.loop-part.part-index c.part-item.result c.loop-part-test.true
          c.part-item.is))
          c.add.ensures.cards c.loop-part.invariant.told;
    }

pub expressions::add_parts-returns-clause-cards : goal.expressions::add_parts-returns-clause-cards
expressions::add_parts-returns-clause-cards t c =
    let n = length-map c.loop-part.out.items value_seen in
    more_end (values_seen c.loop-part.out.items) _ _ (omega arith)
    (ap (λ xs. colls_value (scene_seen c.args.scene.now) c.args.scope.now (colls_seen xs))
    (drop_all c.loop-part.part-index c.deref-part-items.result.now c.loop-part-test.false))
    c.loop-part.invariant.told
    ∙ ap (λ xs. cut (values_seen c.args.out.now.items ++ colls_value (scene_seen c.args.scene.now) c.args.scope.now
    (colls_seen xs))) c.deref-part-items.ensures.value

pub tests::test_of-over_tests-requires : goal.tests::test_of-over_tests-requires
tests::test_of-over_tests-requires t c =
    let e = and_depth c.args.expr.now c.in-And.tests c.in-And.is in (search (rules, TheFolds.the_lemmas), omega arith)

pub tests::test_of-over_tests-requires-in-Or : goal.tests::test_of-over_tests-requires-in-Or
tests::test_of-over_tests-requires-in-Or t c =
    let e = or_depth c.args.expr.now c.in-Or.tests c.in-Or.is in (search (rules, TheFolds.the_lemmas), omega arith)

pub expressions::add-add_parts-requires : goal.expressions::add-add_parts-requires
expressions::add-add_parts-requires t c =
    let e = union_depth c.args.expr.now c.in-Union.parts c.in-Union.is in (search (rules, TheFolds.the_lemmas), omega arith)

pub expressions::add_asked-loop-place-preserved : goal.expressions::add_asked-loop-place-preserved
expressions::add_asked-loop-place-preserved t c =
    let n = length-map c.loop-place.out.items value_seen in
    let bound = c.rebind.ensures c.args.scope.now c.loop-place.invariant.inside.0 c.loop-place.invariant.inside.1 in
    record {
      few = c.push_if.ensures.few;
      told =
          passing_on (values_seen c.loop-place.out.items) (values_seen c.push_if.new.cards.items) _ _ _
          (value_seen c.at-card.result) c.test_of-passes.result
          (passing_here (λ x. test_value (scene_seen c.args.scene.now) (c.args.scope.now ++ card_bound x ∷ [])
          (test_seen c.args.test.now)) c.args.all.now c.loop-place.place (value_seen c.at-card.result)
          c.test_of-passes.result
          (omega (arith, c.len-place-end.ensures.count)) c.at-card.ensures
          (inner_is (scene_seen c.args.scene.now) c.args.scope.now c.rebind.new.self
          (card_bound (value_seen c.at-card.result)) c.args.test.now c.test_of-passes.result bound
          c.test_of-passes.ensures))
          c.push_if.ensures.cards c.loop-place.invariant.told;
      inside = (card_bound (value_seen c.at-card.result), bound);
    }

pub expressions::add_asked-returns-clause-cards : goal.expressions::add_asked-returns-clause-cards
expressions::add_asked-returns-clause-cards t c =
    let n = length-map c.loop-place.out.items value_seen in
    more_end (values_seen c.loop-place.out.items) _ _ (omega arith)
    (ap (filter (λ x. test_value (scene_seen c.args.scene.now) (c.args.scope.now ++ card_bound x ∷ [])
    (test_seen c.args.test.now)))
    (drop_all c.loop-place.place c.args.all.now (omega (arith, c.len-place-end.ensures.count))))
    c.loop-place.invariant.told

pub expressions::add_passing-returns-in-Some-clause-cards : goal.expressions::add_passing-returns-in-Some-clause-cards
expressions::add_passing-returns-in-Some-clause-cards t c =
    c.add_as_sought.ensures.cards
    ∙ ap (λ xs. cut (values_seen c.args.out.now.items ++ xs)) (
    kept_told (scene_seen c.args.scene.now) c.args.scope.now (test_seen c.args.test.now)
    (sought_value (scene_seen c.args.scene.now) c.in-Some.sought) c.args.all.now c.in-Some.ensures
    )

pub expressions::value_asked-returns : goal.expressions::value_asked-returns
expressions::value_asked-returns t c = c.attr_of.ensures ∙ ap (attr_of_any (scene_seen c.args.scene.now) c.args.name) c.card_of.ensures

pub expressions::points_of-returns : goal.expressions::points_of-returns
expressions::points_of-returns t c =
    let e = c.worth_of_id.ensures _ (c.id_or_none.ensures ∙ ap (option_map id_of) c.card_of.ensures) in grind (arith, common_steps, e)

pub expressions::count_of-returns-in-Union-clause-count : goal.expressions::count_of-returns-in-Union-clause-count
expressions::count_of-returns-in-Union-clause-count t c =
    c.count_parts.ensures.count
    ∙ ap (λ x. length (coll_value (scene_seen c.args.scene.now) c.args.scope.now x)) (sym (union_here c.args.expr.now c.in-Union.parts c.in-Union.is))

pub expressions::count_of-count_parts-requires : goal.expressions::count_of-count_parts-requires
expressions::count_of-count_parts-requires t c =
    let e = union_depth c.args.expr.now c.in-Union.parts c.in-Union.is in (search (rules, TheFolds.the_lemmas), omega arith)

pub expressions::count_parts-loop-part-preserved : goal.expressions::count_parts-loop-part-preserved
expressions::count_parts-loop-part-preserved t c =
    let e = colls_here c.deref-part-items.result.now c.loop-part.part-index c.part-item.result c.loop-part-test.true c.part-item.is in
    record {
      few = omega (arith, c.min-more.ensures, c.loop-part.invariant.few);
      fits = omega arith;
      told =
          count_on (scene_seen c.args.scene.now) c.args.scope.now c.deref-part-items.result.now c.loop-part.part-index c.part-item.result
          c.loop-part.count c.count_of.result c.min-more.result _ c.loop-part-test.true c.part-item.is c.loop-part.invariant.few
          c.count_of.ensures.count c.min-more.ensures c.loop-part.invariant.told;
    }

pub expressions::count_parts-returns-clause-count : goal.expressions::count_parts-returns-clause-count
expressions::count_parts-returns-clause-count t c =
    count_end (scene_seen c.args.scene.now) c.args.scope.now c.deref-part-items.result.now c.loop-part.part-index c.loop-part.count
    c.loop-part-test.false c.loop-part.invariant.few c.loop-part.invariant.told
    ∙ ap (λ xs. length (cut (colls_value (scene_seen c.args.scene.now) c.args.scope.now (colls_seen xs)))) c.deref-part-items.ensures.value

pub expressions::count_filtered-returns-in-Some-sought_of-clause-count : goal.expressions::count_filtered-returns-in-Some-sought_of-clause-count
expressions::count_filtered-returns-in-Some-sought_of-clause-count t c =
    let told = c.deref-in-Some.result.now in
    c.count_as_sought.ensures.count
    ∙ ap length (kept_told (scene_seen c.args.scene.now) c.args.scope.now (test_seen told) (sought_value (scene_seen c.args.scene.now) c.in-Some-sought_of.sought) c.in-Some.all c.in-Some-sought_of.ensures)
    ∙ ap (λ xs. length (filter (λ x. test_value (scene_seen c.args.scene.now) (c.args.scope.now ++ card_bound x ∷ []) (test_seen told)) xs)) c.in-Some.ensures
    ∙ ap₂ (λ k u. length (coll_value (scene_seen c.args.scene.now) c.args.scope.now (filtered (coll_seen k) c.in-Filter.field-1 (test_seen u)))) c.deref.ensures c.deref-in-Some.ensures
    ∙ ap (λ k. length (coll_value (scene_seen c.args.scene.now) c.args.scope.now k)) (sym (ap coll_seen c.in-Filter.is))

pub tests::over_tests-loop-test-preserved : goal.tests::over_tests-loop-test-preserved
tests::over_tests-loop-test-preserved t c =
    let e = tests_here c.deref-test-items.result.now c.loop-test.test-index c.test-item.result c.loop-test-test.true c.test-item.is in
    record {
      fits = omega arith;
      told =
          ap (λ b. cond b c.args.any (over c.args.any (λ b. b) (tests_value (scene_seen c.args.scene.now) c.args.scope.now (tests_seen (drop (c.loop-test.test-index + 1) c.deref-test-items.result.now))))) (sym c.if-test_of-any.false)
          ∙ tests_over (scene_seen c.args.scene.now) c.args.scope.now c.deref-test-items.result.now c.loop-test.test-index c.test-item.result c.args.any c.test_of.result _
          c.loop-test-test.true c.test-item.is c.test_of.ensures c.loop-test.invariant.told;
    }

pub tests::over_tests-returns-then-test_of-any : goal.tests::over_tests-returns-then-test_of-any
tests::over_tests-returns-then-test_of-any t c =
    ap (λ b. cond b c.args.any (over c.args.any (λ b. b) (tests_value (scene_seen c.args.scene.now) c.args.scope.now (tests_seen (drop (c.loop-test.test-index + 1) c.deref-test-items.result.now))))) (sym c.if-test_of-any.true)
    ∙ tests_over (scene_seen c.args.scene.now) c.args.scope.now c.deref-test-items.result.now c.loop-test.test-index c.test-item.result c.args.any c.test_of.result _
    c.loop-test-test.true c.test-item.is c.test_of.ensures c.loop-test.invariant.told
    ∙ ap (λ xs. over c.args.any (λ b. b) (tests_value (scene_seen c.args.scene.now) c.args.scope.now (tests_seen xs))) c.deref-test-items.ensures.value

pub tests::over_tests-returns : goal.tests::over_tests-returns
tests::over_tests-returns t c =
    over_none c.args.any (λ b. b)
    ∙ ap (λ xs. over c.args.any (λ b. b) (tests_value (scene_seen c.args.scene.now) c.args.scope.now (tests_seen xs))) (sym (drop_all c.loop-test.test-index c.deref-test-items.result.now c.loop-test-test.false))
    ∙ c.loop-test.invariant.told
    ∙ ap (λ xs. over c.args.any (λ b. b) (tests_value (scene_seen c.args.scene.now) c.args.scope.now (tests_seen xs))) c.deref-test-items.ensures.value

pub tests::over_players_asked-loop-player-preserved : goal.tests::over_players_asked-loop-player-preserved
tests::over_players_asked-loop-player-preserved t c =
    let n = below_length c.args.scene.now.sheet.now.players in
    record {
      told =
          over_on c.args.any (λ x. test_value (scene_seen c.args.scene.now) (c.args.scope.now ++ player_bound x ∷ []) (test_seen c.args.test.now)) (below c.args.scene.now.sheet.now.players) c.loop-player.player c.loop-player.player c.test_of.result _ (omega arith) (player_here c.args.scene.now.sheet.now.players c.loop-player.player c.loop-player-test.true)
          (sym (inner_is (scene_seen c.args.scene.now) c.args.scope.now c.rebind.new.self (player_bound c.loop-player.player) c.args.test.now c.test_of.result (c.rebind.ensures c.args.scope.now c.loop-player.invariant.inside.0 c.loop-player.invariant.inside.1) c.test_of.ensures)) c.if-test_of-any.false c.loop-player.invariant.told;
      inside = (player_bound c.loop-player.player, (c.rebind.ensures c.args.scope.now c.loop-player.invariant.inside.0 c.loop-player.invariant.inside.1));
    }

pub tests::over_players_asked-returns-then-test_of-any : goal.tests::over_players_asked-returns-then-test_of-any
tests::over_players_asked-returns-then-test_of-any t c =
    let n = below_length c.args.scene.now.sheet.now.players in
    over_stop c.args.any (λ x. test_value (scene_seen c.args.scene.now) (c.args.scope.now ++ player_bound x ∷ []) (test_seen c.args.test.now)) (below c.args.scene.now.sheet.now.players) c.loop-player.player c.loop-player.player c.test_of.result _ (omega arith) (player_here c.args.scene.now.sheet.now.players c.loop-player.player c.loop-player-test.true)
    (sym (inner_is (scene_seen c.args.scene.now) c.args.scope.now c.rebind.new.self (player_bound c.loop-player.player) c.args.test.now c.test_of.result (c.rebind.ensures c.args.scope.now c.loop-player.invariant.inside.0 c.loop-player.invariant.inside.1) c.test_of.ensures)) c.if-test_of-any.true c.loop-player.invariant.told
    ∙ sym (over-map c.args.any (λ m. test_value (scene_seen c.args.scene.now) (c.args.scope.now ++ m ∷ []) (test_seen c.args.test.now)) (λ x. player_bound x) (below c.args.scene.now.sheet.now.players))
    ∙ ap (λ k. over c.args.any (λ m. test_value (scene_seen c.args.scene.now) (c.args.scope.now ++ m ∷ []) (test_seen c.args.test.now)) (map (λ x. player_bound x) (below k))) (sym (players_are c.args.scene.now))

pub tests::over_players_asked-returns : goal.tests::over_players_asked-returns
tests::over_players_asked-returns t c =
    let n = below_length c.args.scene.now.sheet.now.players in
    over_end c.args.any (λ x. test_value (scene_seen c.args.scene.now) (c.args.scope.now ++ player_bound x ∷ []) (test_seen c.args.test.now)) (below c.args.scene.now.sheet.now.players) c.loop-player.player _ (omega arith) c.loop-player.invariant.told
    ∙ sym (over-map c.args.any (λ m. test_value (scene_seen c.args.scene.now) (c.args.scope.now ++ m ∷ []) (test_seen c.args.test.now)) (λ x. player_bound x) (below c.args.scene.now.sheet.now.players))
    ∙ ap (λ k. over c.args.any (λ m. test_value (scene_seen c.args.scene.now) (c.args.scope.now ++ m ∷ []) (test_seen c.args.test.now)) (map (λ x. player_bound x) (below k))) (sym (players_are c.args.scene.now))

pub tests::over_list_asked-loop-place-preserved : goal.tests::over_list_asked-loop-place-preserved
tests::over_list_asked-loop-place-preserved t c =
    record {
      told =
          over_on c.args.any (λ x. test_value (scene_seen c.args.scene.now) (c.args.scope.now ++ card_bound x ∷ []) (test_seen c.args.test.now)) c.args.cards.now c.loop-place.place (value_seen c.at.result) c.test_of.result _ (omega (arith, c.len-place-end.ensures.count)) c.at.ensures
          (sym (inner_is (scene_seen c.args.scene.now) c.args.scope.now c.rebind.new.self (card_bound (value_seen c.at.result)) c.args.test.now c.test_of.result (c.rebind.ensures c.args.scope.now c.loop-place.invariant.inside.0 c.loop-place.invariant.inside.1) c.test_of.ensures)) c.if-test_of-any.false c.loop-place.invariant.told;
      inside = (card_bound (value_seen c.at.result), (c.rebind.ensures c.args.scope.now c.loop-place.invariant.inside.0 c.loop-place.invariant.inside.1));
    }

pub tests::over_list_asked-returns-then-test_of-any : goal.tests::over_list_asked-returns-then-test_of-any
tests::over_list_asked-returns-then-test_of-any t c =
    over_stop c.args.any (λ x. test_value (scene_seen c.args.scene.now) (c.args.scope.now ++ card_bound x ∷ []) (test_seen c.args.test.now)) c.args.cards.now c.loop-place.place (value_seen c.at.result) c.test_of.result _ (omega (arith, c.len-place-end.ensures.count)) c.at.ensures
    (sym (inner_is (scene_seen c.args.scene.now) c.args.scope.now c.rebind.new.self (card_bound (value_seen c.at.result)) c.args.test.now c.test_of.result (c.rebind.ensures c.args.scope.now c.loop-place.invariant.inside.0 c.loop-place.invariant.inside.1) c.test_of.ensures)) c.if-test_of-any.true c.loop-place.invariant.told
    ∙ sym (over-map c.args.any (λ m. test_value (scene_seen c.args.scene.now) (c.args.scope.now ++ m ∷ []) (test_seen c.args.test.now)) (λ x. card_bound x) c.args.cards.now)

pub tests::over_list_asked-returns : goal.tests::over_list_asked-returns
tests::over_list_asked-returns t c =
    over_end c.args.any (λ x. test_value (scene_seen c.args.scene.now) (c.args.scope.now ++ card_bound x ∷ []) (test_seen c.args.test.now)) c.args.cards.now c.loop-place.place _ (omega (arith, c.len-place-end.ensures.count)) c.loop-place.invariant.told
    ∙ sym (over-map c.args.any (λ m. test_value (scene_seen c.args.scene.now) (c.args.scope.now ++ m ∷ []) (test_seen c.args.test.now)) (λ x. card_bound x) c.args.cards.now)

pub tests::over_players-returns-in-Some : goal.tests::over_players-returns-in-Some
tests::over_players-returns-in-Some t c =
    c.over_suited.ensures
    ∙ over_players (scene_seen c.args.scene.now) c.args.scope.now c.args.any (test_seen c.args.test.now) c.in-Some.suited (below (scene_seen c.args.scene.now).known.sheet.players) c.in-Some.ensures

pub tests::over_list-returns-in-Some : goal.tests::over_list-returns-in-Some
tests::over_list-returns-in-Some t c =
    c.are_as_sought.ensures ∙ over_told (scene_seen c.args.scene.now) c.args.scope.now c.args.any (test_seen c.args.test.now) (sought_value (scene_seen c.args.scene.now) c.in-Some.sought) c.args.cards.now c.in-Some.ensures

pub tests::sought_asked-returns-then-is_against : goal.tests::sought_asked-returns-then-is_against
tests::sought_asked-returns-then-is_against t c =
    subst (IsSought (scene_seen c.args.scene.now) c.args.scope.now (test_seen c.args.test.now)) (sym c.same_value.ensures) (
    against_is (scene_seen c.args.scene.now) c.args.scope.now (test_seen c.args.test.now) (card_seen c.in-EqAttr.a.value) (card_seen c.in-EqAttr.b.value) c.in-EqAttr.name c.in-EqAttr.other _
    (ap test_seen c.in-EqAttr.is)
    (sym (ap card_seen c.deref.ensures) ∙ c.is_against.ensures.variable c.if-is_against.true ∙ ap card_var c.len.ensures)
    (ap₂ (λ k e. reads_card k (card_seen e)) (sym c.len.ensures) (sym c.deref-in-EqAttr.ensures) ∙ c.is_against.ensures.unread c.if-is_against.true)
    (c.value_of.ensures ∙ ap₂ (λ v e. attr_of_any (scene_seen c.args.scene.now) c.in-EqAttr.other (card_value (scene_seen c.args.scene.now) v (card_seen e))) c.requires.inside c.deref-then-is_against.ensures)
    )

pub tests::sought_asked-returns-then-is_against-2 : goal.tests::sought_asked-returns-then-is_against-2
tests::sought_asked-returns-then-is_against-2 t c =
    subst (IsSought (scene_seen c.args.scene.now) c.args.scope.now (test_seen c.args.test.now)) (sym c.same_value-then-is_against-2.ensures) (
    against_turned (scene_seen c.args.scene.now) c.args.scope.now (test_seen c.args.test.now) (card_seen c.in-EqAttr.a.value) (card_seen c.in-EqAttr.b.value) c.in-EqAttr.name c.in-EqAttr.other _
    (ap test_seen c.in-EqAttr.is)
    (sym (ap card_seen c.deref-in-EqAttr-2.ensures) ∙ c.is_against-in-EqAttr.ensures.variable c.if-is_against-2.true ∙ ap card_var c.len-in-EqAttr.ensures)
    (ap₂ (λ k e. reads_card k (card_seen e)) (sym c.len-in-EqAttr.ensures) (sym c.deref-in-EqAttr-3.ensures) ∙ c.is_against-in-EqAttr.ensures.unread c.if-is_against-2.true)
    (c.value_of-then-is_against-2.ensures ∙ ap₂ (λ v e. attr_of_any (scene_seen c.args.scene.now) c.in-EqAttr.name (card_value (scene_seen c.args.scene.now) v (card_seen e))) c.requires.inside c.deref-then-is_against-2.ensures)
    )

pub tests::sought_asked-returns-then-is_against-3 : goal.tests::sought_asked-returns-then-is_against-3
tests::sought_asked-returns-then-is_against-3 t c =
    subst (IsSought (scene_seen c.args.scene.now) c.args.scope.now (test_seen c.args.test.now)) (sym c.same_face.ensures) (
    face_is (scene_seen c.args.scene.now) c.args.scope.now (test_seen c.args.test.now) (card_seen c.in-EqCard.a.value) (card_seen c.in-EqCard.b.value) _
    (ap test_seen c.in-EqCard.is)
    (sym (ap card_seen c.deref-in-EqCard.ensures) ∙ c.is_against-in-EqCard.ensures.variable c.if-is_against-3.true ∙ ap card_var c.len-in-EqCard.ensures)
    (ap₂ (λ k e. reads_card k (card_seen e)) (sym c.len-in-EqCard.ensures) (sym c.deref-in-EqCard-2.ensures) ∙ c.is_against-in-EqCard.ensures.unread c.if-is_against-3.true)
    (c.card_of.ensures ∙ ap₂ (λ v e. card_value (scene_seen c.args.scene.now) v (card_seen e)) c.requires.inside c.deref-then-is_against-3.ensures)
    )

pub tests::sought_asked-returns-then-is_against-4 : goal.tests::sought_asked-returns-then-is_against-4
tests::sought_asked-returns-then-is_against-4 t c =
    subst (IsSought (scene_seen c.args.scene.now) c.args.scope.now (test_seen c.args.test.now)) (sym c.same_face-then-is_against-4.ensures) (
    face_turned (scene_seen c.args.scene.now) c.args.scope.now (test_seen c.args.test.now) (card_seen c.in-EqCard.a.value) (card_seen c.in-EqCard.b.value) _
    (ap test_seen c.in-EqCard.is)
    (sym (ap card_seen c.deref-in-EqCard-3.ensures) ∙ c.is_against-in-EqCard-2.ensures.variable c.if-is_against-4.true ∙ ap card_var c.len-in-EqCard-2.ensures)
    (ap₂ (λ k e. reads_card k (card_seen e)) (sym c.len-in-EqCard-2.ensures) (sym c.deref-in-EqCard-4.ensures) ∙ c.is_against-in-EqCard-2.ensures.unread c.if-is_against-4.true)
    (c.card_of-then-is_against-4.ensures ∙ ap₂ (λ v e. card_value (scene_seen c.args.scene.now) v (card_seen e)) c.requires.inside c.deref-then-is_against-4.ensures)
    )

pub tests::over_cards-returns-in-Some : goal.tests::over_cards-returns-in-Some
tests::over_cards-returns-in-Some t c =
    c.over_list.ensures
    ∙ ap (λ x. over false (λ m. test_value (scene_seen c.args.scene.now) (c.args.scope.now ++ m ∷ []) (test_seen x)) (map (λ k. card_bound k) c.in-Some.cards)) c.deref.ensures
    ∙ ap (over false (λ m. test_value (scene_seen c.args.scene.now) (c.args.scope.now ++ m ∷ []) (test_seen c.in-All.inner.value))) c.in-Some.ensures
    ∙ ap (test_value (scene_seen c.args.scene.now) c.args.scope.now) (sym (ap test_seen c.in-All.is))

pub tests::over_cards-returns-in-Some-bare_members : goal.tests::over_cards-returns-in-Some-bare_members
tests::over_cards-returns-in-Some-bare_members t c =
    c.over_list-in-Some-bare_members.ensures
    ∙ ap (λ x. over true (λ m. test_value (scene_seen c.args.scene.now) (c.args.scope.now ++ m ∷ []) (test_seen x)) (map (λ k. card_bound k) c.in-Some-bare_members.cards)) c.deref-in-Some-bare_members.ensures
    ∙ ap (over true (λ m. test_value (scene_seen c.args.scene.now) (c.args.scope.now ++ m ∷ []) (test_seen c.in-Any.inner.value))) c.in-Some-bare_members.ensures
    ∙ ap (test_value (scene_seen c.args.scene.now) c.args.scope.now) (sym (ap test_seen c.in-Any.is))

pub tests::over_built-returns-in-Coll : goal.tests::over_built-returns-in-Coll
tests::over_built-returns-in-Coll t c =
    let b : c.of_cards.result ≡ coll_value (scene_seen c.args.scene.now) c.args.scope.now (coll_seen c.in-Coll.cards) =
    c.of_cards.ensures ∙ ap values_seen c.as_slice.ensures.value ∙ c.coll_of.ensures in
    c.over_list.ensures
    ∙ ap (λ x. over false (λ m. test_value (scene_seen c.args.scene.now) (c.args.scope.now ++ m ∷ []) (test_seen x)) (map (λ k. card_bound k) c.of_cards.result)) c.deref.ensures
    ∙ ap (λ xs. over false (λ m. test_value (scene_seen c.args.scene.now) (c.args.scope.now ++ m ∷ []) (test_seen c.in-All.inner.value)) (map (λ k. card_bound k) xs)) b
    ∙ ap (test_value (scene_seen c.args.scene.now) c.args.scope.now) (sym (ap test_seen c.in-All.is ∙ ap (λ d. all_of (domain_seen d) c.in-All.field-1 (test_seen c.in-All.inner.value)) c.in-Coll.is))

pub tests::over_built-returns-in-Coll-domain : goal.tests::over_built-returns-in-Coll-domain
tests::over_built-returns-in-Coll-domain t c =
    let b : c.of_cards-in-Coll-domain.result ≡ coll_value (scene_seen c.args.scene.now) c.args.scope.now (coll_seen c.in-Coll-domain.cards) =
    c.of_cards-in-Coll-domain.ensures ∙ ap values_seen c.as_slice-in-Coll-domain.ensures.value ∙ c.coll_of-in-Coll-domain.ensures in
    c.over_list-in-Coll-domain.ensures
    ∙ ap (λ x. over true (λ m. test_value (scene_seen c.args.scene.now) (c.args.scope.now ++ m ∷ []) (test_seen x)) (map (λ k. card_bound k) c.of_cards-in-Coll-domain.result)) c.deref-in-Coll-domain.ensures
    ∙ ap (λ xs. over true (λ m. test_value (scene_seen c.args.scene.now) (c.args.scope.now ++ m ∷ []) (test_seen c.in-Any.inner.value)) (map (λ k. card_bound k) xs)) b
    ∙ ap (test_value (scene_seen c.args.scene.now) c.args.scope.now) (sym (ap test_seen c.in-Any.is ∙ ap (λ d. any_of (domain_seen d) c.in-Any.field-1 (test_seen c.in-Any.inner.value)) c.in-Coll-domain.is))
