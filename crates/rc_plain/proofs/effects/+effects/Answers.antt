use Rattle.std.proofs.Common.{◌++◌, ◌∷◌, [], rules, arith, refl, sym, ap, ◌∙◌, subst}
use Rattle.std.proofs.lemmas.Grind.{common_steps}
use Rattle.rc_sheet_spec.specs.Sheet.{Sheet}
use Rattle.rc_sheet_spec.specs.WellFormed.{AreEffects}
use Rattle.rc_play_spec.specs.Value.{player_bound}
use Rattle.rc_play_spec.specs.Effects.{does}
use Rattle.rc_ast.specs.declared.effects.Effect.TheFolds
use Rattle.rc_ast.specs.Effects.{effects_seen}
use Rattle.rc_value.specs.Point.{point_of}
use Rattle.rc_value.specs.Under.{IsEffectUnder, AreEffectsUnder}
use Rattle.rc_value.proofs.EffectRows.{is_if, is_repeat, is_each, effect_under}
use Rattle.rc_value.proofs.EffectSteps.{one_player, no_player}
use Rattle.rc_table.specs.Laid.{Laid}
use Rattle.rc_rules.specs.Control.{frames_seen}
use Rattle.rc_exec.specs.Everyone.{AreTurns, change_for}
use Rattle.rc_exec.proofs.EveryoneLemmas.{all_turns}
use Rattle.rc_plain.proofs.EffectSteps.{same_effect}
use Rattle.rc_plain.proofs.effects.+effects.Goals as goal

pub do_effect-returns-in-If-clause-does : goal.do_effect-returns-in-If-clause-does
do_effect-returns-in-If-clause-does g t c =
    same_effect c.args.context.now.about.now (g.D.Dealer.dealing c.args.dealer.now) c.args.context.now.scope.now _ _
    (point_of c.args.board.now.laid c.args.frames.now.items (g.D.Dealer.state c.args.dealer.now)) _
    (is_if c.args.effect.now c.in-If.test c.in-If.effects c.in-If.is) c.do_if.ensures.does

pub do_effect-returns-in-Repeat-clause-does : goal.do_effect-returns-in-Repeat-clause-does
do_effect-returns-in-Repeat-clause-does g t c =
    same_effect c.args.context.now.about.now (g.D.Dealer.dealing c.args.dealer.now) c.args.context.now.scope.now _ _
    (point_of c.args.board.now.laid c.args.frames.now.items (g.D.Dealer.state c.args.dealer.now)) _
    (is_repeat c.args.effect.now c.in-Repeat.count c.in-Repeat.effects c.in-Repeat.is) c.repeat.ensures.does

pub do_effect-returns-in-Each-clause-does : goal.do_effect-returns-in-Each-clause-does
do_effect-returns-in-Each-clause-does g t c =
    same_effect c.args.context.now.about.now (g.D.Dealer.dealing c.args.dealer.now) c.args.context.now.scope.now _ _
    (point_of c.args.board.now.laid c.args.frames.now.items (g.D.Dealer.state c.args.dealer.now)) _
    (is_each c.args.effect.now c.in-Each.domain c.in-Each.bound c.in-Each.effects c.in-Each.is) c.for_each.ensures.does

pub do_effect-do_if-requires : goal.do_effect-do_if-requires
do_effect-do_if-requires g t c κs within =
    let context = c.args.context.now in
    let well =
    subst (IsEffectUnder context.about.now.sheet context.scope.now)
    (is_if c.args.effect.now c.in-If.test c.in-If.effects c.in-If.is) c.requires.well in
    (search (rules, TheFolds.the_lemmas), (within, (c.requires.stands, (c.requires.quiet, well))))

pub do_effect-repeat-requires : goal.do_effect-repeat-requires
do_effect-repeat-requires g t c κs within =
    let context = c.args.context.now in
    let well =
    subst (IsEffectUnder context.about.now.sheet context.scope.now)
    (is_repeat c.args.effect.now c.in-Repeat.count c.in-Repeat.effects c.in-Repeat.is) c.requires.well in
    (search (rules, TheFolds.the_lemmas), (within, (c.requires.stands, (c.requires.quiet, well))))

pub do_effect-for_each-requires : goal.do_effect-for_each-requires
do_effect-for_each-requires g t c κs within =
    let context = c.args.context.now in
    let well =
    subst (IsEffectUnder context.about.now.sheet context.scope.now)
    (is_each c.args.effect.now c.in-Each.domain c.in-Each.bound c.in-Each.effects c.in-Each.is) c.requires.well in
    (search (rules, TheFolds.the_lemmas), (within, (c.requires.stands, (c.requires.quiet, well))))

pub do_all-do_effect-requires : goal.do_all-do_effect-requires
do_all-do_effect-requires g t c κs within =
    let context = c.args.context.now in
    let are = subst (λ es. AreEffectsUnder context.about.now.sheet context.scope.now (effects_seen es))
    (sym c.deref-effect-items.ensures.value) c.requires.well in
    let well =
    effect_under context.about.now.sheet context.scope.now c.deref-effect-items.result.now are
    c.loop-effect.effect-index c.effect-item.result
    c.loop-effect-test.true c.effect-item.is in
    (search (rules, TheFolds.the_lemmas), (within, (c.loop-effect.invariant.0, (c.loop-effect.invariant.3, well))))

pub for_players-change_in-requires-clause-well : goal.for_players-change_in-requires-clause-well
for_players-change_in-requires-clause-well g t c =
    let are = c.requires.well (player_bound 0) in
    let sheet = c.args.context.now.about.now.sheet in
    (are.0, subst (λ es. AreEffects sheet are.0 (effects_seen es)) (sym c.deref.ensures.value) are.3)

pub for_players-returns-in-Some-clause-does : goal.for_players-returns-in-Some-clause-does
for_players-returns-in-Some-clause-does g t c =
    let context = c.args.context.now in
    let dealing = g.D.Dealer.dealing c.args.dealer.now in
    let state = g.D.Dealer.state c.args.dealer.now in
    let frames = c.args.frames.now.items in
    let vars = context.scope.now in
    let turns =
    subst (λ es. AreTurns context.about.now vars (frames_seen frames) (effects_seen es) (change_for c.in-Some.each))
    c.deref.ensures.value c.in-Some.ensures.turns in
    all_turns context.about.now dealing vars (frames_seen frames) (effects_seen c.args.effects.now.items)
    (change_for c.in-Some.each) turns
    (point_of c.args.board.now.laid frames state) refl
    ∙ ap (λ (laid : Laid). point_of laid frames state) (sym c.change_each.ensures.leads)

pub for_players-loop-player-preserved : goal.for_players-loop-player-preserved
for_players-loop-player-preserved g t c =
    let context = c.args.context.now in
    let loop = c.loop-player in
    let effects = effects_seen c.args.effects.now.items in
    let now = point_of loop.board.laid loop.frames.items (g.D.Dealer.state loop.dealer) in
    let players = ap (λ (s : Sheet). s.players) c.sheet.ensures.same in
    let one = ap (λ d. does context.about.now d (context.scope.now ++ player_bound loop.player ∷ []) effects now)
    (sym loop.invariant.1) ∙ c.do_for.ensures.does in (
      c.do_for.ensures.stands,
      c.do_for.ensures.dealing ∙ loop.invariant.1,
      one_player
          (λ mid member. does context.about.now (g.D.Dealer.dealing c.args.dealer.now)
          (context.scope.now ++ member ∷ []) effects mid)
          context.about.now.sheet.players loop.player now _ _
          (omega (arith, c.loop-player-test.true, players)) one loop.invariant.2,
      c.do_for.ensures.scope,
      c.do_for.ensures.quiet,
    )

pub for_players-returns-clause-does : goal.for_players-returns-clause-does
for_players-returns-clause-does g t c =
    let context = c.args.context.now in
    let loop = c.loop-player in
    let players = ap (λ (s : Sheet). s.players) c.sheet.ensures.same in
    sym loop.invariant.2
    ∙ no_player
    (λ mid member. does context.about.now (g.D.Dealer.dealing c.args.dealer.now) (context.scope.now ++ member ∷ [])
    (effects_seen c.args.effects.now.items) mid)
    context.about.now.sheet.players loop.player
    (point_of loop.board.laid loop.frames.items (g.D.Dealer.state loop.dealer))
    (omega (arith, c.loop-player-test.false, players))

pub for_these-loop-card-preserved : goal.for_these-loop-card-preserved
for_these-loop-card-preserved g t c = (
  c.do_for.ensures.stands,
  c.do_for.ensures.dealing ∙ c.loop-card.invariant.1,
  grind (arith, common_steps),
  c.do_for.ensures.scope,
  c.do_for.ensures.quiet,
)
