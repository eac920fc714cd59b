use Rattle.std.proofs.Common.{map, ◌+◌, ◌*◌, ◌<◌, ◌++◌, ◌∷◌, [], length, drop, refl, sym, ap, ◌∙◌, subst, arith}
use Rattle.std.specs.Prelude.{fold}
use Rattle.std.proofs.lemmas.Grind.{common_steps}
use Rattle.rc_base.specs.Numbers.{below}
use Rattle.rc_deck.proofs.EachLemmas.{on_ok}
use Rattle.rc_sheet_spec.specs.Sheet.{Sheet}
use Rattle.rc_sheet_spec.specs.WellFormed.{AreEffects}
use Rattle.rc_play_spec.specs.Value.{player_bound, loc_place}
use Rattle.rc_play_spec.specs.About.{scene_at}
use Rattle.rc_play_spec.specs.Effects.{with_table, if_some, does}
use Rattle.rc_ast.specs.Names.{loc_seen}
use Rattle.rc_code.specs.Meaning.{effects_in, first_effects, passed_over}
use Rattle.rc_code.specs.Seen.{instruction_seen, list_seen}
use Rattle.rc_code.specs.Implements.{AreSimple}
use Rattle.rc_code.proofs.MeaningLemmas.{are_first, does_first}
use Rattle.rc_table.specs.Laid.{Laid}
use Rattle.rc_rules.specs.Control.{frames_seen}
use Rattle.rc_value.specs.Point.{point_of}
use Rattle.rc_value.specs.Under.{AreEffectsUnder}
use Rattle.rc_exec.specs.Everyone.{change_for, gather_for}
use Rattle.rc_value.proofs.EffectSteps.{one_player, no_player}
use Rattle.rc_exec.proofs.EffectSteps.{once_more}
use Rattle.rc_exec.proofs.EveryoneLemmas.{gather_each, all_turns}
use Rattle.rc_undo.proofs.KeepsLemmas.{keeps_then}
use Rattle.rc_exec.proofs.ShuffleLemmas.{shuffled_then}
use Rattle.rc_exec.proofs.blocks.+blocks.Goals as goal

pub do_block-do_first-requires : goal.do_block-do_first-requires
do_block-do_first-requires g t c κs within =
    let context = c.args.context.now in
    let loop = c.loop-first in
    let rest = c.in-Some.ensures.cases.0 in
    let are = subst (λ code. AreEffectsUnder context.about.now.sheet context.scope.now (effects_in (list_seen code))) rest loop.invariant.well in
    let simples = subst (λ code. AreSimple (list_seen code)) rest loop.invariant.simple in
    let long = ap length rest in
    let shorter = loop.invariant.shorter in
    let whole = c.decreases in
    let less : 9 * length c.in-Some.behind.now + 8 < t = omega (arith, long, shorter, whole) in (
      less,
      (
        within,
        (
          loop.invariant.stands,
          (
            (are.0, are.1, are.2, (are_first context.about.now.sheet are.0 (instruction_seen c.in-Some.first.now) (list_seen c.in-Some.behind.now) are.3).0),
            (simples.0, simples.1),
          ),
        ),
      ),
    )

pub do_block-loop-first-preserved : goal.do_block-loop-first-preserved
do_block-loop-first-preserved g t c =
    let context = c.args.context.now in
    let about = context.about.now in
    let vars = context.scope.now in
    let loop = c.loop-first in
    let first = instruction_seen c.in-Some.first.now in
    let behind = list_seen c.in-Some.behind.now in
    let rest = c.in-Some.ensures.cases.0 in
    let are = subst (λ code. AreEffectsUnder about.sheet vars (effects_in (list_seen code))) rest loop.invariant.well in
    let dealing = g.D.Dealer.dealing c.args.dealer.now in
    let now = point_of loop.board.laid loop.frames.items (g.D.Dealer.state loop.dealer) in
    let then' = point_of c.do_first.new.board.laid c.do_first.new.frames.items (g.D.Dealer.state c.do_first.new.dealer) in
    let left = c.in-Ok.ensures.left in
    let one = ap (λ d. does about d vars (first_effects first behind) now) (sym loop.invariant.dealing) ∙ c.in-Ok.ensures.does in
    let long = ap length rest in
    let short = c.in-Ok.ensures.shorter in
    let shorter = loop.invariant.shorter in
    record {
      shorter = omega (arith, long, short, shorter);
      stands = c.in-Ok.ensures.stands;
      keeps = keeps_then _ _ _ loop.invariant.keeps c.in-Ok.ensures.keeps;
      dealing = c.in-Ok.ensures.dealing ∙ loop.invariant.dealing;
      shuffled = shuffled_then _ _ _ _ _ loop.invariant.dealing loop.invariant.shuffled c.in-Ok.ensures.shuffled;
      well = (are.0, are.1, are.2, subst (λ code. AreEffects about.sheet are.0 (effects_in code)) (sym left) (are_first about.sheet are.0 first behind are.3).1);
      simple = c.in-Ok.ensures.simple;
      does = ap (λ code. does about dealing vars (effects_in code) then') left
          ∙ ap (λ p. does about dealing vars (effects_in (drop (passed_over first) behind)) p) (sym one)
          ∙ sym (does_first about dealing vars first behind now)
          ∙ ap (λ code. does about dealing vars (effects_in (list_seen code)) now) (sym rest)
          ∙ loop.invariant.does;
    }

pub do_block-returns-in-Err-clause-keeps : goal.do_block-returns-in-Err-clause-keeps
do_block-returns-in-Err-clause-keeps g t c = keeps_then _ _ _ c.loop-first.invariant.keeps c.in-Err.ensures.keeps

pub do_block-returns-in-Err-clause-shuffled : goal.do_block-returns-in-Err-clause-shuffled
do_block-returns-in-Err-clause-shuffled g t c = shuffled_then _ _ _ _ _ c.loop-first.invariant.dealing c.loop-first.invariant.shuffled c.in-Err.ensures.shuffled

pub for_these-returns-in-Err-clause-keeps : goal.for_these-returns-in-Err-clause-keeps
for_these-returns-in-Err-clause-keeps g t c = keeps_then _ _ _ c.loop-card.invariant.2 c.in-Err.ensures.keeps

pub for_these-returns-in-Err-clause-shuffled : goal.for_these-returns-in-Err-clause-shuffled
for_these-returns-in-Err-clause-shuffled g t c = shuffled_then _ _ _ _ _ c.loop-card.invariant.1 c.loop-card.invariant.4 c.in-Err.ensures.shuffled

pub for_these-loop-card-preserved : goal.for_these-loop-card-preserved
for_these-loop-card-preserved g t c = (
  c.in-Ok.ensures.stands,
  c.in-Ok.ensures.dealing ∙ c.loop-card.invariant.1,
  keeps_then _ _ _ c.loop-card.invariant.2 c.in-Ok.ensures.keeps,
  grind (arith, common_steps),
  shuffled_then _ _ _ _ _ c.loop-card.invariant.1 c.loop-card.invariant.4 c.in-Ok.ensures.shuffled,
  c.do_for.ensures.scope,
)

pub do_for_players-returns-in-Err-clause-keeps : goal.do_for_players-returns-in-Err-clause-keeps
do_for_players-returns-in-Err-clause-keeps g t c = keeps_then _ _ _ c.loop-player.invariant.2 c.in-Err.ensures.keeps

pub do_for_players-returns-in-Err-clause-shuffled : goal.do_for_players-returns-in-Err-clause-shuffled
do_for_players-returns-in-Err-clause-shuffled g t c = shuffled_then _ _ _ _ _ c.loop-player.invariant.1 c.loop-player.invariant.4 c.in-Err.ensures.shuffled

pub do_for_players-loop-player-preserved : goal.do_for_players-loop-player-preserved
do_for_players-loop-player-preserved g t c =
    let context = c.args.context.now in
    let loop = c.loop-player in
    let effects = effects_in (list_seen c.args.inside.now) in
    let now = point_of loop.board.laid loop.frames.items (g.D.Dealer.state loop.dealer) in
    let players = ap (λ (s : Sheet). s.players) c.sheet.ensures.same in
    let one = ap (λ d. does context.about.now d (context.scope.now ++ player_bound loop.player ∷ []) effects now) (sym loop.invariant.1) ∙ c.in-Ok.ensures.does in (
      c.in-Ok.ensures.stands,
      c.in-Ok.ensures.dealing ∙ loop.invariant.1,
      keeps_then _ _ _ loop.invariant.2 c.in-Ok.ensures.keeps,
      one_player (λ mid member. does context.about.now (g.D.Dealer.dealing c.args.dealer.now) (context.scope.now ++ member ∷ []) effects mid)
          context.about.now.sheet.players loop.player now _ _ (omega (arith, c.loop-player-test.true, players)) one loop.invariant.3,
      shuffled_then _ _ _ _ _ loop.invariant.1 loop.invariant.4 c.in-Ok.ensures.shuffled,
      c.do_for.ensures.scope,
    )

pub do_for_players-returns-clause-does : goal.do_for_players-returns-clause-does
do_for_players-returns-clause-does g t c =
    let context = c.args.context.now in
    let loop = c.loop-player in
    let players = ap (λ (s : Sheet). s.players) c.sheet.ensures.same in
    sym loop.invariant.3
    ∙ no_player
    (λ mid member. does context.about.now (g.D.Dealer.dealing c.args.dealer.now) (context.scope.now ++ member ∷ []) (effects_in (list_seen c.args.inside.now)) mid)
    context.about.now.sheet.players loop.player (point_of loop.board.laid loop.frames.items (g.D.Dealer.state loop.dealer))
    (omega (arith, c.loop-player-test.false, players))

pub repeat-returns-in-Err-clause-keeps : goal.repeat-returns-in-Err-clause-keeps
repeat-returns-in-Err-clause-keeps g t c = keeps_then _ _ _ c.loop.invariant.2 c.in-Err.ensures.keeps

pub repeat-returns-in-Err-clause-shuffled : goal.repeat-returns-in-Err-clause-shuffled
repeat-returns-in-Err-clause-shuffled g t c = shuffled_then _ _ _ _ _ c.loop.invariant.1 c.loop.invariant.4 c.in-Err.ensures.shuffled

pub repeat-loop-preserved : goal.repeat-loop-preserved
repeat-loop-preserved g t c =
    let context = c.args.context.now in
    let loop = c.loop in
    let effects = effects_in (list_seen c.args.inside.now) in
    let now = point_of loop.board.laid loop.frames.items (g.D.Dealer.state loop.dealer) in
    let one = ap (λ d. does context.about.now d context.scope.now effects now) (sym loop.invariant.1) ∙ c.in-Ok.ensures.does in (
      c.in-Ok.ensures.stands,
      c.in-Ok.ensures.dealing ∙ loop.invariant.1,
      keeps_then _ _ _ loop.invariant.2 c.in-Ok.ensures.keeps,
      once_more (does context.about.now (g.D.Dealer.dealing c.args.dealer.now) context.scope.now effects) c.times_of-times.result loop.counter now _ _
          c.loop-test.true one loop.invariant.3,
      shuffled_then _ _ _ _ _ loop.invariant.1 loop.invariant.4 c.in-Ok.ensures.shuffled,
    )

pub change_for_players-returns-in-Some-clause-does : goal.change_for_players-returns-in-Some-clause-does
change_for_players-returns-in-Some-clause-does g t c =
    let context = c.args.context.now in
    let dealing = g.D.Dealer.dealing c.args.dealer.now in
    let state = g.D.Dealer.state c.args.dealer.now in
    let frames = c.args.frames.now.items in
    let effects = effects_in (list_seen c.args.inside.now) in
    on_ok c.change_all.result c.change_all.ensures.leads (λ leads.
    all_turns context.about.now dealing context.scope.now (frames_seen frames) effects (change_for c.in-Some.each) c.in-Some.ensures.turns
    (point_of c.args.board.now.laid frames state) refl
    ∙ ap (λ (laid : Laid). point_of laid frames state) (sym leads))

pub do_for_players-returns-in-Some-clause-does : goal.do_for_players-returns-in-Some-clause-does
do_for_players-returns-in-Some-clause-does g t c =
    let context = c.args.context.now in
    let about = context.about.now in
    let vars = context.scope.now in
    let dealing = g.D.Dealer.dealing c.args.dealer.now in
    let state = g.D.Dealer.state c.args.dealer.now in
    let frames = c.args.frames.now.items in
    let laid = c.args.board.now.laid in
    let now = point_of laid frames state in
    let effects = effects_in (list_seen c.args.inside.now) in
    let each = c.in-Some.each in
    let are = c.in-Some.ensures in
    let place = loc_place (scene_at about laid.table (frames_seen frames)).known vars (loc_seen each.to.now) in
    on_ok c.gather_all.result c.gather_all.ensures.leads (λ leads.
    gather_each about dealing vars (loc_seen each.from.now) (loc_seen each.to.now) are.member are.apart effects (below about.sheet.players) now are.effect
    ∙ ap (λ shape. with_table now (if_some (λ to table. fold (gather_for about.sheet shape each.from.now.name to) table (map (λ n. player_bound n) (below about.sheet.players)))
    place laid.table)) (sym c.requires.stands.0)
    ∙ ap (λ (laid : Laid). point_of laid frames state) (sym leads))

pub change_for_players-change_for_each-requires-clause-well : goal.change_for_players-change_for_each-requires-clause-well
change_for_players-change_for_each-requires-clause-well g t c = let are = c.requires.well (player_bound 0) in (are.0, are.3)

pub do_for_players-gather_all-requires-clause-cards : goal.do_for_players-gather_all-requires-clause-cards
do_for_players-gather_all-requires-clause-cards g t c =
    let are = c.requires.well (player_bound 0) in
    let one = subst (AreEffects c.args.context.now.about.now.sheet are.0) c.in-Some.ensures.effect are.3 in
    one.0.1.1
