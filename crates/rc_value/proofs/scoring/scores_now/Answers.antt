use Rattle.std.proofs.Common.{◌≡◌, ap, sym, ◌∙◌, ◌+◌, ◌≤◌, ◌++◌, ◌∷◌, [], length, map, rules, SFits, w64, arith}
use Rattle.std.proofs.lemmas.Int.{to_z-of_z}
use Rattle.std.proofs.lemmas.Grind.{common_steps}
use Rattle.rc_base.specs.Numbers.{below}
use Rattle.rc_sheet_spec.specs.Sheet.{Sheet}
use Rattle.rc_sheet_spec.specs.WellFormed.{scored}
use Rattle.rc_play_spec.specs.Value.{player_bound}
use Rattle.rc_play_spec.specs.About.{scene_at}
use Rattle.rc_play_spec.specs.Scores.{score_of}
use Rattle.rc_ast.specs.Expressions.{int_seen}
use Rattle.rc_rules.specs.Control.{control_seen}
use Rattle.rc_rules.proofs.PointLemmas.{mapped_push}
use Rattle.rc_value.specs.Depth.{int_depth}
use Rattle.rc_value.specs.Scene.{scene_seen}
use Rattle.rc_value.proofs.ScoreLemmas.{below_count, score_is}
use Rattle.rc_value.proofs.scoring.scores_now.Goals as goal

pub push-requires : goal.push-requires
push-requires c =
    let f = score_of c.args.about.now c.args.table.now.table (control_seen c.args.control.now) in
    let count = ap length c.loop-player.invariant.told ∙ below_count f c.loop-player.player in
    let few = c.sheet-sheet.ensures.well.limits.players in
    let same = ap (λ (s : Sheet). s.players) c.sheet-sheet.ensures.same in
    let lt = c.loop-player-test.true in
    omega (arith, count, few, same, lt)

pub score_in-requires : goal.score_in-requires
score_in-requires c =
    let sheet = c.args.about.now.sheet in
    let scope = c.loop-player.invariant.scope in
    let count : length c.rebind.new.self ≡ 1 = ap length (c.rebind.ensures [] scope.0 scope.1) in
    let few : 0 + int_depth sheet.score ≤ 4 = c.expressions_bind_few.ensures.numbers sheet scored sheet.score (omega arith) c.sheet-sheet.ensures.well.score in
    let same : int_depth (int_seen c.sheet-sheet.result.now.score) ≡ int_depth sheet.score = ap (λ (s : Sheet). int_depth s.score) c.sheet-sheet.ensures.same in
    record { fits = omega (arith, count, few, same) }

pub loop-player-preserved : goal.loop-player-preserved
loop-player-preserved c =
    let about = c.args.about.now in
    let laid = c.args.table.now in
    let control = control_seen c.args.control.now in
    let player = c.loop-player.player in
    let f = score_of about laid.table control in
    let fits : SFits w64 c.score_in.result = search rules in
    let kept = to_z-of_z w64 c.score_in.result fits in
    let scope = c.loop-player.invariant.scope in
    let one = c.rebind.ensures [] scope.0 scope.1 in
    let here : scene_seen c.new-scene.result ≡ scene_at about laid.table control.frames = grind (arith, common_steps) in
    let same = ap (λ (s : Sheet). s.score) c.sheet-sheet.ensures.same in
    let score = c.score_in.ensures
    ∙ score_is about laid.table control player (scene_seen c.new-scene.result) c.rebind.new.self (int_seen c.sheet-sheet.result.now.score) here one same in
    record {
      told =
          c.push.ensures.items ∙ ap (λ s. c.loop-player.scores.items ++ s ∷ []) kept
          ∙ ap (λ xs. xs ++ c.score_in.result ∷ []) c.loop-player.invariant.told
          ∙ ap (λ s. map f (below player) ++ s ∷ []) score
          ∙ sym (mapped_push f player);
      scope = (player_bound player, one);
    }
