use Rattle.std.proofs.Common.{◌≤◌, sym, ap, ◌∙◌, arith}
use Rattle.rc_sheet_spec.specs.Sheet.{Sheet}
use Rattle.rc_table.specs.Laid.{Laid, relaid}
use Rattle.rc_exec.specs.Everyone.{change_for}
use Rattle.rc_value.proofs.EffectSteps.{one_player, no_player}
use Rattle.rc_undo.proofs.KeepsLemmas.{keeps_then}
use Rattle.rc_exec.proofs.everyone.change_by_turns.Goals as goal

pub returns-in-Err-clause-keeps : goal.returns-in-Err-clause-keeps
returns-in-Err-clause-keeps c = keeps_then _ _ _ c.loop-player.invariant.0 c.in-Err.ensures.keeps

pub loop-player-preserved : goal.loop-player-preserved
loop-player-preserved c =
    let loop = c.loop-player in
    let sheet = c.args.about.now.sheet in
    let players = ap (λ (s : Sheet). s.players) c.sheet.ensures.same in
    let table = ap (λ (l : Laid). l.table) c.in-Ok.ensures.leads in (
      keeps_then _ _ _ loop.invariant.0 c.in-Ok.ensures.keeps,
      one_player (change_for c.args.each) sheet.players loop.player loop.board.laid.table _ _
          (omega (arith, c.loop-player-test.true, players)) (sym table) loop.invariant.1,
    )

pub returns-clause-leads : goal.returns-clause-leads
returns-clause-leads c =
    let loop = c.loop-player in
    let sheet = c.args.about.now.sheet in
    let players = ap (λ (s : Sheet). s.players) c.sheet.ensures.same in
    let less : sheet.players ≤ loop.player = omega (arith, c.loop-player-test.false, players) in
    let all = sym (no_player (change_for c.args.each) sheet.players loop.player loop.board.laid.table less)
    ∙ loop.invariant.1 in
    ap (λ shape. record { shape = shape; table = loop.board.laid.table }) loop.invariant.0.shape
    ∙ ap (relaid c.args.board.now.laid) all
