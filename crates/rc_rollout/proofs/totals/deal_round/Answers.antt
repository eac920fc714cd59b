use Rattle.std.proofs.Common.{ap, ◌∙◌}
use Rattle.rc_play_spec.specs.Draws.{key32}
use Rattle.rc_redraw.specs.Redraws.{redealt}
use Rattle.rc_rollout.proofs.totals.deal_round.Goals as goal

pub returns : goal.returns
returns c =
    c.deal.ensures.redealt
    ∙ ap (λ key. redealt key c.args.redraws.now)
    (c.key32-key.ensures ∙ ap (λ n. key32 c.args.ask.now.key n c.args.ask.now.seed c.args.round) c.of.ensures)
