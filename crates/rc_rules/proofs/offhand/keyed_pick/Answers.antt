use Rattle.std.proofs.Common.{ap, ◌∙◌}
use Rattle.rc_play_spec.specs.Draws.{key32, pick_of}
use Rattle.rc_rules.proofs.offhand.keyed_pick.Goals as goal

pub returns-clause-item : goal.returns-clause-item
returns-clause-item c =
    c.pick_by.ensures.value
    ∙ ap (λ key. pick_of key c.args.size) (c.key32-key.ensures ∙ ap (λ n. key32 c.args.key n c.args.seed c.args.turn) c.of.ensures)
