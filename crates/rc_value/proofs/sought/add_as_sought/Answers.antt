use Rattle.std.proofs.Common.{◌++◌, ap, sym, ◌∙◌}
use Rattle.std.specs.List.{filter}
use Rattle.rc_play_spec.specs.Value.{cut}
use Rattle.rc_value.specs.Cards.{values_seen}
use Rattle.rc_value.specs.Scene.{scene_seen}
use Rattle.rc_value.specs.Sought.{sought_value}
use Rattle.rc_value.proofs.sought.add_as_sought.Goals as goal

pub returns-in-Worth-clause-cards : goal.returns-in-Worth-clause-cards
returns-in-Worth-clause-cards c =
    c.add_each-in-Worth.ensures.cards
    ∙ ap (λ sought. cut (values_seen c.args.out.now.items
    ++ filter (sought_value (scene_seen c.args.scene.now) sought) c.args.cards.now)) (sym c.in-Worth.is)
