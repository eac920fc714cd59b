use Rattle.std.proofs.Common.{◌+◌, option_map, sym, ap, ◌∙◌}
use Rattle.rc_value.specs.Comparing.{held_at}
use Rattle.rc_value.specs.Scene.{scene_seen}
use Rattle.rc_value.proofs.ComparingLemmas.{held_nowhere}
use Rattle.rc_value.proofs.comparing.held_behind.Goals as goal

pub returns-in-None : goal.returns-in-None
returns-in-None c =
    let scene = scene_seen c.args.scene.now in
    sym (held_nowhere scene c.args.own)
    ∙ ap (λ first. held_at scene c.args.own (option_map (λ at. at + c.args.player) first)) (sym c.in-None.is)
