use Rattle.std.proofs.Common.{Some, sym, ap, ◌∙◌, rules, SFits, w64}
use Rattle.std.proofs.lemmas.Int.{to_z-of_z}
use Rattle.rc_value.specs.Comparing.{held_at}
use Rattle.rc_value.specs.Scene.{scene_seen}
use Rattle.rc_value.proofs.comparing.held_at.Goals as goal

pub returns-in-Number : goal.returns-in-Number
unfolding scene_seen
returns-in-Number c =
    let fits : SFits w64 c.number.result = search rules in
    to_z-of_z w64 c.number.result fits ∙ c.number.ensures.number
    ∙ ap (λ own. held_at (scene_seen c.args.scene.now) own (Some c.args.at)) (sym c.in-Number.is)
